use Rattle.std.proofs.Common.{◌++◌, ◌∷◌, ℕ, List, [], sym, subst}
use Rattle.log_steps.specs.Opens.{Opens}
use Rattle.local_log.specs.Stored.{all_batches, end_of}
use Rattle.local_log.proofs.Lines.{cut_within}
use Rattle.local_log.proofs.log.LocalLog.open_at.Goals as goal

pub returns-in-Ok-clause-durable : goal.returns-in-Ok-clause-durable
returns-in-Ok-clause-durable g c =
    let parts = c.in-Ok.parts in
    let o = c.in-Ok.ensures.opened in
    let batches = all_batches (g.D.Disk.content c.open_log.new.disk).files (parts.closed.items ++ parts.active ∷ []) in
    λ f now.
    subst
    (λ (l : List (ℕ × ℕ)). Opens f (record { incarnation = parts.incarnation; local_start = parts.local_start; batches = batches; line = l }))
    (sym (cut_within parts.line (end_of parts.active) o.line_within)) (o.durable f now)
