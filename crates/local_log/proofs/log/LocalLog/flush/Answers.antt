use Rattle.std.proofs.Common.{◌≡◌, ◌∙◌, ◌≤◌, ℕ, List, false, sym, ap, subst, inl}
use Rattle.disk_model.specs.Content.{Lawful}
use Rattle.epoch_line.specs.Line.{IsLine}
use Rattle.log_steps.specs.Fronts.{Each}
use Rattle.log_steps.proofs.Moments.{leaves_weaker}
use Rattle.local_log.specs.Log.{Log}
use Rattle.local_log.specs.Stored.{end_of}
use Rattle.local_log.proofs.Having.{start_since}
use Rattle.local_log.proofs.Retold.{start_or}
use Rattle.local_log.proofs.Sides.{start_either}
use Rattle.local_log.proofs.log.LocalLog.flush.Goals as goal

pub returns-in_err-line-clause-any_moment : goal.returns-in_err-line-clause-any_moment
returns-in_err-line-clause-any_moment g c =
    let s = c.self.inside in
    let d = g.D.Disk.content s.disk in
    let laws : Lawful d = g.met.D.Disk.lawful s.disk in
    let unbroken : s.broken ≡ false = ap (λ (l : Log g.row.D.Denot). l.broken) c.self.view_is ∙ c.requires in
    rw (← c.self.view_is) (leaves_weaker d d _ _ (λ f h. inl h) (start_since d laws s.incarnation s.local_start s.closed.items s.active s.line s.flushed_end (c.self.invariant.has unbroken)))

pub returns-in_err-line-clause-opens : goal.returns-in_err-line-clause-opens
returns-in_err-line-clause-opens g c =
    let s = c.self.inside in
    let d = g.D.Disk.content s.disk in
    rw (← c.self.view_is) (start_or d _)

pub commit-requires-clause-line : goal.commit-requires-clause-line
commit-requires-clause-line g c = subst IsLine (sym c.in_ok-line.ensures) c.self.invariant.line

pub commit-requires-clause-within : goal.commit-requires-clause-within
commit-requires-clause-within g c =
    let s = c.self.inside in
    let end_is : end_of s.active ≡ c.args.self.now.end = ap (λ (l : Log g.row.D.Denot). l.end) c.self.view_is in
    subst (λ (n : ℕ). Each (λ (e : ℕ × ℕ). e.1 ≤ n) c.in_ok-line.line) end_is
    (subst (λ (l : List (ℕ × ℕ)). Each (λ (e : ℕ × ℕ). e.1 ≤ end_of s.active) l) (sym c.in_ok-line.ensures) c.self.invariant.line_within)

pub returns-in_err-line-clause-either : goal.returns-in_err-line-clause-either
returns-in_err-line-clause-either g c = rw (← c.self.view_is) (start_either (g.D.Disk.content c.self.inside.disk))
