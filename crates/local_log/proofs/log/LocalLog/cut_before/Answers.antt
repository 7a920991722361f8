use Rattle.std.proofs.Common.{◌≤◌, ℕ, List, sym, subst}
use Rattle.log_steps.specs.Fronts.{Each}
use Rattle.local_log.proofs.Lines.{below_cut}
use Rattle.local_log.proofs.log.LocalLog.cut_before.Goals as goal

pub restart_at-requires-clause-within : goal.restart_at-requires-clause-within
restart_at-requires-clause-within g c =
    subst (λ (line : List (ℕ × ℕ)). Each (λ (entry : ℕ × ℕ). entry.1 ≤ c.args.end) line) (sym c.cut_end.ensures) (below_cut c.in_ok-line.line c.args.end)
