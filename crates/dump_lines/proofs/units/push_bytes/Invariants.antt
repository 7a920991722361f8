use Rattle.std.proofs.Common.{ℕ, ◌<◌, ◌≤◌, ◌-◌}
use Rattle.dump_lines.proofs.units.push_bytes.Given as goal

pub record Units (unit part : ℕ) : Type 0 where
  pub within : unit ≤ 5
  pub below : part < 1024

abbrev pub invariant-loop-whole : goal.invariant-loop-whole
invariant-loop-whole l = Units l.unit l.part

abbrev pub decreases-loop-whole : goal.decreases-loop-whole
decreases-loop-whole l = 5 - l.unit
