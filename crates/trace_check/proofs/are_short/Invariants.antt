use Rattle.std.proofs.Common.{◌≤◌, length}
use Rattle.std.specs.List.{AllWithin}
use Rattle.trace_check.specs.declared.pair.Pair.{Pair}
use Rattle.trace_check.proofs.are_short.Given as goal

abbrev pub invariant-loop-pair : goal.invariant-loop-pair
invariant-loop-pair l = AllWithin (λ (pair : Pair). length pair.script ≤ 16777216) l.pairs 0 l.pair-index
