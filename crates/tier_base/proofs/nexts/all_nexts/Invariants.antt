use Rattle.std.proofs.Common.{ℕ, None}
use Rattle.std.proofs.Math.ListN.{get_or}
use Rattle.tier_base.specs.Nexts.{IsNextFault}
use Rattle.tier_base.proofs.nexts.all_nexts.Given as goal

abbrev pub invariant-loop-kind : goal.invariant-loop-kind
invariant-loop-kind g l = (kind : ℕ) → IsNextFault g.K.CallKind.code kind 0 l.fn.plan (get_or l.nexts kind None)
