use Rattle.std.proofs.Common.{drop}
use Rattle.tier_base.specs.Faults.{NumbersFit}
use Rattle.tier_base.proofs.nexts.fit.Given as goal

-- where the rest fits, all does
abbrev pub invariant-loop-item : goal.invariant-loop-item
invariant-loop-item g l = NumbersFit (drop l.item-index l.plan) → NumbersFit l.plan
