use Rattle.std.proofs.Common.{length, ◌-◌, ◌≡◌, drop}
use Rattle.tier_base.specs.Nexts.{coming}
use Rattle.tier_base.proofs.nexts.skip.Given as goal

-- what is passed over is none of the calls still to come
abbrev pub invariant-loop-at : goal.invariant-loop-at
invariant-loop-at g l =
    coming g.K.CallKind.code l.fn.kind l.fn.made (drop l.at l.plan) ≡ coming g.K.CallKind.code l.fn.kind l.fn.made (drop l.fn.from l.plan)

abbrev pub decreases-loop-at : goal.decreases-loop-at
decreases-loop-at g l = length l.plan - l.at
