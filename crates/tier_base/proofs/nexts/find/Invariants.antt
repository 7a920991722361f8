use Rattle.std.proofs.Common.{◌≡◌, drop}
use Rattle.tier_base.specs.Device.{planned}
use Rattle.tier_base.proofs.nexts.find.Given as goal

-- what the plan says is said by what is left of it
abbrev pub invariant-loop-item : goal.invariant-loop-item
invariant-loop-item g l = planned g.K.CallKind.code l.fn.call l.number (drop l.item-index l.plan) ≡ planned g.K.CallKind.code l.fn.call l.number l.plan
