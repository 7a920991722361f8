use Rattle.std.proofs.Common.{◌≡◌, drop}
use Rattle.tier_base.specs.Nexts.{rises_from}
use Rattle.tier_base.proofs.nexts.rises.Given as goal

-- the rest rises from the last number on as the plan does
abbrev pub invariant-loop-item : goal.invariant-loop-item
invariant-loop-item g l = rises_from g.K.CallKind.code l.fn.kind l.low (drop l.item-index l.plan) ≡ rises_from g.K.CallKind.code l.fn.kind 0 l.plan
