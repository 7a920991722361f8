use Rattle.std.proofs.Common.{◌≡◌}
use Rattle.std.specs.Prelude.{replicate}
use Rattle.partition_world.specs.Fresh.{fresh_broker_tier}
use Rattle.partition_world.proofs.world.fresh_broker_tiers.Given as goal

abbrev pub invariant-loop-i : goal.invariant-loop-i
invariant-loop-i l = l.broker_tiers ≡ replicate l._i fresh_broker_tier
