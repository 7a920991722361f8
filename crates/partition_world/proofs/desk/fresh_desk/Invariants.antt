use Rattle.std.proofs.Common.{◌≡◌}
use Rattle.std.specs.Prelude.{replicate}
use Rattle.partition_world.specs.Fresh.{fresh_actor_state}
use Rattle.partition_world.proofs.desk.fresh_desk.Given as goal

abbrev pub invariant-loop-i : goal.invariant-loop-i
invariant-loop-i l = l.desk ≡ replicate l._i fresh_actor_state
