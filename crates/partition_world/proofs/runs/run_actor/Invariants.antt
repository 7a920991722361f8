use Rattle.partition_world.proofs.Advancing.{turns_left}
use Rattle.partition_world.specs.Later.{IsLater}
use Rattle.partition_world.proofs.runs.run_actor.Given as goal

abbrev pub invariant-loop : goal.invariant-loop
invariant-loop g l = IsLater g.D.Disk g.S.Store g.M.MetaLog l.initial.world l.world

abbrev pub decreases-loop : goal.decreases-loop
decreases-loop g l = turns_left l.world.lists l.world.desk
