use Rattle.partition_world.proofs.Advancing.{turns_left}
use Rattle.partition_world.specs.Later.{IsLater}
use Rattle.run_threaded.specs.Traced.{IsSamePart}
use Rattle.run_threaded.proofs.traced.Traced.run_actor.Given as goal

abbrev pub invariant-loop : goal.invariant-loop
invariant-loop g l = record {
  same : IsSamePart l.initial.self l.self;
  later : IsLater g.D.Disk g.S.Store g.M.MetaLog l.initial.self.world l.self.world;
}

abbrev pub decreases-loop : goal.decreases-loop
decreases-loop g l = turns_left l.self.world.lists l.self.world.desk
