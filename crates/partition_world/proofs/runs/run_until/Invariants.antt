use Rattle.partition_world.proofs.Advancing.{turns_left}
use Rattle.partition_world.specs.Later.{IsLater}
use Rattle.partition_world.proofs.Chains.{LeadsOn}
use Rattle.partition_world.proofs.runs.run_until.Given as goal

abbrev pub invariant-loop-alloc : goal.invariant-loop-alloc
invariant-loop-alloc g l = record {
  later : IsLater g.D.Disk g.S.Store g.M.MetaLog l.initial.world l.world;
  leads : LeadsOn g.D.Disk g.S.Store g.M.MetaLog l.initial.world l.actor.0 l.number l.world;
}

abbrev pub decreases-loop-alloc : goal.decreases-loop-alloc
decreases-loop-alloc g l = turns_left l.world.lists l.world.desk
