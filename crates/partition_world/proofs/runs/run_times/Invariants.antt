use Rattle.partition_world.specs.Later.{IsLater}
use Rattle.partition_world.proofs.Chains.{AddsTimes}
use Rattle.partition_world.proofs.runs.run_times.Given as goal

abbrev pub invariant-loop-i : goal.invariant-loop-i
invariant-loop-i g l = record {
  later : IsLater g.D.Disk g.S.Store g.M.MetaLog l.initial.world l.world;
  adds : AddsTimes g.D.Disk g.S.Store g.M.MetaLog l.initial.world l.actor.0 l._i l.world;
}
