use Rattle.std.proofs.Common.{take}
use Rattle.partition_world.specs.Later.{IsLater}
use Rattle.partition_world.proofs.Chains.{LeadsTo}
use Rattle.partition_world.proofs.runs.run_in_order.Given as goal

abbrev pub invariant-loop-pace : goal.invariant-loop-pace
invariant-loop-pace g l = record {
  later : IsLater g.D.Disk g.S.Store g.M.MetaLog l.initial.world l.world;
  leads : LeadsTo g.D.Disk g.S.Store g.M.MetaLog l.initial.world (take l.pace-index l.schedule) l.world;
}
