use Rattle.std.proofs.Common.{◌≡◌, false}
use Rattle.tier_base.specs.Device.{Lasts}
use Rattle.partition_world.specs.Later.{IsLater}
use Rattle.partition_world.proofs.Chains.{AddsTimes}
use Rattle.cold_start.specs.Moments.{RunsThrough}
use Rattle.cold_start.proofs.running.run_times.Given as goal

abbrev pub invariant-loop-i : goal.invariant-loop-i
invariant-loop-i g l = record {
  later : IsLater g.D.Disk g.S.Store g.M.MetaLog l.initial.cold.world l.cold.world;
  adds : AddsTimes g.D.Disk g.S.Store g.M.MetaLog l.initial.cold.world l.actor.0 l._i l.cold.world;
  going : l.cold.ended ≡ false;
  control : Lasts (g.D.Disk.control l.initial.cold.reg) (g.D.Disk.control l.cold.reg);
  is_observable : (g.D.Disk.content l.cold.reg).is_observable ≡ (g.D.Disk.content l.initial.cold.reg).is_observable;
  through : RunsThrough g.D.Disk g.S.Store g.M.MetaLog l.initial.cold l.cold;
}
