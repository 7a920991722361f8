use Rattle.std.proofs.Common.{◌≡◌, false}
use Rattle.tier_base.specs.Device.{Lasts}
use Rattle.partition_world.specs.Later.{IsLater}
use Rattle.partition_world.proofs.Advancing.{turns_left}
use Rattle.partition_world.proofs.Chains.{LeadsOn}
use Rattle.cold_start.specs.Moments.{RunsThrough}
use Rattle.cold_start.proofs.running.run_until.Given as goal

abbrev pub invariant-loop-alloc : goal.invariant-loop-alloc
invariant-loop-alloc g l = record {
  later : IsLater g.D.Disk g.S.Store g.M.MetaLog l.initial.cold.world l.cold.world;
  leads : LeadsOn g.D.Disk g.S.Store g.M.MetaLog l.initial.cold.world l.actor.0 l.number l.cold.world;
  going : l.cold.ended ≡ false;
  control : Lasts (g.D.Disk.control l.initial.cold.reg) (g.D.Disk.control l.cold.reg);
  is_observable : (g.D.Disk.content l.cold.reg).is_observable ≡ (g.D.Disk.content l.initial.cold.reg).is_observable;
  through : RunsThrough g.D.Disk g.S.Store g.M.MetaLog l.initial.cold l.cold;
}

abbrev pub decreases-loop-alloc : goal.decreases-loop-alloc
decreases-loop-alloc g l = turns_left l.cold.world.lists l.cold.world.desk
