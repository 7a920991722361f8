use Rattle.std.proofs.Common.{◌≡◌, take}
use Rattle.std.specs.Prelude.{IsTrue}
use Rattle.tier_base.specs.Device.{Lasts}
use Rattle.cold_start.proofs.Clearing.{GoneTo}
use Rattle.cold_start.proofs.opening.clear.Given as goal

abbrev pub invariant-loop-name : goal.invariant-loop-name
invariant-loop-name g l = record {
  lasts : Lasts (g.D.Disk.control l.initial.disk) (g.D.Disk.control l.disk);
  is_observable : (g.D.Disk.content l.disk).is_observable ≡ (g.D.Disk.content l.initial.disk).is_observable;
  gone : IsTrue (g.D.Disk.content l.initial.disk).is_observable → GoneTo (take l.name-index l.name-items) (g.D.Disk.content l.initial.disk).files (g.D.Disk.content l.disk).files;
}
