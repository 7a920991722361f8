use Rattle.std.proofs.Common.{◌≡◌, ◌+◌, ◌≤◌, length, drop}
use Rattle.tier_base.specs.Device.{Lasts, Went}
use Rattle.local_log.specs.Cutting.{names_of, RemovesAll}
use Rattle.local_log.proofs.trimming.remove_all.Given as goal

abbrev pub invariant-loop-left : goal.invariant-loop-left
invariant-loop-left g l = record {
  content : RemovesAll (names_of (drop l.left l.segments)) Went (g.D.Disk.content l.fn.disk) (g.D.Disk.content l.disk);
  room : g.D.Disk.spare l.disk + length l.segments ≡ g.D.Disk.spare l.fn.disk + l.left;
  inside : l.left ≤ length l.segments;
  control : Lasts (g.D.Disk.control l.fn.disk) (g.D.Disk.control l.disk);
  quiet : (g.D.Disk.control l.disk).faults ≡ (g.D.Disk.control l.fn.disk).faults;
}

abbrev pub decreases-loop-left : goal.decreases-loop-left
decreases-loop-left g l = l.left
