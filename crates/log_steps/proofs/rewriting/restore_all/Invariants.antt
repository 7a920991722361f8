use Rattle.std.proofs.Common.{◌≡◌, ◌+◌, ◌*◌, take, drop}
use Rattle.tier_base.specs.Device.{Lasts}
use Rattle.log_steps.specs.Rewrites.{RestoresAll}
use Rattle.log_steps.proofs.rewriting.restore_all.Given as goal

abbrev pub invariant-loop-extent : goal.invariant-loop-extent
invariant-loop-extent g l =
    let content = g.D.Disk.content in
    record {
      content : RestoresAll l.extents (take l.extent-index l.extents) (drop l.extent-index l.extents) (content l.fn.disk) (content l.disk);
      room : g.D.Disk.spare l.disk + 2 * l.extent-index ≡ g.D.Disk.spare l.fn.disk;
      control : Lasts (g.D.Disk.control l.fn.disk) (g.D.Disk.control l.disk);
      quiet : (g.D.Disk.control l.disk).faults ≡ (g.D.Disk.control l.fn.disk).faults;
    }
