use Rattle.std.proofs.Common.{◌≡◌, take}
use Rattle.tier_base.specs.Device.{Lasts}
use Rattle.disk_model.specs.Content.{Keeps}
use Rattle.local_log.specs.Stored.{chain_end}
use Rattle.local_log.specs.Planning.{AreSegmentsRead, LastRead}
use Rattle.local_log.proofs.opening.read_segments.Given as goal

abbrev pub invariant-loop-extent : goal.invariant-loop-extent
invariant-loop-extent g l =
    let content = g.D.Disk.content in
    record {
      keeps : Keeps (content l.fn.disk) (content l.disk);
      read : AreSegmentsRead (content l.fn.disk) l.manifest.line l.interval l.manifest.local_start (take l.extent-index l.extents) l.segments.items;
      end_is : l.end ≡ chain_end l.manifest.local_start l.segments.items;
      last : LastRead l.manifest.line l.manifest.local_start (take l.extent-index l.extents) l.end (g.D.Disk.control l.disk).last_read;
      control : Lasts (g.D.Disk.control l.fn.disk) (g.D.Disk.control l.disk);
      quiet : (g.D.Disk.control l.disk).faults ≡ (g.D.Disk.control l.fn.disk).faults;
    }
