use Rattle.std.proofs.Common.{◌≡◌, ◌≤◌, ◌+◌, take}
use Rattle.tier_base.specs.Device.{Lasts}
use Rattle.log_steps.specs.Rewrites.{Removes}
use Rattle.log_steps.proofs.rewriting.remove_others.Given as goal

abbrev pub invariant-loop-name : goal.invariant-loop-name
invariant-loop-name g l =
    let content = g.D.Disk.content in
    record {
      content : Removes l.extents (take l.name-index l.names) (content l.fn.disk) (content l.disk);
      room : g.D.Disk.spare l.fn.disk ≤ g.D.Disk.spare l.disk + l.name-index;
      control : Lasts (g.D.Disk.control l.fn.disk) (g.D.Disk.control l.disk);
      quiet : (g.D.Disk.control l.disk).faults ≡ (g.D.Disk.control l.fn.disk).faults;
    }
