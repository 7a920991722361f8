use Rattle.std.proofs.Common.{◌≡◌, ◌++◌, List, map, length}
use Rattle.std.specs.Vec.Iter.{into_iter_items, into_iter_len}
use Rattle.run_yard.specs.Yard.{came_of, CameBack, KeepsDisks}
use Rattle.run_yard.proofs.keeping.keep_disks.Given as goal

abbrev pub invariant-loop-disk : goal.invariant-loop-disk
invariant-loop-disk g l = record {
  done : List g.row.Y-D.Denot;
  over : done ++ into_iter_items l.disk-iterator ≡ l.fn.disks.items;
  many : into_iter_len l.disk-iterator ≡ length (into_iter_items l.disk-iterator);
  at : l.broker ≡ length done;
  control : CameBack (map (came_of g.Y.D.Disk.control) done) (g.Y.Yard.control l.fn.yard) (g.Y.Yard.control l.yard);
  unread : (g.Y.Yard.control l.yard).registries ≡ (g.Y.Yard.control l.fn.yard).registries;
  held : KeepsDisks l.fn.partition done (g.Y.Yard.held l.fn.yard) (g.Y.Yard.held l.yard);
}
