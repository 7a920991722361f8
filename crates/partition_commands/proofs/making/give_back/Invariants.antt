use Rattle.std.proofs.Common.{◌≡◌, ◌≤◌, ◌+◌, ◌++◌, List, length, vec_len, vec_capacity}
use Rattle.std.specs.Vec.Iter.{into_iter_items, into_iter_len}
use Rattle.partition_commands.specs.declared.partition_state.Node.{Node}
use Rattle.partition_commands.specs.Fresh.{AreDisksOf}
use Rattle.partition_commands.proofs.making.give_back.Given as goal

abbrev pub invariant-loop-node : goal.invariant-loop-node
invariant-loop-node g l = record {
  over : (done : List (Node g.row.D.Denot)) × (done ++ into_iter_items l.node-iterator ≡ l.fn.nodes.items) × AreDisksOf done l.disks.items;
  many : into_iter_len l.node-iterator ≡ length (into_iter_items l.node-iterator);
  room : vec_len l.disks + length (into_iter_items l.node-iterator) ≤ vec_capacity l.disks;
  same : vec_capacity l.disks ≡ vec_capacity l.fn.disks;
}
