use Rattle.std.proofs.Common.{◌≡◌, ◌+◌, drop, []}
use Rattle.laws_partition.specs.Sound.{turns_left}
use Rattle.partition_world.proofs.desk.count_entries.Given as goal

abbrev pub invariant-loop-list : goal.invariant-loop-list
invariant-loop-list l = l.count + turns_left (drop l.list-index l.lists) [] ≡ turns_left l.lists []
