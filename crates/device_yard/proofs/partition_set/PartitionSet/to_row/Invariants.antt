use Rattle.std.proofs.Common.{◌≡◌, ◌++◌}
use Rattle.device_yard.proofs.partition_set.PartitionSet.to_row.Given as goal

-- the partitions so far and those that are left
abbrev pub invariant-loop-partition : goal.invariant-loop-partition
invariant-loop-partition l = l.row ++ l.partition-iterator ≡ l.self
