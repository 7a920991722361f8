-- When places are one.
use Rattle.std.specs.Prelude.{Bool, ◌&&◌, ◌==◌}
use Rattle.tier_base.specs.declared.names.PartitionId.{PartitionId}
use Rattle.memory_yard.specs.declared.place.DiskPlace.{DiskPlace}

abbrev pub same_partition : PartitionId → PartitionId → Bool
same_partition a b = a.0 == b.0

-- of one partition and one broker
abbrev pub same_disk : DiskPlace → DiskPlace → Bool
same_disk a b = (a.partition.0 == b.partition.0) && (a.broker.0 == b.broker.0)
