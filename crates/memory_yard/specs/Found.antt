-- The partitions that were found, with more of them looked for.
use Rattle.std.specs.Prelude.{◌⊎◌, ◌↔◌, List}
use Rattle.tier_base.specs.declared.names.PartitionId.{PartitionId}
use Rattle.tier_base.specs.Told.{In}

-- those of before, those that P holds of, and no others
abbrev pub Adds : (PartitionId → Type 0) → List PartitionId → List PartitionId → Type 0
Adds P before after = (p : PartitionId) → In p after ↔ (In p before ⊎ P p)
