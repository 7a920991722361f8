-- The first of some names, with more of them looked at.
use Rattle.std.specs.Prelude.{◌≡◌, ◌⊎◌, ◌↔◌, List, [], ◌∷◌, ℕ, ◌++◌, codes, decimal, Option, Some}
use Rattle.tier_base.specs.declared.names.PartitionId.{PartitionId}
use Rattle.tier_base.specs.Told.{In}
use Rattle.device_yard.specs.YardContent.{IsFirstName}

-- the name of a partition
abbrev pub name_of : PartitionId → List ℕ
name_of p = codes "p" ++ decimal p.0

-- the list has the partitions of another one that aren't in a third one
abbrev pub AreWithout : List PartitionId → List PartitionId → List PartitionId → Type 0
AreWithout partitions others list = (p : PartitionId) → In p list ↔ (In p partitions × (In p others → ⊥))

-- the partition is after the row now, unless it is in the others
abbrev pub PushesUnless : List PartitionId → PartitionId → List PartitionId → List PartitionId → Type 0
PushesUnless others p old new = (In p others × (new ≡ old)) ⊎ ((In p others → ⊥) × (new ≡ old ++ p ∷ []))

-- the name of one of these partitions
abbrev pub IsNameIn : List PartitionId → List ℕ → Type 0
IsNameIn partitions text = (p : PartitionId) × In p partitions × (text ≡ name_of p)

-- the first of these names and of the one that was first before
abbrev pub IsFirstWith : (List ℕ → Type 0) → Option (List ℕ) → Option (List ℕ) → Type 0
IsFirstWith Named before first = IsFirstName (λ text. (before ≡ Some text) ⊎ Named text) first
