-- Devices on a shelf by their places.
use Rattle.std.specs.Prelude.{◌≡◌, ◌≢◌, ℕ, ◌<◌, length, Bool, true, false, if◌then◌else◌, List}
use Rattle.std.specs.Prelude.{[], ◌∷◌, slice_get, Option, Some, None, IsSomeAnd}
use Rattle.tier_base.specs.declared.names.PartitionId.{PartitionId}
use Rattle.device_yard.specs.YardContent.{IsThereWith, Both}
use Rattle.memory_yard.specs.declared.slot.Slot.{Slot}

-- the slots, and for how many further devices there is room
pub record Shelved (K T : Type 0) : Type 0 where
  pub slots : List (Slot K T)
  pub room : ℕ

module _ {K T : Type 0} (same : K → K → Bool) where
  -- the device at a place
  abbrev pub at : K → List (Slot K T) → Option T
  at place [] = None
  at place (s ∷ slots) = if same s.place place then s.device else at place slots

  -- what is held at one place now, and the other places hold what they held
  pub record LeavesPlace (place : K) (now : Option T) (old new : List (Slot K T)) : Type 0 where
    pub there : at place new ≡ now
    pub others : (q : K) → q ≢ place → at q new ≡ at q old

  -- no two slots are of one place
  abbrev pub AreSlotsDistinct : List (Slot K T) → Type 0
  AreSlotsDistinct slots = (i j : ℕ) (a b : Slot K T) → slice_get slots i ≡ Some a → slice_get slots j ≡ Some b
      → same a.place b.place ≡ true → i ≡ j

  -- none of the first n slots is of the place
  abbrev pub IsAbsentBelow : ℕ → K → List (Slot K T) → Type 0
  IsAbsentBelow n place slots = (i : ℕ) (s : Slot K T) → i < n → slice_get slots i ≡ Some s → same s.place place ≡ false

  -- where the place has its slot, if it has one
  abbrev pub IsSlotOf : K → List (Slot K T) → Option ℕ → Type 0
  IsSlotOf place slots None = (n : ℕ) → IsAbsentBelow n place slots
  IsSlotOf place slots (Some i) =
      (i < length slots) × ((s : Slot K T) → slice_get slots i ≡ Some s → same s.place place ≡ true)

-- a slot with the device that it had, whose content is the same
pub record SlotKeeps {K T : Type 0} (keeps : T → T → Type 0) (old new : Slot K T) : Type 0 where
  pub place : new.place ≡ old.place
  pub device : Both keeps old.device new.device

module _ {K T : Type 0} (keeps : T → T → Type 0) where
  -- each slot is one of those, in their order
  abbrev pub AreStill : List (Slot K T) → List (Slot K T) → Type 0
  AreStill old new = (i : ℕ) → Both (SlotKeeps keeps) (slice_get old i) (slice_get new i)

module _ {K T : Type 0} (partition_of : K → PartitionId) (used : T → Type 0) where
  -- the partition of a slot, where its device has something
  abbrev pub IsPartitionOf : Slot K T → PartitionId → Type 0
  IsPartitionOf s p = IsThereWith used s.device × (p ≡ partition_of s.place)

  -- that of one of the first n slots
  abbrev pub IsPartitionBelow : ℕ → List (Slot K T) → PartitionId → Type 0
  IsPartitionBelow n slots p = (i : ℕ) × (i < n) × IsSomeAnd (slice_get slots i) (λ s. IsPartitionOf s p)

  -- a partition that has something on the shelf
  abbrev pub IsPartitionOn : (K → K → Bool) → List (Slot K T) → PartitionId → Type 0
  IsPartitionOn same slots p = (place : K) × IsThereWith used (at same place slots) × (p ≡ partition_of place)
