-- The indexes of a copy, read beside the batches of its log.
use Rattle.std.specs.Prelude.{◌≡◌, ◌≢◌, ℕ, ◌%◌, List, ◌∷◌, ◌++◌, length, Option, Some, None}
use Rattle.segment_file.specs.declared.placed.Placed.{Placed}
use Rattle.segment_file.specs.Segment.{IsSegment}
use Rattle.segment_file.specs.Index.{placed_from}
use Rattle.sparse_index.specs.Entries.{last_of}
use Rattle.tier_audit.specs.Flaws.{IsEntryPlace}

-- the batches of a segment, as they are in it
pub record ArePlaced (base : ℕ) (found : List Placed) : Type 0 where
  pub batches : List (List ℕ)
  pub is : IsSegment base batches
  pub found_are : found ≡ placed_from 0 batches

-- what is found of entries of one width: that they are right, or the place that is reported
abbrev pub ReadsEntries : {X : Type 0} → ℕ → (List X → List ℕ) → (List X → Type 0) → List ℕ → Option ℕ → Type 0
ReadsEntries {X} width spelled Are bytes None = (entries : List X) × Are entries × (bytes ≡ spelled entries)
ReadsEntries {X} width spelled Are bytes (Some at) =
    ((entries : List X) → Are entries → bytes ≢ spelled entries) × IsEntryPlace width spelled Are bytes at

-- an item is in a list in front of these
pub record IsBehind {X : Type 0} (item : X) (items left : List X) : Type 0 where
  pub front : List X
  pub parts : items ≡ front ++ item ∷ left

-- these are left of a list, after the last of the entries so far
pub record IsLeftOf {X : Type 0} (items left before : List X) : Type 0 where
  pub passed : List X
  pub parts : items ≡ passed ++ left
  pub last : last_of before ≡ last_of passed

-- the entries so far, at the front of the bytes
pub record ArePartlyRead {X : Type 0} (width : ℕ) (spelled : List X → List ℕ) (Are : List X → Type 0) (items : List X)
    (bytes rest : List ℕ) (left : List X) : Type 0 where
  pub before : List X
  pub parts : bytes ≡ spelled before ++ rest
  pub are : Are before
  pub left_is : IsLeftOf items left before
  pub even : length rest % width ≡ 0
