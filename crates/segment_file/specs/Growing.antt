-- A log segment that grows: its batches as its index sees them.
use Rattle.std.specs.Prelude.{◌≡◌, ℕ, ◌+◌, ◌^◌, ◌<◌, ◌≤◌, nat_lt, if◌then◌else◌, ℤ, negsuc, List, [], ◌∷◌, ◌++◌, length}
use Rattle.std.specs.Int.{w32, w64, cast_unsigned, int_max}
use Rattle.log_terms.specs.Log.{joined, end_from}
use Rattle.record_batch.specs.declared.head.Head.{Head}
use Rattle.sparse_index.specs.Offsets.{OffsetTable}
use Rattle.segment_file.specs.declared.placed.Placed.{Placed}
use Rattle.segment_file.specs.Walk.{size_in}
use Rattle.segment_file.specs.Index.{placed_from, index_of}

-- a growing segment: its base offset, the interval of its index, and its batches
pub record Grown : Type 0 where
  pub base : ℕ
  pub interval : ℕ
  pub batches : List Placed

-- the segment with a batch more
abbrev pub with_batch : Grown → Placed → Grown
with_batch segment batch = record segment { batches = segment.batches ++ batch ∷ [] }

-- the offset after the last batch, of batches that begin at one
abbrev pub end_after : ℕ → List Placed → ℕ
end_after first [] = first
end_after first (batch ∷ batches) = end_after (batch.last + 1) batches

-- the bytes up to the last batch's end, of batches that come after so many
abbrev pub size_after : ℕ → List Placed → ℕ
size_after at [] = at
size_after at (batch ∷ batches) = size_after batch.to batches

-- the batches that end at or below an offset
abbrev pub ending_by : ℕ → List Placed → List Placed
ending_by end [] = []
ending_by end (batch ∷ batches) = if nat_lt batch.last end then batch ∷ ending_by end batches else []

-- the greatest of a timestamp and the batches' own
abbrev pub latest_from : ℤ → List Placed → ℤ
latest_from ts [] = ts
latest_from ts (batch ∷ batches) = latest_from (int_max ts batch.max_ts) batches

-- the greatest timestamp of batches, or -1 where there are none
abbrev pub latest_ts : List Placed → ℤ
latest_ts [] = negsuc 0
latest_ts (batch ∷ batches) = latest_from batch.max_ts batches

-- each batch ends past where it begins, in offsets and in bytes
abbrev pub AreBatchesLaid : ℕ → ℕ → List Placed → Type 0
AreBatchesLaid first at [] = Unit {0}
AreBatchesLaid first at (batch ∷ batches) =
    (first ≤ batch.last) × (at < batch.to) × AreBatchesLaid (batch.last + 1) batch.to batches

-- a batch of this head may be added: it begins where the last one ends, and the segment reaches to its end
pub record MayPush (segment : Grown) (head : Head) : Type 0 where
  pub begins : cast_unsigned w64 head.base_offset ≡ end_after segment.base segment.batches
  pub near : cast_unsigned w64 head.base_offset + cast_unsigned w32 head.last_offset_delta < segment.base + 2 ^ 31
  pub small : size_after 0 segment.batches + size_in head < 2 ^ 31

-- what a growing segment keeps
pub record IsGrowing (base interval : ℕ) (batches : List Placed) (index : OffsetTable) (latest : ℤ) : Type 0 where
  pub base_fits : base ≤ 2 ^ 62
  pub laid : AreBatchesLaid base 0 batches
  pub near : end_after base batches ≤ base + 2 ^ 31
  pub small : size_after 0 batches < 2 ^ 31
  pub indexed : index ≡ index_of base interval batches
  pub latest_is : latest ≡ latest_ts batches

-- a search from a position misses no batch from the offset on
pub record BeginsSearch (base : ℕ) (batches : List Placed) (offset position : ℕ) : Type 0 where
  pub front : List Placed
  pub rest : List Placed
  pub parts : batches ≡ front ++ rest
  pub place : size_after 0 front ≡ position
  pub before : base ≤ offset → end_after base front ≤ offset

-- the batches of a segment, where they are observable in two parts
pub record AreParted (at : ℕ) (batches : List (List ℕ)) (front rest : List Placed) : Type 0 where
  pub former : List (List ℕ)
  pub latter : List (List ℕ)
  pub parts : batches ≡ former ++ latter
  pub front_is : placed_from at former ≡ front
  pub rest_is : placed_from (at + length (joined former)) latter ≡ rest
  pub size : size_after at front ≡ at + length (joined former)
  pub ends : (base : ℕ) → end_after base front ≡ end_from base former
