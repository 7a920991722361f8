-- The segments of a log in memory, and their batches on the disk.
--
-- Memory keeps where each batch ends; its bytes are in the segment's file.
use Rattle.std.specs.Prelude.{◌≡◌, ℕ, ◌-◌, List, [], ◌∷◌, ◌++◌, take, drop}
use Rattle.tier_base.specs.declared.plain.FileName.TheVariants as file
use Rattle.tier_base.specs.Told.{bytes_in}
use Rattle.disk_model.specs.Content.{Files}
use Rattle.log_manifest.specs.declared.manifest.Extent.{Extent}
use Rattle.segment_file.specs.declared.placed.Placed.{Placed}
use Rattle.segment_file.specs.Index.{placed_from}
use Rattle.segment_file.specs.Growing.{Grown, end_after, size_after}
use Rattle.log_steps.specs.Opens.{Segment}

-- the bytes of a segment's file
abbrev pub bytes_of : Files → Grown → List ℕ
bytes_of f segment = bytes_in (f (file.Log segment.base))

-- bytes cut where batches end, the first of which begins at a position
abbrev pub pieces : ℕ → List Placed → List ℕ → List (List ℕ)
pieces at [] bytes = []
pieces at (batch ∷ batches) bytes = take (batch.to - at) bytes ∷ pieces batch.to batches (drop (batch.to - at) bytes)

-- the batches of a segment
abbrev pub batches_of : Files → Grown → List (List ℕ)
batches_of f segment = pieces 0 segment.batches (bytes_of f segment)

-- the batches of all segments
abbrev pub all_batches : Files → List Grown → List (List ℕ)
all_batches f [] = []
all_batches f (segment ∷ segments) = batches_of f segment ++ all_batches f segments

-- its size
abbrev pub size_of : Grown → ℕ
size_of segment = size_after 0 segment.batches

-- the offset after it
abbrev pub end_of : Grown → ℕ
end_of segment = end_after segment.base segment.batches

-- what a manifest lists of a segment that is whole
abbrev pub extent_of : Grown → Extent
extent_of segment = record { base = segment.base; len = size_of segment }

-- each segment begins where the one before it ends, the first at an offset
abbrev pub AreChained : ℕ → List Grown → Type 0
AreChained first [] = Unit {0}
AreChained first (segment ∷ segments) = (segment.base ≡ first) × AreChained (end_of segment) segments

-- the offset after the last segment, of segments that begin at one
abbrev pub chain_end : ℕ → List Grown → ℕ
chain_end first [] = first
chain_end first (segment ∷ segments) = chain_end (end_of segment) segments

-- a segment's file has its batches in front
pub record IsStored (f : Files) (line : List (ℕ × ℕ)) (segment : Grown) : Type 0 where
  pub batches : List (List ℕ)
  pub placed : segment.batches ≡ placed_from 0 batches
  pub stands : Segment f line (extent_of segment) batches
