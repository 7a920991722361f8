-- What is right of a partition's remote tier at rest: the store holds exactly what the metadata log says, and each
-- finished copy is readable and of one piece.
--
--   part        it holds
--   Log         the batches that the entry describes, one after another
--   Index       entries, each of them the mark of a batch: its last offset and where it begins
--   TimeIndex   moments, each of them a batch's whose timestamp is above those of all batches before it
--   Epochs      the text of a line whose part within the segment is the entry's map
--
--   form                           says
--   Describes entry batches        a copy's entry describes these batches
--   IsPartRight entry batches p bytes  these bytes are a right part of the copy
--   Hold objects entry parts       these parts of a copy are whole, and are right
--   ArePut objects entry parts     a copy's objects hold these parts
--   IsWholeTier objects entries        all is right
--
-- Of how dense indexes are nothing is said: an interval isn't kept.
--
-- Source: KIP-405, LogSegmentData. A copy's parts are those that segment_bundle makes. Each has an object of its own,
-- or they have one together, as the module Place of object_store says.
use Rattle.std.specs.Prelude.{◌≡◌, ◌≢◌, ℕ, ◌+◌, ◌-◌, ℤ, negsuc, int_lt, if◌then◌else◌, true}
use Rattle.std.specs.Prelude.{List, [], ◌∷◌, length, slice_get, Option, Some, None}
use Rattle.std.specs.List.{AllByRecursion}
use Rattle.tier_base.specs.declared.plain.Part.{Part}
use Rattle.tier_base.specs.declared.plain.Part.TheVariants.{Log, Index, TimeIndex, Epochs, Pack}
use Rattle.tier_base.specs.declared.plain.State.TheVariants.{CopyFinished}
use Rattle.tier_base.specs.declared.object_key.ObjectKey.{ObjectKey}
use Rattle.tier_base.specs.Layout.{layout_bytes}
use Rattle.tier_base.specs.Told.{In}
use Rattle.log_terms.specs.Line.{line_of}
use Rattle.log_terms.specs.Log.{joined, end_from}
use Rattle.sparse_index.specs.Bytes.{bytes_of}
use Rattle.sparse_index.specs.Offsets.{AreOffsets, entry_bytes}
use Rattle.sparse_index.specs.Times.{AreMoments, moment_bytes}
use Rattle.epoch_line.specs.Line.{IsLine, within}
use Rattle.epoch_line.specs.Text.{text_of}
use Rattle.segment_file.specs.declared.placed.Placed.{Placed}
use Rattle.segment_file.specs.Segment.{IsSegment, greatest_ts}
use Rattle.segment_file.specs.Index.{placed_from}
use Rattle.segment_bundle.specs.Parts.{Parts, part_in, layout_of, can_pack}
use Rattle.segment_meta.specs.declared.note.Entry.{Entry}
use Rattle.object_store.specs.Content.{Objects}
use Rattle.object_store.specs.declared.placing.Spot.{Spot}
use Rattle.object_store.specs.Place.{spot_of, keys_of, all_of, short_of}
use Rattle.tier_sweep.specs.Rest.{AreNamed, NoneIsLeft}

-- a copy's entry describes these batches
pub record Describes (entry : Entry) (batches : List (List ℕ)) : Type 0 where
  pub some : batches ≢ []
  pub is : IsSegment entry.start batches
  pub last_is : entry.end + 1 ≡ end_from entry.start batches
  pub map_is : entry.map ≡ line_of batches
  pub max_ts_is : entry.max_ts ≡ greatest_ts batches
  pub size_is : entry.size ≡ length (joined batches)

-- the marks of batches, the first after so many bytes: the last offset, less the segment's base, and the position
abbrev pub marks_of : ℕ → ℕ → List Placed → List (ℕ × ℕ)
marks_of base at [] = []
marks_of base at (batch ∷ batches) = (batch.last - base, at) ∷ marks_of base batch.to batches

-- the moments of batches whose timestamp is above this one and those of all before them: it, and the last offset less
-- the base
abbrev pub heights_of : ℕ → ℤ → List Placed → List (ℤ × ℕ)
heights_of base ts [] = []
heights_of base ts (batch ∷ batches) =
    if int_lt ts batch.max_ts then (batch.max_ts, batch.last - base) ∷ heights_of base batch.max_ts batches
    else heights_of base ts batches

-- index entries that rise, each of them one of these
abbrev pub AreEntriesOf : List (ℕ × ℕ) → List (ℕ × ℕ) → Type 0
AreEntriesOf marks entries = AreOffsets entries × AllByRecursion (λ entry. In entry marks) entries

-- moments that rise, each of them one of these
abbrev pub AreTimesOf : List (ℤ × ℕ) → List (ℤ × ℕ) → Type 0
AreTimesOf heights moments = AreMoments moments × AllByRecursion (λ moment. In moment heights) moments

-- the entries of an index of batches: marks of some of them
abbrev pub AreMarks : ℕ → List (List ℕ) → List (ℕ × ℕ) → Type 0
AreMarks base batches entries = AreEntriesOf (marks_of base 0 (placed_from 0 batches)) entries

-- the moments of a time index of batches: of some that are later than -1 and than all before them
abbrev pub AreHeights : ℕ → List (List ℕ) → List (ℤ × ℕ) → Type 0
AreHeights base batches moments = AreTimesOf (heights_of base (negsuc 0) (placed_from 0 batches)) moments

-- these bytes are a right part of the copy
abbrev pub IsPartRight : Entry → List (List ℕ) → Part → List ℕ → Type 0
IsPartRight entry batches Log bytes = bytes ≡ joined batches
IsPartRight entry batches Index bytes =
    (entries : List (ℕ × ℕ)) × AreMarks entry.start batches entries × (bytes ≡ bytes_of entry_bytes entries)
IsPartRight entry batches TimeIndex bytes =
    (moments : List (ℤ × ℕ)) × AreHeights entry.start batches moments × (bytes ≡ bytes_of moment_bytes moments)
IsPartRight entry batches Epochs bytes =
    (line : List (ℕ × ℕ)) × IsLine line × (bytes ≡ text_of line) × (within line entry.start entry.end ≡ entry.map)
IsPartRight entry batches Pack bytes = ⊥

-- where a part of a copy exists
abbrev pub place_of : Entry → Part → Option Spot
place_of entry part = spot_of entry.partition entry.id entry.packed entry.custom part

-- a part of a copy is whole, and is right
pub record IsPartStored (objects : Objects) (entry : Entry) (batches : List (List ℕ)) (part : Part) : Type 0 where
  pub spot : Spot
  pub place : place_of entry part ≡ Some spot
  pub object : List ℕ
  pub there : objects spot.key ≡ Some object
  pub whole : short_of spot (all_of spot object) ≡ None
  pub right : IsPartRight entry batches part (all_of spot object)

-- these parts of a copy are whole and are right, all of the same batches
abbrev pub PartsHold : Objects → Entry → List Part → Type 0
PartsHold objects entry [] = Unit {0}
PartsHold objects entry (part ∷ parts) =
    (batches : List (List ℕ)) × Describes entry batches
    × AllByRecursion (IsPartStored objects entry batches) (part ∷ parts)

-- all of them, in their order
abbrev pub all_parts : List Part
all_parts = Log ∷ Index ∷ TimeIndex ∷ Epochs ∷ []

-- a finished copy is readable
abbrev pub IsReadable : Objects → Entry → Type 0
IsReadable objects entry = entry.state ≡ CopyFinished → PartsHold objects entry all_parts

-- the objects of a copy hold these parts, and of a packed one the custom metadata is their layout
pub record ArePut (objects : Objects) (entry : Entry) (parts : Parts) : Type 0 where
  pub stand : (n : ℕ) (key : ObjectKey) → slice_get (keys_of entry.partition entry.id entry.packed) n ≡ Some key
      → objects key ≡ Some (part_in parts key.part)
  pub custom : entry.packed ≡ true → (entry.custom ≡ Some (layout_bytes (layout_of parts))) × (can_pack parts ≡ true)

-- each of them is
abbrev pub AreReadable : Objects → List Entry → Type 0
AreReadable objects entries = AllByRecursion (IsReadable objects) entries

-- all is right
pub record IsWholeTier (objects : Objects) (entries : List Entry) : Type 0 where
  pub named : AreNamed objects entries
  pub none_left : NoneIsLeft objects entries
  pub readable : AreReadable objects entries
