-- The parts of a remote segment, and a bundle of them.
--
--   part        what it holds
--   Log         the segment's batches, one after another
--   Index       its offset index
--   TimeIndex   its time index, as closing the segment makes it
--   Epochs      the text of the leader epochs that start at or below the segment's last offset
--   Pack        these four, one after another
--
-- Source: KIP-405, LogSegmentData. The formats of the indexes and of the epochs are in the modules Offsets and Times of
-- sparse_index and Text of epoch_line. The pack is ours: its layout (the module Layout of tier_base) is what KIP-917
-- lets a store keep of a segment.
use Rattle.std.specs.Prelude.{◌≡◌, ◌≢◌, ℕ, ◌^◌, ◌&&◌, nat_lt, Bool, if◌then◌else◌, List}
use Rattle.std.specs.Prelude.{[], ◌∷◌, ◌++◌, length, Option, Some, None}
use Rattle.log_terms.specs.Batch.{base_of}
use Rattle.log_terms.specs.Log.{joined, end_from}
use Rattle.tier_base.specs.declared.plain.Part.{Part}
use Rattle.tier_base.specs.declared.plain.Part.TheVariants.{Log, Index, TimeIndex, Epochs, Pack}
use Rattle.tier_base.specs.declared.layout.Layout.{Layout}
use Rattle.sparse_index.specs.Bytes.{bytes_of}
use Rattle.sparse_index.specs.Offsets.{entry_bytes}
use Rattle.sparse_index.specs.Times.{moment_bytes}
use Rattle.epoch_line.specs.Line.{cut_end}
use Rattle.epoch_line.specs.Text.{text_of}
use Rattle.segment_file.specs.Index.{placed_from, index_of, time_index_of}
use Rattle.segment_file.specs.Segment.{IsSegment}

-- the bytes of the four parts that aren't packed
pub record Parts : Type 0 where
  pub log : List ℕ
  pub index : List ℕ
  pub times : List ℕ
  pub epochs : List ℕ

-- one of them, or all
abbrev pub part_in : Parts → Part → List ℕ
part_in parts Log = parts.log
part_in parts Index = parts.index
part_in parts TimeIndex = parts.times
part_in parts Epochs = parts.epochs
part_in parts Pack = parts.log ++ (parts.index ++ (parts.times ++ parts.epochs))

-- how long they are
abbrev pub layout_of : Parts → Layout
layout_of parts = record {
  log = length parts.log;
  index = length parts.index;
  times = length parts.times;
  epochs = length parts.epochs;
}

-- a layout's field has room for a length
abbrev pub has_room : ℕ → Bool
has_room size = nat_lt size (2 ^ 32)

-- they can be packed: a layout has room for the length of each
abbrev pub can_pack : Parts → Bool
can_pack parts =
    has_room (length parts.log)
    && (has_room (length parts.index) && (has_room (length parts.times) && has_room (length parts.epochs)))

-- the layout of what can be packed
abbrev pub pack_of : Parts → Option Layout
pack_of parts = if can_pack parts then Some (layout_of parts) else None

-- the offset of the first record
abbrev pub first_offset : List (List ℕ) → ℕ
first_offset [] = 0
first_offset (batch ∷ batches) = base_of batch

-- the parts of batches from a base offset on: of the line, the entries that start before the batches' end
abbrev pub parts_from : ℕ → List (List ℕ) → List (ℕ × ℕ) → ℕ → Parts
parts_from base batches line interval = record {
  log = joined batches;
  index = bytes_of entry_bytes (index_of base interval (placed_from 0 batches)).entries;
  times = bytes_of moment_bytes (time_index_of base interval (placed_from 0 batches)).entries;
  epochs = text_of (cut_end line (end_from base batches));
}

-- the parts of a segment's batches, of its log's line and of the interval of its indexes
abbrev pub parts_of : List (List ℕ) → List (ℕ × ℕ) → ℕ → Parts
parts_of batches line interval = parts_from (first_offset batches) batches line interval

-- a bundle: the parts, and what they were made of
pub record Bundled : Type 0 where
  pub source : List ℕ
  pub line : List (ℕ × ℕ)
  pub interval : ℕ
  pub parts : Parts

-- the bundle of these parts; the log part is the source
abbrev pub bundled : List ℕ → List (ℕ × ℕ) → ℕ → List ℕ → List ℕ → List ℕ → Bundled
bundled source line interval index times epochs = record {
  source = source;
  line = line;
  interval = interval;
  parts = record { log = source; index = index; times = times; epochs = epochs };
}

-- what a bundle keeps: its parts are those of the batches that its source is
pub record IsBundle (bundle : Bundled) : Type 0 where
  pub batches : List (List ℕ)
  pub some : batches ≢ []
  pub base : ℕ
  pub is : IsSegment base batches
  pub source_is : bundle.source ≡ joined batches
  pub parts_are : bundle.parts ≡ parts_of batches bundle.line bundle.interval
