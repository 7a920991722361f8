-- A segment that is copied: what its objects hold, and what the metadata log has the event of it.
use Rattle.std.specs.Prelude.{◌≡◌, ◌≢◌, ℕ, ◌+◌, Bool, true, if◌then◌else◌, List, [], length, Option, Some, None}
use Rattle.tier_base.specs.declared.names.PartitionId.{PartitionId}
use Rattle.tier_base.specs.declared.names.SegmentId.{SegmentId}
use Rattle.tier_base.specs.declared.plain.State.TheVariants.{CopyStarted, CopyFinished}
use Rattle.tier_base.specs.declared.object_key.ObjectKey.{ObjectKey}
use Rattle.tier_base.specs.Layout.{layout_bytes}
use Rattle.log_terms.specs.Line.{line_of}
use Rattle.log_terms.specs.Log.{joined, end_from}
use Rattle.segment_file.specs.Segment.{IsSegment, greatest_ts}
use Rattle.segment_file.specs.Closed.{ClosedSegment}
use Rattle.segment_bundle.specs.Parts.{Parts, Bundled, parts_of, layout_of, can_pack}
use Rattle.object_store.specs.Place.{keys_of}
use Rattle.segment_meta.specs.declared.note.Entry.{Entry}
use Rattle.segment_meta.specs.declared.note.Note.{Note}
use Rattle.segment_meta.specs.declared.note.Note.TheVariants.{Add, Update}
use Rattle.meta_log.specs.declared.event_origin.EventOrigin.{EventOrigin}
use Rattle.copy_task.specs.Source.{batches_in}

-- A copy keeps a segment, its log's line and the interval of its indexes. What it puts is a function of these:
-- whether the bundle has been made yet, and by whom, is nowhere seen.

-- a closed segment under a remote id, with the leader epochs of its log and the interval of its indexes; packed, it
-- gets one object
pub record Copied : Type 0 where
  pub id : SegmentId
  pub partition : PartitionId
  pub packed : Bool
  pub segment : ClosedSegment
  pub line : List (ℕ × ℕ)
  pub interval : ℕ
  pub parts : Parts

-- what a copy keeps: batches that the segment is, and that its parts are made of, which can be packed where they are
-- to be
pub record IsCopied (copy : Copied) : Type 0 where
  pub batches : List (List ℕ)
  pub some : batches ≢ []
  pub is : IsSegment copy.segment.base batches
  pub bytes_are : copy.segment.bytes ≡ joined batches
  pub last_is : copy.segment.last + 1 ≡ end_from copy.segment.base batches
  pub max_ts_is : copy.segment.max_ts ≡ greatest_ts batches
  pub epochs_are : copy.segment.epochs ≡ line_of batches
  pub parts_are : copy.parts ≡ parts_of batches copy.line copy.interval
  pub packs : copy.packed ≡ true → can_pack copy.parts ≡ true

-- the copy of a closed segment: its parts are those of the batches that the segment's bytes are
abbrev pub copied_of : SegmentId → PartitionId → Bool → ClosedSegment → List (ℕ × ℕ) → ℕ → Copied
copied_of id partition packed segment line interval = record {
  id = id;
  partition = partition;
  packed = packed;
  segment = segment;
  line = line;
  interval = interval;
  parts = parts_of (batches_in segment.bytes) line interval;
}

-- a bundle is of the copy's segment, line and interval
pub record IsBundleOf (copy : Copied) (bundle : Bundled) : Type 0 where
  pub source_is : bundle.source ≡ copy.segment.bytes
  pub line_is : bundle.line ≡ copy.line
  pub interval_is : bundle.interval ≡ copy.interval
  pub parts_are : bundle.parts ≡ copy.parts

-- the keys of its objects
abbrev pub keys : Copied → List ObjectKey
keys copy = keys_of copy.partition copy.id copy.packed

-- its entry, as it is reported
abbrev pub entry_of : Copied → EventOrigin → Entry
entry_of copy origin = record {
  id = copy.id;
  partition = copy.partition;
  start = copy.segment.base;
  end = copy.segment.last;
  max_ts = copy.segment.max_ts;
  broker = origin.broker;
  event_ts = origin.now;
  size = length copy.segment.bytes;
  state = CopyStarted;
  map = copy.segment.epochs;
  packed = copy.packed;
  custom = None;
}

-- that the copy starts
abbrev pub start_note : Copied → EventOrigin → Note
start_note copy origin = Add (entry_of copy origin)

-- the custom metadata of what it puts: of a packed segment the layout of its object
abbrev pub custom_of : Copied → Option (List ℕ)
custom_of copy = if copy.packed then Some (layout_bytes (layout_of copy.parts)) else None

-- that it is whole
abbrev pub finish_note : Copied → EventOrigin → Note
finish_note copy origin = Update copy.id origin.broker origin.now CopyFinished (custom_of copy)
