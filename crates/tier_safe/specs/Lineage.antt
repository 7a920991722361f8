-- Batches as a part of a leader epoch's path, and what a remote segment says of them.
--
-- A path is the log that the leader of an epoch has. A remote segment whose batches are a part of a path is of one
-- lineage with each log that has its last batch, since logs match.
--
-- Source: KIP-405, whose remote segments carry the leader epochs of their offsets, and KIP-101, by which logs are
-- distinguished.
use Rattle.std.specs.Prelude.{◌≡◌, ◌≢◌, ℕ, ◌+◌, List, [], ◌++◌, length, slice_get, Option, Some, true}
use Rattle.tier_base.specs.declared.names.SegmentId.{SegmentId}
use Rattle.tier_base.specs.declared.object_key.ObjectKey.{ObjectKey}
use Rattle.tier_base.specs.Layout.{layout_bytes}
use Rattle.log_terms.specs.Line.{line_of, epoch_holding}
use Rattle.log_terms.specs.Log.{joined, end_of, end_from}
use Rattle.epoch_line.specs.Line.{cut_end}
use Rattle.plain_log.specs.declared.state.Path.{Path}
use Rattle.plain_log.specs.Safe.{HasOnPath}
use Rattle.segment_file.specs.Segment.{IsSegment, greatest_ts}
use Rattle.segment_bundle.specs.Parts.{Parts, parts_of, part_in, layout_of, can_pack}
use Rattle.segment_meta.specs.declared.note.Entry.{Entry}
use Rattle.object_store.specs.Content.{Objects}
use Rattle.object_store.specs.Place.{keys_of}
use Rattle.remote_view.specs.Fold.{entry_of}
use Rattle.remote_view.specs.Lookup.{covers}
use Rattle.copy_task.specs.Copying.{Copied, IsCopied}

-- the batches are in a path from a base offset on, and the leader epochs have the path's epochs up to their end
pub record IsPathPart (paths : List Path) (base : ℕ) (batches : List (List ℕ)) (line : List (ℕ × ℕ)) : Type 0 where
  pub epoch : ℕ
  pub front : List (List ℕ)
  pub ends : end_of front ≡ base
  pub begins : HasOnPath paths epoch (front ++ batches)
  pub line_is : cut_end line (end_from base batches) ≡ line_of (front ++ batches)

-- a remote segment's entry describes these batches, which are a part of a path
pub record DescribesPath (paths : List Path) (entry : Entry) (batches : List (List ℕ))
    (line : List (ℕ × ℕ)) : Type 0 where
  pub some : batches ≢ []
  pub is : IsSegment entry.start batches
  pub part : IsPathPart paths entry.start batches line
  pub last_is : entry.end + 1 ≡ end_from entry.start batches
  pub map_is : entry.map ≡ line_of batches
  pub max_ts_is : entry.max_ts ≡ greatest_ts batches
  pub size_is : entry.size ≡ length (joined batches)

-- under each of these keys its part exists
abbrev pub HavePartsStored : Objects → List ObjectKey → Parts → Type 0
HavePartsStored objects keys parts =
    (n : ℕ) (key : ObjectKey) → slice_get keys n ≡ Some key → objects key ≡ Some (part_in parts key.part)

-- custom metadata gives where the parts are in a packed segment's object
pub record TellsParts (custom : Option (List ℕ)) (parts : Parts) : Type 0 where
  pub fits : can_pack parts ≡ true
  pub is : custom ≡ Some (layout_bytes (layout_of parts))

-- the objects of a remote segment exist, and are the parts of the batches that its entry describes
pub record IsStoredWhole (objects : Objects) (paths : List Path) (entry : Entry) : Type 0 where
  pub batches : List (List ℕ)
  pub line : List (ℕ × ℕ)
  pub interval : ℕ
  pub describes : DescribesPath paths entry batches line
  pub stand : HavePartsStored objects (keys_of entry.partition entry.id entry.packed) (parts_of batches line interval)
  pub custom : entry.packed ≡ true → TellsParts entry.custom (parts_of batches line interval)

-- what is copied is a closed segment of a path
pub record IsSource (paths : List Path) (copy : Copied) : Type 0 where
  pub copied : IsCopied copy
  pub part : IsPathPart paths copy.segment.base copied.batches copy.line

-- a finished copy has this epoch at this offset
pub record Covers (entries : List Entry) (epoch offset : ℕ) : Type 0 where
  pub id : SegmentId
  pub entry : Entry
  pub there : entry_of id entries ≡ Some entry
  pub gives : covers epoch offset entry ≡ true

-- a finished copy has the epoch that the log has at this offset
pub record CoversLog (entries : List Entry) (log : List (List ℕ)) (offset : ℕ) : Type 0 where
  pub epoch : ℕ
  pub holds : epoch_holding log offset ≡ Some epoch
  pub covers : Covers entries epoch offset
