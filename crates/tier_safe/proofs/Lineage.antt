-- Parts of paths, entries and copies, over paths that grow.
use Rattle.std.proofs.Common.{◌≡◌, ◌∙◌, ℕ, List, ◌++◌, Some, slice_get}
use Rattle.tier_base.specs.declared.object_key.ObjectKey.{ObjectKey}
use Rattle.segment_meta.specs.declared.note.Entry.{Entry}
use Rattle.object_store.specs.Content.{Objects}
use Rattle.object_store.specs.Place.{keys_of}
use Rattle.plain_log.specs.declared.state.Path.{Path}
use Rattle.plain_log.proofs.Wider.{has_wider}
use Rattle.sparse_index.specs.Offsets.{OffsetTable}
use Rattle.copy_task.specs.Copying.{Copied}
use Rattle.plain_log.specs.Grows.{PathsGrow}
use Rattle.tier_safe.specs.Lineage.{IsPathPart, DescribesPath, IsStoredWhole, IsSource}
use Rattle.tier_safe.specs.Fetches.{IsIndexOf}

pub part_grows : (ps qs : List Path) (base : ℕ) (batches : List (List ℕ)) (line : List (ℕ × ℕ)) → PathsGrow ps qs → IsPathPart ps base batches line → IsPathPart qs base batches line
part_grows ps qs base batches line w h = record {
  epoch = h.epoch;
  front = h.front;
  ends = h.ends;
  begins = has_wider ps qs h.epoch (h.front ++ batches) w h.begins;
  line_is = h.line_is;
}

pub describes_grows : (ps qs : List Path) (entry : Entry) (batches : List (List ℕ)) (line : List (ℕ × ℕ)) → PathsGrow ps qs → DescribesPath ps entry batches line → DescribesPath qs entry batches line
describes_grows ps qs entry batches line w h = record {
  some = h.some;
  is = h.is;
  part = part_grows ps qs entry.start batches line w h.part;
  last_is = h.last_is;
  map_is = h.map_is;
  max_ts_is = h.max_ts_is;
  size_is = h.size_is;
}

pub stored_whole_grows : (objects : Objects) (ps qs : List Path) (entry : Entry) → PathsGrow ps qs → IsStoredWhole objects ps entry → IsStoredWhole objects qs entry
stored_whole_grows objects ps qs entry w h = record {
  batches = h.batches;
  line = h.line;
  interval = h.interval;
  describes = describes_grows ps qs entry h.batches h.line w h.describes;
  stand = h.stand;
  custom = h.custom;
}

pub source_grows : (ps qs : List Path) (copy : Copied) → PathsGrow ps qs → IsSource ps copy → IsSource qs copy
source_grows ps qs copy w h = record {
  copied = h.copied;
  part = part_grows ps qs copy.segment.base h.copied.batches copy.line w h.part;
}

pub index_grows : (ps qs : List Path) (entry : Entry) (index : OffsetTable) → PathsGrow ps qs → IsIndexOf ps entry index → IsIndexOf qs entry index
index_grows ps qs entry index w h = record {
  batches = h.batches;
  line = h.line;
  interval = h.interval;
  describes = describes_grows ps qs entry h.batches h.line w h.describes;
  is = h.is;
}

-- the objects of an entry exist where those under its keys do
pub stored_whole_same : (old new : Objects) (paths : List Path) (entry : Entry) → ((n : ℕ) (key : ObjectKey) → slice_get (keys_of entry.partition entry.id entry.packed) n ≡ Some key → new key ≡ old key)
    → IsStoredWhole old paths entry → IsStoredWhole new paths entry
stored_whole_same old new paths entry same h = record {
  batches = h.batches;
  line = h.line;
  interval = h.interval;
  describes = h.describes;
  stand = λ n key at. same n key at ∙ h.stand n key at;
  custom = h.custom;
}
