-- The names of a partition's objects as text.
--
-- name = id ( ".log" / ".index" / ".timeindex" / ".epochs" / ".pack" )
--
-- It is what follows the "/" of the object's key: tier_base's module Key has the grammar of an id.
use Rattle.std.specs.Prelude.{◌≡◌, ◌≢◌, ℕ, List, ◌++◌, Option, Some, None}
use Rattle.tier_base.specs.declared.names.PartitionId.{PartitionId}
use Rattle.tier_base.specs.declared.names.SegmentId.{SegmentId}
use Rattle.tier_base.specs.declared.plain.Part.{Part}
use Rattle.tier_base.specs.declared.object_key.ObjectKey.{ObjectKey}
use Rattle.tier_base.specs.Key.{IsId, id_text, part_text}

-- the name of an object's file
abbrev pub object_text : ObjectKey → List ℕ
object_text key = id_text key.id ++ part_text key.part

-- what the reader of a name answers: the partition's object that is named so, or none where no object is
abbrev pub ReadsObject : PartitionId → List ℕ → Option ObjectKey → Type 0
ReadsObject partition text None = (id : SegmentId) (part : Part) → IsId id → id_text id ++ part_text part ≢ text
ReadsObject partition text (Some key) = (key.partition ≡ partition) × IsId key.id × (object_text key ≡ text)
