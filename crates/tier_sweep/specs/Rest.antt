-- A remote tier at rest: no command is in progress, and nobody else writes.
--
--   form                         says
--   AreNamed objects entries     each object's id has an entry
--   NoneIsLeft objects entries   no object exists of an id whose deletion is finished
--   NoneUnderWay entries              neither a copy nor a deletion is in progress
--
-- Source: KIP-405, where a copy is recorded as started before its first object is put, and a deletion as finished after
-- its last object is gone. So what a broker that stopped for good leaves is a copy or a deletion in progress, with any
-- of its objects.
use Rattle.std.specs.Prelude.{◌≡◌, ◌≢◌, Bool, true, false, List, Option, Some, IsSome}
use Rattle.std.specs.List.{AllByRecursion}
use Rattle.tier_base.specs.declared.names.SegmentId.{SegmentId}
use Rattle.tier_base.specs.declared.plain.State.{State}
use Rattle.tier_base.specs.declared.plain.State.TheVariants.{CopyStarted, CopyFinished, DeleteStarted, DeleteFinished}
use Rattle.tier_base.specs.declared.object_key.ObjectKey.{ObjectKey}
use Rattle.segment_meta.specs.declared.note.Entry.{Entry}
use Rattle.object_store.specs.Content.{Objects}
use Rattle.remote_view.specs.Fold.{entry_of, state_of}

-- a copy or a deletion is in progress
abbrev pub is_under_way : State → Bool
is_under_way CopyStarted = true
is_under_way DeleteStarted = true
is_under_way state = false

-- a copy is finished, of an id that may have an entry
abbrev pub is_finished : Option State → Bool
is_finished (Some CopyFinished) = true
is_finished state = false

-- the objects of an id are to stay
abbrev pub stays : List Entry → SegmentId → Bool
stays entries id = is_finished (state_of id entries)

-- each object's id has an entry
abbrev pub AreNamed : Objects → List Entry → Type 0
AreNamed objects entries = (key : ObjectKey) → IsSome (objects key) → IsSome (entry_of key.id entries)

-- no object exists of an id whose deletion is finished
abbrev pub NoneIsLeft : Objects → List Entry → Type 0
NoneIsLeft objects entries = (key : ObjectKey) → IsSome (objects key) → state_of key.id entries ≢ Some DeleteFinished

-- neither a copy nor a deletion is in progress
abbrev pub NoneUnderWay : List Entry → Type 0
NoneUnderWay entries = AllByRecursion (λ entry. is_under_way entry.state ≡ false) entries
