-- What may change in the tier, one thing at a time, and what is left of it.
--
--   change    what happens
--   Steps     the plain log takes a step, and the brokers' tier states follow
--   Moves     a command takes something up, continues, or leaves the desk
--   Chooses   a copy takes its segment, under its broker's next id
--   Tells     a metadata event goes to the metadata log, and its command continues
--   Stores    an object is put or taken away, and its command continues
--   Sees      a broker's view takes further metadata events
--   Caches    a broker keeps a remote index, or lets one go
--   Drops     a local log starts later
--
-- Each is what one call of a device does, or less. A turn is some of them, one after another. A call that failed is its
-- change, where it was done, and then the command leaves the desk.
use Rattle.std.specs.Prelude.{◌≡◌, ℕ, ◌+◌, true, List, [], ◌∷◌, ◌++◌, Option, Some, None, slice_get, slice_set}
use Rattle.tier_base.specs.declared.plain.State.TheVariants.{DeleteStarted, DeleteFinished}
use Rattle.tier_base.specs.declared.object_key.ObjectKey.{ObjectKey}
use Rattle.tier_base.specs.Told.{replaced, removed}
use Rattle.tier_base.specs.declared.names.SegmentId.{SegmentId}
use Rattle.sparse_index.specs.Offsets.{OffsetTable}
use Rattle.segment_meta.specs.declared.note.Note.{Note}
use Rattle.segment_bundle.specs.Parts.{part_in}
use Rattle.object_store.specs.Content.{Objects}
use Rattle.meta_log.specs.declared.event_origin.EventOrigin.{EventOrigin}
use Rattle.remote_view.specs.Fold.{EntriesSeen}
use Rattle.remote_find.specs.declared.piece.Piece.{Piece}
use Rattle.copy_task.specs.Copying.{Copied, keys as copy_keys, start_note, finish_note}
use Rattle.copy_task.specs.Turns.{put_at}
use Rattle.copy_task.specs.declared.turn.CopyStep.TheVariants as copying
use Rattle.expiry_task.specs.declared.turn.ExpiredSegment.{ExpiredSegment}
use Rattle.expiry_task.specs.Turns.{note_of, keys as expiry_keys, delete_at}
use Rattle.expiry_task.specs.declared.turn.DeletionStep.TheVariants as expiring
use Rattle.tier_safe.specs.Scene.{BrokerTierView, Rebuild, Sought, TierTask, Free}
use Rattle.tier_safe.specs.Scene.{Copies, Expires, Rebuilds, Seeks, Scene}

-- moves: changes of the desk alone

-- a copy finds that it was overtaken; an expiry takes its segment; a rebuild its offset, that all metadata events were
-- seen, and a line; a fetch its offset, a piece, a later offset in it, and the position from which it reads
pub data Move : Type 0 where
  Leaves : Move
  Overtakes : (copy : Copied) → Move
  ChoosesExpired : (b : ℕ) → (expired_segment : ExpiredSegment) → Move
  Wants : (rebuild : Rebuild) → Move
  Refreshes : (rebuild : Rebuild) → Move
  Lines : (rebuild : Rebuild) → (line : List (ℕ × ℕ)) → Move
  Asks : (sought : Sought) → Move
  Finds : (sought : Sought) → (piece : Piece) → Move
  Skips : (sought : Sought) → (offset : ℕ) → Move
  Reads : (sought : Sought) → (from : ℕ) → Move

-- what the actor's state has after a move
abbrev pub moved : Move → TierTask
moved Leaves = Free
moved (Overtakes copy) = Copies copy (copying.Delete 0)
moved (ChoosesExpired b expired_segment) = Expires expired_segment expiring.Start
moved (Wants rebuild) = Rebuilds rebuild
moved (Refreshes rebuild) = Rebuilds (record rebuild { refreshed = true })
moved (Lines rebuild line) = Rebuilds (record rebuild { line = Some line })
moved (Asks sought) = Seeks sought
moved (Finds sought piece) = Seeks (record sought { piece = Some piece })
moved (Skips sought offset) = Seeks (record sought { offset = offset })
moved (Reads sought from) = Seeks (record sought { from = Some from })

-- metadata events

-- which metadata event a command appends
pub data Telling : Type 0 where
  CopyStarts : (copy : Copied) → Telling
  CopyEnds : (copy : Copied) → Telling
  ExpiryStarts : (expired_segment : ExpiredSegment) → Telling
  ExpiryEnds : (expired_segment : ExpiredSegment) → Telling

-- what its actor's state has before
abbrev pub before_telling : Telling → TierTask
before_telling (CopyStarts copy) = Copies copy copying.Start
before_telling (CopyEnds copy) = Copies copy copying.Finish
before_telling (ExpiryStarts expired_segment) = Expires expired_segment expiring.Start
before_telling (ExpiryEnds expired_segment) = Expires expired_segment expiring.Finish

-- and after it
abbrev pub after_telling : Telling → TierTask
after_telling (CopyStarts copy) = Copies copy (copying.Put 0)
after_telling (CopyEnds copy) = Copies copy copying.Check
after_telling (ExpiryStarts expired_segment) = Expires expired_segment (expiring.Delete 0)
after_telling (ExpiryEnds expired_segment) = Free

-- the metadata event itself
abbrev pub note_for : Telling → EventOrigin → Note
note_for (CopyStarts copy) origin = start_note copy origin
note_for (CopyEnds copy) origin = finish_note copy origin
note_for (ExpiryStarts expired_segment) origin = note_of expired_segment origin DeleteStarted
note_for (ExpiryEnds expired_segment) origin = note_of expired_segment origin DeleteFinished

-- objects

-- a copy puts the object of a number, under its key, or takes one away again; an expiry takes one away
pub data Storing : Type 0 where
  Puts : (copy : Copied) → (n : ℕ) → (key : ObjectKey) → Storing
  Undoes : (copy : Copied) → (n : ℕ) → (key : ObjectKey) → Storing
  Deletes : (expired_segment : ExpiredSegment) → (n : ℕ) → (key : ObjectKey) → Storing

-- what its actor's state has before
abbrev pub before_storing : Storing → TierTask
before_storing (Puts copy n key) = Copies copy (copying.Put n)
before_storing (Undoes copy n key) = Copies copy (copying.Delete n)
before_storing (Deletes expired_segment n key) = Expires expired_segment (expiring.Delete n)

-- what the state of an overtaken copy keeps, by the key of the object that goes next
abbrev pub undone : Copied → ℕ → Option ObjectKey → TierTask
undone copy n None = Free
undone copy n (Some key) = Copies copy (copying.Delete n)

-- what its actor's state has after it
abbrev pub after_storing : Storing → TierTask
after_storing (Puts copy n key) = Copies copy (put_at (n + 1) (slice_get (copy_keys copy) (n + 1)))
after_storing (Undoes copy n key) = undone copy (n + 1) (slice_get (copy_keys copy) (n + 1))
after_storing (Deletes expired_segment n key) =
    Expires expired_segment (delete_at (n + 1) (slice_get (expiry_keys expired_segment) (n + 1)))

-- the key
abbrev pub key_for : Storing → ObjectKey
key_for (Puts copy n key) = key
key_for (Undoes copy n key) = key
key_for (Deletes expired_segment n key) = key

-- it is that of the number
abbrev pub KeyStands : Storing → Type 0
KeyStands (Puts copy n key) = slice_get (copy_keys copy) n ≡ Some key
KeyStands (Undoes copy n key) = slice_get (copy_keys copy) n ≡ Some key
KeyStands (Deletes expired_segment n key) = slice_get (expiry_keys expired_segment) n ≡ Some key

-- what becomes of the object
abbrev pub made_by : Storing → Option (List ℕ) → Option (List ℕ)
made_by (Puts copy n key) = replaced (part_in copy.parts key.part)
made_by (Undoes copy n key) = removed
made_by (Deletes expired_segment n key) = removed

-- changes

-- why a local log starts later: it dropped its first segments, or a rebuild of this actor restarted it
pub data Dropping : Type 0 where
  Trims : Dropping
  Restarts : (a : ℕ) → (rebuild : Rebuild) → Dropping

-- by actor a, at broker b, whose tier state was this tier view
pub data Change : Type 0 where
  Steps : (tier_views : List BrokerTierView) → Change
  Moves : (a : ℕ) → (move : Move) → Change
  Chooses : (a b : ℕ) → (tier_view : BrokerTierView) → (copy : Copied) → Change
  Tells : (a : ℕ) → (telling : Telling) → (origin : EventOrigin) → Change
  Stores : (a : ℕ) → (storing : Storing) → (objects : Objects) → Change
  Sees : (b : ℕ) → (tier_view : BrokerTierView) → (view : EntriesSeen) → Change
  Caches : (b : ℕ) → (tier_view : BrokerTierView) → (cache : List (SegmentId × OffsetTable)) → Change
  Drops : (b : ℕ) → (tier_view : BrokerTierView) → (start : ℕ) → (dropping : Dropping) → Change

-- the tier after a change
abbrev pub effect : Change → Scene → Scene
effect (Steps tier_views) c = record c { tier_views = tier_views }
effect (Moves a move) c = record c { desk = slice_set c.desk a (moved move) }
effect (Chooses a b tier_view copy) c = record c {
  tier_views = slice_set c.tier_views b (record tier_view { next = tier_view.next + 1 });
  desk = slice_set c.desk a (Copies copy copying.Start);
}
effect (Tells a telling origin) c = record c {
  notes = c.notes ++ note_for telling origin ∷ [];
  desk = slice_set c.desk a (after_telling telling);
}
effect (Stores a storing objects) c =
    record c { objects = objects; desk = slice_set c.desk a (after_storing storing) }
effect (Sees b tier_view view) c = record c { tier_views = slice_set c.tier_views b (record tier_view { view = view }) }
effect (Caches b tier_view cache) c =
    record c { tier_views = slice_set c.tier_views b (record tier_view { cache = cache }) }
effect (Drops b tier_view start dropping) c =
    record c { tier_views = slice_set c.tier_views b (record tier_view { start = start }) }

-- the tier after several, one after another
abbrev pub effects : List Change → Scene → Scene
effects [] c = c
effects (change ∷ changes) c = effects changes (effect change c)
