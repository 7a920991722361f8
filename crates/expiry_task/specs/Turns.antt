-- What each turn of an expiry does, from the one on that follows the choice of its remote segment.
--
--   turn      does                                       answers
--   Start     appends the event that it starts            MetaFault
--   Delete    takes an object away                       StoreFault
--   Finish    appends the event that no object exists     Deleted, MetaFault
--
-- The objects are taken away in the order of their keys, of which a packed segment has one. An expiry that fails is
-- taken up by a later one, which does all of it again.
--
-- Source: KIP-405, where a segment's metadata is updated as delete-started, its objects are deleted, and the metadata
-- is updated as delete-finished.
use Rattle.std.specs.Prelude.{◌≡◌, ℕ, ◌+◌, List, Option, Some, None, slice_get, Ok, Err}
use Rattle.std.specs.declared.result.Result.{Result}
use Rattle.std.specs.declared.alloc.AllocError.{AllocError}
use Rattle.tier_base.specs.declared.plain.State.{State}
use Rattle.tier_base.specs.declared.plain.State.TheVariants.{DeleteStarted, DeleteFinished}
use Rattle.tier_base.specs.declared.object_key.ObjectKey.{ObjectKey}
use Rattle.tier_base.specs.Device.{Control, Went, Fault, Dry}
use Rattle.segment_meta.specs.declared.note.Note.{Note}
use Rattle.segment_meta.specs.declared.note.Note.TheVariants.{Update}
use Rattle.segment_meta.specs.Rules.{bare_custom}
use Rattle.object_store.specs.Call as store_call
use Rattle.object_store.specs.Calls.{DeletesObject}
use Rattle.object_store.specs.Content as store
use Rattle.object_store.specs.Place.{keys_of}
use Rattle.meta_log.specs.declared.event_origin.EventOrigin.{EventOrigin}
use Rattle.meta_log.specs.Call as meta_call
use Rattle.meta_log.specs.Calls.{AppendsToMetaLog}
use Rattle.meta_log.specs.Content as meta
use Rattle.plain_log.specs.declared.answer.Answer.TheVariants.{MetaFault, StoreFault, Deleted}
use Rattle.expiry_task.specs.declared.turn.ExpiredSegment.{ExpiredSegment}
use Rattle.plain_log.specs.declared.turn.Turn.{Turn}
use Rattle.plain_log.specs.declared.turn.Turn.TheVariants.{Goes, Ends}
use Rattle.expiry_task.specs.declared.turn.DeletionStep.{DeletionStep}
use Rattle.expiry_task.specs.declared.turn.DeletionStep.TheVariants.{Start, Delete, Finish}

-- the segment has another state
abbrev pub note_of : ExpiredSegment → EventOrigin → State → Note
note_of expired_segment origin state =
    Update expired_segment.id origin.broker origin.now state (bare_custom expired_segment.packed)

-- the keys of its objects
abbrev pub keys : ExpiredSegment → List ObjectKey
keys expired_segment = keys_of expired_segment.partition expired_segment.id expired_segment.packed

-- the turn that takes the object of a number away, where it has a key, or the one after the last
abbrev pub delete_at : ℕ → Option ObjectKey → DeletionStep
delete_at n None = Finish
delete_at n (Some key) = Delete n

module _ {M : Type 0} (notes : M → meta.Content) (calls : M → Control meta_call.call_code) where
  -- the deletion starts
  abbrev pub StartRow : ExpiredSegment → EventOrigin → Result (Turn DeletionStep) AllocError → M → M → Type 0
  StartRow expired_segment origin (Ok (Ends MetaFault)) old new =
      AppendsToMetaLog notes calls (note_of expired_segment origin DeleteStarted) Fault old new
  StartRow expired_segment origin (Ok turn) old new =
      (turn ≡ Goes (Delete 0)) × AppendsToMetaLog notes calls
      (note_of expired_segment origin DeleteStarted) Went old new
  StartRow expired_segment origin (Err e) old new =
      AppendsToMetaLog notes calls (note_of expired_segment origin DeleteStarted) Dry old new

  -- no object exists any more
  abbrev pub FinishRow : ExpiredSegment → EventOrigin → Result (Turn DeletionStep) AllocError → M → M → Type 0
  FinishRow expired_segment origin (Ok (Ends MetaFault)) old new =
      AppendsToMetaLog notes calls (note_of expired_segment origin DeleteFinished) Fault old new
  FinishRow expired_segment origin (Ok turn) old new =
      (turn ≡ Ends (Deleted expired_segment.id))
      × AppendsToMetaLog notes calls (note_of expired_segment origin DeleteFinished) Went old new
  FinishRow expired_segment origin (Err e) old new =
      AppendsToMetaLog notes calls (note_of expired_segment origin DeleteFinished) Dry old new

module _ {S : Type 0} (objects : S → store.Content) (calls : S → Control store_call.call_code) where
  -- the object of a number is taken away, where it has a key
  abbrev pub DeleteRow : ExpiredSegment → ℕ → Option ObjectKey → Turn DeletionStep → S → S → Type 0
  DeleteRow expired_segment n None turn old new = (turn ≡ Goes Finish) × (new ≡ old)
  DeleteRow expired_segment n (Some key) (Ends StoreFault) old new = DeletesObject objects calls key Fault old new
  DeleteRow expired_segment n (Some key) turn old new =
      (turn ≡ Goes (delete_at (n + 1) (slice_get (keys expired_segment) (n + 1))))
      × DeletesObject objects calls key Went old new

-- what an expiry's turns change: the store and the metadata log
pub record Tiers (S M : Type 0) : Type 0 where
  pub store : S
  pub meta : M

module _ {S M : Type 0} (objects : S → store.Content) (calls : S → Control store_call.call_code)
    (notes : M → meta.Content) (notings : M → Control meta_call.call_code) where
  -- a turn of an expiry, by what was next: what it came to, or that it ran out of memory
  abbrev pub ExpiryRow : ExpiredSegment → EventOrigin → DeletionStep → Result (Turn DeletionStep) AllocError → Tiers S M
      → Tiers S M → Type 0
  ExpiryRow expired_segment origin Start result old new =
      (new ≡ record old { meta = new.meta }) × StartRow notes notings expired_segment origin result old.meta new.meta
  ExpiryRow expired_segment origin (Delete n) (Ok turn) old new =
      (new ≡ record old { store = new.store })
      × DeleteRow objects calls expired_segment n (slice_get (keys expired_segment) n) turn old.store new.store
  ExpiryRow expired_segment origin (Delete n) (Err e) old new = ⊥
  ExpiryRow expired_segment origin Finish result old new =
      (new ≡ record old { meta = new.meta }) × FinishRow notes notings expired_segment origin result old.meta new.meta
