-- What each turn of a copy does, from the one on that follows the choice of its segment.
--
--   turn      does                                answers
--   Start     appends the event that it starts     MetaFault
--   Put       puts an object                      StoreFault
--   Finish    appends the event that it is whole   MetaFault
--   Check     refreshes the view                  Copied, MetaFault, Damaged
--   Delete    takes an object away                Overtaken, StoreFault, Damaged
--
-- The objects are put in the order of their keys, of which a packed segment has one. A copy that finds its entry's
-- deletion begun takes all of its objects away again, in the same order. It keeps no state: it answers the one that
-- its entry has in its broker's view then.
--
-- Source: KIP-405, where a segment's metadata is added as started, its objects are copied, and the metadata is
-- updated as finished.
use Rattle.std.specs.Prelude.{◌≡◌, ◌⊎◌, ℕ, ◌+◌, false, Option, Some, None, slice_get, Ok, Err}
use Rattle.std.specs.declared.result.Result.{Result}
use Rattle.std.specs.declared.alloc.AllocError.{AllocError}
use Rattle.tier_base.specs.declared.plain.Part.{Part}
use Rattle.tier_base.specs.declared.plain.State.{State}
use Rattle.tier_base.specs.declared.plain.State.TheVariants.{CopyStarted, CopyFinished, DeleteStarted, DeleteFinished}
use Rattle.tier_base.specs.declared.object_key.ObjectKey.{ObjectKey}
use Rattle.tier_base.specs.Device.{Control, Fate, Went, Fault, Dry}
use Rattle.segment_bundle.specs.Parts.{part_in}
use Rattle.object_store.specs.Call as store_call
use Rattle.object_store.specs.Content as store
use Rattle.object_store.specs.Calls.{PutsObject, DeletesObject}
use Rattle.object_store.specs.Place.{whole, spot_of}
use Rattle.meta_log.specs.Call as meta_call
use Rattle.meta_log.specs.Calls.{AppendsToMetaLog}
use Rattle.meta_log.specs.Content as meta
use Rattle.remote_view.specs.Fold.{EntriesSeen, state_of}
use Rattle.view_refresh.specs.Refreshing.{Refreshed, Unread, Halted}
use Rattle.plain_log.specs.declared.answer.Answer.{Answer}
use Rattle.plain_log.specs.declared.answer.Answer.TheVariants.{MetaFault, StoreFault, Damaged, CopiedSegment, Overtaken}
use Rattle.plain_log.specs.declared.answer.Place.TheVariants.{Meta}
use Rattle.copy_task.specs.Copying.{Copied, keys, start_note, finish_note}
use Rattle.plain_log.specs.declared.turn.Turn.{Turn}
use Rattle.plain_log.specs.declared.turn.Turn.TheVariants.{Goes, Ends}
use Rattle.meta_log.specs.declared.event_origin.EventOrigin.{EventOrigin}
use Rattle.copy_task.specs.declared.turn.CopyStep.{CopyStep}
use Rattle.copy_task.specs.declared.turn.CopyStep.TheVariants.{Start, Put, Finish, Check, Delete}

-- the turn that puts the object of a number, where it has a key, or the one after the last
abbrev pub put_at : ℕ → Option ObjectKey → CopyStep
put_at n None = Finish
put_at n (Some key) = Put n

-- what a copy that took its objects away answers, by the state of its entry in a view of so many events: an entry that
-- is missing is damage of the metadata log
abbrev pub overtaken : ℕ → Option State → Answer
overtaken notes None = Damaged Meta notes
overtaken notes (Some state) = Overtaken state

-- the turn that takes the object of a number away, where it has a key, or the answer after the last
abbrev pub delete_at : Copied → EntriesSeen → ℕ → Option ObjectKey → Turn CopyStep
delete_at copy view n None = Ends (overtaken view.notes (state_of copy.id view.entries))
delete_at copy view n (Some key) = Goes (Delete n)

-- what a refreshed view of so many events says of a copy, by the state of its entry: an entry that is missing, or that
-- isn't finished yet, is damage of the metadata log
abbrev pub checked : Copied → ℕ → Option State → Turn CopyStep
checked copy notes (Some CopyFinished) = Ends (CopiedSegment copy.id copy.segment.base copy.segment.last)
checked copy notes (Some DeleteStarted) = Goes (Delete 0)
checked copy notes (Some DeleteFinished) = Goes (Delete 0)
checked copy notes (Some CopyStarted) = Ends (Damaged Meta notes)
checked copy notes None = Ends (Damaged Meta notes)

module _ {M : Type 0} (notes : M → meta.Content) (calls : M → Control meta_call.call_code) where
  -- the copy starts
  abbrev pub StartRow : Copied → EventOrigin → Result (Turn CopyStep) AllocError → M → M → Type 0
  StartRow copy origin (Ok (Ends MetaFault)) old new =
      AppendsToMetaLog notes calls (start_note copy origin) Fault old new
  StartRow copy origin (Ok turn) old new =
      (turn ≡ Goes (Put 0)) × AppendsToMetaLog notes calls (start_note copy origin) Went old new
  StartRow copy origin (Err e) old new = (new ≡ old) ⊎ AppendsToMetaLog notes calls (start_note copy origin) Dry old new

  -- it is whole
  abbrev pub FinishRow : Copied → EventOrigin → Result (Turn CopyStep) AllocError → M → M → Type 0
  FinishRow copy origin (Ok (Ends MetaFault)) old new =
      AppendsToMetaLog notes calls (finish_note copy origin) Fault old new
  FinishRow copy origin (Ok turn) old new =
      (turn ≡ Goes Check) × AppendsToMetaLog notes calls (finish_note copy origin) Went old new
  FinishRow copy origin (Err e) old new =
      (new ≡ old) ⊎ AppendsToMetaLog notes calls (finish_note copy origin) Dry old new

  -- the state of its entry
  abbrev pub CheckRow : Copied → Result (Turn CopyStep) AllocError → EntriesSeen → EntriesSeen → M → M → Type 0
  CheckRow copy (Ok (Ends MetaFault)) before after old new = Unread notes calls before after old new
  CheckRow copy (Ok turn) before after old new =
      (turn ≡ checked copy after.notes (state_of copy.id after.entries)) × Refreshed notes calls before after old new
  CheckRow copy (Err e) before after old new = Halted notes calls before after old new

module _ {S : Type 0} (objects : S → store.Content) (calls : S → Control store_call.call_code) where
  -- an object is put under a key: the part that is there
  pub record PutsUnder (copy : Copied) (key : ObjectKey) (fate : Fate) (old new : S) : Type 0 where
    pub part : Part
    pub place : spot_of copy.partition copy.id false None part ≡ Some (whole key)
    pub puts : PutsObject objects calls key (part_in copy.parts part) fate old new

  -- the object of a number is put, where it has a key
  abbrev pub PutObjectRow : Copied → ℕ → Option ObjectKey → Result (Turn CopyStep) AllocError → S → S → Type 0
  PutObjectRow copy n None result old new = (result ≡ Ok (Goes Finish)) × (new ≡ old)
  PutObjectRow copy n (Some key) (Ok (Ends StoreFault)) old new = PutsUnder copy key Fault old new
  PutObjectRow copy n (Some key) (Ok turn) old new =
      (turn ≡ Goes (put_at (n + 1) (slice_get (keys copy) (n + 1)))) × PutsUnder copy key Went old new
  PutObjectRow copy n (Some key) (Err e) old new = (new ≡ old) ⊎ PutsUnder copy key Dry old new

  -- the object of a number is taken away, where it has a key
  abbrev pub DeleteRow : Copied → EntriesSeen → ℕ → Option ObjectKey → Turn CopyStep → S → S → Type 0
  DeleteRow copy view n None turn old new = (turn ≡ delete_at copy view n None) × (new ≡ old)
  DeleteRow copy view n (Some key) (Ends StoreFault) old new = DeletesObject objects calls key Fault old new
  DeleteRow copy view n (Some key) turn old new =
      (turn ≡ delete_at copy view (n + 1) (slice_get (keys copy) (n + 1)))
      × DeletesObject objects calls key Went old new

-- what a copy's turns change: its broker's view, the store and the metadata log
pub record Tiers (S M : Type 0) : Type 0 where
  pub view : EntriesSeen
  pub store : S
  pub meta : M

module _ {S M : Type 0} (objects : S → store.Content) (calls : S → Control store_call.call_code)
    (notes : M → meta.Content) (notings : M → Control meta_call.call_code) where
  -- a turn of a copy, by what was next: what it came to, or that it ran out of memory
  abbrev pub CopyTurnRow : Copied → EventOrigin → CopyStep → Result (Turn CopyStep) AllocError → Tiers S M → Tiers S M
      → Type 0
  CopyTurnRow copy origin Start result old new =
      (new ≡ record old { meta = new.meta }) × StartRow notes notings copy origin result old.meta new.meta
  CopyTurnRow copy origin (Put n) result old new =
      (new ≡ record old { store = new.store })
      × PutObjectRow objects calls copy n (slice_get (keys copy) n) result old.store new.store
  CopyTurnRow copy origin Finish result old new =
      (new ≡ record old { meta = new.meta }) × FinishRow notes notings copy origin result old.meta new.meta
  CopyTurnRow copy origin Check result old new =
      (new.store ≡ old.store) × CheckRow notes notings copy result old.view new.view old.meta new.meta
  CopyTurnRow copy origin (Delete n) (Ok turn) old new =
      (new ≡ record old { store = new.store })
      × DeleteRow objects calls copy old.view n (slice_get (keys copy) n) turn old.store new.store
  CopyTurnRow copy origin (Delete n) (Err e) old new = ⊥
