-- That each turn of a copy and of an expiry is changes of the tier.
--
-- The tier shows what a store and a metadata log report, a broker's view, and the state of the command. A turn whose
-- row holds leaves a tier that changes lead to: where its call went, where it failed, done or not, and where memory
-- runs out.
use Rattle.std.specs.Prelude.{◌≡◌, ℕ, ◌^◌, ◌<◌, List, length, Some, Ok, Err, slice_get, slice_set, IsTrue}
use Rattle.std.specs.declared.result.Result.{Result}
use Rattle.std.specs.declared.alloc.AllocError.{AllocError}
use Rattle.tier_base.specs.Device.{Control}
use Rattle.segment_meta.specs.declared.note.Note.{Note}
use Rattle.object_store.specs.Call as store_call
use Rattle.object_store.specs.Content as store
use Rattle.meta_log.specs.Call as meta_call
use Rattle.meta_log.specs.Content as meta
use Rattle.meta_log.specs.declared.event_origin.EventOrigin.{EventOrigin}
use Rattle.plain_log.specs.declared.state.State.{State as Plain}
use Rattle.remote_view.specs.Fold.{EntriesSeen, view_of}
use Rattle.view_refresh.specs.Refreshing.{Refreshes, Advances}
use Rattle.copy_task.specs.Copying.{Copied}
use Rattle.copy_task.specs.Turns as copy
use Rattle.copy_task.specs.declared.turn.CopyStep.{CopyStep as CopyNext}
use Rattle.plain_log.specs.declared.turn.Turn.{Turn}
use Rattle.plain_log.specs.declared.turn.Turn.TheVariants.{Goes, Ends}
use Rattle.expiry_task.specs.Turns as expiry
use Rattle.expiry_task.specs.declared.turn.ExpiredSegment.{ExpiredSegment}
use Rattle.expiry_task.specs.declared.turn.DeletionStep.{DeletionStep as ExpiryNext}
use Rattle.tier_safe.specs.Scene.{BrokerTierView, TierTask, Free, Copies, Expires, Scene}
use Rattle.tier_safe.specs.May.{IsChanged}
use Rattle.tier_safe.specs.Safe.{TierSafe}

-- the tier has what a store and a metadata log report, the view of broker b, and what actor a's state keeps
pub record ShowsScene (c : Scene) (a b : ℕ) (tier_view : BrokerTierView) (tier_task : TierTask)
    (objects : store.Content) (notes : meta.Content) (view : EntriesSeen)
    : Type 0 where
  pub objects_are : c.objects ≡ objects.objects
  pub notes_are : c.notes ≡ notes.notes
  pub store_tells : IsTrue objects.is_observable
  pub meta_tells : IsTrue notes.is_observable
  pub tier_view_is : slice_get c.tier_views b ≡ Some tier_view
  pub view_is : tier_view.view ≡ view
  pub actor_state : slice_get c.desk a ≡ Some tier_task

-- the tier after a turn of the command in that actor's state
abbrev pub after_turn : Scene → ℕ → ℕ → BrokerTierView → TierTask → store.Objects → List Note → EntriesSeen → Scene
after_turn c a b tier_view tier_task objects notes view = record {
  partition = c.partition;
  objects = objects;
  notes = notes;
  tier_views = slice_set c.tier_views b (record tier_view { view = view });
  desk = slice_set c.desk a tier_task;
}

-- what a copy's actor's state has after a turn
abbrev pub copy_tier_task : Copied → Turn CopyNext → TierTask
copy_tier_task copied (Goes next) = Copies copied next
copy_tier_task copied (Ends answer) = Free

-- after one that may have run out of memory, and then changed nothing
abbrev pub copy_after : Copied → CopyNext → Result (Turn CopyNext) AllocError → TierTask
copy_after copied next (Ok turn) = copy_tier_task copied turn
copy_after copied next (Err e) = Copies copied next

-- what an expiry's actor's state has after a turn
abbrev pub expiry_tier_task : ExpiredSegment → Turn ExpiryNext → TierTask
expiry_tier_task expired_segment (Goes next) = Expires expired_segment next
expiry_tier_task expired_segment (Ends answer) = Free

-- after one that may have run out of memory
abbrev pub expiry_after : ExpiredSegment → ExpiryNext → Result (Turn ExpiryNext) AllocError → TierTask
expiry_after expired_segment next (Ok turn) = expiry_tier_task expired_segment turn
expiry_after expired_segment next (Err e) = Expires expired_segment next

module _ {M : Type 0} (notes : M → meta.Content) where
  -- a refresh of a broker's view is changes, and the view has all metadata events then
  abbrev pub RefreshesChange : Type 0
  RefreshesChange = (old : M) (view : EntriesSeen) (c : Scene) (p : Plain) (a b : ℕ) (tier_view : BrokerTierView)
      (tier_task : TierTask) (objects : store.Content)
      → ShowsScene c a b tier_view tier_task objects (notes old) tier_view.view → length c.notes < 2 ^ 64 → TierSafe c p
      → Refreshes (notes old) tier_view.view view
      → (view ≡ view_of c.notes) × IsChanged c p (after_turn c a b tier_view tier_task c.objects c.notes view)

  -- so is one that ran out of memory
  abbrev pub HaltsChange : Type 0
  HaltsChange = (old : M) (view : EntriesSeen) (c : Scene) (p : Plain) (a b : ℕ) (tier_view : BrokerTierView)
      (tier_task : TierTask) (objects : store.Content)
      → ShowsScene c a b tier_view tier_task objects (notes old) tier_view.view → length c.notes < 2 ^ 64 → TierSafe c p
      → Advances (notes old) tier_view.view view
      → IsChanged c p (after_turn c a b tier_view tier_task c.objects c.notes view)

module _ {S M : Type 0} (objects : S → store.Content) (calls : S → Control store_call.call_code)
    (notes : M → meta.Content) (notings : M → Control meta_call.call_code) where
  -- each turn of a copy is changes
  abbrev pub CopyTurnsChange : Type 0
  CopyTurnsChange =
      (copied : Copied) (origin : EventOrigin) (next : CopyNext) (result : Result (Turn CopyNext) AllocError)
      (old new : copy.Tiers S M) (c : Scene) (p : Plain) (a b : ℕ) (tier_view : BrokerTierView)
      → copy.CopyTurnRow objects calls notes notings copied origin next result old new
      → ShowsScene c a b tier_view (Copies copied next) (objects old.store) (notes old.meta) old.view
      → length c.notes < 2 ^ 64 → TierSafe c p
      → IsChanged c p (after_turn c a b tier_view (copy_after copied next result)
      (objects new.store).objects (notes new.meta).notes new.view)

  -- each turn of an expiry is
  abbrev pub ExpiryTurnsChange : Type 0
  ExpiryTurnsChange =
      (expired_segment : ExpiredSegment) (origin : EventOrigin) (next : ExpiryNext)
      (result : Result (Turn ExpiryNext) AllocError) (old new : expiry.Tiers S M)
      (c : Scene) (p : Plain) (a b : ℕ) (tier_view : BrokerTierView)
      → expiry.ExpiryRow objects calls notes notings expired_segment origin next result old new
      → ShowsScene c a b tier_view (Expires expired_segment next) (objects old.store) (notes old.meta) tier_view.view
      → TierSafe c p
      → IsChanged c p (after_turn c a b tier_view (expiry_after expired_segment next result)
      (objects new.store).objects (notes new.meta).notes tier_view.view)
