-- What a turn of a copy counts.
use Rattle.std.proofs.Common.{◌≡◌, sym, ap, subst, refl, ℕ, ◌+◌, slice_get, Some, None, Option, Ok}
use Rattle.tier_base.specs.declared.object_key.ObjectKey.{ObjectKey}
use Rattle.tier_base.specs.declared.plain.State.{State}
use Rattle.tier_base.specs.declared.plain.State.TheVariants.{CopyStarted, CopyFinished, DeleteStarted, DeleteFinished}
use Rattle.object_store.specs.declared.store.Store.{Ghosts as StoreGhosts}
use Rattle.meta_log.specs.declared.log.MetaLog.{Ghosts as MetaGhosts}
use Rattle.meta_log.specs.declared.event_origin.EventOrigin.{EventOrigin}
use Rattle.remote_view.specs.Fold.{EntriesSeen as View, state_of}
use Rattle.copy_task.specs.Copying.{Copied, keys}
use Rattle.copy_task.specs.Turns.{Tiers, StartRow, FinishRow, CheckRow, PutObjectRow, DeleteRow, CopyTurnRow, checked, delete_at, overtaken, put_at}
use Rattle.plain_log.specs.declared.turn.Turn.{Turn}
use Rattle.plain_log.specs.declared.turn.Turn.TheVariants.{Goes as GoesOn, Ends}
use Rattle.copy_task.specs.declared.turn.CopyStep.{CopyStep}
use Rattle.copy_task.specs.declared.turn.CopyStep.TheVariants.{Start, Put, Finish, Check, Delete}
use Rattle.plain_log.specs.declared.answer.Answer.TheVariants.{MetaFault, StoreFault}
use Rattle.partition_world.specs.ActorStates.{copy_outcome}
use Rattle.partition_world.specs.declared.actor_state.Outcome.TheVariants.{Answers}
use Rattle.partition_world.proofs.CountingCalls.{Clear, Counted, still, store_went, meta_went, store_failed, meta_failed}

checked_clear : (copy : Copied) (notes : ℕ) (state : Option State) → Clear (copy_outcome (checked copy notes state))
checked_clear copy notes (Some CopyFinished) = (refl, refl, refl)
checked_clear copy notes (Some DeleteStarted) = (refl, refl, refl)
checked_clear copy notes (Some DeleteFinished) = (refl, refl, refl)
checked_clear copy notes (Some CopyStarted) = (refl, refl, refl)
checked_clear copy notes None = (refl, refl, refl)

overtaken_clear : (notes : ℕ) (state : Option State) → Clear (Answers (overtaken notes state))
overtaken_clear notes None = (refl, refl, refl)
overtaken_clear notes (Some state) = (refl, refl, refl)

deleted_clear : (copy : Copied) (view : View) (n : ℕ) (key : Option ObjectKey) → Clear (copy_outcome (delete_at copy view n key))
deleted_clear copy view n None = overtaken_clear view.notes (state_of copy.id view.entries)
deleted_clear copy view n (Some key) = (refl, refl, refl)

module _ {S M : Type 0} (store : StoreGhosts S) (meta : MetaGhosts M) where
  -- for a turn of the copy that is the same
  counts_as : (turn after : Turn CopyStep) (s s' : S) (m m' : M) → turn ≡ after → Counted store meta (copy_outcome after) s s' m m' → Counted store meta (copy_outcome turn) s s' m m'
  counts_as turn after s s' m m' is k = subst (λ (t : Turn CopyStep). Counted store meta (copy_outcome t) s s' m m') (sym is) k

  start_counts : (copy : Copied) (origin : EventOrigin) (turn : Turn CopyStep) (s s' : S) (m m' : M) → s' ≡ s → StartRow meta.content meta.control copy origin (Ok turn) m m'
      → Counted store meta (copy_outcome turn) s s' m m'
  start_counts copy origin (Ends MetaFault) s s' m m' one w = meta_failed store meta s s' m m' _ w.control.ran one
  start_counts copy origin turn s s' m m' one w =
      counts_as turn (GoesOn (Put 0)) s s' m m' w.0 (meta_went store meta (copy_outcome (GoesOn (Put 0))) s s' m m' _ (refl, refl, refl) w.1.control.ran one)

  finish_counts : (copy : Copied) (origin : EventOrigin) (turn : Turn CopyStep) (s s' : S) (m m' : M) → s' ≡ s → FinishRow meta.content meta.control copy origin (Ok turn) m m'
      → Counted store meta (copy_outcome turn) s s' m m'
  finish_counts copy origin (Ends MetaFault) s s' m m' one w = meta_failed store meta s s' m m' _ w.control.ran one
  finish_counts copy origin turn s s' m m' one w =
      counts_as turn (GoesOn Check) s s' m m' w.0 (meta_went store meta (copy_outcome (GoesOn Check)) s s' m m' _ (refl, refl, refl) w.1.control.ran one)

  check_counts : (copy : Copied) (turn : Turn CopyStep) (before after : View) (s s' : S) (m m' : M) → s' ≡ s → CheckRow meta.content meta.control copy (Ok turn) before after m m'
      → Counted store meta (copy_outcome turn) s s' m m'
  check_counts copy (Ends MetaFault) before after s s' m m' one w = meta_failed store meta s s' m m' _ w.control.ran one
  check_counts copy turn before after s s' m m' one w =
      counts_as turn (checked copy after.notes (state_of copy.id after.entries)) s s' m m' w.0
      (meta_went store meta (copy_outcome (checked copy after.notes (state_of copy.id after.entries))) s s' m m' _ (checked_clear copy after.notes (state_of copy.id after.entries)) w.1.control.ran one)

  put_counts : (copy : Copied) (n : ℕ) (key : Option ObjectKey) (turn : Turn CopyStep) (s s' : S) (m m' : M) → m' ≡ m → PutObjectRow store.content store.control copy n key (Ok turn) s s'
      → Counted store meta (copy_outcome turn) s s' m m'
  put_counts copy n None turn s s' m m' two w =
      let is : turn ≡ GoesOn Finish = cc (w.0) in
      counts_as turn (GoesOn Finish) s s' m m' is (still store meta (copy_outcome (GoesOn Finish)) s s' m m' (refl, refl, refl) w.1 two)
  put_counts copy n (Some key) (Ends StoreFault) s s' m m' two w = store_failed store meta s s' m m' _ w.puts.control.ran two
  put_counts copy n (Some key) turn s s' m m' two w =
      counts_as turn (GoesOn (put_at (n + 1) (slice_get (keys copy) (n + 1)))) s s' m m' w.0
      (store_went store meta (copy_outcome (GoesOn (put_at (n + 1) (slice_get (keys copy) (n + 1))))) s s' m m' _ (refl, refl, refl) w.1.puts.control.ran two)

  delete_counts : (copy : Copied) (view : View) (n : ℕ) (key : Option ObjectKey) (turn : Turn CopyStep) (s s' : S) (m m' : M) → m' ≡ m
      → DeleteRow store.content store.control copy view n key turn s s' → Counted store meta (copy_outcome turn) s s' m m'
  delete_counts copy view n None turn s s' m m' two w =
      counts_as turn (delete_at copy view n None) s s' m m' w.0
      (still store meta (copy_outcome (delete_at copy view n None)) s s' m m' (deleted_clear copy view n None) w.1 two)
  delete_counts copy view n (Some key) (Ends StoreFault) s s' m m' two w = store_failed store meta s s' m m' _ w.control.ran two
  delete_counts copy view n (Some key) turn s s' m m' two w =
      let next = slice_get (keys copy) (n + 1) in
      counts_as turn (delete_at copy view (n + 1) next) s s' m m' w.0
      (store_went store meta (copy_outcome (delete_at copy view (n + 1) next)) s s' m m' _ (deleted_clear copy view (n + 1) next) w.1.control.ran two)

  pub copy_counts : (copy : Copied) (origin : EventOrigin) (next : CopyStep) (turn : Turn CopyStep) (old new : Tiers S M)
      → CopyTurnRow store.content store.control meta.content meta.control copy origin next (Ok turn) old new
      → Counted store meta (copy_outcome turn) old.store new.store old.meta new.meta
  copy_counts copy origin Start turn old new w =
      start_counts copy origin turn old.store new.store old.meta new.meta (ap (λ (t : Tiers S M). t.store) w.0) w.1
  copy_counts copy origin (Put n) turn old new w =
      put_counts copy n (slice_get (keys copy) n) turn old.store new.store old.meta new.meta (ap (λ (t : Tiers S M). t.meta) w.0) w.1
  copy_counts copy origin Finish turn old new w =
      finish_counts copy origin turn old.store new.store old.meta new.meta (ap (λ (t : Tiers S M). t.store) w.0) w.1
  copy_counts copy origin Check turn old new w =
      check_counts copy turn old.view new.view old.store new.store old.meta new.meta w.0 w.1
  copy_counts copy origin (Delete n) turn old new w =
      delete_counts copy old.view n (slice_get (keys copy) n) turn old.store new.store old.meta new.meta (ap (λ (t : Tiers S M). t.meta) w.0) w.1
