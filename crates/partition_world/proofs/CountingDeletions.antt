-- What a turn of an expiry that deletes a remote segment counts.
use Rattle.std.proofs.Common.{◌≡◌, ◌+◌, sym, ap, subst, refl, ℕ, slice_get, Some, None, Option, Ok}
use Rattle.tier_base.specs.declared.object_key.ObjectKey.{ObjectKey}
use Rattle.object_store.specs.declared.store.Store.{Ghosts as StoreGhosts}
use Rattle.meta_log.specs.declared.log.MetaLog.{Ghosts as MetaGhosts}
use Rattle.meta_log.specs.declared.event_origin.EventOrigin.{EventOrigin}
use Rattle.expiry_task.specs.Turns.{Tiers, StartRow, FinishRow, DeleteRow, ExpiryRow, keys, delete_at}
use Rattle.expiry_task.specs.declared.turn.ExpiredSegment.{ExpiredSegment}
use Rattle.plain_log.specs.declared.turn.Turn.{Turn}
use Rattle.plain_log.specs.declared.turn.Turn.TheVariants.{Goes, Ends}
use Rattle.expiry_task.specs.declared.turn.DeletionStep.{DeletionStep}
use Rattle.expiry_task.specs.declared.turn.DeletionStep.TheVariants.{Start, Delete, Finish}
use Rattle.plain_log.specs.declared.answer.Answer.TheVariants.{MetaFault, StoreFault, Deleted}
use Rattle.partition_world.specs.ActorStates.{expiry_outcome}
use Rattle.partition_world.proofs.CountingCalls.{Counted, still, store_went, meta_went, store_failed, meta_failed}

module _ {S M : Type 0} (store : StoreGhosts S) (meta : MetaGhosts M) where
  -- for a turn of the expiry that is the same
  counts_as : (turn after : Turn DeletionStep) (s s' : S) (m m' : M) → turn ≡ after → Counted store meta (expiry_outcome after) s s' m m' → Counted store meta (expiry_outcome turn) s s' m m'
  counts_as turn after s s' m m' is k = subst (λ (t : Turn DeletionStep). Counted store meta (expiry_outcome t) s s' m m') (sym is) k

  start_counts : (expired_segment : ExpiredSegment) (origin : EventOrigin) (turn : Turn DeletionStep) (s s' : S) (m m' : M) → s' ≡ s → StartRow meta.content meta.control expired_segment origin (Ok turn) m m'
      → Counted store meta (expiry_outcome turn) s s' m m'
  start_counts expired_segment origin (Ends MetaFault) s s' m m' one w = meta_failed store meta s s' m m' _ w.control.ran one
  start_counts expired_segment origin turn s s' m m' one w =
      counts_as turn (Goes (Delete 0)) s s' m m' w.0 (meta_went store meta (expiry_outcome (Goes (Delete 0))) s s' m m' _ (refl, refl, refl) w.1.control.ran one)

  finish_counts : (expired_segment : ExpiredSegment) (origin : EventOrigin) (turn : Turn DeletionStep) (s s' : S) (m m' : M) → s' ≡ s → FinishRow meta.content meta.control expired_segment origin (Ok turn) m m'
      → Counted store meta (expiry_outcome turn) s s' m m'
  finish_counts expired_segment origin (Ends MetaFault) s s' m m' one w = meta_failed store meta s s' m m' _ w.control.ran one
  finish_counts expired_segment origin turn s s' m m' one w =
      counts_as turn (Ends (Deleted expired_segment.id)) s s' m m' w.0
      (meta_went store meta (expiry_outcome (Ends (Deleted expired_segment.id))) s s' m m' _ (refl, refl, refl) w.1.control.ran one)

  delete_counts : (expired_segment : ExpiredSegment) (n : ℕ) (key : Option ObjectKey) (turn : Turn DeletionStep) (s s' : S) (m m' : M) → m' ≡ m → DeleteRow store.content store.control expired_segment n key turn s s'
      → Counted store meta (expiry_outcome turn) s s' m m'
  delete_counts expired_segment n None turn s s' m m' two w =
      counts_as turn (Goes Finish) s s' m m' w.0 (still store meta (expiry_outcome (Goes Finish)) s s' m m' (refl, refl, refl) w.1 two)
  delete_counts expired_segment n (Some key) (Ends StoreFault) s s' m m' two w = store_failed store meta s s' m m' _ w.control.ran two
  delete_counts expired_segment n (Some key) turn s s' m m' two w =
      let next = delete_at (n + 1) (slice_get (keys expired_segment) (n + 1)) in
      counts_as turn (Goes next) s s' m m' w.0 (store_went store meta (expiry_outcome (Goes next)) s s' m m' _ (refl, refl, refl) w.1.control.ran two)

  pub expiry_counts : (expired_segment : ExpiredSegment) (origin : EventOrigin) (next : DeletionStep) (turn : Turn DeletionStep) (old new : Tiers S M)
      → ExpiryRow store.content store.control meta.content meta.control expired_segment origin next (Ok turn) old new
      → Counted store meta (expiry_outcome turn) old.store new.store old.meta new.meta
  expiry_counts expired_segment origin Start turn old new w =
      start_counts expired_segment origin turn old.store new.store old.meta new.meta (ap (λ (t : Tiers S M). t.store) w.0) w.1
  expiry_counts expired_segment origin (Delete n) turn old new w =
      delete_counts expired_segment n (slice_get (keys expired_segment) n) turn old.store new.store old.meta new.meta (ap (λ (t : Tiers S M). t.meta) w.0) w.1
  expiry_counts expired_segment origin Finish turn old new w =
      finish_counts expired_segment origin turn old.store new.store old.meta new.meta (ap (λ (t : Tiers S M). t.store) w.0) w.1
