-- A turn of an expiry that deletes a remote segment: the devices last, and one has failed where a fault is reported.
use Rattle.std.proofs.Common.{sym, ap, subst, refl, ℕ, slice_get, Some, None, Option, Ok}
use Rattle.tier_base.specs.declared.object_key.ObjectKey.{ObjectKey}
use Rattle.object_store.specs.declared.store.Store.{Ghosts as StoreGhosts}
use Rattle.meta_log.specs.declared.log.MetaLog.{Ghosts as MetaGhosts}
use Rattle.meta_log.specs.declared.event_origin.EventOrigin.{EventOrigin}
use Rattle.expiry_task.specs.Turns.{Tiers, StartRow, FinishRow, DeleteRow, ExpiryRow, keys}
use Rattle.expiry_task.specs.declared.turn.ExpiredSegment.{ExpiredSegment}
use Rattle.plain_log.specs.declared.turn.Turn.{Turn}
use Rattle.plain_log.specs.declared.turn.Turn.TheVariants.{Ends}
use Rattle.expiry_task.specs.declared.turn.DeletionStep.{DeletionStep}
use Rattle.expiry_task.specs.declared.turn.DeletionStep.TheVariants.{Start, Delete, Finish}
use Rattle.plain_log.specs.declared.answer.Answer.TheVariants.{MetaFault, StoreFault}
use Rattle.partition_world.specs.ActorStates.{expiry_outcome}
use Rattle.partition_world.proofs.TurnsTold.{TurnTold, StoreLasts, StoreRose, MetaLasts, MetaRose, store_same, meta_same, store_ran, meta_ran}

module _ (A B : Type 0) {S M : Type 0} (store : StoreGhosts S) (meta : MetaGhosts M) where
  start_lasts : (C : Type 0) (expired_segment : ExpiredSegment) (origin : EventOrigin) (turn : Turn DeletionStep) (old new : M) → StartRow meta.content meta.control expired_segment origin (Ok turn) old new
      → MetaLasts meta old new × TurnTold A B C (MetaRose meta old new) (expiry_outcome turn)
  start_lasts C expired_segment origin (Ends MetaFault) old new w = (meta_ran meta _ _ old new w.control.ran, w.control.ran.cause refl)
  start_lasts C expired_segment origin turn old new w =
      (meta_ran meta _ _ old new w.1.control.ran, subst (λ (t : Turn DeletionStep). TurnTold A B C (MetaRose meta old new) (expiry_outcome t)) (sym w.0) tt)

  finish_lasts : (C : Type 0) (expired_segment : ExpiredSegment) (origin : EventOrigin) (turn : Turn DeletionStep) (old new : M) → FinishRow meta.content meta.control expired_segment origin (Ok turn) old new
      → MetaLasts meta old new × TurnTold A B C (MetaRose meta old new) (expiry_outcome turn)
  finish_lasts C expired_segment origin (Ends MetaFault) old new w = (meta_ran meta _ _ old new w.control.ran, w.control.ran.cause refl)
  finish_lasts C expired_segment origin turn old new w =
      (meta_ran meta _ _ old new w.1.control.ran, subst (λ (t : Turn DeletionStep). TurnTold A B C (MetaRose meta old new) (expiry_outcome t)) (sym w.0) tt)

  delete_lasts : (E : Type 0) (expired_segment : ExpiredSegment) (n : ℕ) (key : Option ObjectKey) (turn : Turn DeletionStep) (old new : S) → DeleteRow store.content store.control expired_segment n key turn old new
      → StoreLasts store old new × TurnTold A B (StoreRose store old new) E (expiry_outcome turn)
  delete_lasts E expired_segment n None turn old new w =
      (store_same store old new w.1, subst (λ (t : Turn DeletionStep). TurnTold A B (StoreRose store old new) E (expiry_outcome t)) (sym w.0) tt)
  delete_lasts E expired_segment n (Some key) (Ends StoreFault) old new w = (store_ran store _ _ old new w.control.ran, w.control.ran.cause refl)
  delete_lasts E expired_segment n (Some key) turn old new w =
      (store_ran store _ _ old new w.1.control.ran, subst (λ (t : Turn DeletionStep). TurnTold A B (StoreRose store old new) E (expiry_outcome t)) (sym w.0) tt)

  pub expiry_lasts : (expired_segment : ExpiredSegment) (origin : EventOrigin) (next : DeletionStep) (turn : Turn DeletionStep) (old new : Tiers S M)
      → ExpiryRow store.content store.control meta.content meta.control expired_segment origin next (Ok turn) old new
      → StoreLasts store old.store new.store × MetaLasts meta old.meta new.meta
      × TurnTold A B (StoreRose store old.store new.store) (MetaRose meta old.meta new.meta) (expiry_outcome turn)
  expiry_lasts expired_segment origin Start turn old new w =
      let k = start_lasts (StoreRose store old.store new.store) expired_segment origin turn old.meta new.meta w.1 in
      (store_same store old.store new.store (ap (λ (t : Tiers S M). t.store) w.0), k.0, k.1)
  expiry_lasts expired_segment origin (Delete n) turn old new w =
      let k = delete_lasts (MetaRose meta old.meta new.meta) expired_segment n (slice_get (keys expired_segment) n) turn old.store new.store w.1 in
      (k.0, meta_same meta old.meta new.meta (ap (λ (t : Tiers S M). t.meta) w.0), k.1)
  expiry_lasts expired_segment origin Finish turn old new w =
      let k = finish_lasts (StoreRose store old.store new.store) expired_segment origin turn old.meta new.meta w.1 in
      (store_same store old.store new.store (ap (λ (t : Tiers S M). t.store) w.0), k.0, k.1)
