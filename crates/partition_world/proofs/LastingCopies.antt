-- A turn of a copy: the devices last, and one has failed where a fault is reported.
use Rattle.std.proofs.Common.{◌≡◌, sym, ap, subst, refl, ℕ, ◌+◌, slice_get, Some, None, Option, Ok}
use Rattle.tier_base.specs.declared.object_key.ObjectKey.{ObjectKey}
use Rattle.tier_base.specs.declared.plain.State.{State}
use Rattle.tier_base.specs.declared.plain.State.TheVariants.{CopyStarted, CopyFinished, DeleteStarted, DeleteFinished}
use Rattle.object_store.specs.declared.store.Store.{Ghosts as StoreGhosts}
use Rattle.meta_log.specs.declared.log.MetaLog.{Ghosts as MetaGhosts}
use Rattle.meta_log.specs.declared.event_origin.EventOrigin.{EventOrigin}
use Rattle.remote_view.specs.Fold.{EntriesSeen as View, state_of}
use Rattle.copy_task.specs.Copying.{Copied, keys}
use Rattle.copy_task.specs.Turns.{Tiers, StartRow, FinishRow, CheckRow, PutObjectRow, DeleteRow, CopyTurnRow, checked, delete_at, overtaken}
use Rattle.plain_log.specs.declared.turn.Turn.{Turn}
use Rattle.plain_log.specs.declared.turn.Turn.TheVariants.{Goes as GoesOn, Ends}
use Rattle.copy_task.specs.declared.turn.CopyStep.{CopyStep}
use Rattle.copy_task.specs.declared.turn.CopyStep.TheVariants.{Start, Put, Finish, Check, Delete}
use Rattle.plain_log.specs.declared.answer.Answer.TheVariants.{MetaFault, StoreFault}
use Rattle.partition_world.specs.ActorStates.{copy_outcome}
use Rattle.partition_commands.proofs.Told.{Told}
use Rattle.partition_world.proofs.TurnsTold.{TurnTold, StoreLasts, StoreRose, MetaLasts, MetaRose, store_same, meta_same, store_ran, meta_ran}

module _ (A B : Type 0) where
  checked_told : (C E : Type 0) (copy : Copied) (notes : ℕ) (state : Option State) → TurnTold A B C E (copy_outcome (checked copy notes state))
  checked_told C E copy notes (Some CopyFinished) = tt
  checked_told C E copy notes (Some DeleteStarted) = tt
  checked_told C E copy notes (Some DeleteFinished) = tt
  checked_told C E copy notes (Some CopyStarted) = tt
  checked_told C E copy notes None = tt

  overtaken_told : (C E : Type 0) (notes : ℕ) (state : Option State) → Told A B C E (overtaken notes state)
  overtaken_told C E notes None = tt
  overtaken_told C E notes (Some state) = tt

  deleted_told : (C E : Type 0) (copy : Copied) (view : View) (n : ℕ) (key : Option ObjectKey) → TurnTold A B C E (copy_outcome (delete_at copy view n key))
  deleted_told C E copy view n None = overtaken_told C E view.notes (state_of copy.id view.entries)
  deleted_told C E copy view n (Some key) = tt

  module _ {S M : Type 0} (store : StoreGhosts S) (meta : MetaGhosts M) where
    start_lasts : (C : Type 0) (copy : Copied) (origin : EventOrigin) (turn : Turn CopyStep) (old new : M) → StartRow meta.content meta.control copy origin (Ok turn) old new
        → MetaLasts meta old new × TurnTold A B C (MetaRose meta old new) (copy_outcome turn)
    start_lasts C copy origin (Ends MetaFault) old new w = (meta_ran meta _ _ old new w.control.ran, w.control.ran.cause refl)
    start_lasts C copy origin turn old new w =
        (meta_ran meta _ _ old new w.1.control.ran, subst (λ (t : Turn CopyStep). TurnTold A B C (MetaRose meta old new) (copy_outcome t)) (sym w.0) tt)

    finish_lasts : (C : Type 0) (copy : Copied) (origin : EventOrigin) (turn : Turn CopyStep) (old new : M) → FinishRow meta.content meta.control copy origin (Ok turn) old new
        → MetaLasts meta old new × TurnTold A B C (MetaRose meta old new) (copy_outcome turn)
    finish_lasts C copy origin (Ends MetaFault) old new w = (meta_ran meta _ _ old new w.control.ran, w.control.ran.cause refl)
    finish_lasts C copy origin turn old new w =
        (meta_ran meta _ _ old new w.1.control.ran, subst (λ (t : Turn CopyStep). TurnTold A B C (MetaRose meta old new) (copy_outcome t)) (sym w.0) tt)

    check_lasts : (C : Type 0) (copy : Copied) (turn : Turn CopyStep) (before after : View) (old new : M) → CheckRow meta.content meta.control copy (Ok turn) before after old new
        → MetaLasts meta old new × TurnTold A B C (MetaRose meta old new) (copy_outcome turn)
    check_lasts C copy (Ends MetaFault) before after old new w = (meta_ran meta _ _ old new w.control.ran, w.control.ran.cause refl)
    check_lasts C copy turn before after old new w = (
      meta_ran meta _ _ old new w.1.control.ran,
      subst (λ (t : Turn CopyStep). TurnTold A B C (MetaRose meta old new) (copy_outcome t)) (sym w.0)
          (checked_told C (MetaRose meta old new) copy after.notes (state_of copy.id after.entries)),
    )

    put_lasts : (E : Type 0) (copy : Copied) (n : ℕ) (key : Option ObjectKey) (turn : Turn CopyStep) (old new : S) → PutObjectRow store.content store.control copy n key (Ok turn) old new
        → StoreLasts store old new × TurnTold A B (StoreRose store old new) E (copy_outcome turn)
    put_lasts E copy n None turn old new w =
        let is : turn ≡ GoesOn Finish = cc (w.0) in
        (store_same store old new w.1, subst (λ (t : Turn CopyStep). TurnTold A B (StoreRose store old new) E (copy_outcome t)) (sym is) tt)
    put_lasts E copy n (Some key) (Ends StoreFault) old new w = (store_ran store _ _ old new w.puts.control.ran, w.puts.control.ran.cause refl)
    put_lasts E copy n (Some key) turn old new w =
        (store_ran store _ _ old new w.1.puts.control.ran, subst (λ (t : Turn CopyStep). TurnTold A B (StoreRose store old new) E (copy_outcome t)) (sym w.0) tt)

    delete_lasts : (E : Type 0) (copy : Copied) (view : View) (n : ℕ) (key : Option ObjectKey) (turn : Turn CopyStep) (old new : S) → DeleteRow store.content store.control copy view n key turn old new
        → StoreLasts store old new × TurnTold A B (StoreRose store old new) E (copy_outcome turn)
    delete_lasts E copy view n None turn old new w = (
      store_same store old new w.1,
      subst (λ (t : Turn CopyStep). TurnTold A B (StoreRose store old new) E (copy_outcome t)) (sym w.0) (deleted_told (StoreRose store old new) E copy view n None),
    )
    delete_lasts E copy view n (Some key) (Ends StoreFault) old new w = (store_ran store _ _ old new w.control.ran, w.control.ran.cause refl)
    delete_lasts E copy view n (Some key) turn old new w = (
      store_ran store _ _ old new w.1.control.ran,
      subst (λ (t : Turn CopyStep). TurnTold A B (StoreRose store old new) E (copy_outcome t)) (sym w.0)
          (deleted_told (StoreRose store old new) E copy view (n + 1) (slice_get (keys copy) (n + 1))),
    )

    pub copy_lasts : (copy : Copied) (origin : EventOrigin) (next : CopyStep) (turn : Turn CopyStep) (old new : Tiers S M)
        → CopyTurnRow store.content store.control meta.content meta.control copy origin next (Ok turn) old new
        → StoreLasts store old.store new.store × MetaLasts meta old.meta new.meta
        × TurnTold A B (StoreRose store old.store new.store) (MetaRose meta old.meta new.meta) (copy_outcome turn)
    copy_lasts copy origin Start turn old new w =
        let k = start_lasts (StoreRose store old.store new.store) copy origin turn old.meta new.meta w.1 in
        (store_same store old.store new.store (ap (λ (t : Tiers S M). t.store) w.0), k.0, k.1)
    copy_lasts copy origin (Put n) turn old new w =
        let k = put_lasts (MetaRose meta old.meta new.meta) copy n (slice_get (keys copy) n) turn old.store new.store w.1 in
        (k.0, meta_same meta old.meta new.meta (ap (λ (t : Tiers S M). t.meta) w.0), k.1)
    copy_lasts copy origin Finish turn old new w =
        let k = finish_lasts (StoreRose store old.store new.store) copy origin turn old.meta new.meta w.1 in
        (store_same store old.store new.store (ap (λ (t : Tiers S M). t.store) w.0), k.0, k.1)
    copy_lasts copy origin Check turn old new w =
        let k = check_lasts (StoreRose store old.store new.store) copy turn old.view new.view old.meta new.meta w.1 in
        (store_same store old.store new.store w.0, k.0, k.1)
    copy_lasts copy origin (Delete n) turn old new w =
        let k = delete_lasts (MetaRose meta old.meta new.meta) copy old.view n (slice_get (keys copy) n) turn old.store new.store w.1 in
        (k.0, meta_same meta old.meta new.meta (ap (λ (t : Tiers S M). t.meta) w.0), k.1)
