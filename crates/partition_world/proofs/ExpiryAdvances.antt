-- Each turn of an expiry leaves fewer.
use Rattle.std.proofs.Common.{◌≡◌, refl, ℕ, ◌+◌, ◌<◌, ◌≤◌, slice_get, Some, None, Option, Ok, arith}
use Rattle.std.specs.Prelude.{min}
use Rattle.tier_base.specs.declared.object_key.ObjectKey.{ObjectKey}
use Rattle.object_store.specs.declared.store.Store.{Ghosts as StoreGhosts}
use Rattle.meta_log.specs.declared.log.MetaLog.{Ghosts as MetaGhosts}
use Rattle.meta_log.specs.declared.event_origin.EventOrigin.{EventOrigin}
use Rattle.expiry_task.specs.Turns.{Tiers, DeleteRow, ExpiryRow, keys, delete_at}
use Rattle.expiry_task.specs.declared.turn.ExpiredSegment.{ExpiredSegment}
use Rattle.plain_log.specs.declared.turn.Turn.TheVariants.{Goes as GoesOn}
use Rattle.expiry_task.specs.declared.turn.DeletionStep.{DeletionStep}
use Rattle.expiry_task.specs.declared.turn.DeletionStep.TheVariants.{Start, Delete, Finish}
use Rattle.tier_safe.proofs.Basics.{key_low}

-- how many an expiry has taken at most that does this next
abbrev pub deleting_before : DeletionStep → ℕ
deleting_before Start = 2
deleting_before (Delete n) = 3 + min n 4
deleting_before Finish = 8

pub few_deleting : (next : DeletionStep) → deleting_before next ≤ 13
few_deleting Start = omega arith
few_deleting (Delete n) = omega arith
few_deleting Finish = omega arith

-- an expiry continues with a later turn
to : (before next after : DeletionStep) → GoesOn next ≡ GoesOn after → deleting_before before < deleting_before after → deleting_before before < deleting_before next
to before next after is lt = let e : next ≡ after = cc in rw e lt

delete_advances : (expired_segment : ExpiredSegment) (n : ℕ) (key : Option ObjectKey) (next : DeletionStep) → slice_get (keys expired_segment) (n + 1) ≡ key → GoesOn next ≡ GoesOn (delete_at (n + 1) key)
    → deleting_before (Delete n) < deleting_before next
delete_advances expired_segment n None next at is = to (Delete n) next Finish is (omega arith)
delete_advances expired_segment n (Some key) next at is = let low = key_low expired_segment.partition expired_segment.id expired_segment.packed (n + 1) key at in to (Delete n) next (Delete (n + 1)) is (omega (arith, low))

module _ {S M : Type 0} (store : StoreGhosts S) (meta : MetaGhosts M) where
  delete_row : (expired_segment : ExpiredSegment) (n : ℕ) (key : Option ObjectKey) (next : DeletionStep) (old new : S) → DeleteRow store.content store.control expired_segment n key (GoesOn next) old new
      → deleting_before (Delete n) < deleting_before next
  delete_row expired_segment n None next old new w = to (Delete n) next Finish w.0 (omega arith)
  delete_row expired_segment n (Some key) next old new w = delete_advances expired_segment n (slice_get (keys expired_segment) (n + 1)) next refl w.0

  pub expiry_advances : (expired_segment : ExpiredSegment) (origin : EventOrigin) (before next : DeletionStep) (old new : Tiers S M)
      → ExpiryRow store.content store.control meta.content meta.control expired_segment origin before (Ok (GoesOn next)) old new → deleting_before before < deleting_before next
  expiry_advances expired_segment origin Start next old new w = to Start next (Delete 0) w.1.0 (omega arith)
  expiry_advances expired_segment origin (Delete n) next old new w = delete_row expired_segment n (slice_get (keys expired_segment) n) next old.store new.store w.1
  expiry_advances expired_segment origin Finish next old new w = let e = w.1.0 in absurd (cc (e))
