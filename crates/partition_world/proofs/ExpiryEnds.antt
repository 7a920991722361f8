-- What a turn of an expiry may be answered, that its devices continue to report, and what one that ran out of memory
-- leaves.
use Rattle.std.proofs.Common.{◌≡◌, ◌∙◌, ap, refl, ℕ, slice_get, Some, None, Option, Ok, Err, Bool, IsTrue}
use Rattle.std.specs.declared.alloc.AllocError.{AllocError}
use Rattle.tier_base.specs.Device.{Dry}
use Rattle.tier_base.specs.declared.object_key.ObjectKey.{ObjectKey}
use Rattle.object_store.specs.declared.store.Store.{Ghosts as StoreGhosts}
use Rattle.segment_meta.specs.declared.note.Note.{Note}
use Rattle.meta_log.specs.declared.log.MetaLog.{Ghosts as MetaGhosts}
use Rattle.meta_log.specs.declared.event_origin.EventOrigin.{EventOrigin}
use Rattle.meta_log.specs.Calls.{AppendsToMetaLog}
use Rattle.meta_log.specs.Content.{appended_if}
use Rattle.expiry_task.specs.Turns.{Tiers, StartRow, FinishRow, DeleteRow, ExpiryRow, keys}
use Rattle.expiry_task.specs.declared.turn.ExpiredSegment.{ExpiredSegment}
use Rattle.plain_log.specs.declared.turn.Turn.{Turn}
use Rattle.plain_log.specs.declared.turn.Turn.TheVariants.{Ends}
use Rattle.expiry_task.specs.declared.turn.DeletionStep.{DeletionStep}
use Rattle.expiry_task.specs.declared.turn.DeletionStep.TheVariants.{Start, Delete, Finish}
use Rattle.plain_log.specs.declared.answer.Answer.{Answer}
use Rattle.plain_log.specs.declared.answer.Answer.TheVariants.{MetaFault, StoreFault, Deleted}
use Rattle.laws_partition.specs.declared.start_snapshot.StartSnapshot.{StartSnapshot}
use Rattle.laws_partition.specs.Seen as seen
use Rattle.laws_partition.specs.RowsOfTiers as seen_rows
use Rattle.partition_world.proofs.CopyEnds.{TellsOn}

-- what an expiry that has taken up a segment may be answered
abbrev pub MayEnd : Answer → Type 0
MayEnd MetaFault = Unit {0}
MayEnd StoreFault = Unit {0}
MayEnd (Deleted id) = Unit {0}
MayEnd other = ⊥

module _ {S M : Type 0} (store : StoreGhosts S) (meta : MetaGhosts M) where
  start_ends : (expired_segment : ExpiredSegment) (origin : EventOrigin) (answer : Answer) (old new : M) → StartRow meta.content meta.control expired_segment origin (Ok (Ends answer)) old new → MayEnd answer
  start_ends expired_segment origin MetaFault old new w = tt
  start_ends expired_segment origin answer old new w = let e = w.0 in absurd (cc (e))

  finish_ends : (expired_segment : ExpiredSegment) (origin : EventOrigin) (answer : Answer) (old new : M) → FinishRow meta.content meta.control expired_segment origin (Ok (Ends answer)) old new → MayEnd answer
  finish_ends expired_segment origin MetaFault old new w = tt
  finish_ends expired_segment origin (Deleted id) old new w = tt
  finish_ends expired_segment origin answer old new w = let e = w.0 in absurd (cc (e))

  delete_ends : (expired_segment : ExpiredSegment) (n : ℕ) (key : Option ObjectKey) (answer : Answer) (old new : S) → DeleteRow store.content store.control expired_segment n key (Ends answer) old new → MayEnd answer
  delete_ends expired_segment n None answer old new w = let e = w.0 in absurd (cc (e))
  delete_ends expired_segment n (Some key) StoreFault old new w = tt
  delete_ends expired_segment n (Some key) answer old new w = let e = w.0 in absurd (cc (e))

  -- what a turn of an expiry returns
  pub expiry_ends : (expired_segment : ExpiredSegment) (origin : EventOrigin) (next : DeletionStep) (answer : Answer) (old new : Tiers S M)
      → ExpiryRow store.content store.control meta.content meta.control expired_segment origin next (Ok (Ends answer)) old new → MayEnd answer
  expiry_ends expired_segment origin Start answer old new w = start_ends expired_segment origin answer old.meta new.meta w.1
  expiry_ends expired_segment origin (Delete n) answer old new w = delete_ends expired_segment n (slice_get (keys expired_segment) n) answer old.store new.store w.1
  expiry_ends expired_segment origin Finish answer old new w = finish_ends expired_segment origin answer old.meta new.meta w.1

  start_tells : (expired_segment : ExpiredSegment) (origin : EventOrigin) (turn : Turn DeletionStep) (old new : M) → StartRow meta.content meta.control expired_segment origin (Ok turn) old new → (meta.content new).is_observable ≡ (meta.content old).is_observable
  start_tells expired_segment origin (Ends MetaFault) old new w = w.content.is_observable
  start_tells expired_segment origin turn old new w = w.1.content.is_observable

  finish_tells : (expired_segment : ExpiredSegment) (origin : EventOrigin) (turn : Turn DeletionStep) (old new : M) → FinishRow meta.content meta.control expired_segment origin (Ok turn) old new → (meta.content new).is_observable ≡ (meta.content old).is_observable
  finish_tells expired_segment origin (Ends MetaFault) old new w = w.content.is_observable
  finish_tells expired_segment origin turn old new w = w.1.content.is_observable

  delete_tells : (expired_segment : ExpiredSegment) (n : ℕ) (key : Option ObjectKey) (turn : Turn DeletionStep) (old new : S) → DeleteRow store.content store.control expired_segment n key turn old new
      → (store.content new).is_observable ≡ (store.content old).is_observable
  delete_tells expired_segment n None turn old new w = ap (λ (s : S). (store.content s).is_observable) w.1
  delete_tells expired_segment n (Some key) (Ends StoreFault) old new w = w.content.is_observable
  delete_tells expired_segment n (Some key) turn old new w = w.1.content.is_observable

  pub expiry_tells : (expired_segment : ExpiredSegment) (origin : EventOrigin) (next : DeletionStep) (turn : Turn DeletionStep) (old new : Tiers S M)
      → ExpiryRow store.content store.control meta.content meta.control expired_segment origin next (Ok turn) old new → TellsOn store meta old.store old.meta new.store new.meta
  expiry_tells expired_segment origin Start turn old new w = (ap (λ (t : Tiers S M). (store.content t.store).is_observable) w.0, start_tells expired_segment origin turn old.meta new.meta w.1)
  expiry_tells expired_segment origin (Delete n) turn old new w =
      (delete_tells expired_segment n (slice_get (keys expired_segment) n) turn old.store new.store w.1, ap (λ (t : Tiers S M). (meta.content t.meta).is_observable) w.0)
  expiry_tells expired_segment origin Finish turn old new w = (ap (λ (t : Tiers S M). (store.content t.store).is_observable) w.0, finish_tells expired_segment origin turn old.meta new.meta w.1)

  -- what ran out of memory leaves: the store, and the metadata events of an observable metadata log
  pub record IsDry (s : S) (m : M) (s' : S) (m' : M) : Type 0 where
    pub store_is : s' ≡ s
    pub is_observable : (meta.content m').is_observable ≡ (meta.content m).is_observable
    pub notes : IsTrue (meta.content m).is_observable → (meta.content m').notes ≡ (meta.content m).notes

  dry_notes : (note : Note) (old new : M) → AppendsToMetaLog meta.content meta.control note Dry old new → IsTrue (meta.content old).is_observable → (meta.content new).notes ≡ (meta.content old).notes
  dry_notes note old new a is_observable =
      let g = a.content.notes is_observable in
      let none = g.1.dry refl in
      g.2 ∙ ap (λ (done : Bool). appended_if done note (meta.content old).notes) none

  pub expiry_dry : (expired_segment : ExpiredSegment) (origin : EventOrigin) (next : DeletionStep) (e : AllocError) (old new : Tiers S M)
      → ExpiryRow store.content store.control meta.content meta.control expired_segment origin next (Err e) old new → IsDry old.store old.meta new.store new.meta
  expiry_dry expired_segment origin Start e old new w =
      record { store_is = ap (λ (t : Tiers S M). t.store) w.0; is_observable = w.1.content.is_observable; notes = dry_notes _ old.meta new.meta w.1 }
  expiry_dry expired_segment origin (Delete n) e old new w = absurd w
  expiry_dry expired_segment origin Finish e old new w =
      record { store_is = ap (λ (t : Tiers S M). t.store) w.0; is_observable = w.1.content.is_observable; notes = dry_notes _ old.meta new.meta w.1 }

-- such an answer has its row
pub end_row : (h : seen.SeenPartition) (x : seen.Node) (g : StartSnapshot) (answer : Answer) → MayEnd answer → seen_rows.KeepsLead x g → seen_rows.ExpireOnRow h x g answer h
end_row h x g MetaFault e k = (k, refl)
end_row h x g StoreFault e k = (k, refl)
end_row h x g (Deleted id) e k = (k, refl)
end_row h x g other e k = elim e [ ]
