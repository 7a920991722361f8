-- What a turn of a copy may be answered, that its devices continue to report, and that its answers are those of a
-- leader that still leads.
use Rattle.std.proofs.Common.{◌≡◌, inl, inr, sym, ap, subst, refl, ℕ, ◌+◌, slice_get, Some, None, Option, Ok, Err}
use Rattle.tier_base.specs.declared.plain.State.{State as CopyState}
use Rattle.tier_base.specs.declared.plain.State.TheVariants.{CopyStarted, CopyFinished, DeleteStarted, DeleteFinished}
use Rattle.tier_base.specs.declared.object_key.ObjectKey.{ObjectKey}
use Rattle.object_store.specs.declared.store.Store.{Ghosts as StoreGhosts}
use Rattle.meta_log.specs.declared.log.MetaLog.{Ghosts as MetaGhosts}
use Rattle.meta_log.specs.declared.event_origin.EventOrigin.{EventOrigin}
use Rattle.remote_view.specs.Fold.{EntriesSeen as View, state_of}
use Rattle.copy_task.specs.Copying.{Copied, keys}
use Rattle.copy_task.specs.Turns.{Tiers, StartRow, FinishRow, CheckRow, PutObjectRow, DeleteRow, CopyTurnRow, checked, delete_at, overtaken}
use Rattle.plain_log.specs.declared.turn.Turn.{Turn}
use Rattle.plain_log.specs.declared.turn.Turn.TheVariants.{Ends}
use Rattle.copy_task.specs.declared.turn.CopyStep.{CopyStep}
use Rattle.copy_task.specs.declared.turn.CopyStep.TheVariants.{Start, Put, Finish, Check, Delete}
use Rattle.plain_log.specs.declared.answer.Answer.{Answer}
use Rattle.plain_log.specs.declared.answer.Answer.TheVariants.{MetaFault, StoreFault, Damaged, Overtaken, CopiedSegment}
use Rattle.plain_log.specs.declared.answer.Place.TheVariants.{Meta}
use Rattle.laws_partition.specs.declared.start_snapshot.StartSnapshot.{StartSnapshot}
use Rattle.laws_partition.specs.Seen as seen
use Rattle.laws_partition.specs.RowsOfTiers as seen_rows
use Rattle.partition_commands.specs.declared.partition_state.Node.{Node}
use Rattle.partition_commands.specs.Partition.{node_of}
use Rattle.broker_log.specs.Seen as log
use Rattle.partition_world.specs.TurnsOfCopy.{KeepsLead}

-- what a copy that has chosen its segment may be answered
abbrev pub MayEnd : Answer → Type 0
MayEnd MetaFault = Unit {0}
MayEnd StoreFault = Unit {0}
MayEnd (Damaged place at) = Unit {0}
MayEnd (Overtaken state) = Unit {0}
MayEnd (CopiedSegment id start last) = Unit {0}
MayEnd other = ⊥

checked_ends : (copy : Copied) (notes : ℕ) (state : Option CopyState) (answer : Answer) → Ends answer ≡ checked copy notes state → MayEnd answer
checked_ends copy notes (Some CopyFinished) answer is = let e : answer ≡ CopiedSegment copy.id copy.segment.base copy.segment.last = cc in subst MayEnd (sym e) tt
checked_ends copy notes (Some DeleteStarted) answer is = absurd cc
checked_ends copy notes (Some DeleteFinished) answer is = absurd cc
checked_ends copy notes (Some CopyStarted) answer is = let e : answer ≡ Damaged Meta notes = cc in subst MayEnd (sym e) tt
checked_ends copy notes None answer is = let e : answer ≡ Damaged Meta notes = cc in subst MayEnd (sym e) tt

overtaken_ends : (notes : ℕ) (state : Option CopyState) → MayEnd (overtaken notes state)
overtaken_ends notes None = tt
overtaken_ends notes (Some state) = tt

deleted_ends : (copy : Copied) (view : View) (n : ℕ) (key : Option ObjectKey) (answer : Answer) → Ends answer ≡ delete_at copy view n key → MayEnd answer
deleted_ends copy view n None answer is =
    let e : answer ≡ overtaken view.notes (state_of copy.id view.entries) = cc in subst MayEnd (sym e) (overtaken_ends view.notes (state_of copy.id view.entries))
deleted_ends copy view n (Some key) answer is = absurd cc

module _ {S M : Type 0} (store : StoreGhosts S) (meta : MetaGhosts M) where
  start_ends : (copy : Copied) (origin : EventOrigin) (answer : Answer) (old new : M) → StartRow meta.content meta.control copy origin (Ok (Ends answer)) old new → MayEnd answer
  start_ends copy origin MetaFault old new w = tt
  start_ends copy origin answer old new w = let e = w.0 in absurd (cc (e))

  finish_ends : (copy : Copied) (origin : EventOrigin) (answer : Answer) (old new : M) → FinishRow meta.content meta.control copy origin (Ok (Ends answer)) old new → MayEnd answer
  finish_ends copy origin MetaFault old new w = tt
  finish_ends copy origin answer old new w = let e = w.0 in absurd (cc (e))

  check_ends : (copy : Copied) (answer : Answer) (before after : View) (old new : M) → CheckRow meta.content meta.control copy (Ok (Ends answer)) before after old new → MayEnd answer
  check_ends copy MetaFault before after old new w = tt
  check_ends copy answer before after old new w = checked_ends copy after.notes (state_of copy.id after.entries) _ w.0

  put_ends : (copy : Copied) (n : ℕ) (key : Option ObjectKey) (answer : Answer) (old new : S) → PutObjectRow store.content store.control copy n key (Ok (Ends answer)) old new → MayEnd answer
  put_ends copy n None answer old new w = let e = w.0 in absurd (cc (e))
  put_ends copy n (Some key) StoreFault old new w = tt
  put_ends copy n (Some key) answer old new w = let e = w.0 in absurd (cc (e))

  delete_ends : (copy : Copied) (view : View) (n : ℕ) (key : Option ObjectKey) (answer : Answer) (old new : S) → DeleteRow store.content store.control copy view n key (Ends answer) old new → MayEnd answer
  delete_ends copy view n None answer old new w = deleted_ends copy view n None answer w.0
  delete_ends copy view n (Some key) StoreFault old new w = tt
  delete_ends copy view n (Some key) answer old new w = deleted_ends copy view (n + 1) (slice_get (keys copy) (n + 1)) _ w.0

  -- what a turn of a copy returns
  pub copy_ends : (copy : Copied) (origin : EventOrigin) (next : CopyStep) (answer : Answer) (old new : Tiers S M) → CopyTurnRow store.content store.control meta.content meta.control copy origin next (Ok (Ends answer)) old new
      → MayEnd answer
  copy_ends copy origin Start answer old new w = start_ends copy origin answer old.meta new.meta w.1
  copy_ends copy origin (Put n) answer old new w = put_ends copy n (slice_get (keys copy) n) answer old.store new.store w.1
  copy_ends copy origin Finish answer old new w = finish_ends copy origin answer old.meta new.meta w.1
  copy_ends copy origin Check answer old new w = check_ends copy answer old.view new.view old.meta new.meta w.1
  copy_ends copy origin (Delete n) answer old new w = delete_ends copy old.view n (slice_get (keys copy) n) answer old.store new.store w.1

  -- the devices report as they did
  abbrev pub TellsOn : S → M → S → M → Type 0
  TellsOn s m s' m' = ((store.content s').is_observable ≡ (store.content s).is_observable) × ((meta.content m').is_observable ≡ (meta.content m).is_observable)

  start_tells : (copy : Copied) (origin : EventOrigin) (result : Turn CopyStep) (old new : M) → StartRow meta.content meta.control copy origin (Ok result) old new → (meta.content new).is_observable ≡ (meta.content old).is_observable
  start_tells copy origin (Ends MetaFault) old new w = w.content.is_observable
  start_tells copy origin turn old new w = w.1.content.is_observable

  finish_tells : (copy : Copied) (origin : EventOrigin) (result : Turn CopyStep) (old new : M) → FinishRow meta.content meta.control copy origin (Ok result) old new → (meta.content new).is_observable ≡ (meta.content old).is_observable
  finish_tells copy origin (Ends MetaFault) old new w = w.content.is_observable
  finish_tells copy origin turn old new w = w.1.content.is_observable

  check_tells : (copy : Copied) (result : Turn CopyStep) (before after : View) (old new : M) → CheckRow meta.content meta.control copy (Ok result) before after old new → (meta.content new).is_observable ≡ (meta.content old).is_observable
  check_tells copy (Ends MetaFault) before after old new w = w.content.is_observable
  check_tells copy turn before after old new w = w.1.content.is_observable

  put_tells : (copy : Copied) (n : ℕ) (key : Option ObjectKey) (result : Turn CopyStep) (old new : S) → PutObjectRow store.content store.control copy n key (Ok result) old new → (store.content new).is_observable ≡ (store.content old).is_observable
  put_tells copy n None turn old new w = ap (λ (s : S). (store.content s).is_observable) w.1
  put_tells copy n (Some key) (Ends StoreFault) old new w = w.puts.content.is_observable
  put_tells copy n (Some key) turn old new w = w.1.puts.content.is_observable

  delete_tells : (copy : Copied) (view : View) (n : ℕ) (key : Option ObjectKey) (turn : Turn CopyStep) (old new : S) → DeleteRow store.content store.control copy view n key turn old new
      → (store.content new).is_observable ≡ (store.content old).is_observable
  delete_tells copy view n None turn old new w = ap (λ (s : S). (store.content s).is_observable) w.1
  delete_tells copy view n (Some key) (Ends StoreFault) old new w = w.content.is_observable
  delete_tells copy view n (Some key) turn old new w = w.1.content.is_observable

  pub copy_tells : (copy : Copied) (origin : EventOrigin) (next : CopyStep) (turn : Turn CopyStep) (old new : Tiers S M) → CopyTurnRow store.content store.control meta.content meta.control copy origin next (Ok turn) old new
      → TellsOn old.store old.meta new.store new.meta
  copy_tells copy origin Start turn old new w = (ap (λ (t : Tiers S M). (store.content t.store).is_observable) w.0, start_tells copy origin turn old.meta new.meta w.1)
  copy_tells copy origin (Put n) turn old new w = (put_tells copy n (slice_get (keys copy) n) turn old.store new.store w.1, ap (λ (t : Tiers S M). (meta.content t.meta).is_observable) w.0)
  copy_tells copy origin Finish turn old new w = (ap (λ (t : Tiers S M). (store.content t.store).is_observable) w.0, finish_tells copy origin turn old.meta new.meta w.1)
  copy_tells copy origin Check turn old new w = (ap (λ (s : S). (store.content s).is_observable) w.0, check_tells copy turn old.view new.view old.meta new.meta w.1)
  copy_tells copy origin (Delete n) turn old new w = (delete_tells copy old.view n (slice_get (keys copy) n) turn old.store new.store w.1, ap (λ (t : Tiers S M). (meta.content t.meta).is_observable) w.0)

  start_dry : (copy : Copied) (origin : EventOrigin) (e : _) (old new : M) → StartRow meta.content meta.control copy origin (Err e) old new → (meta.content new).is_observable ≡ (meta.content old).is_observable
  start_dry copy origin e old new (inl same) = ap (λ (m : M). (meta.content m).is_observable) same
  start_dry copy origin e old new (inr k) = k.content.is_observable

  put_dry : (copy : Copied) (n : ℕ) (key : Option ObjectKey) (e : _) (old new : S) → PutObjectRow store.content store.control copy n key (Err e) old new → (store.content new).is_observable ≡ (store.content old).is_observable
  put_dry copy n None e old new w = ap (λ (s : S). (store.content s).is_observable) w.1
  put_dry copy n (Some key) e old new (inl same) = ap (λ (s : S). (store.content s).is_observable) same
  put_dry copy n (Some key) e old new (inr w) = w.puts.content.is_observable

  finish_dry : (copy : Copied) (origin : EventOrigin) (e : _) (old new : M) → FinishRow meta.content meta.control copy origin (Err e) old new → (meta.content new).is_observable ≡ (meta.content old).is_observable
  finish_dry copy origin e old new (inl same) = ap (λ (m : M). (meta.content m).is_observable) same
  finish_dry copy origin e old new (inr k) = k.content.is_observable

  pub dry_tells : (copy : Copied) (origin : EventOrigin) (next : CopyStep) (e : _) (old new : Tiers S M) → CopyTurnRow store.content store.control meta.content meta.control copy origin next (Err e) old new
      → TellsOn old.store old.meta new.store new.meta
  dry_tells copy origin Start e old new w = (ap (λ (t : Tiers S M). (store.content t.store).is_observable) w.0, start_dry copy origin e old.meta new.meta w.1)
  dry_tells copy origin (Put n) e old new w = (put_dry copy n (slice_get (keys copy) n) e old.store new.store w.1, ap (λ (t : Tiers S M). (meta.content t.meta).is_observable) w.0)
  dry_tells copy origin Finish e old new w = (ap (λ (t : Tiers S M). (store.content t.store).is_observable) w.0, finish_dry copy origin e old.meta new.meta w.1)
  dry_tells copy origin Check e old new w = (ap (λ (s : S). (store.content s).is_observable) w.0, w.1.content.is_observable)
  dry_tells copy origin (Delete n) e old new w = absurd w

module _ {D : Type 0} where
  -- the lead is kept as it is seen
  pub keeps_seen : (x : Node D) (s : log.LogSeen) (g : StartSnapshot) → KeepsLead x g → seen_rows.KeepsLead (node_of x s) g
  keeps_seen x s g k = record { stops = k.stops; up = k.up; role = k.role }

  pub keeps_back : (x : Node D) (s : log.LogSeen) (g : StartSnapshot) → seen_rows.KeepsLead (node_of x s) g → KeepsLead x g
  keeps_back x s g k = record { stops = k.stops; up = k.up; role = k.role }

-- such an answer has its row
pub end_row : (h : seen.SeenPartition) (x : seen.Node) (g : StartSnapshot) (answer : Answer) → MayEnd answer → seen_rows.KeepsLead x g → seen_rows.CopyOnRow h x g answer h
end_row h x g MetaFault e k = (k, refl)
end_row h x g StoreFault e k = (k, refl)
end_row h x g (Damaged place at) e k = (k, refl)
end_row h x g (Overtaken state) e k = (k, refl)
end_row h x g (CopiedSegment id start last) e k = (k, refl)
end_row h x g other e k = elim e [ ]
