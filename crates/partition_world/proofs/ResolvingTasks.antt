-- The rows of the tasks over a metadata log beside metadata events that a power cut may leave.
use Rattle.std.proofs.Common.{◌≡◌, inl, inr, ap, subst, ℕ, List, Ok, Err}
use Rattle.std.specs.declared.result.Result.{Result}
use Rattle.std.specs.declared.alloc.AllocError.{AllocError}
use Rattle.tier_base.specs.Device.{Went, Fault, Dry}
use Rattle.tier_base.specs.declared.plain.State.TheVariants.{DeleteStarted, DeleteFinished}
use Rattle.object_store.specs.declared.store.Store.{Ghosts as StoreGhosts}
use Rattle.segment_meta.specs.declared.note.Note.{Note}
use Rattle.meta_log.specs.declared.log.MetaLog.{Ghosts as MetaGhosts}
use Rattle.meta_log.specs.declared.event_origin.EventOrigin.{EventOrigin}
use Rattle.meta_log.specs.Content.{Left}
use Rattle.remote_view.specs.Fold.{EntriesSeen}
use Rattle.plain_log.specs.declared.answer.Answer.TheVariants.{MetaFault}
use Rattle.copy_task.specs.Copying.{Copied, start_note, finish_note}
use Rattle.copy_task.specs.Turns as copy
use Rattle.copy_task.specs.declared.turn.CopyStep.{CopyStep}
use Rattle.copy_task.specs.declared.turn.CopyStep as copy_next
use Rattle.copy_task.specs.declared.turn.CopyStep.TheVariants as copying
use Rattle.expiry_task.specs.Turns as expiry
use Rattle.expiry_task.specs.declared.turn.ExpiredSegment.{ExpiredSegment}
use Rattle.expiry_task.specs.declared.turn.DeletionStep.{DeletionStep}
use Rattle.expiry_task.specs.declared.turn.DeletionStep as expiry_next
use Rattle.expiry_task.specs.declared.turn.DeletionStep.TheVariants as deleting
use Rattle.tier_fetch.specs.Turns as fetch
use Rattle.tier_fetch.specs.declared.turn.FetchStep.{FetchStep}
use Rattle.plain_log.specs.declared.turn.Turn.{Turn}
use Rattle.plain_log.specs.declared.turn.Turn.TheVariants as turns
use Rattle.tier_fetch.specs.declared.turn.FetchStep as fetch_next
use Rattle.tier_fetch.specs.declared.turn.FetchStep.TheVariants as fetching
use Rattle.tier_fetch.specs.declared.turn.FetchRequest.{FetchRequest}
use Rattle.time_find.specs.Turns as time
use Rattle.time_find.specs.declared.turn.Asked.{Asked}
use Rattle.time_find.specs.declared.turn.SearchStep.{SearchStep}
use Rattle.time_find.specs.declared.turn.SearchStep as time_next
use Rattle.time_find.specs.declared.turn.SearchStep.TheVariants as dating
use Rattle.partition_world.specs.Left.{resolved}
use Rattle.partition_world.proofs.Resolving.{Before, Tells, appends_with, refreshed_with, unread_with, halted_with, same_with}

-- what the tasks change, with the metadata log beside metadata events
abbrev pub copy_with : {S M : Type 0} → copy.Tiers S M → List Note → copy.Tiers S (M × List Note)
copy_with o l = record { view = o.view; store = o.store; meta = (o.meta, l) }

abbrev pub expiry_with : {S M : Type 0} → expiry.Tiers S M → List Note → expiry.Tiers S (M × List Note)
expiry_with o l = record { store = o.store; meta = (o.meta, l) }

abbrev pub fetch_with : {S M : Type 0} → fetch.Tiers S M → List Note → fetch.Tiers S (M × List Note)
fetch_with o l = record { view = o.view; cache = o.cache; store = o.store; meta = (o.meta, l) }

module _ {S M : Type 0} (store : StoreGhosts S) (meta : MetaGhosts M) where
  kept : (old new : M) (l : List Note) → new ≡ old → Left (meta.content new) l → Left (meta.content old) l
  kept old new l same left = subst (λ (m : M). Left (meta.content m) l) same left

  -- copies
  copy_start : (c : Copied) (origin : EventOrigin) (r : Result (Turn CopyStep) AllocError) (old new : M) → copy.StartRow meta.content meta.control c origin r old new → Tells meta old
      → (l' : List Note) → Left (meta.content new) l' → Before meta old (λ l. copy.StartRow (resolved meta).content (resolved meta).control c origin r (old, l) (new, l'))
  copy_start c origin (Ok (turns.Ends MetaFault)) old new w t l' left = appends_with meta (start_note c origin) Fault old new w t l' left
  copy_start c origin (Ok turn) old new w t l' left = let a = appends_with meta (start_note c origin) Went old new w.1 t l' left in (a.0, a.1, (w.0, a.2))
  copy_start c origin (Err e) old new (inl same) t l' left = let a = same_with meta old new same l' left in (a.0, a.1, inl a.2)
  copy_start c origin (Err e) old new (inr k) t l' left = let a = appends_with meta (start_note c origin) Dry old new k t l' left in (a.0, a.1, inr a.2)

  copy_finish : (c : Copied) (origin : EventOrigin) (r : Result (Turn CopyStep) AllocError) (old new : M) → copy.FinishRow meta.content meta.control c origin r old new → Tells meta old
      → (l' : List Note) → Left (meta.content new) l' → Before meta old (λ l. copy.FinishRow (resolved meta).content (resolved meta).control c origin r (old, l) (new, l'))
  copy_finish c origin (Ok (turns.Ends MetaFault)) old new w t l' left = appends_with meta (finish_note c origin) Fault old new w t l' left
  copy_finish c origin (Ok turn) old new w t l' left = let a = appends_with meta (finish_note c origin) Went old new w.1 t l' left in (a.0, a.1, (w.0, a.2))
  copy_finish c origin (Err e) old new (inl same) t l' left = let a = same_with meta old new same l' left in (a.0, a.1, inl a.2)
  copy_finish c origin (Err e) old new (inr k) t l' left = let a = appends_with meta (finish_note c origin) Dry old new k t l' left in (a.0, a.1, inr a.2)

  copy_check : (c : Copied) (r : Result (Turn CopyStep) AllocError) (before after : EntriesSeen) (old new : M) → copy.CheckRow meta.content meta.control c r before after old new → Tells meta old
      → (l' : List Note) → Left (meta.content new) l' → Before meta old (λ l. copy.CheckRow (resolved meta).content (resolved meta).control c r before after (old, l) (new, l'))
  copy_check c (Ok (turns.Ends MetaFault)) before after old new w t l' left = unread_with meta before after old new w l' left
  copy_check c (Ok turn) before after old new w t l' left = let a = refreshed_with meta before after old new w.1 t l' left in (a.0, a.1, (w.0, a.2))
  copy_check c (Err e) before after old new w t l' left = halted_with meta before after old new w t l' left

  pub copy_row : (c : Copied) (origin : EventOrigin) (next : copy_next.CopyStep) (r : Result (Turn CopyStep) AllocError) (old new : copy.Tiers S M)
      → copy.CopyTurnRow store.content store.control meta.content meta.control c origin next r old new → Tells meta old.meta → (l' : List Note) → Left (meta.content new.meta) l'
      → Before meta old.meta (λ l. copy.CopyTurnRow store.content store.control (resolved meta).content (resolved meta).control c origin next r (copy_with old l) (copy_with new l'))
  copy_row c origin copying.Start r old new w t l' left =
      let a = copy_start c origin r old.meta new.meta w.1 t l' left in (a.0, a.1, (ap (λ (o : copy.Tiers S M). copy_with o l') w.0, a.2))
  copy_row c origin (copying.Put n) r old new w t l' left =
      (l', kept old.meta new.meta l' (ap (λ (o : copy.Tiers S M). o.meta) w.0) left, (ap (λ (o : copy.Tiers S M). copy_with o l') w.0, w.1))
  copy_row c origin copying.Finish r old new w t l' left =
      let a = copy_finish c origin r old.meta new.meta w.1 t l' left in (a.0, a.1, (ap (λ (o : copy.Tiers S M). copy_with o l') w.0, a.2))
  copy_row c origin copying.Check r old new w t l' left =
      let a = copy_check c r old.view new.view old.meta new.meta w.1 t l' left in (a.0, a.1, (w.0, a.2))
  copy_row c origin (copying.Delete n) (Ok turn) old new w t l' left =
      (l', kept old.meta new.meta l' (ap (λ (o : copy.Tiers S M). o.meta) w.0) left, (ap (λ (o : copy.Tiers S M). copy_with o l') w.0, w.1))
  copy_row c origin (copying.Delete n) (Err e) old new w t l' left = absurd w

  -- expiries
  expiry_start : (d : ExpiredSegment) (origin : EventOrigin) (r : Result (Turn DeletionStep) AllocError) (old new : M) → expiry.StartRow meta.content meta.control d origin r old new → Tells meta old
      → (l' : List Note) → Left (meta.content new) l' → Before meta old (λ l. expiry.StartRow (resolved meta).content (resolved meta).control d origin r (old, l) (new, l'))
  expiry_start d origin (Ok (turns.Ends MetaFault)) old new w t l' left = appends_with meta (expiry.note_of d origin DeleteStarted) Fault old new w t l' left
  expiry_start d origin (Ok turn) old new w t l' left = let a = appends_with meta (expiry.note_of d origin DeleteStarted) Went old new w.1 t l' left in (a.0, a.1, (w.0, a.2))
  expiry_start d origin (Err e) old new w t l' left = appends_with meta (expiry.note_of d origin DeleteStarted) Dry old new w t l' left

  expiry_finish : (d : ExpiredSegment) (origin : EventOrigin) (r : Result (Turn DeletionStep) AllocError) (old new : M) → expiry.FinishRow meta.content meta.control d origin r old new → Tells meta old
      → (l' : List Note) → Left (meta.content new) l' → Before meta old (λ l. expiry.FinishRow (resolved meta).content (resolved meta).control d origin r (old, l) (new, l'))
  expiry_finish d origin (Ok (turns.Ends MetaFault)) old new w t l' left = appends_with meta (expiry.note_of d origin DeleteFinished) Fault old new w t l' left
  expiry_finish d origin (Ok turn) old new w t l' left = let a = appends_with meta (expiry.note_of d origin DeleteFinished) Went old new w.1 t l' left in (a.0, a.1, (w.0, a.2))
  expiry_finish d origin (Err e) old new w t l' left = appends_with meta (expiry.note_of d origin DeleteFinished) Dry old new w t l' left

  pub expiry_row : (d : ExpiredSegment) (origin : EventOrigin) (next : expiry_next.DeletionStep) (r : Result (Turn DeletionStep) AllocError) (old new : expiry.Tiers S M)
      → expiry.ExpiryRow store.content store.control meta.content meta.control d origin next r old new → Tells meta old.meta → (l' : List Note) → Left (meta.content new.meta) l'
      → Before meta old.meta (λ l. expiry.ExpiryRow store.content store.control (resolved meta).content (resolved meta).control d origin next r (expiry_with old l) (expiry_with new l'))
  expiry_row d origin deleting.Start r old new w t l' left =
      let a = expiry_start d origin r old.meta new.meta w.1 t l' left in (a.0, a.1, (ap (λ (o : expiry.Tiers S M). expiry_with o l') w.0, a.2))
  expiry_row d origin (deleting.Delete n) (Ok turn) old new w t l' left =
      (l', kept old.meta new.meta l' (ap (λ (o : expiry.Tiers S M). o.meta) w.0) left, (ap (λ (o : expiry.Tiers S M). expiry_with o l') w.0, w.1))
  expiry_row d origin (deleting.Delete n) (Err e) old new w t l' left = absurd w
  expiry_row d origin deleting.Finish r old new w t l' left =
      let a = expiry_finish d origin r old.meta new.meta w.1 t l' left in (a.0, a.1, (ap (λ (o : expiry.Tiers S M). expiry_with o l') w.0, a.2))

  -- fetches
  fetch_refresh : (wanted : FetchRequest) (line : List (ℕ × ℕ)) (r : Result (Turn FetchStep) AllocError) (before after : EntriesSeen) (old new : M) → fetch.RefreshRow meta.content meta.control wanted line r before after old new
      → Tells meta old → (l' : List Note) → Left (meta.content new) l' → Before meta old (λ l. fetch.RefreshRow (resolved meta).content (resolved meta).control wanted line r before after (old, l) (new, l'))
  fetch_refresh wanted line (Ok (turns.Ends MetaFault)) before after old new w t l' left = unread_with meta before after old new w l' left
  fetch_refresh wanted line (Ok turn) before after old new w t l' left = let a = refreshed_with meta before after old new w.1 t l' left in (a.0, a.1, (w.0, a.2))
  fetch_refresh wanted line (Err e) before after old new w t l' left = halted_with meta before after old new w t l' left

  pub fetch_row : (wanted : FetchRequest) (line : List (ℕ × ℕ)) (next : fetch_next.FetchStep) (r : Result (Turn FetchStep) AllocError) (old new : fetch.Tiers S M)
      → fetch.RemoteFetchRow store.content store.control meta.content meta.control wanted line next r old new → Tells meta old.meta → (l' : List Note) → Left (meta.content new.meta) l'
      → Before meta old.meta (λ l. fetch.RemoteFetchRow store.content store.control (resolved meta).content (resolved meta).control wanted line next r (fetch_with old l) (fetch_with new l'))
  fetch_row wanted line fetching.Refresh r old new w t l' left =
      let a = fetch_refresh wanted line r old.view new.view old.meta new.meta w.1 t l' left in (a.0, a.1, (ap (λ (o : fetch.Tiers S M). fetch_with o l') w.0, a.2))
  fetch_row wanted line (fetching.Index piece) r old new w t l' left =
      (l', kept old.meta new.meta l' (ap (λ (o : fetch.Tiers S M). o.meta) w.0) left, (ap (λ (o : fetch.Tiers S M). fetch_with o l') w.0, w.1))
  fetch_row wanted line (fetching.Log piece span) r old new w t l' left =
      (l', kept old.meta new.meta l' (ap (λ (o : fetch.Tiers S M). o.meta) w.0) left, (ap (λ (o : fetch.Tiers S M). fetch_with o l') w.0, w.1))

  -- timestamp lookups
  time_seek : (asked : Asked) (line : List (ℕ × ℕ)) (cursor : ℕ) (r : Result (Turn (ℕ × SearchStep)) AllocError) (before after : EntriesSeen) (old new : M) → time.SeekRow meta.content meta.control asked line cursor r before after old new
      → Tells meta old → (l' : List Note) → Left (meta.content new) l' → Before meta old (λ l. time.SeekRow (resolved meta).content (resolved meta).control asked line cursor r before after (old, l) (new, l'))
  time_seek asked line cursor (Ok (turns.Ends MetaFault)) before after old new w t l' left = unread_with meta before after old new w l' left
  time_seek asked line cursor (Ok turn) before after old new w t l' left = let a = refreshed_with meta before after old new w.1 t l' left in (a.0, a.1, (w.0, a.2))
  time_seek asked line cursor (Err e) before after old new w t l' left = halted_with meta before after old new w t l' left

  pub time_row : (asked : Asked) (line : List (ℕ × ℕ)) (cursor : ℕ) (next : time_next.SearchStep) (r : Result (Turn (ℕ × SearchStep)) AllocError) (old new : fetch.Tiers S M)
      → time.TimeRow store.content store.control meta.content meta.control asked line cursor next r old new → Tells meta old.meta → (l' : List Note) → Left (meta.content new.meta) l'
      → Before meta old.meta (λ l. time.TimeRow store.content store.control (resolved meta).content (resolved meta).control asked line cursor next r (fetch_with old l) (fetch_with new l'))
  time_row asked line cursor dating.Seek r old new w t l' left =
      let a = time_seek asked line cursor r old.view new.view old.meta new.meta w.1 t l' left in (a.0, a.1, (ap (λ (o : fetch.Tiers S M). fetch_with o l') w.0, a.2))
  time_row asked line cursor (dating.Times piece) r old new w t l' left =
      (l', kept old.meta new.meta l' (ap (λ (o : fetch.Tiers S M). o.meta) w.0) left, (ap (λ (o : fetch.Tiers S M). fetch_with o l') w.0, w.1))
  time_row asked line cursor (dating.Index piece from) r old new w t l' left =
      (l', kept old.meta new.meta l' (ap (λ (o : fetch.Tiers S M). o.meta) w.0) left, (ap (λ (o : fetch.Tiers S M). fetch_with o l') w.0, w.1))
  time_row asked line cursor (dating.Log piece from span) r old new w t l' left =
      (l', kept old.meta new.meta l' (ap (λ (o : fetch.Tiers S M). o.meta) w.0) left, (ap (λ (o : fetch.Tiers S M). fetch_with o l') w.0, w.1))
