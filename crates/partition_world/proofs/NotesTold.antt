-- How many metadata events a turn of a copy, of a fetch and of an expiry append.
use Rattle.std.proofs.Common.{◌≡◌, ◌∙◌, inl, inr, refl, ap, ℕ, ◌+◌, ◌≤◌, List, length, slice_get, Some, None, Option, Ok, Err, Bool, true, false, IsTrue, arith}
use Rattle.std.specs.declared.alloc.AllocError.{AllocError}
use Rattle.object_store.specs.declared.store.Store.{Ghosts as StoreGhosts}
use Rattle.meta_log.specs.declared.log.MetaLog.{Ghosts as MetaGhosts}
use Rattle.tier_base.specs.Device.{Fate, Dry}
use Rattle.tier_base.specs.declared.object_key.ObjectKey.{ObjectKey}
use Rattle.tier_base.specs.declared.plain.State.{State}
use Rattle.tier_base.specs.declared.plain.State.TheVariants.{CopyStarted, CopyFinished, DeleteStarted, DeleteFinished}
use Rattle.segment_meta.specs.declared.note.Note.{Note}
use Rattle.meta_log.specs.Content.{Keeps, appended_if}
use Rattle.meta_log.specs.Calls.{AppendsToMetaLog}
use Rattle.meta_log.specs.declared.event_origin.EventOrigin.{EventOrigin}
use Rattle.remote_view.specs.Fold.{EntriesSeen, state_of}
use Rattle.copy_task.specs.Copying.{Copied, keys}
use Rattle.copy_task.specs.Turns.{Tiers, StartRow, FinishRow, CheckRow, PutObjectRow, DeleteRow, CopyTurnRow, checked, put_at, delete_at}
use Rattle.copy_task.specs.declared.turn.CopyStep.{CopyStep}
use Rattle.copy_task.specs.declared.turn.CopyStep.TheVariants.{Start, Put, Finish, Check, Delete}
use Rattle.expiry_task.specs.Turns as expiring
use Rattle.expiry_task.specs.declared.turn.ExpiredSegment.{ExpiredSegment}
use Rattle.expiry_task.specs.declared.turn.DeletionStep.{DeletionStep as Deletion}
use Rattle.expiry_task.specs.declared.turn.DeletionStep.TheVariants as deletion
use Rattle.tier_fetch.specs.Turns.{Tiers as Fetched, RemoteFetchRow, RefreshRow}
use Rattle.plain_log.specs.declared.turn.Turn.{Turn}
use Rattle.plain_log.specs.declared.turn.Turn.TheVariants.{Goes as GoesOn, Ends}
use Rattle.tier_fetch.specs.declared.turn.FetchStep.{FetchStep as Search}
use Rattle.tier_fetch.specs.declared.turn.FetchStep.TheVariants.{Refresh, Index, Log}
use Rattle.tier_fetch.specs.declared.turn.FetchRequest.{FetchRequest}
use Rattle.time_find.specs.Turns.{SeekRow, TimeRow}
use Rattle.time_find.specs.declared.turn.Asked.{Asked}
use Rattle.time_find.specs.declared.turn.SearchStep.{SearchStep as Dating}
use Rattle.time_find.specs.declared.turn.SearchStep.TheVariants as search
use Rattle.plain_log.specs.declared.answer.Answer.TheVariants.{MetaFault, StoreFault}
use Rattle.laws_partition.specs.declared.start_snapshot.StartSnapshot.{StartSnapshot}
use Rattle.partition_commands.proofs.FreshNodes.{length_more}
use Rattle.partition_world.specs.declared.actor_state.Outcome.{Outcome}
use Rattle.partition_world.specs.declared.actor_state.Outcome.TheVariants.{Answers, Begins, Chose, Goes, Seeks as Sought, Dates as Dated, ChoosesExpired, Deletes, Rebuilds as Rebuilding}
use Rattle.partition_world.specs.declared.actor_state.InProgress.{InProgress}
use Rattle.partition_world.specs.declared.actor_state.InProgress.TheVariants.{Idle, Noted, Copies, Seeks, Dates, Expires, Rebuilds}
use Rattle.partition_world.specs.Central.{told_by}
use Rattle.partition_world.specs.ActorStates.{chosen, moved, sought, dated, expired_segment, deleting, rebuilding, copy_outcome, expiry_outcome}

-- how many metadata events a command has appended at most after a turn; once it is answered it appends none
abbrev pub told_after : InProgress → Outcome → ℕ
told_after in_progress (Answers answer) = 2
told_after in_progress (Begins g) = told_by (Noted g)
told_after in_progress (Chose copy) = told_by (chosen in_progress copy)
told_after in_progress (Goes next) = told_by (moved in_progress next)
told_after in_progress (Sought next) = told_by (sought in_progress next)
told_after in_progress (Dated cursor next) = told_by (dated in_progress cursor next)
told_after in_progress (ChoosesExpired segment) = told_by (expired_segment in_progress segment)
told_after in_progress (Deletes next) = told_by (deleting in_progress next)
told_after in_progress (Rebuilding next) = told_by (rebuilding in_progress next)

pub few_told : (in_progress : InProgress) → told_by in_progress ≤ 2
few_told Idle = omega arith
few_told (Noted g) = omega arith
few_told (Copies g copy Start) = omega arith
few_told (Copies g copy (Put n)) = omega arith
few_told (Copies g copy Finish) = omega arith
few_told (Copies g copy Check) = omega arith
few_told (Copies g copy (Delete n)) = omega arith
few_told (Seeks g next) = omega arith
few_told (Dates g cursor next) = omega arith
few_told (Expires g segment deletion.Start) = omega arith
few_told (Expires g segment (deletion.Delete n)) = omega arith
few_told (Expires g segment deletion.Finish) = omega arith
few_told (Rebuilds g next) = omega arith

-- how many metadata events a copy has appended at most after a turn
abbrev told_turn : StartSnapshot → Copied → Turn CopyStep → ℕ
told_turn g copy (GoesOn next) = told_by (Copies g copy next)
told_turn g copy (Ends answer) = 2

-- how many an expiry has
abbrev deleted_turn : StartSnapshot → ExpiredSegment → Turn Deletion → ℕ
deleted_turn g segment (GoesOn next) = told_by (Expires g segment next)
deleted_turn g segment (Ends answer) = 2

next_told : (g : StartSnapshot) (segment : ExpiredSegment) (n : ℕ) (key : Option ObjectKey) → deleted_turn g segment (GoesOn (expiring.delete_at n key)) ≡ 1
next_told g segment n None = refl
next_told g segment n (Some key) = refl

appended_most : (done : Bool) (note : Note) (notes : List Note) → length (appended_if done note notes) ≤ length notes + 1
appended_most true note notes = let more = length_more notes note in omega (arith, more)
appended_most false note notes = omega arith

checked_told : (g : StartSnapshot) (copy : Copied) (notes : ℕ) (state : Option State) → told_turn g copy (checked copy notes state) ≡ 2
checked_told g copy notes (Some CopyFinished) = refl
checked_told g copy notes (Some DeleteStarted) = refl
checked_told g copy notes (Some DeleteFinished) = refl
checked_told g copy notes (Some CopyStarted) = refl
checked_told g copy notes None = refl

deleted_told : (g : StartSnapshot) (copy : Copied) (view : EntriesSeen) (n : ℕ) (key : Option ObjectKey) → told_turn g copy (delete_at copy view n key) ≡ 2
deleted_told g copy view n None = refl
deleted_told g copy view n (Some key) = refl

put_told : (g : StartSnapshot) (copy : Copied) (n : ℕ) (key : Option ObjectKey) → told_turn g copy (GoesOn (put_at n key)) ≡ 1
put_told g copy n None = refl
put_told g copy n (Some key) = refl

module _ {M : Type 0} (meta : MetaGhosts M) where
  -- how many metadata events there are
  abbrev pub count : M → ℕ
  count m = length (meta.content m).notes

  appends_most : (note : Note) (fate : Fate) (old new : M) → AppendsToMetaLog meta.content meta.control note fate old new → IsTrue (meta.content old).is_observable → count new ≤ count old + 1
  appends_most note fate old new a is_observable =
      let g = a.content.notes is_observable in
      let most = appended_most g.0 note (meta.content old).notes in
      omega (arith, most, ap (λ (l : List Note). length l) g.2)

  appends_none : (note : Note) (old new : M) → AppendsToMetaLog meta.content meta.control note Dry old new → IsTrue (meta.content old).is_observable → count new ≤ count old
  appends_none note old new a is_observable =
      let g = a.content.notes is_observable in
      let none = g.1.dry refl in
      let same : (meta.content new).notes ≡ (meta.content old).notes = g.2 ∙ ap (λ (done : Bool). appended_if done note (meta.content old).notes) none in
      omega (arith, ap (λ (l : List Note). length l) same)

  pub keeps_count : (old new : M) → Keeps (meta.content old) (meta.content new) → count new ≤ count old
  keeps_count old new k = omega (arith, ap (λ (l : List Note). length l) k.notes)

  pub same_count : (old new : M) → new ≡ old → count new ≤ count old
  same_count old new is = omega (arith, ap count is)

  start_told : (g : StartSnapshot) (copy : Copied) (origin : EventOrigin) (turn : Turn CopyStep) (old new : M) → StartRow meta.content meta.control copy origin (Ok turn) old new → IsTrue (meta.content old).is_observable
      → count new + told_by (Copies g copy Start) ≤ count old + told_turn g copy turn
  start_told g copy origin (Ends MetaFault) old new w is_observable = let most = appends_most _ _ old new w is_observable in omega (arith, most)
  start_told g copy origin turn old new w is_observable =
      let most = appends_most _ _ old new w.1 is_observable in
      let told : told_turn g copy turn ≡ 1 = ap (told_turn g copy) w.0 in
      omega (arith, most, told)

  finish_told : (g : StartSnapshot) (copy : Copied) (origin : EventOrigin) (turn : Turn CopyStep) (old new : M) → FinishRow meta.content meta.control copy origin (Ok turn) old new → IsTrue (meta.content old).is_observable
      → count new + told_by (Copies g copy Finish) ≤ count old + told_turn g copy turn
  finish_told g copy origin (Ends MetaFault) old new w is_observable = let most = appends_most _ _ old new w is_observable in omega (arith, most)
  finish_told g copy origin turn old new w is_observable =
      let most = appends_most _ _ old new w.1 is_observable in
      let told : told_turn g copy turn ≡ 2 = ap (told_turn g copy) w.0 in
      omega (arith, most, told)

  check_told : (g : StartSnapshot) (copy : Copied) (turn : Turn CopyStep) (before after : EntriesSeen) (old new : M) → CheckRow meta.content meta.control copy (Ok turn) before after old new
      → count new + told_by (Copies g copy Check) ≤ count old + told_turn g copy turn
  check_told g copy (Ends MetaFault) before after old new w = let most = keeps_count old new w.content in omega (arith, most)
  check_told g copy turn before after old new w =
      let most = keeps_count old new w.1.content in
      let told = ap (told_turn g copy) w.0 ∙ checked_told g copy after.notes (state_of copy.id after.entries) in
      omega (arith, most, told)

module _ {S M : Type 0} (store : StoreGhosts S) (meta : MetaGhosts M) where
  put_most : (g : StartSnapshot) (copy : Copied) (n : ℕ) (key : Option ObjectKey) (turn : Turn CopyStep) (old new : S) → PutObjectRow store.content store.control copy n key (Ok turn) old new → 1 ≤ told_turn g copy turn
  put_most g copy n None turn old new w = let is : turn ≡ GoesOn Finish = cc (w.0) in omega (arith, ap (told_turn g copy) is)
  put_most g copy n (Some key) (Ends StoreFault) old new w = omega arith
  put_most g copy n (Some key) turn old new w = let told = ap (told_turn g copy) w.0 ∙ put_told g copy (n + 1) (slice_get (keys copy) (n + 1)) in omega (arith, told)

  delete_most : (g : StartSnapshot) (copy : Copied) (view : EntriesSeen) (n : ℕ) (key : Option ObjectKey) (turn : Turn CopyStep) (old new : S) → DeleteRow store.content store.control copy view n key turn old new
      → 2 ≤ told_turn g copy turn
  delete_most g copy view n None turn old new w = let told = ap (told_turn g copy) w.0 ∙ deleted_told g copy view n None in omega (arith, told)
  delete_most g copy view n (Some key) (Ends StoreFault) old new w = omega arith
  delete_most g copy view n (Some key) turn old new w =
      let told = ap (told_turn g copy) w.0 ∙ deleted_told g copy view (n + 1) (slice_get (keys copy) (n + 1)) in omega (arith, told)

  -- a turn of a copy
  pub copy_told : (g : StartSnapshot) (copy : Copied) (origin : EventOrigin) (next : CopyStep) (turn : Turn CopyStep) (old new : Tiers S M)
      → CopyTurnRow store.content store.control meta.content meta.control copy origin next (Ok turn) old new → IsTrue (meta.content old.meta).is_observable
      → count meta new.meta + told_by (Copies g copy next) ≤ count meta old.meta + told_turn g copy turn
  copy_told g copy origin Start turn old new w is_observable = start_told meta g copy origin turn old.meta new.meta w.1 is_observable
  copy_told g copy origin (Put n) turn old new w is_observable =
      let one = put_most g copy n (slice_get (keys copy) n) turn old.store new.store w.1 in
      let same = same_count meta old.meta new.meta (ap (λ (t : Tiers S M). t.meta) w.0) in
      omega (arith, one, same)
  copy_told g copy origin Finish turn old new w is_observable = finish_told meta g copy origin turn old.meta new.meta w.1 is_observable
  copy_told g copy origin Check turn old new w is_observable = check_told meta g copy turn old.view new.view old.meta new.meta w.1
  copy_told g copy origin (Delete n) turn old new w is_observable =
      let two = delete_most g copy old.view n (slice_get (keys copy) n) turn old.store new.store w.1 in
      let same = same_count meta old.meta new.meta (ap (λ (t : Tiers S M). t.meta) w.0) in
      omega (arith, two, same)

  -- a turn of a fetch appends none

  refresh_count : (wanted : FetchRequest) (line : List (ℕ × ℕ)) (turn : Turn Search) (before after : EntriesSeen) (old new : M) → RefreshRow meta.content meta.control wanted line (Ok turn) before after old new
      → count meta new ≤ count meta old
  refresh_count wanted line (Ends MetaFault) before after old new w = keeps_count meta old new w.content
  refresh_count wanted line turn before after old new w = keeps_count meta old new w.1.content

  pub fetch_count : (wanted : FetchRequest) (line : List (ℕ × ℕ)) (next : Search) (turn : Turn Search) (old new : Fetched S M)
      → RemoteFetchRow store.content store.control meta.content meta.control wanted line next (Ok turn) old new → count meta new.meta ≤ count meta old.meta
  fetch_count wanted line Refresh turn old new w = refresh_count wanted line turn old.view new.view old.meta new.meta w.1
  fetch_count wanted line (Index piece) turn old new w = same_count meta old.meta new.meta (ap (λ (t : Fetched S M). t.meta) w.0)
  fetch_count wanted line (Log piece span) turn old new w = same_count meta old.meta new.meta (ap (λ (t : Fetched S M). t.meta) w.0)

  pub fetch_wants : (wanted : FetchRequest) (line : List (ℕ × ℕ)) (next : Search) (e : AllocError) (old new : Fetched S M)
      → RemoteFetchRow store.content store.control meta.content meta.control wanted line next (Err e) old new → count meta new.meta ≤ count meta old.meta
  fetch_wants wanted line Refresh e old new w = keeps_count meta old.meta new.meta w.1.content
  fetch_wants wanted line (Index piece) e old new w = same_count meta old.meta new.meta (ap (λ (t : Fetched S M). t.meta) w.0)
  fetch_wants wanted line (Log piece span) e old new w = same_count meta old.meta new.meta (ap (λ (t : Fetched S M). t.meta) w.0)

  -- nor does one of a timestamp lookup

  seeking_count : (asked : Asked) (line : List (ℕ × ℕ)) (cursor : ℕ) (turn : Turn (ℕ × Dating)) (before after : EntriesSeen) (old new : M)
      → SeekRow meta.content meta.control asked line cursor (Ok turn) before after old new → count meta new ≤ count meta old
  seeking_count asked line cursor (Ends MetaFault) before after old new w = keeps_count meta old new w.content
  seeking_count asked line cursor turn before after old new w = keeps_count meta old new w.1.content

  pub time_count : (asked : Asked) (line : List (ℕ × ℕ)) (cursor : ℕ) (next : Dating) (turn : Turn (ℕ × Dating)) (old new : Fetched S M)
      → TimeRow store.content store.control meta.content meta.control asked line cursor next (Ok turn) old new
      → count meta new.meta ≤ count meta old.meta
  time_count asked line cursor search.Seek turn old new w = seeking_count asked line cursor turn old.view new.view old.meta new.meta w.1
  time_count asked line cursor (search.Times piece) turn old new w =
      same_count meta old.meta new.meta (ap (λ (t : Fetched S M). t.meta) w.0)
  time_count asked line cursor (search.Index piece from) turn old new w =
      same_count meta old.meta new.meta (ap (λ (t : Fetched S M). t.meta) w.0)
  time_count asked line cursor (search.Log piece from span) turn old new w =
      same_count meta old.meta new.meta (ap (λ (t : Fetched S M). t.meta) w.0)

  pub time_wants : (asked : Asked) (line : List (ℕ × ℕ)) (cursor : ℕ) (next : Dating) (e : AllocError) (old new : Fetched S M)
      → TimeRow store.content store.control meta.content meta.control asked line cursor next (Err e) old new
      → count meta new.meta ≤ count meta old.meta
  time_wants asked line cursor search.Seek e old new w = keeps_count meta old.meta new.meta w.1.content
  time_wants asked line cursor (search.Times piece) e old new w =
      same_count meta old.meta new.meta (ap (λ (t : Fetched S M). t.meta) w.0)
  time_wants asked line cursor (search.Index piece from) e old new w =
      same_count meta old.meta new.meta (ap (λ (t : Fetched S M). t.meta) w.0)
  time_wants asked line cursor (search.Log piece from span) e old new w =
      same_count meta old.meta new.meta (ap (λ (t : Fetched S M). t.meta) w.0)

  -- a turn of an expiry

  begin_told : (g : StartSnapshot) (segment : ExpiredSegment) (origin : EventOrigin) (turn : Turn Deletion) (old new : M) → expiring.StartRow meta.content meta.control segment origin (Ok turn) old new → IsTrue (meta.content old).is_observable
      → count meta new + told_by (Expires g segment deletion.Start) ≤ count meta old + deleted_turn g segment turn
  begin_told g segment origin (Ends MetaFault) old new w is_observable = let most = appends_most meta _ _ old new w is_observable in omega (arith, most)
  begin_told g segment origin turn old new w is_observable =
      let most = appends_most meta _ _ old new w.1 is_observable in
      let told : deleted_turn g segment turn ≡ 1 = ap (deleted_turn g segment) w.0 in
      omega (arith, most, told)

  end_told : (g : StartSnapshot) (segment : ExpiredSegment) (origin : EventOrigin) (turn : Turn Deletion) (old new : M) → expiring.FinishRow meta.content meta.control segment origin (Ok turn) old new → IsTrue (meta.content old).is_observable
      → count meta new + told_by (Expires g segment deletion.Finish) ≤ count meta old + deleted_turn g segment turn
  end_told g segment origin (Ends MetaFault) old new w is_observable = let most = appends_most meta _ _ old new w is_observable in omega (arith, most)
  end_told g segment origin turn old new w is_observable =
      let most = appends_most meta _ _ old new w.1 is_observable in
      let told : deleted_turn g segment turn ≡ 2 = ap (deleted_turn g segment) w.0 in
      omega (arith, most, told)

  object_most : (g : StartSnapshot) (segment : ExpiredSegment) (n : ℕ) (key : Option ObjectKey) (turn : Turn Deletion) (old new : S) → expiring.DeleteRow store.content store.control segment n key turn old new
      → 1 ≤ deleted_turn g segment turn
  object_most g segment n None turn old new w = let told : deleted_turn g segment turn ≡ 1 = ap (deleted_turn g segment) w.0 in omega (arith, told)
  object_most g segment n (Some key) (Ends StoreFault) old new w = omega arith
  object_most g segment n (Some key) turn old new w =
      let told = ap (deleted_turn g segment) w.0 ∙ next_told g segment (n + 1) (slice_get (expiring.keys segment) (n + 1)) in omega (arith, told)

  pub expiry_told : (g : StartSnapshot) (segment : ExpiredSegment) (origin : EventOrigin) (next : Deletion) (turn : Turn Deletion) (old new : expiring.Tiers S M)
      → expiring.ExpiryRow store.content store.control meta.content meta.control segment origin next (Ok turn) old new → IsTrue (meta.content old.meta).is_observable
      → count meta new.meta + told_by (Expires g segment next) ≤ count meta old.meta + deleted_turn g segment turn
  expiry_told g segment origin deletion.Start turn old new w is_observable = begin_told g segment origin turn old.meta new.meta w.1 is_observable
  expiry_told g segment origin (deletion.Delete n) turn old new w is_observable =
      let one = object_most g segment n (slice_get (expiring.keys segment) n) turn old.store new.store w.1 in
      let same = same_count meta old.meta new.meta (ap (λ (t : expiring.Tiers S M). t.meta) w.0) in
      omega (arith, one, same)
  expiry_told g segment origin deletion.Finish turn old new w is_observable = end_told g segment origin turn old.meta new.meta w.1 is_observable

  pub expiry_wants : (segment : ExpiredSegment) (origin : EventOrigin) (next : Deletion) (e : AllocError) (old new : expiring.Tiers S M)
      → expiring.ExpiryRow store.content store.control meta.content meta.control segment origin next (Err e) old new → IsTrue (meta.content old.meta).is_observable → count meta new.meta ≤ count meta old.meta
  expiry_wants segment origin deletion.Start e old new w is_observable = appends_none meta _ old.meta new.meta w.1 is_observable
  expiry_wants segment origin (deletion.Delete n) e old new w is_observable = absurd w
  expiry_wants segment origin deletion.Finish e old new w is_observable = appends_none meta _ old.meta new.meta w.1 is_observable

  pub deletes_told : (g : StartSnapshot) (segment : ExpiredSegment) (next : Deletion) (turn : Turn Deletion) (outcome : Outcome) → outcome ≡ expiry_outcome turn
      → told_after (Expires g segment next) outcome ≡ deleted_turn g segment turn
  deletes_told g segment next (GoesOn then) outcome is = ap (told_after (Expires g segment next)) is
  deletes_told g segment next (Ends answer) outcome is = ap (told_after (Expires g segment next)) is

  -- one that ran out of memory
  pub copy_wants : (copy : Copied) (origin : EventOrigin) (next : CopyStep) (e : AllocError) (old new : Tiers S M)
      → CopyTurnRow store.content store.control meta.content meta.control copy origin next (Err e) old new → IsTrue (meta.content old.meta).is_observable → count meta new.meta ≤ count meta old.meta
  copy_wants copy origin Start e old new (same, inl is) is_observable = same_count meta old.meta new.meta is
  copy_wants copy origin Start e old new (same, inr a) is_observable = appends_none meta _ old.meta new.meta a is_observable
  copy_wants copy origin (Put n) e old new w is_observable = same_count meta old.meta new.meta (ap (λ (t : Tiers S M). t.meta) w.0)
  copy_wants copy origin Finish e old new (same, inl is) is_observable = same_count meta old.meta new.meta is
  copy_wants copy origin Finish e old new (same, inr a) is_observable = appends_none meta _ old.meta new.meta a is_observable
  copy_wants copy origin Check e old new w is_observable = keeps_count meta old.meta new.meta w.1.content
  copy_wants copy origin (Delete n) e old new w is_observable = absurd w

  pub turn_told : (g : StartSnapshot) (copy : Copied) (next : CopyStep) (turn : Turn CopyStep) (outcome : Outcome) → outcome ≡ copy_outcome turn → told_after (Copies g copy next) outcome ≡ told_turn g copy turn
  turn_told g copy next (GoesOn then) outcome is = ap (told_after (Copies g copy next)) is
  turn_told g copy next (Ends answer) outcome is = ap (told_after (Copies g copy next)) is
