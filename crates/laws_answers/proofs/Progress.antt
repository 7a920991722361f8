-- A turn of a command that isn't answered leaves fewer to come, and a turn leaves the other actors' states as they
-- were.
use Rattle.std.proofs.Common.{◌≡◌, ◌≢◌, ◌∙◌, inl, inr, sym, ap, subst, refl, ℕ, zero, suc, ◌+◌, ◌<◌, ◌≤◌, List, [], ◌∷◌, Some, None, Option, Ok, slice_get, slice_set, Bool, true, false, arith}
use Rattle.std.specs.Prelude.{◌-◌, ◌*◌, ◌^◌, ℤ, max, nat_lt, if◌then◌else◌}
use Rattle.std.proofs.lemmas.Bool.Decides.{nat_tests}
use Rattle.tier_base.specs.declared.names.PartitionId.{PartitionId}
use Rattle.tier_base.specs.declared.plain.State.{State as CopyState}
use Rattle.tier_base.specs.declared.plain.State.TheVariants.{CopyStarted, CopyFinished, DeleteStarted, DeleteFinished}
use Rattle.tier_base.specs.declared.object_key.ObjectKey.{ObjectKey}
use Rattle.disk_model.specs.declared.disk.Disk.{Ghosts as DiskGhosts}
use Rattle.object_store.specs.declared.store.Store.{Ghosts as StoreGhosts}
use Rattle.meta_log.specs.declared.log.MetaLog.{Ghosts as MetaGhosts}
use Rattle.meta_log.specs.declared.event_origin.EventOrigin.{EventOrigin}
use Rattle.remote_view.specs.Fold.{EntriesSeen as View, state_of}
use Rattle.copy_task.specs.Copying.{Copied, keys}
use Rattle.copy_task.specs.Turns.{Tiers, PutObjectRow, DeleteRow, CopyTurnRow, put_at, delete_at, checked}
use Rattle.copy_task.specs.declared.turn.CopyStep.{CopyStep}
use Rattle.copy_task.specs.declared.turn.CopyStep.TheVariants.{Start, Put, Finish, Check, Delete}
use Rattle.expiry_task.specs.Turns as expiring
use Rattle.expiry_task.specs.declared.turn.ExpiredSegment.{ExpiredSegment}
use Rattle.expiry_task.specs.declared.turn.DeletionStep.{DeletionStep as Deletion}
use Rattle.expiry_task.specs.declared.turn.DeletionStep.TheVariants as deletion
use Rattle.rebuild_task.specs.declared.turn.RebuildStep.{RebuildStep as Rebuild}
use Rattle.rebuild_task.specs.declared.turn.RebuildStep.TheVariants.{Epochs, Restart}
use Rattle.plain_log.specs.declared.turn.Turn.{Turn}
use Rattle.plain_log.specs.declared.turn.Turn.TheVariants.{Goes as GoesOn, Ends}
use Rattle.tier_fetch.specs.declared.turn.FetchStep.{FetchStep as Search}
use Rattle.tier_fetch.specs.declared.turn.FetchStep.TheVariants.{Refresh, Index, Log}
use Rattle.time_find.specs.declared.turn.Asked.{Asked}
use Rattle.time_find.specs.declared.turn.SearchStep.{SearchStep as Dating}
use Rattle.time_find.specs.declared.turn.SearchStep.TheVariants as dating
use Rattle.time_find.specs.Turns.{SearchContinues as GoesOnFrom}
use Rattle.plain_log.specs.declared.answer.Answer.TheVariants.{MetaFault}
use Rattle.plain_log.specs.declared.command.Command.{Command}
use Rattle.plain_log.specs.declared.command.Command.TheVariants.{Copy, Trim, Expire, Fetch, Join, Follow, Offset}
use Rattle.plain_log.specs.declared.command.Which.TheVariants.{LatestTiered, At}
use Rattle.plain_log.specs.declared.command.Config.{Config}
use Rattle.laws_partition.specs.declared.start_snapshot.StartSnapshot.{StartSnapshot}
use Rattle.laws_partition.specs.declared.start_snapshot.Turned.{Turned}
use Rattle.laws_partition.specs.declared.start_snapshot.Turned.TheVariants as turned
use Rattle.partition_commands.specs.declared.partition_state.Node.{Node}
use Rattle.partition_commands.specs.declared.partition_state.PartitionState.{PartitionState}
use Rattle.partition_commands.specs.Partition.{line_of, local_of}
use Rattle.partition_commands.specs.Turns.{FirstRow}
use Rattle.partition_world.specs.declared.tier.BrokerTierState.{BrokerTierState}
use Rattle.partition_world.specs.declared.tier.RemoteTier.{RemoteTier}
use Rattle.partition_world.specs.declared.actor_state.Outcome.{Outcome}
use Rattle.partition_world.specs.declared.actor_state.Outcome.TheVariants.{Answers, Begins, Chose, Goes, Seeks as Sought, Dates as Dated, ChoosesExpired, Deletes, Rebuilds as Rebuilding}
use Rattle.partition_world.specs.declared.actor_state.ActorState.{ActorState}
use Rattle.partition_world.specs.declared.actor_state.InProgress.{InProgress}
use Rattle.partition_world.specs.declared.actor_state.InProgress.TheVariants.{Idle, Noted, Copies, Seeks, Dates, Expires, Rebuilds}
use Rattle.partition_world.specs.ActorStates.{chosen, moved, sought, dated, expired_segment, deleting, rebuilding, outcome_of, copy_outcome, expiry_outcome, actor_state_after, IsUnanswered}
use Rattle.partition_world.specs.Turn.{IsTurn}
use Rattle.partition_world.specs.TurnsOfCopy.{LeadersFirstRow, CopyFirstRow, ReadSegmentRow, ChooseRow, CopyOnRow, GoesOnCopy, copied_to, tiers_of, origin_of}
use Rattle.partition_world.specs.TurnsOfDate.{SearchRow, DateOnRow, asked_of, is_own, resumed_at, resumed_with}
use Rattle.partition_world.specs.TurnsOfExpiry.{ExpiresBy, ExpireOnRow, DeleteOnRow, GoesOnDeletion, expiry_tiers}
use Rattle.partition_world.specs.TurnsOfFetch.{FetchOnRow, GoesOnFetch, fetch_tiers, wanted_of}
use Rattle.partition_world.specs.TurnsOfRebuild.{with_line, RefreshedRow, EpochsOnRow, wanted_of as rebuilt_to}
use Rattle.partition_world.specs.TurnsOfOffset.{OffsetOnRow}
use Rattle.partition_world.specs.TurnsOfTrim.{TrimFirstRow, TrimOnRow}
use Rattle.partition_world.specs.Turns.{LocalCommandRow, OwnOnRow, JoinSecondRow, Row}
use Rattle.partition_world.specs.Whole.{Whole}
use Rattle.partition_world.proofs.Begins.{row_of}
use Rattle.partition_world.proofs.DateAdvances.{Rises, dated_before, own_rises, time_rises}
use Rattle.tier_safe.proofs.Basics.{key_low}
use Rattle.partition_world.proofs.FetchAdvances.{sought_before, fetch_advances}
use Rattle.partition_world.proofs.RebuildEnds.{MayTurn, rebuild_may_turn}
use Rattle.laws_answers.specs.Turns.{copying_left, deleting_left, seeking_left, dated_here, rebuilding_left, turns_left, dating_left_to}

-- another item than the one that is set
get_other : {A : Type 0} (xs : List A) (i j : ℕ) (y : A) → j ≢ i → slice_get (slice_set xs i y) j ≡ slice_get xs j
get_other [] i j y ne = refl
get_other (x ∷ xs) zero zero y ne = absurd (ne refl)
get_other (x ∷ xs) zero (suc j) y ne = refl
get_other (x ∷ xs) (suc i) zero y ne = refl
get_other (x ∷ xs) (suc i) (suc j) y ne = get_other xs i j y (λ e. ne (ap suc e))

-- a turn leaves fewer to come
abbrev Less : Command → InProgress → Outcome → Type 0
Less command in_progress (Answers answer) = Unit {0}
Less command in_progress (Begins g) = turns_left command (Noted g) < turns_left command in_progress
Less command in_progress (Chose copy) = turns_left command (chosen in_progress copy) < turns_left command in_progress
Less command in_progress (Goes next) = turns_left command (moved in_progress next) < turns_left command in_progress
Less command in_progress (Sought next) = turns_left command (sought in_progress next) < turns_left command in_progress
Less command in_progress (Dated cursor next) = turns_left command (dated in_progress cursor next) < turns_left command in_progress
Less command in_progress (ChoosesExpired segment) = turns_left command (expired_segment in_progress segment) < turns_left command in_progress
Less command in_progress (Deletes next) = turns_left command (deleting in_progress next) < turns_left command in_progress
Less command in_progress (Rebuilding next) = turns_left command (rebuilding in_progress next) < turns_left command in_progress

-- a copy continues with this turn
to : (before next after : CopyStep) → GoesOn next ≡ GoesOn after → copying_left after < copying_left before → copying_left next < copying_left before
to before next after is lt = let e : next ≡ after = cc in rw e lt

put_less : (copy : Copied) (n : ℕ) (key : Option ObjectKey) (next : CopyStep) → slice_get (keys copy) (n + 1) ≡ key → GoesOn next ≡ GoesOn (put_at (n + 1) key) → copying_left next < copying_left (Put n)
put_less copy n None next at is = to (Put n) next Finish is (omega arith)
put_less copy n (Some key) next at is = let low = key_low copy.partition copy.id copy.packed (n + 1) key at in to (Put n) next (Put (n + 1)) is (omega (arith, low))

delete_less : (copy : Copied) (view : View) (n : ℕ) (key : Option ObjectKey) (next : CopyStep) → slice_get (keys copy) (n + 1) ≡ key → GoesOn next ≡ delete_at copy view (n + 1) key
    → copying_left next < copying_left (Delete n)
delete_less copy view n None next at is = absurd cc
delete_less copy view n (Some key) next at is = let low = key_low copy.partition copy.id copy.packed (n + 1) key at in to (Delete n) next (Delete (n + 1)) is (omega (arith, low))

checked_less : (copy : Copied) (notes : ℕ) (state : Option CopyState) (next : CopyStep) → GoesOn next ≡ checked copy notes state → copying_left next < copying_left Check
checked_less copy notes (Some CopyFinished) next is = absurd cc
checked_less copy notes (Some DeleteStarted) next is = to Check next (Delete 0) is (omega arith)
checked_less copy notes (Some DeleteFinished) next is = to Check next (Delete 0) is (omega arith)
checked_less copy notes (Some CopyStarted) next is = absurd cc
checked_less copy notes None next is = absurd cc

module _ {S M : Type 0} (store : StoreGhosts S) (meta : MetaGhosts M) where
  put_row : (copy : Copied) (n : ℕ) (key : Option ObjectKey) (next : CopyStep) (old new : S) → PutObjectRow store.content store.control copy n key (Ok (GoesOn next)) old new → copying_left next < copying_left (Put n)
  put_row copy n None next old new w = let e : next ≡ Finish = cc (w.0) in rw e (omega arith)
  put_row copy n (Some key) next old new w = put_less copy n (slice_get (keys copy) (n + 1)) next refl w.0

  delete_row : (copy : Copied) (view : View) (n : ℕ) (key : Option ObjectKey) (next : CopyStep) (old new : S) → DeleteRow store.content store.control copy view n key (GoesOn next) old new
      → copying_left next < copying_left (Delete n)
  delete_row copy view n None next old new w = let e = w.0 in absurd (cc (e))
  delete_row copy view n (Some key) next old new w = delete_less copy view n (slice_get (keys copy) (n + 1)) next refl w.0

  copy_less : (copy : Copied) (origin : EventOrigin) (before next : CopyStep) (old new : Tiers S M)
      → CopyTurnRow store.content store.control meta.content meta.control copy origin before (Ok (GoesOn next)) old new → copying_left next < copying_left before
  copy_less copy origin Start next old new w = to Start next (Put 0) w.1.0 (omega arith)
  copy_less copy origin (Put n) next old new w = put_row copy n (slice_get (keys copy) n) next old.store new.store w.1
  copy_less copy origin Finish next old new w = to Finish next Check w.1.0 (omega arith)
  copy_less copy origin Check next old new w = checked_less copy new.view.notes (state_of copy.id new.view.entries) next w.1.0
  copy_less copy origin (Delete n) next old new w = delete_row copy old.view n (slice_get (keys copy) n) next old.store new.store w.1

-- an expiry continues with this turn
dto : (before next after : Deletion) → GoesOn next ≡ GoesOn after → deleting_left after < deleting_left before → deleting_left next < deleting_left before
dto before next after is lt = let e : next ≡ after = cc in rw e lt

taken_less : (segment : ExpiredSegment) (n : ℕ) (key : Option ObjectKey) (next : Deletion) → slice_get (expiring.keys segment) (n + 1) ≡ key → GoesOn next ≡ GoesOn (expiring.delete_at (n + 1) key)
    → deleting_left next < deleting_left (deletion.Delete n)
taken_less segment n None next at is = dto (deletion.Delete n) next deletion.Finish is (omega arith)
taken_less segment n (Some key) next at is = let low = key_low segment.partition segment.id segment.packed (n + 1) key at in dto (deletion.Delete n) next (deletion.Delete (n + 1)) is (omega (arith, low))

module _ {S M : Type 0} (store : StoreGhosts S) (meta : MetaGhosts M) where
  take_row : (segment : ExpiredSegment) (n : ℕ) (key : Option ObjectKey) (next : Deletion) (old new : S) → expiring.DeleteRow store.content store.control segment n key (GoesOn next) old new
      → deleting_left next < deleting_left (deletion.Delete n)
  take_row segment n None next old new w = dto (deletion.Delete n) next deletion.Finish w.0 (omega arith)
  take_row segment n (Some key) next old new w = taken_less segment n (slice_get (expiring.keys segment) (n + 1)) next refl w.0

  expiry_less : (segment : ExpiredSegment) (origin : EventOrigin) (before next : Deletion) (old new : expiring.Tiers S M)
      → expiring.ExpiryRow store.content store.control meta.content meta.control segment origin before (Ok (GoesOn next)) old new → deleting_left next < deleting_left before
  expiry_less segment origin deletion.Start next old new w = dto deletion.Start next (deletion.Delete 0) w.1.0 (omega arith)
  expiry_less segment origin (deletion.Delete n) next old new w = take_row segment n (slice_get (expiring.keys segment) n) next old.store new.store w.1
  expiry_less segment origin deletion.Finish next old new w = let e = w.1.0 in absurd (cc (e))

-- a fetch takes four turns at most, those before this one among them
all_turns : (next : Search) → seeking_left next + sought_before next ≡ 4
all_turns Refresh = omega arith
all_turns (Index piece) = omega arith
all_turns (Log piece span) = omega arith

-- a timestamp lookup takes four turns at a cursor at most, and has come to a later one or takes a further one there
few_here : (next : Dating) → dated_here next ≤ 3
few_here dating.Seek = omega arith
few_here (dating.Times piece) = omega arith
few_here (dating.Index piece from) = omega arith
few_here (dating.Log piece from span) = omega arith

same_here : (next : Dating) → dated_before next ≡ dated_here next
same_here dating.Seek = refl
same_here (dating.Times piece) = refl
same_here (dating.Index piece from) = refl
same_here (dating.Log piece from span) = refl

-- it has come further
past_less : (limit cursor at n m : ℕ) → cursor < limit → cursor < at → n ≤ 3 → 1 + (4 * (limit - at) - m) < 1 + (4 * (limit - cursor) - n)
past_less limit cursor at n m fits far few = omega (arith, fits, far, few)

-- or takes a further turn
here_less : (limit cursor at n m : ℕ) → cursor < limit → cursor ≤ at → n < m → m ≤ 3 → 1 + (4 * (limit - at) - m) < 1 + (4 * (limit - cursor) - n)
here_less limit cursor at n m fits far up few = omega (arith, fits, far, up, few)

-- one that is resumed, and continues with a piece
piece_less : (limit start cursor at : ℕ) (before : Dating) (m : ℕ) → max start cursor < limit → max start cursor ≤ at → dated_before (if nat_lt cursor start then dating.Seek else before) < m → m ≤ 3
    → 1 + (4 * (limit - at) - m) < dating_left_to limit cursor before
piece_less limit start cursor at before m fits far up few = by (nat_lt cursor start) refl up
  where
    low : cursor < limit
    low = omega (arith, fits)

    by : (t : Bool) → nat_lt cursor start ≡ t → dated_before (if t then dating.Seek else before) < m → 1 + (4 * (limit - at) - m) < dating_left_to limit cursor before
    by true is up =
        let past : cursor < start = grind (arith, nat_tests, is) in
        past_less limit cursor at (dated_here before) m low (omega (arith, past, far)) (few_here before)
    by false is up = here_less limit cursor at (dated_here before) m low (omega (arith, far)) (subst (λ (n : ℕ). n < m) (same_here before) up) few

resumed_less : (limit start cursor at : ℕ) (before later : Dating) → max start cursor < limit → GoesOnFrom (max start cursor) (GoesOn (at, later))
    → Rises (if nat_lt cursor start then dating.Seek else before) later → dating_left_to limit at later < dating_left_to limit cursor before
resumed_less limit start cursor at before dating.Seek fits goes up =
    let far : cursor < at = omega (arith, goes) in
    let low : cursor < limit = omega (arith, fits) in
    past_less limit cursor at (dated_here before) 0 low far (few_here before)
resumed_less limit start cursor at before (dating.Times piece) fits goes up = piece_less limit start cursor at before 1 fits goes.0 up (omega arith)
resumed_less limit start cursor at before (dating.Index piece from) fits goes up = piece_less limit start cursor at before 2 fits goes.0 up (omega arith)
resumed_less limit start cursor at before (dating.Log piece from span) fits goes up = piece_less limit start cursor at before 3 fits goes.0 up (omega arith)

-- it is at the first cursor where it has begun
pub first_left : (limit at : ℕ) (later : Dating) → dating_left_to limit at later < dating_left_to limit 0 dating.Seek → dating_left_to limit at later < 1 + 4 * limit
first_left limit at later less = omega (arith, less)

-- after the leader epochs that were read the log is restarted
read_less : (next : Rebuild) → MayTurn (GoesOn next) → rebuilding_left next < rebuilding_left Epochs
read_less (Restart line) may = omega arith
read_less Epochs may = absurd may

module _ {D S M : Type 0} (disk : DiskGhosts D) (store : StoreGhosts S) (meta : MetaGhosts M) where
  -- a command's first turn
  first_less : (h : PartitionState D) (t : RemoteTier S M) (b : ℕ) (x : Node D) (broker_tier : BrokerTierState) (outcome : Outcome) (t' : RemoteTier S M) → CopyFirstRow meta h t b x broker_tier outcome t' → Less Copy Idle outcome
  first_less h t b x broker_tier (Answers answer) t' row = tt
  first_less h t b x broker_tier (Begins g) t' row = omega arith
  first_less h t b x broker_tier other t' row = elim row [ ]

  expire_first : (h : PartitionState D) (t : RemoteTier S M) (b : ℕ) (x : Node D) (broker_tier : BrokerTierState) (outcome : Outcome) (t' : RemoteTier S M) → LeadersFirstRow meta h t b x broker_tier outcome t' → Less Expire Idle outcome
  expire_first h t b x broker_tier (Answers answer) t' row = tt
  expire_first h t b x broker_tier (Begins g) t' row = omega arith
  expire_first h t b x broker_tier other t' row = elim row [ ]

  offset_first : (h : PartitionState D) (t : RemoteTier S M) (b : ℕ) (x : Node D) (broker_tier : BrokerTierState) (outcome : Outcome) (t' : RemoteTier S M) → LeadersFirstRow meta h t b x broker_tier outcome t' → Less (Offset LatestTiered) Idle outcome
  offset_first h t b x broker_tier (Answers answer) t' row = tt
  offset_first h t b x broker_tier (Begins g) t' row = omega arith
  offset_first h t b x broker_tier other t' row = elim row [ ]

  search_first : (h : PartitionState D) (t : RemoteTier S M) (b : ℕ) (x : Node D) (broker_tier : BrokerTierState) (ts : ℤ) (outcome : Outcome) (t' : RemoteTier S M) → LeadersFirstRow meta h t b x broker_tier outcome t'
      → Less (Offset (At ts)) Idle outcome
  search_first h t b x broker_tier ts (Answers answer) t' row = tt
  search_first h t b x broker_tier ts (Begins g) t' row = omega arith
  search_first h t b x broker_tier ts other t' row = elim row [ ]

  trim_first : (h : PartitionState D) (t : RemoteTier S M) (b : ℕ) (x : Node D) (broker_tier : BrokerTierState) (outcome : Outcome) (t' : RemoteTier S M) → TrimFirstRow meta h t b x broker_tier outcome t' → Less Trim Idle outcome
  trim_first h t b x broker_tier (Answers answer) t' row = tt
  trim_first h t b x broker_tier (Begins g) t' row = omega arith
  trim_first h t b x broker_tier other t' row = elim row [ ]

  begins_less : (h : PartitionState D) (b : ℕ) (x : Node D) (command : Command) (turn : Turned) (h' : PartitionState D) → FirstRow disk.content disk.control h b x command turn h' → Less command Idle (outcome_of turn)
  begins_less h b x command (turned.Answers answer) h' row = tt
  begins_less h b x (Follow limit) (turned.Begins g) h' row = omega arith
  begins_less h b x Join (turned.Begins g) h' row = omega arith
  begins_less h b x Trim (turned.Begins g) h' row = omega arith
  begins_less h b x (Fetch offset limit) (turned.Begins g) h' row = omega arith
  begins_less h b x (Offset LatestTiered) (turned.Begins g) h' row = elim row [ ]
  begins_less h b x (Offset (At ts)) (turned.Begins g) h' row = elim row [ ]
  begins_less h b x other (turned.Begins g) h' row = elim row [ ]

  own_less : (h : PartitionState D) (t : RemoteTier S M) (b : ℕ) (x : Node D) (command : Command) (outcome : Outcome) (h' : PartitionState D) (t' : RemoteTier S M) → LocalCommandRow disk h t b x command outcome h' t' → Less command Idle outcome
  own_less h t b x command outcome h' t' ((turn, is, row), same) = subst (Less command Idle) (sym is) (begins_less h b x command turn h' row)

  -- a last turn
  last_less : (h : PartitionState D) (t : RemoteTier S M) (b : ℕ) (x : Node D) (g : StartSnapshot) (in_progress : InProgress) (command kind : Command) (outcome : Outcome) (h' : PartitionState D) (t' : RemoteTier S M)
      → OwnOnRow disk h t b x g command outcome h' t' → Less kind in_progress outcome
  last_less h t b x g in_progress command kind outcome h' t' ((answer, is, row), same) = subst (Less kind in_progress) (sym is) tt

  -- a copy's later ones
  choice_less : (p : PartitionId) (b : ℕ) (x y : Node D) (broker_tier z : BrokerTierState) (offset : ℕ) (g : StartSnapshot) (outcome : Outcome) → ReadSegmentRow disk p b x broker_tier offset outcome y z → Less Copy (Noted g) outcome
  choice_less p b x y broker_tier z offset g (Answers answer) row = tt
  choice_less p b x y broker_tier z offset g (Chose copy) row = omega arith
  choice_less p b x y broker_tier z offset g other row = elim row [ ]

  choose_less : (p : PartitionId) (h : PartitionState D) (t : RemoteTier S M) (b : ℕ) (x : Node D) (broker_tier : BrokerTierState) (g : StartSnapshot) (outcome : Outcome) (h' : PartitionState D) (t' : RemoteTier S M) → ChooseRow disk p h t b x broker_tier g outcome h' t'
      → Less Copy (Noted g) outcome
  choose_less p h t b x broker_tier g outcome h' t' (inl lost) = subst (Less Copy (Noted g)) (sym lost.1) tt
  choose_less p h t b x broker_tier g outcome h' t' (inr (keeps, inl level)) = subst (Less Copy (Noted g)) (sym level.1) tt
  choose_less p h t b x broker_tier g outcome h' t' (inr (keeps, inr n)) = choice_less p b x n.node broker_tier n.broker_tier_after (copied_to x broker_tier h.registry.start) g outcome n.row

  turn_less : (h : PartitionState D) (t : RemoteTier S M) (b : ℕ) (broker_tier : BrokerTierState) (g : StartSnapshot) (copy : Copied) (next : CopyStep) (turn : Turn CopyStep) (t' : RemoteTier S M) → GoesOnCopy store meta h t b broker_tier copy next turn t'
      → Less Copy (Copies g copy next) (copy_outcome turn)
  turn_less h t b broker_tier g copy next (GoesOn further) t' goes = copy_less store meta copy (origin_of h b) next further (tiers_of broker_tier.view t) (tiers_of goes.view t') goes.row
  turn_less h t b broker_tier g copy next (Ends answer) t' goes = tt

  later_less : (h : PartitionState D) (t : RemoteTier S M) (b : ℕ) (x : Node D) (broker_tier : BrokerTierState) (g : StartSnapshot) (copy : Copied) (next : CopyStep) (outcome : Outcome) (t' : RemoteTier S M)
      → CopyOnRow store meta h t b x broker_tier g copy next outcome t' → Less Copy (Copies g copy next) outcome
  later_less h t b x broker_tier g copy next outcome t' (inl lost) = subst (Less Copy (Copies g copy next)) (sym lost.1) tt
  later_less h t b x broker_tier g copy next outcome t' (inr (keeps, (turn, is, goes))) = subst (Less Copy (Copies g copy next)) (sym is) (turn_less h t b broker_tier g copy next turn t' goes)

  -- an expiry's
  expires_less : (p : PartitionId) (config : Config) (h : PartitionState D) (x : Node D) (broker_tier : BrokerTierState) (g : StartSnapshot) (outcome : Outcome) (h' : PartitionState D) → ExpiresBy p h x broker_tier config.keep outcome h' → Less Expire (Noted g) outcome
  expires_less p config h x broker_tier g (Answers answer) h' row = tt
  expires_less p config h x broker_tier g (ChoosesExpired segment) h' row = omega arith
  expires_less p config h x broker_tier g other h' row = elim row [ ]

  expire_less : (p : PartitionId) (config : Config) (h : PartitionState D) (x : Node D) (broker_tier : BrokerTierState) (g : StartSnapshot) (outcome : Outcome) (h' : PartitionState D) → ExpireOnRow p h x broker_tier g config.keep outcome h' → Less Expire (Noted g) outcome
  expire_less p config h x broker_tier g outcome h' (inl lost) = subst (Less Expire (Noted g)) (sym lost.1) tt
  expire_less p config h x broker_tier g outcome h' (inr (keeps, row)) = expires_less p config h x broker_tier g outcome h' row

  deletes_less : (h : PartitionState D) (t : RemoteTier S M) (b : ℕ) (g : StartSnapshot) (segment : ExpiredSegment) (next : Deletion) (turn : Turn Deletion) (t' : RemoteTier S M) → GoesOnDeletion store meta h t b segment next turn t'
      → Less Expire (Expires g segment next) (expiry_outcome turn)
  deletes_less h t b g segment next (GoesOn further) t' goes = expiry_less store meta segment (origin_of h b) next further (expiry_tiers t) (expiry_tiers t') goes.row
  deletes_less h t b g segment next (Ends answer) t' goes = tt

  deletion_less : (h : PartitionState D) (t : RemoteTier S M) (b : ℕ) (x : Node D) (g : StartSnapshot) (segment : ExpiredSegment) (next : Deletion) (outcome : Outcome) (t' : RemoteTier S M)
      → DeleteOnRow store meta h t b x g segment next outcome t' → Less Expire (Expires g segment next) outcome
  deletion_less h t b x g segment next outcome t' (inl lost) = subst (Less Expire (Expires g segment next)) (sym lost.1) tt
  deletion_less h t b x g segment next outcome t' (inr (keeps, (turn, is, goes))) = subst (Less Expire (Expires g segment next)) (sym is) (deletes_less h t b g segment next turn t' goes)

  -- a fetch's
  goes_less : (p : PartitionId) (t : RemoteTier S M) (b : ℕ) (x : Node D) (broker_tier : BrokerTierState) (offset limit : ℕ) (before later : Search) (t' : RemoteTier S M)
      → GoesOnFetch store meta p t b x broker_tier offset limit before (GoesOn later) t' → seeking_left later < seeking_left before
  goes_less p t b x broker_tier offset limit before later t' goes =
      let up = fetch_advances store meta (wanted_of p x offset limit) (line_of x) before later (fetch_tiers broker_tier.view broker_tier.cache t) (fetch_tiers goes.view goes.cache t') goes.row in
      let one = all_turns before in
      let two = all_turns later in
      omega (arith, up, one, two)

  fetch_less : (p : PartitionId) (h : PartitionState D) (t : RemoteTier S M) (b : ℕ) (x : Node D) (broker_tier : BrokerTierState) (g : StartSnapshot) (offset limit : ℕ) (outcome : Outcome) (t' : RemoteTier S M)
      → FetchOnRow store meta p h t b x broker_tier g offset limit Refresh outcome t' → Less (Fetch offset limit) (Noted g) outcome
  fetch_less p h t b x broker_tier g offset limit (Answers answer) t' row = tt
  fetch_less p h t b x broker_tier g offset limit (Sought later) t' row = goes_less p t b x broker_tier offset limit Refresh later t' row.1
  fetch_less p h t b x broker_tier g offset limit other t' row = elim row [ ]

  seek_less : (p : PartitionId) (h : PartitionState D) (t : RemoteTier S M) (b : ℕ) (x : Node D) (broker_tier : BrokerTierState) (g : StartSnapshot) (offset limit : ℕ) (next : Search) (outcome : Outcome) (t' : RemoteTier S M)
      → FetchOnRow store meta p h t b x broker_tier g offset limit next outcome t' → Less (Fetch offset limit) (Seeks g next) outcome
  seek_less p h t b x broker_tier g offset limit next (Answers answer) t' row = tt
  seek_less p h t b x broker_tier g offset limit next (Sought later) t' row = goes_less p t b x broker_tier offset limit next later t' row.1
  seek_less p h t b x broker_tier g offset limit next other t' row = elim row [ ]

  -- a search's by timestamp
  rises_on : (h : PartitionState D) (t : RemoteTier S M) (b : ℕ) (x : Node D) (broker_tier : BrokerTierState) (asked : Asked) (cursor : ℕ) (before : Dating) (own : Bool) (at : ℕ) (later : Dating) (h' : PartitionState D) (t' : RemoteTier S M)
      → SearchRow disk store meta h t b x broker_tier asked cursor before own (GoesOn (at, later)) h' t' → Rises before later
  rises_on h t b x broker_tier asked cursor before true at later h' t' w = own_rises disk x.log asked cursor before later at w.0.kept w.0.row
  rises_on h t b x broker_tier asked cursor before false at later h' t' w =
      time_rises store meta asked (line_of x) cursor before later at (fetch_tiers broker_tier.view broker_tier.cache t) (fetch_tiers w.0.view w.0.cache t') w.0.row

  pub date_goes : (limit : ℕ) (p : PartitionId) (h : PartitionState D) (t : RemoteTier S M) (b : ℕ) (x : Node D) (broker_tier : BrokerTierState) (g : StartSnapshot) (ts : ℤ) (cursor : ℕ) (before : Dating) (at : ℕ) (later : Dating) (h' : PartitionState D) (t' : RemoteTier S M)
      → DateOnRow disk store meta p h t b x broker_tier g ts cursor before (Dated at later) h' t' → resumed_at h.registry.start cursor < limit
      → dating_left_to limit at later < dating_left_to limit cursor before
  date_goes limit p h t b x broker_tier g ts cursor before at later h' t' w fits =
      let on = resumed_at h.registry.start cursor in
      let with = resumed_with h.registry.start cursor before in
      resumed_less limit h.registry.start cursor at before later fits w.1
      (rises_on h t b x broker_tier (asked_of p h x ts) on with (is_own (local_of x) on with) at later h' t' w.0.row)

  date_less : (p : PartitionId) (h : PartitionState D) (t : RemoteTier S M) (b : ℕ) (x : Node D) (broker_tier : BrokerTierState) (g : StartSnapshot) (ts : ℤ) (outcome : Outcome) (h' : PartitionState D) (t' : RemoteTier S M)
      → DateOnRow disk store meta p h t b x broker_tier g ts 0 dating.Seek outcome h' t' → Less (Offset (At ts)) (Noted g) outcome
  date_less p h t b x broker_tier g ts (Answers answer) h' t' w = tt
  date_less p h t b x broker_tier g ts (Dated at later) h' t' w = first_left (2 ^ 64) at later (date_goes (2 ^ 64) p h t b x broker_tier g ts 0 dating.Seek at later h' t' w w.0.fits)
  date_less p h t b x broker_tier g ts other h' t' w = elim w [ ]

  dates_less : (p : PartitionId) (h : PartitionState D) (t : RemoteTier S M) (b : ℕ) (x : Node D) (broker_tier : BrokerTierState) (g : StartSnapshot) (ts : ℤ) (cursor : ℕ) (before : Dating) (outcome : Outcome) (h' : PartitionState D) (t' : RemoteTier S M)
      → DateOnRow disk store meta p h t b x broker_tier g ts cursor before outcome h' t' → Less (Offset (At ts)) (Dates g cursor before) outcome
  dates_less p h t b x broker_tier g ts cursor before (Answers answer) h' t' w = tt
  dates_less p h t b x broker_tier g ts cursor before (Dated at later) h' t' w = date_goes (2 ^ 64) p h t b x broker_tier g ts cursor before at later h' t' w w.0.fits
  dates_less p h t b x broker_tier g ts cursor before other h' t' w = elim w [ ]

  -- a join's
  refreshed_less : (t : RemoteTier S M) (b : ℕ) (broker_tier : BrokerTierState) (g : StartSnapshot) (outcome : Outcome) (t' : RemoteTier S M) → RefreshedRow meta t b broker_tier outcome t' → Less Join (Noted g) outcome
  refreshed_less t b broker_tier g (Answers MetaFault) t' row = tt
  refreshed_less t b broker_tier g (Rebuilding Epochs) t' row = omega arith
  refreshed_less t b broker_tier g other t' row = elim row [ ]

  join_less : (h : PartitionState D) (t : RemoteTier S M) (b : ℕ) (x : Node D) (broker_tier : BrokerTierState) (g : StartSnapshot) (outcome : Outcome) (h' : PartitionState D) (t' : RemoteTier S M) → JoinSecondRow disk meta h t b x broker_tier g outcome h' t'
      → Less Join (Noted g) outcome
  join_less h t b x broker_tier g outcome h' t' (inl own) = last_less h t b x g (Noted g) Join Join outcome h' t' own.1
  join_less h t b x broker_tier g outcome h' t' (inr (low, inl (answer, is, once, tier), same)) = subst (Less Join (Noted g)) (sym is) tt
  join_less h t b x broker_tier g outcome h' t' (inr (low, inr (may, row), same)) = refreshed_less t b broker_tier g outcome t' row

  reads_less : (p : PartitionId) (h : PartitionState D) (t : RemoteTier S M) (b : ℕ) (x : Node D) (broker_tier : BrokerTierState) (g : StartSnapshot) (outcome : Outcome) (t' : RemoteTier S M) → EpochsOnRow store p h t x broker_tier g outcome t'
      → Less Join (Rebuilds g Epochs) outcome
  reads_less p h t b x broker_tier g outcome t' (inl (answer, is, once, tier)) = subst (Less Join (Rebuilds g Epochs)) (sym is) tt
  reads_less p h t b x broker_tier g outcome t' (inr (may, (Ends answer, is, goes))) = subst (Less Join (Rebuilds g Epochs)) (sym is) tt
  reads_less p h t b x broker_tier g outcome t' (inr (may, (GoesOn next, is, goes))) =
      subst (Less Join (Rebuilds g Epochs)) (sym is) (read_less next (rebuild_may_turn store (rebuilt_to p g) g.line broker_tier.view (GoesOn next) t.store t'.store goes.row))

  -- a trim's
  trim_less : (h : PartitionState D) (b : ℕ) (x : Node D) (broker_tier : BrokerTierState) (g : StartSnapshot) (config : Config) (outcome : Outcome) (h' : PartitionState D) → TrimOnRow disk h b x broker_tier g config.local_keep outcome h' → Less Trim (Noted g) outcome
  trim_less h b x broker_tier g config (Answers answer) h' row = tt
  trim_less h b x broker_tier g config other h' row = elim row [ ]

  -- a question's
  offset_less : (h : PartitionState D) (x : Node D) (broker_tier : BrokerTierState) (g : StartSnapshot) (outcome : Outcome) → OffsetOnRow h x broker_tier g outcome → Less (Offset LatestTiered) (Noted g) outcome
  offset_less h x broker_tier g (Answers answer) row = tt
  offset_less h x broker_tier g other row = elim row [ ]

  row_less : (p : PartitionId) (config : Config) (h : PartitionState D) (t : RemoteTier S M) (b : ℕ) (x : Node D) (broker_tier : BrokerTierState) (in_progress : InProgress) (command : Command) (outcome : Outcome) (h' : PartitionState D) (t' : RemoteTier S M)
      → Row disk store meta p config h t b x broker_tier in_progress command outcome h' t' → Less command in_progress outcome
  row_less p config h t b x broker_tier Idle Copy outcome h' t' row = first_less h t b x broker_tier outcome t' row.0
  row_less p config h t b x broker_tier Idle Expire outcome h' t' row = expire_first h t b x broker_tier outcome t' row.0
  row_less p config h t b x broker_tier Idle Trim outcome h' t' row = trim_first h t b x broker_tier outcome t' row.0
  row_less p config h t b x broker_tier Idle (Offset LatestTiered) outcome h' t' row = offset_first h t b x broker_tier outcome t' row.0
  row_less p config h t b x broker_tier Idle (Offset (At ts)) outcome h' t' row = search_first h t b x broker_tier ts outcome t' row.0
  row_less p config h t b x broker_tier Idle other outcome h' t' row = own_less h t b x other outcome h' t' row
  row_less p config h t b x broker_tier (Noted g) Copy outcome h' t' row = choose_less p h t b x broker_tier g outcome h' t' row
  row_less p config h t b x broker_tier (Noted g) Trim outcome h' t' row = trim_less h b x broker_tier g config outcome h' row.0
  row_less p config h t b x broker_tier (Noted g) Expire outcome h' t' row = expire_less p config h x broker_tier g outcome h' row.0
  row_less p config h t b x broker_tier (Noted g) (Fetch offset limit) outcome h' t' row = fetch_less p h t b x broker_tier g offset limit outcome t' row.0
  row_less p config h t b x broker_tier (Noted g) Join outcome h' t' row = join_less h t b x broker_tier g outcome h' t' row
  row_less p config h t b x broker_tier (Noted g) (Offset LatestTiered) outcome h' t' row = offset_less h x broker_tier g outcome row.0
  row_less p config h t b x broker_tier (Noted g) (Offset (At ts)) outcome h' t' row = date_less p h t b x broker_tier g ts outcome h' t' row
  row_less p config h t b x broker_tier (Noted g) other outcome h' t' row = last_less h t b x g (Noted g) other other outcome h' t' row
  row_less p config h t b x broker_tier (Copies g copy next) Copy outcome h' t' row = later_less h t b x broker_tier g copy next outcome t' row.0
  row_less p config h t b x broker_tier (Seeks g next) (Fetch offset limit) outcome h' t' row = seek_less p h t b x broker_tier g offset limit next outcome t' row.0
  row_less p config h t b x broker_tier (Dates g cursor next) (Offset (At ts)) outcome h' t' row = dates_less p h t b x broker_tier g ts cursor next outcome h' t' row
  row_less p config h t b x broker_tier (Expires g segment next) Expire outcome h' t' row = deletion_less h t b x g segment next outcome t' row.0
  row_less p config h t b x broker_tier (Rebuilds g Epochs) Join outcome h' t' row = reads_less p h t b x broker_tier g outcome t' row.0
  row_less p config h t b x broker_tier (Rebuilds g (Restart line)) Join outcome h' t' row = last_less h t b x (with_line g line) (Rebuilds g (Restart line)) Join Join outcome h' t' row
  row_less p config h t b x broker_tier in_progress command outcome h' t' row = elim row [ ]

  actor_state_less : (command : Command) (actor_state : ActorState) (outcome : Outcome) → Less command actor_state.in_progress outcome → IsUnanswered outcome → turns_left command (actor_state_after actor_state outcome).in_progress < turns_left command actor_state.in_progress
  actor_state_less command actor_state (Answers answer) less un = absurd un
  actor_state_less command actor_state other less un = less

  pub go_on : (w : Whole D S M) (a : ℕ) (outcome : Outcome) (w' : Whole D S M) (t : IsTurn disk store meta w a outcome w') → IsUnanswered outcome
      → turns_left t.order.command (actor_state_after t.actor_state outcome).in_progress < turns_left t.order.command t.actor_state.in_progress
  go_on w a outcome w' t un =
      let b = t.order.broker.0 in
      let r = row_of disk store meta w.partition w.config w.partition_state w.tier b t.actor_state.in_progress t.order.command outcome w'.partition_state w'.tier t.row in
      actor_state_less t.order.command t.actor_state outcome (row_less w.partition w.config w.partition_state w.tier b r.x r.broker_tier t.actor_state.in_progress t.order.command outcome w'.partition_state w'.tier r.row) un

  pub others_stay : (w : Whole D S M) (a : ℕ) (outcome : Outcome) (w' : Whole D S M) (t : IsTurn disk store meta w a outcome w') (place : ℕ) → place ≢ t.place
      → slice_get w'.desk place ≡ slice_get w.desk place
  others_stay w a outcome w' t place ne = ap (λ (d : List ActorState). slice_get d place) t.desk ∙ get_other w.desk t.place place (actor_state_after t.actor_state outcome) ne
