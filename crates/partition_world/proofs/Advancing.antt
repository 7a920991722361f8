-- Each turn of a command leaves fewer: an order takes at most 14 of them, and a timestamp lookup at most four for each
-- offset more.
use Rattle.std.proofs.Common.{◌≡◌, inl, inr, refl, ap, subst, ℕ, zero, suc, ◌+◌, ◌-◌, ◌*◌, ◌<◌, ◌≤◌, List, [], ◌∷◌, length, slice_get, slice_set, Some, None, Option, Ok, Bool, true, false, arith}
use Rattle.std.specs.Prelude.{◌^◌, min, ℤ}
use Rattle.disk_model.specs.declared.disk.Disk.{Ghosts as DiskGhosts}
use Rattle.object_store.specs.declared.store.Store.{Ghosts as StoreGhosts}
use Rattle.meta_log.specs.declared.log.MetaLog.{Ghosts as MetaGhosts}
use Rattle.tier_base.specs.declared.names.PartitionId.{PartitionId}
use Rattle.tier_base.specs.declared.plain.State.{State}
use Rattle.tier_base.specs.declared.plain.State.TheVariants.{CopyStarted, CopyFinished, DeleteStarted, DeleteFinished}
use Rattle.tier_base.specs.declared.object_key.ObjectKey.{ObjectKey}
use Rattle.meta_log.specs.declared.event_origin.EventOrigin.{EventOrigin}
use Rattle.remote_view.specs.Fold.{EntriesSeen, state_of}
use Rattle.copy_task.specs.Copying.{Copied, keys}
use Rattle.copy_task.specs.Turns.{Tiers, PutObjectRow, DeleteRow, CopyTurnRow, put_at, delete_at, checked}
use Rattle.plain_log.specs.declared.turn.Turn.{Turn}
use Rattle.plain_log.specs.declared.turn.Turn.TheVariants.{Goes as GoesOn, Ends}
use Rattle.copy_task.specs.declared.turn.CopyStep.{CopyStep}
use Rattle.copy_task.specs.declared.turn.CopyStep.TheVariants.{Start, Put, Finish, Check, Delete}
use Rattle.expiry_task.specs.declared.turn.ExpiredSegment.{ExpiredSegment}
use Rattle.expiry_task.specs.declared.turn.DeletionStep.{DeletionStep as Deletion}
use Rattle.rebuild_task.specs.declared.turn.RebuildStep.{RebuildStep as Rebuild}
use Rattle.rebuild_task.specs.declared.turn.RebuildStep.TheVariants.{Epochs, Restart}
use Rattle.tier_fetch.specs.declared.turn.FetchStep.{FetchStep as Search}
use Rattle.tier_fetch.specs.declared.turn.FetchStep.TheVariants.{Refresh}
use Rattle.time_find.specs.declared.turn.Asked.{Asked}
use Rattle.time_find.specs.declared.turn.SearchStep.{SearchStep as Dating}
use Rattle.plain_log.specs.declared.command.ActorList.{ActorList}
use Rattle.plain_log.specs.declared.command.Command.{Command}
use Rattle.plain_log.specs.declared.command.Command.TheVariants.{Copy, Trim, Expire, Fetch, Join, Offset}
use Rattle.plain_log.specs.declared.command.Which.TheVariants.{LatestTiered, At}
use Rattle.plain_log.specs.declared.command.Config.{Config}
use Rattle.plain_log.specs.declared.command.Order.{Order}
use Rattle.laws_partition.specs.declared.start_snapshot.StartSnapshot.{StartSnapshot}
use Rattle.partition_commands.specs.declared.partition_state.Node.{Node}
use Rattle.partition_commands.specs.declared.partition_state.PartitionState.{PartitionState}
use Rattle.partition_commands.specs.Partition.{line_of, local_of}
use Rattle.partition_world.specs.declared.tier.BrokerTierState.{BrokerTierState}
use Rattle.partition_world.specs.declared.tier.RemoteTier.{RemoteTier}
use Rattle.partition_world.specs.declared.actor_state.Outcome.{Outcome}
use Rattle.partition_world.specs.declared.actor_state.Outcome.TheVariants.{Answers, Begins, Chose, Goes, Seeks as Sought, Dates as Dated, ChoosesExpired, Deletes, Rebuilds as Rebuilding}
use Rattle.partition_world.specs.declared.actor_state.ActorState.{ActorState}
use Rattle.partition_world.specs.declared.actor_state.InProgress.{InProgress}
use Rattle.partition_world.specs.declared.actor_state.InProgress.TheVariants.{Idle, Noted, Copies, Seeks, Dates, Expires, Rebuilds}
use Rattle.partition_world.specs.ActorStates.{chosen, moved, sought, dated, expired_segment, deleting, rebuilding, copy_outcome, expiry_outcome, rebuild_outcome, actor_state_after}
use Rattle.partition_world.specs.TurnsOfFetch.{FetchOnRow, fetch_tiers, wanted_of}
use Rattle.partition_world.specs.TurnsOfDate.{SearchRow, DateOnRow, asked_of, is_own, resumed_at, resumed_with}
use Rattle.partition_world.specs.Turns.{ContinuedRow, CopyLaterRow, SeekingRow, DatingRow, DeletingRow, RebuildingRow, Row, TurnRow}
use Rattle.partition_world.proofs.Begins.{MayComeTo, row_of, row_may}
use Rattle.partition_world.proofs.ExpiryAdvances.{deleting_before, few_deleting, expiry_advances}
use Rattle.partition_world.proofs.RebuildEnds.{MayTurn, rebuild_may_turn}
use Rattle.partition_world.specs.TurnsOfRebuild.{wanted_of as rebuilt_to}
use Rattle.tier_safe.proofs.Basics.{key_low}
use Rattle.partition_world.proofs.FetchAdvances.{sought_before, few_sought, fetch_advances}
use Rattle.partition_world.proofs.DateAdvances.{Rises, taken_to, few_taken_to, own_rises, time_rises, goes_further}

-- how many turns a copy has taken at most that does this next
abbrev pub taken_before : CopyStep → ℕ
taken_before Start = 2
taken_before (Put n) = 3 + min n 4
taken_before Finish = 8
taken_before Check = 9
taken_before (Delete n) = 10 + min n 3

-- how many a join has taken that does this next
abbrev pub rebuilding_before : Rebuild → ℕ
rebuilding_before Epochs = 2
rebuilding_before (Restart line) = 3

few_rebuilding : (next : Rebuild) → rebuilding_before next ≤ 13
few_rebuilding Epochs = omega arith
few_rebuilding (Restart line) = omega arith

second_rebuilding : (next : Rebuild) → 1 < rebuilding_before next
second_rebuilding Epochs = omega arith
second_rebuilding (Restart line) = omega arith

-- how many a command has taken at most; it has one more at least
abbrev pub taken_of : InProgress → ℕ
taken_of Idle = 0
taken_of (Noted g) = 1
taken_of (Copies g copy next) = taken_before next
taken_of (Seeks g next) = sought_before next
taken_of (Dates g cursor next) = taken_to cursor next
taken_of (Expires g segment next) = deleting_before next
taken_of (Rebuilds g next) = rebuilding_before next

-- the turns that are left of a list, of which no order takes more than this
abbrev pub turns_of : List Order → ActorState → ℕ
turns_of orders actor_state = (4 * 2 ^ 64 + 6) * (length orders - actor_state.number) - taken_of actor_state.in_progress

-- the turns that are left
abbrev pub turns_left : List ActorList → List ActorState → ℕ
turns_left [] desk = 0
turns_left (l ∷ lists) [] = (4 * 2 ^ 64 + 6) * length l.orders + turns_left lists []
turns_left (l ∷ lists) (actor_state ∷ desk) = turns_of l.orders actor_state + turns_left lists desk

-- the command has taken a turn more
abbrev pub Advances : InProgress → Outcome → Type 0
Advances in_progress (Answers answer) = Unit {0}
Advances in_progress (Begins g) = taken_of in_progress < taken_of (Noted g)
Advances in_progress (Chose copy) = taken_of in_progress < taken_of (chosen in_progress copy)
Advances in_progress (Goes next) = taken_of in_progress < taken_of (moved in_progress next)
Advances in_progress (Sought next) = taken_of in_progress < taken_of (sought in_progress next)
Advances in_progress (Dated cursor next) = taken_of in_progress < taken_of (dated in_progress cursor next)
Advances in_progress (ChoosesExpired segment) = taken_of in_progress < taken_of (expired_segment in_progress segment)
Advances in_progress (Deletes next) = taken_of in_progress < taken_of (deleting in_progress next)
Advances in_progress (Rebuilding next) = taken_of in_progress < taken_of (rebuilding in_progress next)

few_before : (next : CopyStep) → taken_before next ≤ 13
few_before Start = omega arith
few_before (Put n) = omega arith
few_before Finish = omega arith
few_before Check = omega arith
few_before (Delete n) = omega arith

few_taken : (in_progress : InProgress) → taken_of in_progress ≤ 4 * 2 ^ 64 + 5
few_taken Idle = omega arith
few_taken (Noted g) = omega arith
few_taken (Copies g copy next) = let few = few_before next in omega (arith, few)
few_taken (Seeks g next) = let few = few_sought next in omega (arith, few)
few_taken (Dates g cursor next) = few_taken_to cursor next
few_taken (Expires g segment next) = let few = few_deleting next in omega (arith, few)
few_taken (Rebuilds g next) = let few = few_rebuilding next in omega (arith, few)

-- a copy continues with a later turn
to : (before next after : CopyStep) → GoesOn next ≡ GoesOn after → taken_before before < taken_before after → taken_before before < taken_before next
to before next after is lt = let e : next ≡ after = cc in rw e lt

put_advances : (copy : Copied) (n : ℕ) (key : Option ObjectKey) (next : CopyStep) → slice_get (keys copy) (n + 1) ≡ key → GoesOn next ≡ GoesOn (put_at (n + 1) key) → taken_before (Put n) < taken_before next
put_advances copy n None next at is = to (Put n) next Finish is (omega arith)
put_advances copy n (Some key) next at is = let low = key_low copy.partition copy.id copy.packed (n + 1) key at in to (Put n) next (Put (n + 1)) is (omega (arith, low))

delete_advances : (copy : Copied) (view : EntriesSeen) (n : ℕ) (key : Option ObjectKey) (next : CopyStep) → slice_get (keys copy) (n + 1) ≡ key → GoesOn next ≡ delete_at copy view (n + 1) key
    → taken_before (Delete n) < taken_before next
delete_advances copy view n None next at is = absurd cc
delete_advances copy view n (Some key) next at is = let low = key_low copy.partition copy.id copy.packed (n + 1) key at in to (Delete n) next (Delete (n + 1)) is (omega (arith, low))

checked_advances : (copy : Copied) (notes : ℕ) (state : Option State) (next : CopyStep) → GoesOn next ≡ checked copy notes state → taken_before Check < taken_before next
checked_advances copy notes (Some CopyFinished) next is = absurd cc
checked_advances copy notes (Some DeleteStarted) next is = to Check next (Delete 0) is (omega arith)
checked_advances copy notes (Some DeleteFinished) next is = to Check next (Delete 0) is (omega arith)
checked_advances copy notes (Some CopyStarted) next is = absurd cc
checked_advances copy notes None next is = absurd cc

module _ {S M : Type 0} (store : StoreGhosts S) (meta : MetaGhosts M) where
  put_row : (copy : Copied) (n : ℕ) (key : Option ObjectKey) (next : CopyStep) (old new : S) → PutObjectRow store.content store.control copy n key (Ok (GoesOn next)) old new → taken_before (Put n) < taken_before next
  put_row copy n None next old new w = let e : next ≡ Finish = cc (w.0) in rw e (omega arith)
  put_row copy n (Some key) next old new w = put_advances copy n (slice_get (keys copy) (n + 1)) next refl w.0

  delete_row : (copy : Copied) (view : EntriesSeen) (n : ℕ) (key : Option ObjectKey) (next : CopyStep) (old new : S) → DeleteRow store.content store.control copy view n key (GoesOn next) old new
      → taken_before (Delete n) < taken_before next
  delete_row copy view n None next old new w = let e = w.0 in absurd (cc (e))
  delete_row copy view n (Some key) next old new w = delete_advances copy view n (slice_get (keys copy) (n + 1)) next refl w.0

  copy_advances : (copy : Copied) (origin : EventOrigin) (before next : CopyStep) (old new : Tiers S M)
      → CopyTurnRow store.content store.control meta.content meta.control copy origin before (Ok (GoesOn next)) old new → taken_before before < taken_before next
  copy_advances copy origin Start next old new w = to Start next (Put 0) w.1.0 (omega arith)
  copy_advances copy origin (Put n) next old new w = put_row copy n (slice_get (keys copy) n) next old.store new.store w.1
  copy_advances copy origin Finish next old new w = to Finish next Check w.1.0 (omega arith)
  copy_advances copy origin Check next old new w = checked_advances copy new.view.notes (state_of copy.id new.view.entries) next w.1.0
  copy_advances copy origin (Delete n) next old new w = delete_row copy old.view n (slice_get (keys copy) n) next old.store new.store w.1

copy_goes : (turn : Turn CopyStep) (next : CopyStep) → Goes next ≡ copy_outcome turn → turn ≡ GoesOn next
copy_goes (GoesOn n) next is = cc
copy_goes (Ends answer) next is = absurd cc

expiry_goes : (turn : Turn Deletion) (next : Deletion) → Deletes next ≡ expiry_outcome turn → turn ≡ GoesOn next
expiry_goes (GoesOn n) next is = cc
expiry_goes (Ends answer) next is = absurd cc

rebuild_goes : (turn : Turn Rebuild) (next : Rebuild) → Rebuilding next ≡ rebuild_outcome turn → turn ≡ GoesOn next
rebuild_goes (GoesOn n) next is = cc
rebuild_goes (Ends answer) next is = absurd cc

-- after the leader epochs that were read the log is restarted
read_advances : (next : Rebuild) → MayTurn (GoesOn next) → 2 < rebuilding_before next
read_advances (Restart line) may = omega arith
read_advances Epochs may = absurd may

module _ {D S M : Type 0} (disk : DiskGhosts D) (store : StoreGhosts S) (meta : MetaGhosts M) where
  seek_advances : (p : PartitionId) (h : PartitionState D) (t : RemoteTier S M) (b : ℕ) (x : Node D) (broker_tier : BrokerTierState) (g : StartSnapshot) (offset limit : ℕ) (before next : Search) (t' : RemoteTier S M)
      → FetchOnRow store meta p h t b x broker_tier g offset limit before (Sought next) t' → sought_before before < sought_before next
  seek_advances p h t b x broker_tier g offset limit before next t' w =
      fetch_advances store meta (wanted_of p x offset limit) (line_of x) before next (fetch_tiers broker_tier.view broker_tier.cache t) (fetch_tiers w.1.view w.1.cache t') w.1.row

  recorded_sought : (p : PartitionId) (config : Config) (h : PartitionState D) (t : RemoteTier S M) (b : ℕ) (x : Node D) (broker_tier : BrokerTierState) (g : StartSnapshot) (command : Command) (next : Search) (h' : PartitionState D) (t' : RemoteTier S M)
      → ContinuedRow disk store meta p config h t b x broker_tier g command (Sought next) h' t' → sought_before Refresh < sought_before next
  recorded_sought p config h t b x broker_tier g Copy next h' t' (inl lost) = let e = lost.1 in absurd (cc (e))
  recorded_sought p config h t b x broker_tier g Copy next h' t' (inr (keeps, inl level)) = let e = level.1 in absurd (cc (e))
  recorded_sought p config h t b x broker_tier g Copy next h' t' (inr (keeps, inr reads)) = elim reads.row [ ]
  recorded_sought p config h t b x broker_tier g Trim next h' t' w = elim w.0 [ ]
  recorded_sought p config h t b x broker_tier g (Offset LatestTiered) next h' t' w = elim w.0 [ ]
  recorded_sought p config h t b x broker_tier g (Offset (At ts)) next h' t' w = elim w [ ]
  recorded_sought p config h t b x broker_tier g Expire next h' t' (inl lost, same) = let e = lost.1 in absurd (cc (e))
  recorded_sought p config h t b x broker_tier g Expire next h' t' (inr (keeps, by), same) = elim by [ ]
  recorded_sought p config h t b x broker_tier g Join next h' t' (inl (low, own)) = let e = own.0.1 in absurd (cc (e))
  recorded_sought p config h t b x broker_tier g Join next h' t' (inr (high, inl (answer, is, at, tier), same)) = absurd (cc (is))
  recorded_sought p config h t b x broker_tier g Join next h' t' (inr (high, inr (may, row), same)) = elim row [ ]
  recorded_sought p config h t b x broker_tier g (Fetch offset limit) next h' t' w = seek_advances p h t b x broker_tier g offset limit Refresh next t' w.0
  recorded_sought p config h t b x broker_tier g other next h' t' w = let e = w.0.1 in absurd (cc (e))

  seeking_sought : (p : PartitionId) (h : PartitionState D) (t : RemoteTier S M) (b : ℕ) (x : Node D) (broker_tier : BrokerTierState) (g : StartSnapshot) (before : Search) (command : Command) (next : Search) (h' : PartitionState D) (t' : RemoteTier S M)
      → SeekingRow store meta p h t b x broker_tier g before command (Sought next) h' t' → sought_before before < sought_before next
  seeking_sought p h t b x broker_tier g before (Fetch offset limit) next h' t' w = seek_advances p h t b x broker_tier g offset limit before next t' w.0
  seeking_sought p h t b x broker_tier g before other next h' t' w = elim w [ ]

  search_rises : (h : PartitionState D) (t : RemoteTier S M) (b : ℕ) (x : Node D) (broker_tier : BrokerTierState) (asked : Asked) (cursor : ℕ) (before : Dating) (own : Bool)
      (at : ℕ) (next : Dating) (h' : PartitionState D) (t' : RemoteTier S M)
      → SearchRow disk store meta h t b x broker_tier asked cursor before own (GoesOn (at, next)) h' t' → Rises before next
  search_rises h t b x broker_tier asked cursor before true at next h' t' w = own_rises disk x.log asked cursor before next at w.0.kept w.0.row
  search_rises h t b x broker_tier asked cursor before false at next h' t' w =
      let old = fetch_tiers broker_tier.view broker_tier.cache t in
      let new = fetch_tiers w.0.view w.0.cache t' in
      time_rises store meta asked (line_of x) cursor before next at old new w.0.row

  date_advances : (p : PartitionId) (h : PartitionState D) (t : RemoteTier S M) (b : ℕ) (x : Node D) (broker_tier : BrokerTierState) (g : StartSnapshot) (ts : ℤ) (cursor : ℕ)
      (before : Dating) (at : ℕ) (next : Dating) (h' : PartitionState D) (t' : RemoteTier S M)
      → DateOnRow disk store meta p h t b x broker_tier g ts cursor before (Dated at next) h' t' → taken_to cursor before < taken_to at next
  date_advances p h t b x broker_tier g ts cursor before at next h' t' w =
      let on = resumed_at h.registry.start cursor in
      let with = resumed_with h.registry.start cursor before in
      goes_further h.registry.start cursor at before next w.0.fits w.1
      (search_rises h t b x broker_tier (asked_of p h x ts) on with (is_own (local_of x) on with) at next h' t' w.0.row)

  dating_dated : (p : PartitionId) (h : PartitionState D) (t : RemoteTier S M) (b : ℕ) (x : Node D) (broker_tier : BrokerTierState) (g : StartSnapshot) (cursor : ℕ) (before : Dating)
      (command : Command) (at : ℕ) (next : Dating) (h' : PartitionState D) (t' : RemoteTier S M)
      → DatingRow disk store meta p h t b x broker_tier g cursor before command (Dated at next) h' t' → taken_to cursor before < taken_to at next
  dating_dated p h t b x broker_tier g cursor before (Offset (At ts)) at next h' t' w =
      date_advances p h t b x broker_tier g ts cursor before at next h' t' w
  dating_dated p h t b x broker_tier g cursor before other at next h' t' w = elim w [ ]

  copying_goes : (h : PartitionState D) (t : RemoteTier S M) (b : ℕ) (x : Node D) (broker_tier : BrokerTierState) (g : StartSnapshot) (copy : Copied) (before : CopyStep) (command : Command) (next : CopyStep) (h' : PartitionState D) (t' : RemoteTier S M)
      → CopyLaterRow store meta h t b x broker_tier g copy before command (Goes next) h' t' → taken_before before < taken_before next
  copying_goes h t b x broker_tier g copy before Copy next h' t' (inl lost, same) = let e = lost.1 in absurd (cc (e))
  copying_goes h t b x broker_tier g copy before Copy next h' t' (inr (keeps, (turn, is, goes)), same) =
      let one = copy_goes turn next is in
      copy_advances store meta copy _ before next _ _ (rw one at goes.row)
  copying_goes h t b x broker_tier g copy before command next h' t' w = elim w [ ]

  deleting_deletes : (h : PartitionState D) (t : RemoteTier S M) (b : ℕ) (x : Node D) (g : StartSnapshot) (segment : ExpiredSegment) (before : Deletion) (command : Command) (next : Deletion) (h' : PartitionState D) (t' : RemoteTier S M)
      → DeletingRow store meta h t b x g segment before command (Deletes next) h' t' → deleting_before before < deleting_before next
  deleting_deletes h t b x g segment before Expire next h' t' (inl lost, same) = let e = lost.1 in absurd (cc (e))
  deleting_deletes h t b x g segment before Expire next h' t' (inr (keeps, (turn, is, goes)), same) =
      let one = expiry_goes turn next is in
      expiry_advances store meta segment _ before next _ _ (rw one at goes.row)
  deleting_deletes h t b x g segment before command next h' t' w = elim w [ ]

  rebuilding_goes : (p : PartitionId) (h : PartitionState D) (t : RemoteTier S M) (b : ℕ) (x : Node D) (broker_tier : BrokerTierState) (g : StartSnapshot) (before : Rebuild) (command : Command) (next : Rebuild) (h' : PartitionState D) (t' : RemoteTier S M)
      → RebuildingRow disk store p h t b x broker_tier g before command (Rebuilding next) h' t' → rebuilding_before before < rebuilding_before next
  rebuilding_goes p h t b x broker_tier g Epochs Join next h' t' (inl (answer, is, at, tier), same) = absurd (cc (is))
  rebuilding_goes p h t b x broker_tier g Epochs Join next h' t' (inr (may, (turn, is, goes)), same) =
      let one = rebuild_goes turn next is in
      read_advances next (subst MayTurn one (rebuild_may_turn store (rebuilt_to p g) g.line broker_tier.view turn t.store t'.store goes.row))
  rebuilding_goes p h t b x broker_tier g (Restart line) Join next h' t' w = let e = w.0.1 in absurd (cc (e))
  rebuilding_goes p h t b x broker_tier g before command next h' t' w = elim w [ ]

  advances : (p : PartitionId) (config : Config) (h : PartitionState D) (t : RemoteTier S M) (b : ℕ) (x : Node D) (broker_tier : BrokerTierState) (in_progress : InProgress) (command : Command) (outcome : Outcome) (h' : PartitionState D) (t' : RemoteTier S M)
      → MayComeTo in_progress outcome → Row disk store meta p config h t b x broker_tier in_progress command outcome h' t' → Advances in_progress outcome
  advances p config h t b x broker_tier in_progress command (Answers answer) h' t' may w = tt
  advances p config h t b x broker_tier Idle command (Begins g) h' t' may w = omega arith
  advances p config h t b x broker_tier (Noted g) command (Chose copy) h' t' may w = omega arith
  advances p config h t b x broker_tier (Noted g) command (Sought next) h' t' may w = recorded_sought p config h t b x broker_tier g command next h' t' w
  advances p config h t b x broker_tier (Noted g) command (Dated at next) h' t' may w = omega arith
  advances p config h t b x broker_tier (Noted g) command (ChoosesExpired segment) h' t' may w = omega arith
  advances p config h t b x broker_tier (Copies g c before) command (Goes next) h' t' may w = copying_goes h t b x broker_tier g c before command next h' t' w
  advances p config h t b x broker_tier (Seeks g before) command (Sought next) h' t' may w = seeking_sought p h t b x broker_tier g before command next h' t' w
  advances p config h t b x broker_tier (Dates g cursor before) command (Dated at next) h' t' may w =
      dating_dated p h t b x broker_tier g cursor before command at next h' t' w
  advances p config h t b x broker_tier (Expires g segment before) command (Deletes next) h' t' may w = deleting_deletes h t b x g segment before command next h' t' w
  advances p config h t b x broker_tier (Noted g) command (Rebuilding next) h' t' may w = second_rebuilding next
  advances p config h t b x broker_tier (Rebuilds g before) command (Rebuilding next) h' t' may w = rebuilding_goes p h t b x broker_tier g before command next h' t' w
  advances p config h t b x broker_tier in_progress command outcome h' t' may w = elim may [ ]

  pub advances_at : (p : PartitionId) (config : Config) (h : PartitionState D) (t : RemoteTier S M) (b : ℕ) (in_progress : InProgress) (command : Command) (outcome : Outcome) (h' : PartitionState D) (t' : RemoteTier S M)
      → TurnRow disk store meta p config h t b in_progress command outcome h' t' → Advances in_progress outcome
  advances_at p config h t b in_progress command outcome h' t' w =
      let r = row_of disk store meta p config h t b in_progress command outcome h' t' w in
      advances p config h t b r.x r.broker_tier in_progress command outcome h' t' (row_may disk store meta p config h t b r.x r.broker_tier in_progress command outcome h' t' r.row) r.row

-- an actor's state after a turn leaves a turn less
of_less : (orders : List Order) (actor_state : ActorState) (outcome : Outcome) → actor_state.number < length orders → Advances actor_state.in_progress outcome → turns_of orders (actor_state_after actor_state outcome) + 1 ≤ turns_of orders actor_state
of_less orders actor_state (Answers answer) lt on = let few = few_taken actor_state.in_progress in omega (arith, lt, few)
of_less orders actor_state (Begins g) lt on = omega (arith, lt, on)
of_less orders actor_state (Chose copy) lt on = let few = few_taken (chosen actor_state.in_progress copy) in omega (arith, lt, few, on)
of_less orders actor_state (Goes next) lt on = let few = few_taken (moved actor_state.in_progress next) in omega (arith, lt, few, on)
of_less orders actor_state (Sought next) lt on = let few = few_taken (sought actor_state.in_progress next) in omega (arith, lt, few, on)
of_less orders actor_state (Dated cursor next) lt on = let few = few_taken (dated actor_state.in_progress cursor next) in omega (arith, lt, few, on)
of_less orders actor_state (ChoosesExpired segment) lt on = let few = few_taken (expired_segment actor_state.in_progress segment) in omega (arith, lt, few, on)
of_less orders actor_state (Deletes next) lt on = let few = few_taken (deleting actor_state.in_progress next) in omega (arith, lt, few, on)
of_less orders actor_state (Rebuilding next) lt on = let few = few_taken (rebuilding actor_state.in_progress next) in omega (arith, lt, few, on)

pub turns_less : (lists : List ActorList) (desk : List ActorState) (i : ℕ) (l : ActorList) (actor_state : ActorState) (outcome : Outcome) → slice_get lists i ≡ Some l → slice_get desk i ≡ Some actor_state
    → actor_state.number < length l.orders → Advances actor_state.in_progress outcome → turns_left lists (slice_set desk i (actor_state_after actor_state outcome)) + 1 ≤ turns_left lists desk
turns_less [] desk i l actor_state outcome at to lt on = absurd cc
turns_less (k ∷ lists) [] i l actor_state outcome at to lt on = absurd cc
turns_less (k ∷ lists) (s ∷ desk) zero l actor_state outcome at to lt on =
    let one : l ≡ k = cc in
    let two : s ≡ actor_state = cc in
    let less = of_less k.orders actor_state outcome (omega (arith, lt, ap (λ (t : ActorList). length t.orders) one)) on in
    omega (arith, less, ap (λ (t : ActorState). turns_of k.orders t) two)
turns_less (k ∷ lists) (s ∷ desk) (suc i) l actor_state outcome at to lt on = let h = turns_less lists desk i l actor_state outcome at to lt on in omega (arith, h)
