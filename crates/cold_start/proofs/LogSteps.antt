-- A step of a world works on one device at most.
use Rattle.std.proofs.Common.{◌≡◌, ◌⊎◌, inl, inr, sym, ap, subst, ℕ, List, slice_get, Some, None, Result, Bool, true, false, Ok as Granted, Err}
use Rattle.std.specs.Prelude.{ℤ}
use Rattle.std.specs.declared.alloc.AllocError.{AllocError}
use Rattle.tier_base.specs.declared.names.PartitionId.{PartitionId}
use Rattle.tier_base.specs.declared.plain.Keep.{Keep}
use Rattle.disk_model.specs.declared.disk.Disk.{Ghosts as DiskGhosts}
use Rattle.object_store.specs.declared.store.Store.{Ghosts as StoreGhosts}
use Rattle.meta_log.specs.declared.log.MetaLog.{Ghosts as MetaGhosts}
use Rattle.broker_log.specs.Seen.{LeavesBetween, closed_in}
use Rattle.copy_task.specs.Copying.{Copied}
use Rattle.copy_task.specs.declared.turn.CopyStep.{CopyStep}
use Rattle.copy_task.specs.declared.turn.CopyStep.TheVariants as copying
use Rattle.copy_task.specs.Turns.{CopyTurnRow, Tiers as CopyTiers}
use Rattle.meta_log.specs.declared.event_origin.EventOrigin.{EventOrigin}
use Rattle.tier_fetch.specs.declared.turn.FetchStep.{FetchStep as Search}
use Rattle.tier_fetch.specs.declared.turn.FetchStep.TheVariants as fetching
use Rattle.tier_fetch.specs.declared.turn.FetchRequest.{FetchRequest}
use Rattle.tier_fetch.specs.Turns.{RemoteFetchRow, Tiers as FetchTiers}
use Rattle.time_find.specs.declared.turn.Asked.{Asked}
use Rattle.time_find.specs.declared.turn.SearchStep.{SearchStep as Dating}
use Rattle.time_find.specs.declared.turn.SearchStep.TheVariants.{Seek, Times as ReadsTimes, Index, Log}
use Rattle.time_find.specs.Passing.{passed_over}
use Rattle.time_find.specs.Turns.{TimeRow, LocalSearchRow, ReadLocalRow as RunRow}
use Rattle.plain_log.specs.declared.turn.Turn.{Turn}
use Rattle.plain_log.specs.declared.turn.Turn.TheVariants as dating
use Rattle.expiry_task.specs.declared.turn.ExpiredSegment.{ExpiredSegment}
use Rattle.expiry_task.specs.declared.turn.DeletionStep.{DeletionStep as Deletion}
use Rattle.expiry_task.specs.declared.turn.DeletionStep.TheVariants as deleting
use Rattle.expiry_task.specs.Turns.{ExpiryRow, Tiers as ExpiryTiers}
use Rattle.rebuild_task.specs.declared.turn.RebuildStep.{RebuildStep as Rebuild}
use Rattle.rebuild_task.specs.declared.turn.RebuildStep.TheVariants.{Epochs, Restart}
use Rattle.plain_log.specs.declared.answer.Answer.{Answer}
use Rattle.plain_log.specs.declared.answer.Answer.TheVariants.{Down, NotLeader, CopyOff, MetaFault, DiskFault, Damaged, Stopped, OutOfRange, Empty, NoOffset, Kept as Remains, StaleEpoch, Raised}
use Rattle.plain_log.specs.declared.answer.Place.TheVariants.{File}
use Rattle.plain_log.specs.declared.command.Command.{Command}
use Rattle.plain_log.specs.declared.command.Command.TheVariants.{Join, Copy, Trim, Expire, Fetch, Offset}
use Rattle.plain_log.specs.declared.command.Which.TheVariants.{LatestTiered, At}
use Rattle.plain_log.specs.declared.command.Config.{Config}
use Rattle.laws_partition.specs.declared.start_snapshot.StartSnapshot.{StartSnapshot}
use Rattle.laws_partition.specs.declared.start_snapshot.Turned.TheVariants as turned
use Rattle.laws_partition.specs.declared.actor_progress.Stepped.TheVariants.{Ran, Done, Nothing, NoMemory}
use Rattle.laws_partition.proofs.BoolTests.{some_of}
use Rattle.partition_commands.specs.declared.partition_state.Node.{Node}
use Rattle.partition_commands.specs.declared.partition_state.PartitionState.{PartitionState}
use Rattle.partition_commands.specs.Partition.{KeepsPartition, line_of}
use Rattle.partition_world.specs.declared.tier.BrokerTierState.{BrokerTierState}
use Rattle.partition_world.specs.declared.tier.RemoteTier.{RemoteTier}
use Rattle.partition_world.specs.declared.actor_state.Outcome.{Outcome}
use Rattle.partition_world.specs.declared.actor_state.Outcome.TheVariants.{Answers, Begins, Chose, Seeks as Sought, Dates as Dated, ChoosesExpired, Rebuilds as Rebuilding}
use Rattle.partition_world.specs.declared.actor_state.InProgress.{InProgress}
use Rattle.partition_world.specs.declared.actor_state.InProgress.TheVariants.{Idle, Noted, Copies, Seeks, Dates, Expires, Rebuilds}
use Rattle.partition_world.specs.Tier.{HaltsRefresh}
use Rattle.partition_world.specs.TurnsOfCopy.{LeadersFirstRow, CopyFirstRow, ReadsLocalLog, ReadSegmentRow, ChooseRow, tiers_of, origin_of}
use Rattle.partition_world.specs.TurnsOfDate.{SearchesOwn, SearchRow, SearchesOn, DateOnRow, WantsForDate, asked_of, is_own, resumed_at, resumed_with}
use Rattle.partition_world.specs.TurnsOfFetch.{FetchOnRow, GoesOnFetch, WantsForFetch, fetch_tiers, wanted_of}
use Rattle.partition_commands.specs.Partition.{local_of, put_node}
use Rattle.partition_world.specs.TurnsOfExpiry.{ExpiryRaiseRow, ExpireOnRow, ExpiresBy, expiry_tiers}
use Rattle.partition_world.specs.TurnsOfRebuild.{with_line, RefreshedRow}
use Rattle.partition_world.specs.TurnsOfTrim.{TrimFirstRow, TrimOnRow}
use Rattle.partition_world.specs.Turns.{OwnOnRow, BeginRow, ContinuedRow, CopyLaterRow, SeekingRow, DatingRow, DeletingRow, JoinSecondRow, RebuildingRow, Row, BeginHalts, ContinuedHalts, CopyingHalts, SeekingHalts, DatingHalts, DeletingHalts, RebuildingHalts, HaltsTier, StaysTier}
use Rattle.partition_world.specs.Turn.{IsTurn, StaysWhole}
use Rattle.partition_world.specs.Whole.{Whole}
use Rattle.cold_start.specs.Moments.{ChangesLog, StepsWorkOnOne}
use Rattle.cold_start.specs.Stepping.{logs_of}
use Rattle.cold_start.proofs.LogRows.{OneLog, none, one_put, same_put, leaves, row_log, trim_on_log}

module _ {S M : Type 0} where
  -- one of the two is as it was
  abbrev OneOf : RemoteTier S M → RemoteTier S M → Type 0
  OneOf t t' = (t'.store ≡ t.store) ⊎ (t'.meta ≡ t.meta)

  tier_same : (t t' : RemoteTier S M) → t' ≡ t → OneOf t t'
  tier_same t t' e = inl (ap (λ (k : RemoteTier S M). k.store) e)

module _ {S M : Type 0} (store : StoreGhosts S) (meta : MetaGhosts M) where
  copy_one : (copy : Copied) (origin : EventOrigin) (next : CopyStep) (result : Result (Turn CopyStep) AllocError) (old new : CopyTiers S M) → CopyTurnRow store.content store.control meta.content meta.control copy origin next result old new
      → (new.store ≡ old.store) ⊎ (new.meta ≡ old.meta)
  copy_one copy origin copying.Start result old new w = inl (ap (λ (k : CopyTiers S M). k.store) w.0)
  copy_one copy origin (copying.Put n) result old new w = inr (ap (λ (k : CopyTiers S M). k.meta) w.0)
  copy_one copy origin copying.Finish result old new w = inl (ap (λ (k : CopyTiers S M). k.store) w.0)
  copy_one copy origin copying.Check result old new w = inl w.0
  copy_one copy origin (copying.Delete n) (Granted turn) old new w = inr (ap (λ (k : CopyTiers S M). k.meta) w.0)
  copy_one copy origin (copying.Delete n) (Err e) old new w = absurd w

  fetch_one : (wanted : FetchRequest) (line : List (ℕ × ℕ)) (next : Search) (result : Result (Turn Search) AllocError) (old new : FetchTiers S M) → RemoteFetchRow store.content store.control meta.content meta.control wanted line next result old new
      → (new.store ≡ old.store) ⊎ (new.meta ≡ old.meta)
  fetch_one wanted line fetching.Refresh result old new w = inl (ap (λ (k : FetchTiers S M). k.store) w.0)
  fetch_one wanted line (fetching.Index piece) result old new w = inr (ap (λ (k : FetchTiers S M). k.meta) w.0)
  fetch_one wanted line (fetching.Log piece span) result old new w = inr (ap (λ (k : FetchTiers S M). k.meta) w.0)

  expiry_one : (segment : ExpiredSegment) (origin : EventOrigin) (next : Deletion) (result : Result (Turn Deletion) AllocError) (old new : ExpiryTiers S M) → ExpiryRow store.content store.control meta.content meta.control segment origin next result old new
      → (new.store ≡ old.store) ⊎ (new.meta ≡ old.meta)
  expiry_one segment origin deleting.Start result old new w = inl (ap (λ (k : ExpiryTiers S M). k.store) w.0)
  expiry_one segment origin (deleting.Delete n) (Granted turn) old new w = inr (ap (λ (k : ExpiryTiers S M). k.meta) w.0)
  expiry_one segment origin (deleting.Delete n) (Err e) old new w = absurd w
  expiry_one segment origin deleting.Finish result old new w = inl (ap (λ (k : ExpiryTiers S M). k.store) w.0)

  time_one : (asked : Asked) (line : List (ℕ × ℕ)) (cursor : ℕ) (next : Dating) (result : Result (Turn (ℕ × Dating)) AllocError) (old new : FetchTiers S M) → TimeRow store.content store.control meta.content meta.control asked line cursor next result old new
      → (new.store ≡ old.store) ⊎ (new.meta ≡ old.meta)
  time_one asked line cursor Seek result old new w = inl (ap (λ (k : FetchTiers S M). k.store) w.0)
  time_one asked line cursor (ReadsTimes piece) result old new w = inr (ap (λ (k : FetchTiers S M). k.meta) w.0)
  time_one asked line cursor (Index piece from) result old new w = inr (ap (λ (k : FetchTiers S M). k.meta) w.0)
  time_one asked line cursor (Log piece from span) result old new w = inr (ap (λ (k : FetchTiers S M). k.meta) w.0)

  -- the first turns of commands on the remote tier read the metadata log
  leaders_one : {D : Type 0} (h : PartitionState D) (t : RemoteTier S M) (b : ℕ) (x : Node D) (broker_tier : BrokerTierState) (outcome : Outcome) (t' : RemoteTier S M) → LeadersFirstRow meta h t b x broker_tier outcome t' → OneOf t t'
  leaders_one h t b x broker_tier (Answers Down) t' w = tier_same t t' w.1
  leaders_one h t b x broker_tier (Answers NotLeader) t' w = tier_same t t' w.2
  leaders_one h t b x broker_tier (Answers MetaFault) t' w = inl (ap (λ (k : RemoteTier S M). k.store) w.2.after)
  leaders_one h t b x broker_tier (Begins g) t' w = inl (ap (λ (k : RemoteTier S M). k.store) w.3.after)
  leaders_one h t b x broker_tier other t' w = elim w [ ]

  first_one : {D : Type 0} (h : PartitionState D) (t : RemoteTier S M) (b : ℕ) (x : Node D) (broker_tier : BrokerTierState) (outcome : Outcome) (t' : RemoteTier S M) → CopyFirstRow meta h t b x broker_tier outcome t' → OneOf t t'
  first_one h t b x broker_tier (Answers CopyOff) t' w = tier_same t t' w.3
  first_one h t b x broker_tier (Answers MetaFault) t' w = leaders_one h t b x broker_tier (Answers MetaFault) t' w.0
  first_one h t b x broker_tier (Begins g) t' w = leaders_one h t b x broker_tier (Begins g) t' w.0
  first_one h t b x broker_tier other t' w = leaders_one h t b x broker_tier other t' w

  trims_one : {D : Type 0} (h : PartitionState D) (t : RemoteTier S M) (b : ℕ) (x : Node D) (broker_tier : BrokerTierState) (outcome : Outcome) (t' : RemoteTier S M) → TrimFirstRow meta h t b x broker_tier outcome t' → OneOf t t'
  trims_one h t b x broker_tier (Answers Down) t' w = tier_same t t' w.1
  trims_one h t b x broker_tier (Answers MetaFault) t' w = inl (ap (λ (k : RemoteTier S M). k.store) w.1.after)
  trims_one h t b x broker_tier (Begins g) t' w = inl (ap (λ (k : RemoteTier S M). k.store) w.2.after)
  trims_one h t b x broker_tier other t' w = elim w [ ]

  refreshed_one : (t : RemoteTier S M) (b : ℕ) (broker_tier : BrokerTierState) (outcome : Outcome) (t' : RemoteTier S M) → RefreshedRow meta t b broker_tier outcome t' → OneOf t t'
  refreshed_one t b broker_tier (Answers MetaFault) t' w = inl (ap (λ (k : RemoteTier S M). k.store) w.after)
  refreshed_one t b broker_tier (Rebuilding Epochs) t' w = inl (ap (λ (k : RemoteTier S M). k.store) w.after)
  refreshed_one t b broker_tier other t' w = elim w [ ]

  goes_one : {D : Type 0} (p : PartitionId) (t : RemoteTier S M) (b : ℕ) (x : Node D) (broker_tier : BrokerTierState) (offset limit : ℕ) (next : Search) (turn : Turn Search) (t' : RemoteTier S M) → GoesOnFetch store meta p t b x broker_tier offset limit next turn t' → OneOf t t'
  goes_one p t b x broker_tier offset limit next turn t' g = fetch_one (wanted_of p x offset limit) (line_of x) next (Granted turn) (fetch_tiers broker_tier.view broker_tier.cache t) (fetch_tiers g.view g.cache t') g.row

  seek_one : {D : Type 0} (p : PartitionId) (h : PartitionState D) (t : RemoteTier S M) (b : ℕ) (x : Node D) (broker_tier : BrokerTierState) (g : StartSnapshot) (offset limit : ℕ) (next : Search) (outcome : Outcome) (t' : RemoteTier S M)
      → FetchOnRow store meta p h t b x broker_tier g offset limit next outcome t' → OneOf t t'
  seek_one p h t b x broker_tier g offset limit next (Answers Stopped) t' w = tier_same t t' w.1
  seek_one p h t b x broker_tier g offset limit next (Answers NotLeader) t' w = tier_same t t' w.3
  seek_one p h t b x broker_tier g offset limit next (Answers (OutOfRange start end)) t' w = tier_same t t' w.4
  seek_one p h t b x broker_tier g offset limit next (Answers Empty) t' w = tier_same t t' w.3
  seek_one p h t b x broker_tier g offset limit next (Answers answer) t' w = goes_one p t b x broker_tier offset limit next _ t' w.1
  seek_one p h t b x broker_tier g offset limit next (Sought later) t' w = goes_one p t b x broker_tier offset limit next _ t' w.1
  seek_one p h t b x broker_tier g offset limit next other t' w = elim w [ ]

  -- what a turn leaves that finds no memory
  wants_fetch : {D : Type 0} (p : PartitionId) (t : RemoteTier S M) (b : ℕ) (x : Node D) (broker_tier : BrokerTierState) (offset limit : ℕ) (next : Search) (t' : RemoteTier S M) → WantsForFetch store meta p t b x broker_tier offset limit next t' → OneOf t t'
  wants_fetch p t b x broker_tier offset limit next t' g = fetch_one (wanted_of p x offset limit) (line_of x) next (Err g.error) (fetch_tiers broker_tier.view broker_tier.cache t) (fetch_tiers g.view g.cache t') g.row

  wants_date : (t : RemoteTier S M) (b : ℕ) (broker_tier : BrokerTierState) (line : List (ℕ × ℕ)) (asked : Asked) (cursor : ℕ) (next : Dating) (t' : RemoteTier S M) → WantsForDate store meta t b broker_tier line asked cursor next t' → OneOf t t'
  wants_date t b broker_tier line asked cursor next t' g = time_one asked line cursor next (Err g.error) (fetch_tiers broker_tier.view broker_tier.cache t) (fetch_tiers g.view g.cache t') g.row

  halted_one : (t : RemoteTier S M) (b : ℕ) (broker_tier : BrokerTierState) (t' : RemoteTier S M) → HaltsRefresh meta t b broker_tier t' → OneOf t t'
  halted_one t b broker_tier t' k = inl (ap (λ (u : RemoteTier S M). u.store) k.after)

  begin_halts : (t : RemoteTier S M) (b : ℕ) (broker_tier : BrokerTierState) (command : Command) (t' : RemoteTier S M) → BeginHalts meta t b broker_tier command t' → OneOf t t'
  begin_halts t b broker_tier Copy t' w = halted_one t b broker_tier t' w
  begin_halts t b broker_tier Trim t' w = halted_one t b broker_tier t' w
  begin_halts t b broker_tier Expire t' w = halted_one t b broker_tier t' w
  begin_halts t b broker_tier (Offset LatestTiered) t' w = halted_one t b broker_tier t' w
  begin_halts t b broker_tier (Offset (At ts)) t' w = halted_one t b broker_tier t' w
  begin_halts t b broker_tier command t' w = elim w [ ]

  recorded_halts : {D : Type 0} (p : PartitionId) (h : PartitionState D) (t : RemoteTier S M) (b : ℕ) (x : Node D) (broker_tier : BrokerTierState) (g : StartSnapshot) (command : Command) (t' : RemoteTier S M) → ContinuedHalts store meta p h t b x broker_tier g command t' → OneOf t t'
  recorded_halts p h t b x broker_tier g (Fetch offset limit) t' w = wants_fetch p t b x broker_tier offset limit fetching.Refresh t' w
  recorded_halts p h t b x broker_tier g Join t' w = halted_one t b broker_tier t' w.1
  recorded_halts p h t b x broker_tier g (Offset (At ts)) t' w = wants_date t b broker_tier _ _ _ _ t' w
  recorded_halts p h t b x broker_tier g command t' w = elim w [ ]

  copying_halts : {D : Type 0} (h : PartitionState D) (t : RemoteTier S M) (b : ℕ) (broker_tier : BrokerTierState) (copy : Copied) (next : CopyStep) (command : Command) (t' : RemoteTier S M) → CopyingHalts store meta h t b broker_tier copy next command t' → OneOf t t'
  copying_halts h t b broker_tier copy next Copy t' w = copy_one copy (origin_of h b) next (Err w.error) (tiers_of broker_tier.view t) (tiers_of w.view t') w.row
  copying_halts h t b broker_tier copy next command t' w = elim w [ ]

  seeking_halts : {D : Type 0} (p : PartitionId) (t : RemoteTier S M) (b : ℕ) (x : Node D) (broker_tier : BrokerTierState) (next : Search) (command : Command) (t' : RemoteTier S M) → SeekingHalts store meta p t b x broker_tier next command t' → OneOf t t'
  seeking_halts p t b x broker_tier next (Fetch offset limit) t' w = wants_fetch p t b x broker_tier offset limit next t' w
  seeking_halts p t b x broker_tier next command t' w = elim w [ ]

  dating_halts : {D : Type 0} (p : PartitionId) (h : PartitionState D) (t : RemoteTier S M) (b : ℕ) (x : Node D) (broker_tier : BrokerTierState) (cursor : ℕ) (next : Dating) (command : Command) (t' : RemoteTier S M) → DatingHalts store meta p h t b x broker_tier cursor next command t' → OneOf t t'
  dating_halts p h t b x broker_tier cursor next (Offset (At ts)) t' w = wants_date t b broker_tier _ _ _ _ t' w
  dating_halts p h t b x broker_tier cursor next command t' w = elim w [ ]

  deleting_halts : {D : Type 0} (h : PartitionState D) (t : RemoteTier S M) (b : ℕ) (segment : ExpiredSegment) (next : Deletion) (command : Command) (t' : RemoteTier S M) → DeletingHalts store meta h t b segment next command t' → OneOf t t'
  deleting_halts h t b segment next Expire t' w = expiry_one segment (origin_of h b) next (Err w.error) (expiry_tiers t) (expiry_tiers t') w.row
  deleting_halts h t b segment next command t' w = elim w [ ]

  rebuilding_halts : (p : PartitionId) (t : RemoteTier S M) (broker_tier : BrokerTierState) (g : StartSnapshot) (next : Rebuild) (command : Command) (t' : RemoteTier S M) → RebuildingHalts store p t broker_tier g next command t' → OneOf t t'
  rebuilding_halts p t broker_tier g Epochs Join t' w = inr (ap (λ (u : RemoteTier S M). u.meta) w.after)
  rebuilding_halts p t broker_tier g next command t' w = elim w [ ]

  halts_one : {D : Type 0} (p : PartitionId) (h : PartitionState D) (t : RemoteTier S M) (b : ℕ) (x : Node D) (broker_tier : BrokerTierState) (in_progress : InProgress) (command : Command) (t' : RemoteTier S M) → HaltsTier store meta p h t b x broker_tier in_progress command t' → OneOf t t'
  halts_one p h t b x broker_tier Idle command t' w = begin_halts t b broker_tier command t' w
  halts_one p h t b x broker_tier (Noted g) command t' w = recorded_halts p h t b x broker_tier g command t' w
  halts_one p h t b x broker_tier (Copies g copy next) command t' w = copying_halts h t b broker_tier copy next command t' w
  halts_one p h t b x broker_tier (Seeks g next) command t' w = seeking_halts p t b x broker_tier next command t' w
  halts_one p h t b x broker_tier (Dates g cursor next) command t' w = dating_halts p h t b x broker_tier cursor next command t' w
  halts_one p h t b x broker_tier (Expires g segment next) command t' w = deleting_halts h t b segment next command t' w
  halts_one p h t b x broker_tier (Rebuilds g next) command t' w = rebuilding_halts p t broker_tier g next command t' w

module _ {D S M : Type 0} (disk : DiskGhosts D) (store : StoreGhosts S) (meta : MetaGhosts M) where
  -- one log changes and nothing else, or none does, and one of the tier's devices is as it was
  abbrev Works : PartitionState D → RemoteTier S M → PartitionState D → RemoteTier S M → Type 0
  Works h t h' t' =
      (ChangesLog disk.content h.nodes h'.nodes × (h'.registry ≡ h.registry) × (t'.store ≡ t.store) × (t'.meta ≡ t.meta))
      ⊎ ((logs_of h'.nodes ≡ logs_of h.nodes) × OneOf t t')

  -- the brokers' logs are left alone
  rest : (h : PartitionState D) (t : RemoteTier S M) (h' : PartitionState D) (t' : RemoteTier S M) → h' ≡ h → OneOf t t' → Works h t h' t'
  rest h t h' t' e k = inr (ap (λ (g : PartitionState D). logs_of g.nodes) e, k)

  both : (h : PartitionState D) (t : RemoteTier S M) (h' : PartitionState D) (t' : RemoteTier S M) → h' ≡ h → t' ≡ t → Works h t h' t'
  both h t h' t' e k = rest h t h' t' e (tier_same t t' k)

  own : (h : PartitionState D) (t : RemoteTier S M) (h' : PartitionState D) (t' : RemoteTier S M) → t'.store ≡ t.store → t'.meta ≡ t.meta → OneLog disk.content h h' → Works h t h' t'
  own h t h' t' one two (inl k) = inl (k.0, k.1, one, two)
  own h t h' t' one two (inr k) = inr (k, inl one)

  own_same : (h : PartitionState D) (t : RemoteTier S M) (h' : PartitionState D) (t' : RemoteTier S M) → t' ≡ t → OneLog disk.content h h' → Works h t h' t'
  own_same h t h' t' e k = own h t h' t' (ap (λ (u : RemoteTier S M). u.store) e) (ap (λ (u : RemoteTier S M). u.meta) e) k

  own_on : (h : PartitionState D) (t : RemoteTier S M) (b : ℕ) (x : Node D) (g : StartSnapshot) (command : Command) (outcome : Outcome) (h' : PartitionState D) (t' : RemoteTier S M) → slice_get h.nodes b ≡ Some x
      → OwnOnRow disk h t b x g command outcome h' t' → Works h t h' t'
  own_on h t b x g command outcome h' t' at w = own_same h t h' t' w.1 (row_log disk.content disk.control h b x (Some g) command (turned.Answers w.0.0) h' at w.0.2)

  begin_works : (h : PartitionState D) (t : RemoteTier S M) (b : ℕ) (x : Node D) (broker_tier : BrokerTierState) (command : Command) (outcome : Outcome) (h' : PartitionState D) (t' : RemoteTier S M) → slice_get h.nodes b ≡ Some x
      → BeginRow disk store meta h t b x broker_tier command outcome h' t' → Works h t h' t'
  begin_works h t b x broker_tier Copy outcome h' t' at w = rest h t h' t' w.1 (first_one store meta h t b x broker_tier outcome t' w.0)
  begin_works h t b x broker_tier Trim outcome h' t' at w = rest h t h' t' w.1 (trims_one store meta h t b x broker_tier outcome t' w.0)
  begin_works h t b x broker_tier Expire outcome h' t' at w = rest h t h' t' w.1 (leaders_one store meta h t b x broker_tier outcome t' w.0)
  begin_works h t b x broker_tier (Offset LatestTiered) outcome h' t' at w = rest h t h' t' w.1 (leaders_one store meta h t b x broker_tier outcome t' w.0)
  begin_works h t b x broker_tier (Offset (At ts)) outcome h' t' at w = rest h t h' t' w.1 (leaders_one store meta h t b x broker_tier outcome t' w.0)
  begin_works h t b x broker_tier other outcome h' t' at w = own_same h t h' t' w.1 (row_log disk.content disk.control h b x None other w.0.0 h' at w.0.2)

  -- a log is read for a copy
  reads_log : (h : PartitionState D) (b : ℕ) (x y : Node D) (h' : PartitionState D) → slice_get h.nodes b ≡ Some x → ReadsLocalLog disk x y → h' ≡ put_node h b y → OneLog disk.content h h'
  reads_log h b x y h' at r e = one_put disk.content h b x y h' at (subst (λ (n : Node D). LeavesBetween disk.content x.log n.log) (sym r.after) r.stays.between) e

  read_log : (p : PartitionId) (h : PartitionState D) (b : ℕ) (x y : Node D) (broker_tier z : BrokerTierState) (offset : ℕ) (outcome : Outcome) (h' : PartitionState D) → slice_get h.nodes b ≡ Some x
      → ReadSegmentRow disk p b x broker_tier offset outcome y z → h' ≡ put_node h b y → OneLog disk.content h h'
  read_log p h b x y broker_tier z offset (Answers DiskFault) h' at w e = reads_log h b x y h' at w.0.reads e
  read_log p h b x y broker_tier z offset (Answers (Damaged (File name) place)) h' at w e = reads_log h b x y h' at w.0.reads e
  read_log p h b x y broker_tier z offset (Chose copy) h' at w e = reads_log h b x y h' at w.0.reads e
  read_log p h b x y broker_tier z offset other h' at w e = elim w [ ]

  choose_works : (p : PartitionId) (h : PartitionState D) (t : RemoteTier S M) (b : ℕ) (x : Node D) (broker_tier : BrokerTierState) (g : StartSnapshot) (outcome : Outcome) (h' : PartitionState D) (t' : RemoteTier S M) → slice_get h.nodes b ≡ Some x
      → ChooseRow disk p h t b x broker_tier g outcome h' t' → Works h t h' t'
  choose_works p h t b x broker_tier g outcome h' t' at (inl lost) = both h t h' t' lost.2 lost.3
  choose_works p h t b x broker_tier g outcome h' t' at (inr (keeps, inl level)) = both h t h' t' level.2 level.3
  choose_works p h t b x broker_tier g outcome h' t' at (inr (keeps, inr r)) =
      own h t h' t' (ap (λ (u : RemoteTier S M). u.store) r.tier) (ap (λ (u : RemoteTier S M). u.meta) r.tier) (read_log p h b x r.node broker_tier r.broker_tier_after _ outcome h' at r.row r.partition_state)

  trim_works : (h : PartitionState D) (t : RemoteTier S M) (b : ℕ) (x : Node D) (broker_tier : BrokerTierState) (g : StartSnapshot) (keep : Keep) (outcome : Outcome) (h' : PartitionState D) (t' : RemoteTier S M) → slice_get h.nodes b ≡ Some x → t' ≡ t
      → TrimOnRow disk h b x broker_tier g keep outcome h' → Works h t h' t'
  trim_works h t b x broker_tier g keep (Answers answer) h' t' at e w = own_same h t h' t' e (trim_on_log disk.content disk.control h b x g answer h' at w.0)
  trim_works h t b x broker_tier g keep other h' t' at e w = elim w [ ]

  raise_log : (h : PartitionState D) (x : Node D) (start : ℕ) (answer : Answer) (h' : PartitionState D) → ExpiryRaiseRow h x.role start answer h' → OneLog disk.content h h'
  raise_log h x start (StaleEpoch e) h' w = leaves disk.content h _ h' w.2
  raise_log h x start (Raised to) h' w = leaves disk.content h _ h' w.2
  raise_log h x start other h' w = elim w [ ]

  expires_works : (p : PartitionId) (h : PartitionState D) (t : RemoteTier S M) (x : Node D) (broker_tier : BrokerTierState) (keep : Keep) (outcome : Outcome) (h' : PartitionState D) (t' : RemoteTier S M) → t' ≡ t → ExpiresBy p h x broker_tier keep outcome h' → Works h t h' t'
  expires_works p h t x broker_tier keep (ChoosesExpired segment) h' t' is w = both h t h' t' w.stays is
  expires_works p h t x broker_tier keep (Answers Remains) h' t' is w = both h t h' t' w.2 is
  expires_works p h t x broker_tier keep (Answers answer) h' t' is w = own_same h t h' t' is (raise_log h x w.0 answer h' w.2)
  expires_works p h t x broker_tier keep other h' t' is w = elim w [ ]

  expire_works : (p : PartitionId) (h : PartitionState D) (t : RemoteTier S M) (x : Node D) (broker_tier : BrokerTierState) (g : StartSnapshot) (keep : Keep) (outcome : Outcome) (h' : PartitionState D) (t' : RemoteTier S M) → t' ≡ t → ExpireOnRow p h x broker_tier g keep outcome h' → Works h t h' t'
  expire_works p h t x broker_tier g keep outcome h' t' is (inl lost) = both h t h' t' lost.2 is
  expire_works p h t x broker_tier g keep outcome h' t' is (inr k) = expires_works p h t x broker_tier keep outcome h' t' is k.1

  join_works : (h : PartitionState D) (t : RemoteTier S M) (b : ℕ) (x : Node D) (broker_tier : BrokerTierState) (g : StartSnapshot) (outcome : Outcome) (h' : PartitionState D) (t' : RemoteTier S M) → slice_get h.nodes b ≡ Some x
      → JoinSecondRow disk meta h t b x broker_tier g outcome h' t' → Works h t h' t'
  join_works h t b x broker_tier g outcome h' t' at (inl (low, row)) = own_on h t b x g Join outcome h' t' at row
  join_works h t b x broker_tier g outcome h' t' at (inr (high, inl (answer, is, once, tier), e)) = both h t h' t' e tier
  join_works h t b x broker_tier g outcome h' t' at (inr (high, inr (may, row), e)) = rest h t h' t' e (refreshed_one store meta t b broker_tier outcome t' row)

  -- a search in the local log, and among the remote segments
  own_search : (h : PartitionState D) (b : ℕ) (x : Node D) (asked : Asked) (cursor : ℕ) (turn : Turn (ℕ × Dating)) (h' : PartitionState D) → slice_get h.nodes b ≡ Some x → SearchesOwn disk h b x asked cursor turn h' → OneLog disk.content h h'
  own_search h b x asked cursor turn h' at w = by w.row
    where
      y : Node D
      y = record x { log = w.kept }

      reads : (to : Turn (ℕ × Dating)) → RunRow disk.content disk.control x.log asked (passed_over asked.ts cursor (closed_in x.log)) to w.kept → OneLog disk.content h h'
      reads (dating.Ends DiskFault) row = one_put disk.content h b x y h' at row.0.between w.after
      reads (dating.Ends (Damaged (File name) place)) row = one_put disk.content h b x y h' at row.misreads.stays.between w.after
      reads to row = one_put disk.content h b x y h' at row.reads.stays.between w.after

      by : LocalSearchRow disk.content disk.control x.log asked cursor turn w.kept → OneLog disk.content h h'
      by (inl (past, is, same)) = same_put disk.content h b x y h' at same w.after
      by (inr (below, row)) = reads turn row

  search_works : (h : PartitionState D) (t : RemoteTier S M) (b : ℕ) (x : Node D) (broker_tier : BrokerTierState) (asked : Asked) (cursor : ℕ) (next : Dating) (alone : Bool) (turn : Turn (ℕ × Dating)) (h' : PartitionState D) (t' : RemoteTier S M) → slice_get h.nodes b ≡ Some x
      → SearchRow disk store meta h t b x broker_tier asked cursor next alone turn h' t' → Works h t h' t'
  search_works h t b x broker_tier asked cursor next true turn h' t' at w = own_same h t h' t' w.1 (own_search h b x asked cursor turn h' at w.0)
  search_works h t b x broker_tier asked cursor next false turn h' t' at w =
      rest h t h' t' w.1 (time_one store meta asked (line_of x) cursor next (Granted turn) (fetch_tiers broker_tier.view broker_tier.cache t) (fetch_tiers w.0.view w.0.cache t') w.0.row)

  searches_works : (p : PartitionId) (h : PartitionState D) (t : RemoteTier S M) (b : ℕ) (x : Node D) (broker_tier : BrokerTierState) (g : StartSnapshot) (ts : ℤ) (cursor : ℕ) (next : Dating) (turn : Turn (ℕ × Dating)) (h' : PartitionState D) (t' : RemoteTier S M) → slice_get h.nodes b ≡ Some x
      → SearchesOn disk store meta p h t b x broker_tier g ts cursor next turn h' t' → Works h t h' t'
  searches_works p h t b x broker_tier g ts cursor next turn h' t' at w =
      let on = resumed_at h.registry.start cursor in
      let with = resumed_with h.registry.start cursor next in
      search_works h t b x broker_tier (asked_of p h x ts) on with (is_own (local_of x) on with) turn h' t' at w.row

  date_works : (p : PartitionId) (h : PartitionState D) (t : RemoteTier S M) (b : ℕ) (x : Node D) (broker_tier : BrokerTierState) (g : StartSnapshot) (ts : ℤ) (cursor : ℕ) (next : Dating) (outcome : Outcome) (h' : PartitionState D) (t' : RemoteTier S M) → slice_get h.nodes b ≡ Some x
      → DateOnRow disk store meta p h t b x broker_tier g ts cursor next outcome h' t' → Works h t h' t'
  date_works p h t b x broker_tier g ts cursor next (Answers Stopped) h' t' at w = both h t h' t' w.1 w.2
  date_works p h t b x broker_tier g ts cursor next (Answers NotLeader) h' t' at w = both h t h' t' w.3 w.4
  date_works p h t b x broker_tier g ts cursor next (Answers NoOffset) h' t' at w = both h t h' t' w.2 w.3
  date_works p h t b x broker_tier g ts cursor next (Answers answer) h' t' at w = searches_works p h t b x broker_tier g ts cursor next (dating.Ends answer) h' t' at w
  date_works p h t b x broker_tier g ts cursor next (Dated to later) h' t' at w = searches_works p h t b x broker_tier g ts cursor next (dating.Goes (to, later)) h' t' at w.0
  date_works p h t b x broker_tier g ts cursor next other h' t' at w = elim w [ ]

  recorded_works : (p : PartitionId) (config : Config) (h : PartitionState D) (t : RemoteTier S M) (b : ℕ) (x : Node D) (broker_tier : BrokerTierState) (g : StartSnapshot) (command : Command) (outcome : Outcome) (h' : PartitionState D) (t' : RemoteTier S M) → slice_get h.nodes b ≡ Some x
      → ContinuedRow disk store meta p config h t b x broker_tier g command outcome h' t' → Works h t h' t'
  recorded_works p config h t b x broker_tier g Copy outcome h' t' at w = choose_works p h t b x broker_tier g outcome h' t' at w
  recorded_works p config h t b x broker_tier g Trim outcome h' t' at w = trim_works h t b x broker_tier g config.local_keep outcome h' t' at w.1 w.0
  recorded_works p config h t b x broker_tier g Join outcome h' t' at w = join_works h t b x broker_tier g outcome h' t' at w
  recorded_works p config h t b x broker_tier g Expire outcome h' t' at w = expire_works p h t x broker_tier g config.keep outcome h' t' w.1 w.0
  recorded_works p config h t b x broker_tier g (Fetch offset limit) outcome h' t' at w = rest h t h' t' w.1 (seek_one store meta p h t b x broker_tier g offset limit fetching.Refresh outcome t' w.0)
  recorded_works p config h t b x broker_tier g (Offset LatestTiered) outcome h' t' at w = both h t h' t' w.1 w.2
  recorded_works p config h t b x broker_tier g (Offset (At ts)) outcome h' t' at w = date_works p h t b x broker_tier g ts 0 Seek outcome h' t' at w
  recorded_works p config h t b x broker_tier g other outcome h' t' at w = own_on h t b x g other outcome h' t' at w

  copying_works : (h : PartitionState D) (t : RemoteTier S M) (b : ℕ) (x : Node D) (broker_tier : BrokerTierState) (g : StartSnapshot) (copy : Copied) (next : CopyStep) (command : Command) (outcome : Outcome) (h' : PartitionState D) (t' : RemoteTier S M)
      → CopyLaterRow store meta h t b x broker_tier g copy next command outcome h' t' → Works h t h' t'
  copying_works h t b x broker_tier g copy next Copy outcome h' t' (inl lost, same) = both h t h' t' same lost.2
  copying_works h t b x broker_tier g copy next Copy outcome h' t' (inr (keeps, (turn, is, goes)), same) =
      rest h t h' t' same (copy_one store meta copy (origin_of h b) next (Granted turn) (tiers_of broker_tier.view t) (tiers_of goes.view t') goes.row)
  copying_works h t b x broker_tier g copy next other outcome h' t' w = elim w [ ]

  seeking_works : (p : PartitionId) (h : PartitionState D) (t : RemoteTier S M) (b : ℕ) (x : Node D) (broker_tier : BrokerTierState) (g : StartSnapshot) (next : Search) (command : Command) (outcome : Outcome) (h' : PartitionState D) (t' : RemoteTier S M)
      → SeekingRow store meta p h t b x broker_tier g next command outcome h' t' → Works h t h' t'
  seeking_works p h t b x broker_tier g next (Fetch offset limit) outcome h' t' w = rest h t h' t' w.1 (seek_one store meta p h t b x broker_tier g offset limit next outcome t' w.0)
  seeking_works p h t b x broker_tier g next other outcome h' t' w = elim w [ ]

  dating_works : (p : PartitionId) (h : PartitionState D) (t : RemoteTier S M) (b : ℕ) (x : Node D) (broker_tier : BrokerTierState) (g : StartSnapshot) (cursor : ℕ) (next : Dating) (command : Command) (outcome : Outcome) (h' : PartitionState D) (t' : RemoteTier S M) → slice_get h.nodes b ≡ Some x
      → DatingRow disk store meta p h t b x broker_tier g cursor next command outcome h' t' → Works h t h' t'
  dating_works p h t b x broker_tier g cursor next (Offset (At ts)) outcome h' t' at w = date_works p h t b x broker_tier g ts cursor next outcome h' t' at w
  dating_works p h t b x broker_tier g cursor next other outcome h' t' at w = elim w [ ]

  deleting_works : (h : PartitionState D) (t : RemoteTier S M) (b : ℕ) (x : Node D) (g : StartSnapshot) (segment : ExpiredSegment) (next : Deletion) (command : Command) (outcome : Outcome) (h' : PartitionState D) (t' : RemoteTier S M)
      → DeletingRow store meta h t b x g segment next command outcome h' t' → Works h t h' t'
  deleting_works h t b x g segment next Expire outcome h' t' (inl lost, same) = both h t h' t' same lost.2
  deleting_works h t b x g segment next Expire outcome h' t' (inr (keeps, (turn, is, goes)), same) =
      rest h t h' t' same (expiry_one store meta segment (origin_of h b) next (Granted turn) (expiry_tiers t) (expiry_tiers t') goes.row)
  deleting_works h t b x g segment next other outcome h' t' w = elim w [ ]

  rebuilding_works : (p : PartitionId) (h : PartitionState D) (t : RemoteTier S M) (b : ℕ) (x : Node D) (broker_tier : BrokerTierState) (g : StartSnapshot) (next : Rebuild) (command : Command) (outcome : Outcome) (h' : PartitionState D) (t' : RemoteTier S M) → slice_get h.nodes b ≡ Some x
      → RebuildingRow disk store p h t b x broker_tier g next command outcome h' t' → Works h t h' t'
  rebuilding_works p h t b x broker_tier g Epochs Join outcome h' t' at (inl (answer, is, once, tier), same) = both h t h' t' same tier
  rebuilding_works p h t b x broker_tier g Epochs Join outcome h' t' at (inr (may, (turn, is, goes)), same) = rest h t h' t' same (inr (ap (λ (u : RemoteTier S M). u.meta) goes.after))
  rebuilding_works p h t b x broker_tier g (Restart line) Join outcome h' t' at w = own_on h t b x (with_line g line) Join outcome h' t' at w
  rebuilding_works p h t b x broker_tier g next other outcome h' t' at w = elim w [ ]

  turn_works : (p : PartitionId) (config : Config) (h : PartitionState D) (t : RemoteTier S M) (b : ℕ) (x : Node D) (broker_tier : BrokerTierState) (in_progress : InProgress) (command : Command) (outcome : Outcome) (h' : PartitionState D) (t' : RemoteTier S M)
      → slice_get h.nodes b ≡ Some x → Row disk store meta p config h t b x broker_tier in_progress command outcome h' t' → Works h t h' t'
  turn_works p config h t b x broker_tier Idle command outcome h' t' at w = begin_works h t b x broker_tier command outcome h' t' at w
  turn_works p config h t b x broker_tier (Noted g) command outcome h' t' at w = recorded_works p config h t b x broker_tier g command outcome h' t' at w
  turn_works p config h t b x broker_tier (Copies g copy next) command outcome h' t' at w = copying_works h t b x broker_tier g copy next command outcome h' t' w
  turn_works p config h t b x broker_tier (Seeks g next) command outcome h' t' at w = seeking_works p h t b x broker_tier g next command outcome h' t' w
  turn_works p config h t b x broker_tier (Dates g cursor next) command outcome h' t' at w = dating_works p h t b x broker_tier g cursor next command outcome h' t' at w
  turn_works p config h t b x broker_tier (Expires g segment next) command outcome h' t' at w = deleting_works h t b x g segment next command outcome h' t' w
  turn_works p config h t b x broker_tier (Rebuilds g next) command outcome h' t' at w = rebuilding_works p h t b x broker_tier g next command outcome h' t' at w

  is_turn_works : (w : Whole D S M) (a : ℕ) (outcome : Outcome) (w' : Whole D S M) → IsTurn disk store meta w a outcome w' → Works w.partition_state w.tier w'.partition_state w'.tier
  is_turn_works w a outcome w' t =
      let x = some_of _ (slice_get w.partition_state.nodes t.order.broker.0) t.row in
      let broker_tier = some_of _ (slice_get w.tier.broker_tiers t.order.broker.0) x.2 in
      turn_works w.partition w.config w.partition_state w.tier t.order.broker.0 x.0 broker_tier.0 t.actor_state.in_progress t.order.command outcome w'.partition_state w'.tier x.1 broker_tier.2

  stays_log : (h h' : PartitionState D) → KeepsPartition disk.content disk.control h h' → OneLog disk.content h h'
  stays_log h h' (inl e) = none disk.content h h' e
  stays_log h h' (inr (b, at)) = let x = some_of _ (slice_get h.nodes b) at in one_put disk.content h b x.0 (record x.0 { log = x.2.0 }) h' x.1 x.2.1.between x.2.3

  stays_works : (w : Whole D S M) (a : ℕ) (w' : Whole D S M) → StaysWhole disk store meta w a w' → Works w.partition_state w.tier w'.partition_state w'.tier
  stays_works w a w' s = by s.tier
    where
      by : StaysTier disk store meta w.partition w.partition_state w.tier s.order.broker.0 s.actor_state.in_progress s.order.command w'.partition_state w'.tier → Works w.partition_state w.tier w'.partition_state w'.tier
      by (inl k) = own_same w.partition_state w.tier w'.partition_state w'.tier k.1 (stays_log w.partition_state w'.partition_state k.0)
      by (inr k) =
          let x = some_of _ (slice_get w.partition_state.nodes s.order.broker.0) k.1 in
          let broker_tier = some_of _ (slice_get w.tier.broker_tiers s.order.broker.0) x.2 in
          rest w.partition_state w.tier w'.partition_state w'.tier k.0 (halts_one store meta w.partition w.partition_state w.tier s.order.broker.0 x.0 broker_tier.0 s.actor_state.in_progress s.order.command w'.tier broker_tier.2)

  pub steps_work : StepsWorkOnOne disk store meta
  steps_work w a Ran w' s = is_turn_works w a s.0 w' s.2
  steps_work w a Done w' s = is_turn_works w a (Answers s.0) w' s.1
  steps_work w a Nothing w' s = both w.partition_state w.tier w'.partition_state w'.tier (ap (λ (k : Whole D S M). k.partition_state) s.1) (ap (λ (k : Whole D S M). k.tier) s.1)
  steps_work w a NoMemory w' s = stays_works w a w' s
