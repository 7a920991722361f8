-- A step of a world changes the registry or a device, and not both.
use Rattle.std.proofs.Common.{◌≡◌, ◌⊎◌, inl, inr, ap, ℕ, slice_get, length, Some, None, Bool, true, false, Ok as Granted, Err}
use Rattle.std.specs.Prelude.{ℤ}
use Rattle.tier_base.specs.declared.names.PartitionId.{PartitionId}
use Rattle.tier_base.specs.declared.plain.Keep.{Keep}
use Rattle.disk_model.specs.declared.disk.Disk.{Ghosts as DiskGhosts}
use Rattle.object_store.specs.declared.store.Store.{Ghosts as StoreGhosts}
use Rattle.meta_log.specs.declared.log.MetaLog.{Ghosts as MetaGhosts}
use Rattle.copy_task.specs.Copying.{Copied}
use Rattle.copy_task.specs.declared.turn.CopyStep.{CopyStep}
use Rattle.tier_fetch.specs.declared.turn.FetchStep.{FetchStep as Search}
use Rattle.time_find.specs.declared.turn.Asked.{Asked}
use Rattle.time_find.specs.declared.turn.SearchStep.{SearchStep as Dating}
use Rattle.time_find.specs.declared.turn.SearchStep.TheVariants.{Seek}
use Rattle.plain_log.specs.declared.turn.Turn.{Turn}
use Rattle.plain_log.specs.declared.turn.Turn.TheVariants as dating
use Rattle.expiry_task.specs.declared.turn.ExpiredSegment.{ExpiredSegment}
use Rattle.expiry_task.specs.declared.turn.DeletionStep.{DeletionStep as Deletion}
use Rattle.rebuild_task.specs.declared.turn.RebuildStep.{RebuildStep as Rebuild}
use Rattle.rebuild_task.specs.declared.turn.RebuildStep.TheVariants.{Epochs, Restart}
use Rattle.plain_log.specs.declared.answer.Answer.{Answer}
use Rattle.plain_log.specs.declared.answer.Answer.TheVariants.{Stopped, NotLeader, NoOffset, Kept as Remains, StaleEpoch, Raised}
use Rattle.plain_log.specs.declared.command.Command.{Command}
use Rattle.plain_log.specs.declared.command.Command.TheVariants.{Join, Copy, Trim, Expire, Fetch, Offset}
use Rattle.plain_log.specs.declared.command.Which.TheVariants.{LatestTiered, At}
use Rattle.plain_log.specs.declared.command.Config.{Config}
use Rattle.laws_partition.specs.declared.start_snapshot.StartSnapshot.{StartSnapshot}
use Rattle.laws_partition.specs.declared.start_snapshot.Turned.TheVariants as turned
use Rattle.laws_partition.specs.declared.actor_progress.Stepped.TheVariants.{Ran, Done, Nothing, NoMemory}
use Rattle.laws_partition.proofs.BoolTests.{some_of}
use Rattle.partition_commands.specs.declared.partition_state.Node.{Node}
use Rattle.partition_commands.specs.declared.partition_state.PartitionState.{PartitionState}
use Rattle.partition_commands.specs.Partition.{KeepsPartition}
use Rattle.registry.specs.declared.refusal.RegRefusal.TheVariants as reg
use Rattle.partition_world.specs.declared.tier.BrokerTierState.{BrokerTierState}
use Rattle.partition_world.specs.declared.tier.RemoteTier.{RemoteTier}
use Rattle.partition_world.specs.declared.actor_state.Outcome.{Outcome}
use Rattle.partition_world.specs.declared.actor_state.Outcome.TheVariants.{Answers, Dates as Dated, ChoosesExpired}
use Rattle.partition_world.specs.declared.actor_state.InProgress.{InProgress}
use Rattle.partition_world.specs.declared.actor_state.InProgress.TheVariants.{Idle, Noted, Copies, Seeks, Dates, Expires, Rebuilds}
use Rattle.partition_world.specs.TurnsOfCopy.{ChooseRow}
use Rattle.partition_world.specs.TurnsOfDate.{SearchRow, SearchesOn, DateOnRow, asked_of, is_own, resumed_at, resumed_with}
use Rattle.partition_commands.specs.Partition.{local_of}
use Rattle.partition_world.specs.TurnsOfExpiry.{ExpiryRaiseRow, ExpireOnRow, ExpiresBy}
use Rattle.partition_world.specs.TurnsOfRebuild.{with_line}
use Rattle.partition_world.specs.TurnsOfTrim.{TrimOnRow}
use Rattle.partition_world.specs.Turns.{OwnOnRow, BeginRow, ContinuedRow, CopyLaterRow, SeekingRow, DatingRow, DeletingRow, JoinSecondRow, RebuildingRow, Row, StaysTier}
use Rattle.partition_world.specs.Turn.{IsTurn, StaysWhole}
use Rattle.partition_world.specs.Whole.{Whole}
use Rattle.cold_start.specs.Stepping.{SameDevices, StepsChangeOne, logs_of}
use Rattle.cold_start.proofs.RegistryRows.{ChangesOne, raise_leaves, row_one, trim_on_one}

module _ {D S M : Type 0} (disk : DiskGhosts D) (store : StoreGhosts S) (meta : MetaGhosts M) where
  -- the registry is as it was, or each device is, and the registry has as many replicas
  abbrev ChangesEither : PartitionState D → RemoteTier S M → PartitionState D → RemoteTier S M → Type 0
  ChangesEither h t h' t' = (h'.registry ≡ h.registry) ⊎ ((logs_of h'.nodes ≡ logs_of h.nodes) × (length h'.registry.replicas ≡ length h.registry.replicas) × (t' ≡ t))

  same : (h : PartitionState D) (t : RemoteTier S M) (h' : PartitionState D) (t' : RemoteTier S M) → h' ≡ h → ChangesEither h t h' t'
  same h t h' t' e = inl (ap (λ (k : PartitionState D). k.registry) e)

  own : (h : PartitionState D) (t : RemoteTier S M) (h' : PartitionState D) (t' : RemoteTier S M) → t' ≡ t → ChangesOne h h' → ChangesEither h t h' t'
  own h t h' t' e (inl k) = inl k
  own h t h' t' e (inr k) = inr (k.0, k.1, e)

  own_on : (h : PartitionState D) (t : RemoteTier S M) (b : ℕ) (x : Node D) (g : StartSnapshot) (command : Command) (outcome : Outcome) (h' : PartitionState D) (t' : RemoteTier S M) → slice_get h.nodes b ≡ Some x
      → OwnOnRow disk h t b x g command outcome h' t' → ChangesEither h t h' t'
  own_on h t b x g command outcome h' t' at w = own h t h' t' w.1 (row_one disk.content disk.control h b x (Some g) command (turned.Answers w.0.0) h' at w.0.2)

  begin_either : (h : PartitionState D) (t : RemoteTier S M) (b : ℕ) (x : Node D) (broker_tier : BrokerTierState) (command : Command) (outcome : Outcome) (h' : PartitionState D) (t' : RemoteTier S M) → slice_get h.nodes b ≡ Some x
      → BeginRow disk store meta h t b x broker_tier command outcome h' t' → ChangesEither h t h' t'
  begin_either h t b x broker_tier Copy outcome h' t' at w = same h t h' t' w.1
  begin_either h t b x broker_tier Trim outcome h' t' at w = same h t h' t' w.1
  begin_either h t b x broker_tier Expire outcome h' t' at w = same h t h' t' w.1
  begin_either h t b x broker_tier (Offset LatestTiered) outcome h' t' at w = same h t h' t' w.1
  begin_either h t b x broker_tier (Offset (At ts)) outcome h' t' at w = same h t h' t' w.1
  begin_either h t b x broker_tier other outcome h' t' at w = own h t h' t' w.1 (row_one disk.content disk.control h b x None other w.0.0 h' at w.0.2)

  choose_either : (p : PartitionId) (h : PartitionState D) (t : RemoteTier S M) (b : ℕ) (x : Node D) (broker_tier : BrokerTierState) (g : StartSnapshot) (outcome : Outcome) (h' : PartitionState D) (t' : RemoteTier S M) → ChooseRow disk p h t b x broker_tier g outcome h' t' → ChangesEither h t h' t'
  choose_either p h t b x broker_tier g outcome h' t' (inl lost) = same h t h' t' lost.2
  choose_either p h t b x broker_tier g outcome h' t' (inr (keeps, inl level)) = same h t h' t' level.2
  choose_either p h t b x broker_tier g outcome h' t' (inr (keeps, inr r)) = inl (ap (λ (k : PartitionState D). k.registry) r.partition_state)

  trim_either : (h : PartitionState D) (t : RemoteTier S M) (b : ℕ) (x : Node D) (broker_tier : BrokerTierState) (g : StartSnapshot) (keep : Keep) (outcome : Outcome) (h' : PartitionState D) (t' : RemoteTier S M) → t' ≡ t
      → TrimOnRow disk h b x broker_tier g keep outcome h' → ChangesEither h t h' t'
  trim_either h t b x broker_tier g keep (Answers answer) h' t' e w = own h t h' t' e (trim_on_one disk.content disk.control h b x g answer h' w.0)
  trim_either h t b x broker_tier g keep other h' t' e w = elim w [ ]

  raise_either : (h : PartitionState D) (t : RemoteTier S M) (x : Node D) (start : ℕ) (answer : Answer) (h' : PartitionState D) (t' : RemoteTier S M) → t' ≡ t → ExpiryRaiseRow h x.role start answer h' → ChangesEither h t h' t'
  raise_either h t x start (StaleEpoch e) h' t' is w = own h t h' t' is (raise_leaves h w.0 start (Err (reg.StaleEpoch e)) h' w.2)
  raise_either h t x start (Raised to) h' t' is w = own h t h' t' is (raise_leaves h w.0 start (Granted to) h' w.2)
  raise_either h t x start other h' t' is w = elim w [ ]

  expires_either : (p : PartitionId) (h : PartitionState D) (t : RemoteTier S M) (x : Node D) (broker_tier : BrokerTierState) (keep : Keep) (outcome : Outcome) (h' : PartitionState D) (t' : RemoteTier S M) → t' ≡ t → ExpiresBy p h x broker_tier keep outcome h' → ChangesEither h t h' t'
  expires_either p h t x broker_tier keep (ChoosesExpired segment) h' t' is w = same h t h' t' w.stays
  expires_either p h t x broker_tier keep (Answers Remains) h' t' is w = same h t h' t' w.2
  expires_either p h t x broker_tier keep (Answers answer) h' t' is w = raise_either h t x w.0 answer h' t' is w.2
  expires_either p h t x broker_tier keep other h' t' is w = elim w [ ]

  expire_either : (p : PartitionId) (h : PartitionState D) (t : RemoteTier S M) (x : Node D) (broker_tier : BrokerTierState) (g : StartSnapshot) (keep : Keep) (outcome : Outcome) (h' : PartitionState D) (t' : RemoteTier S M) → t' ≡ t → ExpireOnRow p h x broker_tier g keep outcome h' → ChangesEither h t h' t'
  expire_either p h t x broker_tier g keep outcome h' t' is (inl lost) = same h t h' t' lost.2
  expire_either p h t x broker_tier g keep outcome h' t' is (inr k) = expires_either p h t x broker_tier keep outcome h' t' is k.1

  join_either : (h : PartitionState D) (t : RemoteTier S M) (b : ℕ) (x : Node D) (broker_tier : BrokerTierState) (g : StartSnapshot) (outcome : Outcome) (h' : PartitionState D) (t' : RemoteTier S M) → slice_get h.nodes b ≡ Some x
      → JoinSecondRow disk meta h t b x broker_tier g outcome h' t' → ChangesEither h t h' t'
  join_either h t b x broker_tier g outcome h' t' at (inl (low, row)) = own_on h t b x g Join outcome h' t' at row
  join_either h t b x broker_tier g outcome h' t' at (inr (high, row, e)) = same h t h' t' e

  search_either : (h : PartitionState D) (t : RemoteTier S M) (b : ℕ) (x : Node D) (broker_tier : BrokerTierState) (asked : Asked) (cursor : ℕ) (next : Dating) (alone : Bool) (turn : Turn (ℕ × Dating)) (h' : PartitionState D) (t' : RemoteTier S M)
      → SearchRow disk store meta h t b x broker_tier asked cursor next alone turn h' t' → ChangesEither h t h' t'
  search_either h t b x broker_tier asked cursor next true turn h' t' w = inl (ap (λ (k : PartitionState D). k.registry) w.0.after)
  search_either h t b x broker_tier asked cursor next false turn h' t' w = same h t h' t' w.1

  searches_either : (p : PartitionId) (h : PartitionState D) (t : RemoteTier S M) (b : ℕ) (x : Node D) (broker_tier : BrokerTierState) (g : StartSnapshot) (ts : ℤ) (cursor : ℕ) (next : Dating) (turn : Turn (ℕ × Dating)) (h' : PartitionState D) (t' : RemoteTier S M)
      → SearchesOn disk store meta p h t b x broker_tier g ts cursor next turn h' t' → ChangesEither h t h' t'
  searches_either p h t b x broker_tier g ts cursor next turn h' t' w =
      let on = resumed_at h.registry.start cursor in
      let with = resumed_with h.registry.start cursor next in
      search_either h t b x broker_tier (asked_of p h x ts) on with (is_own (local_of x) on with) turn h' t' w.row

  date_either : (p : PartitionId) (h : PartitionState D) (t : RemoteTier S M) (b : ℕ) (x : Node D) (broker_tier : BrokerTierState) (g : StartSnapshot) (ts : ℤ) (cursor : ℕ) (next : Dating) (outcome : Outcome) (h' : PartitionState D) (t' : RemoteTier S M)
      → DateOnRow disk store meta p h t b x broker_tier g ts cursor next outcome h' t' → ChangesEither h t h' t'
  date_either p h t b x broker_tier g ts cursor next (Answers Stopped) h' t' w = same h t h' t' w.1
  date_either p h t b x broker_tier g ts cursor next (Answers NotLeader) h' t' w = same h t h' t' w.3
  date_either p h t b x broker_tier g ts cursor next (Answers NoOffset) h' t' w = same h t h' t' w.2
  date_either p h t b x broker_tier g ts cursor next (Answers answer) h' t' w = searches_either p h t b x broker_tier g ts cursor next (dating.Ends answer) h' t' w
  date_either p h t b x broker_tier g ts cursor next (Dated to later) h' t' w = searches_either p h t b x broker_tier g ts cursor next (dating.Goes (to, later)) h' t' w.0
  date_either p h t b x broker_tier g ts cursor next other h' t' w = elim w [ ]

  recorded_either : (p : PartitionId) (config : Config) (h : PartitionState D) (t : RemoteTier S M) (b : ℕ) (x : Node D) (broker_tier : BrokerTierState) (g : StartSnapshot) (command : Command) (outcome : Outcome) (h' : PartitionState D) (t' : RemoteTier S M) → slice_get h.nodes b ≡ Some x
      → ContinuedRow disk store meta p config h t b x broker_tier g command outcome h' t' → ChangesEither h t h' t'
  recorded_either p config h t b x broker_tier g Copy outcome h' t' at w = choose_either p h t b x broker_tier g outcome h' t' w
  recorded_either p config h t b x broker_tier g Trim outcome h' t' at w = trim_either h t b x broker_tier g config.local_keep outcome h' t' w.1 w.0
  recorded_either p config h t b x broker_tier g Join outcome h' t' at w = join_either h t b x broker_tier g outcome h' t' at w
  recorded_either p config h t b x broker_tier g Expire outcome h' t' at w = expire_either p h t x broker_tier g config.keep outcome h' t' w.1 w.0
  recorded_either p config h t b x broker_tier g (Fetch offset limit) outcome h' t' at w = same h t h' t' w.1
  recorded_either p config h t b x broker_tier g (Offset LatestTiered) outcome h' t' at w = same h t h' t' w.1
  recorded_either p config h t b x broker_tier g (Offset (At ts)) outcome h' t' at w = date_either p h t b x broker_tier g ts 0 Seek outcome h' t' w
  recorded_either p config h t b x broker_tier g other outcome h' t' at w = own_on h t b x g other outcome h' t' at w

  copying_either : (h : PartitionState D) (t : RemoteTier S M) (b : ℕ) (x : Node D) (broker_tier : BrokerTierState) (g : StartSnapshot) (copy : Copied) (next : CopyStep) (command : Command) (outcome : Outcome) (h' : PartitionState D) (t' : RemoteTier S M)
      → CopyLaterRow store meta h t b x broker_tier g copy next command outcome h' t' → ChangesEither h t h' t'
  copying_either h t b x broker_tier g copy next Copy outcome h' t' w = same h t h' t' w.1
  copying_either h t b x broker_tier g copy next other outcome h' t' w = elim w [ ]

  seeking_either : (p : PartitionId) (h : PartitionState D) (t : RemoteTier S M) (b : ℕ) (x : Node D) (broker_tier : BrokerTierState) (g : StartSnapshot) (next : Search) (command : Command) (outcome : Outcome) (h' : PartitionState D) (t' : RemoteTier S M)
      → SeekingRow store meta p h t b x broker_tier g next command outcome h' t' → ChangesEither h t h' t'
  seeking_either p h t b x broker_tier g next (Fetch offset limit) outcome h' t' w = same h t h' t' w.1
  seeking_either p h t b x broker_tier g next other outcome h' t' w = elim w [ ]

  dating_either : (p : PartitionId) (h : PartitionState D) (t : RemoteTier S M) (b : ℕ) (x : Node D) (broker_tier : BrokerTierState) (g : StartSnapshot) (cursor : ℕ) (next : Dating) (command : Command) (outcome : Outcome) (h' : PartitionState D) (t' : RemoteTier S M)
      → DatingRow disk store meta p h t b x broker_tier g cursor next command outcome h' t' → ChangesEither h t h' t'
  dating_either p h t b x broker_tier g cursor next (Offset (At ts)) outcome h' t' w = date_either p h t b x broker_tier g ts cursor next outcome h' t' w
  dating_either p h t b x broker_tier g cursor next other outcome h' t' w = elim w [ ]

  deleting_either : (h : PartitionState D) (t : RemoteTier S M) (b : ℕ) (x : Node D) (g : StartSnapshot) (segment : ExpiredSegment) (next : Deletion) (command : Command) (outcome : Outcome) (h' : PartitionState D) (t' : RemoteTier S M)
      → DeletingRow store meta h t b x g segment next command outcome h' t' → ChangesEither h t h' t'
  deleting_either h t b x g segment next Expire outcome h' t' w = same h t h' t' w.1
  deleting_either h t b x g segment next other outcome h' t' w = elim w [ ]

  rebuilding_either : (p : PartitionId) (h : PartitionState D) (t : RemoteTier S M) (b : ℕ) (x : Node D) (broker_tier : BrokerTierState) (g : StartSnapshot) (next : Rebuild) (command : Command) (outcome : Outcome) (h' : PartitionState D) (t' : RemoteTier S M) → slice_get h.nodes b ≡ Some x
      → RebuildingRow disk store p h t b x broker_tier g next command outcome h' t' → ChangesEither h t h' t'
  rebuilding_either p h t b x broker_tier g Epochs Join outcome h' t' at w = same h t h' t' w.1
  rebuilding_either p h t b x broker_tier g (Restart line) Join outcome h' t' at w = own_on h t b x (with_line g line) Join outcome h' t' at w
  rebuilding_either p h t b x broker_tier g next other outcome h' t' at w = elim w [ ]

  turn_either : (p : PartitionId) (config : Config) (h : PartitionState D) (t : RemoteTier S M) (b : ℕ) (x : Node D) (broker_tier : BrokerTierState) (in_progress : InProgress) (command : Command) (outcome : Outcome) (h' : PartitionState D) (t' : RemoteTier S M)
      → slice_get h.nodes b ≡ Some x → Row disk store meta p config h t b x broker_tier in_progress command outcome h' t' → ChangesEither h t h' t'
  turn_either p config h t b x broker_tier Idle command outcome h' t' at w = begin_either h t b x broker_tier command outcome h' t' at w
  turn_either p config h t b x broker_tier (Noted g) command outcome h' t' at w = recorded_either p config h t b x broker_tier g command outcome h' t' at w
  turn_either p config h t b x broker_tier (Copies g copy next) command outcome h' t' at w = copying_either h t b x broker_tier g copy next command outcome h' t' w
  turn_either p config h t b x broker_tier (Seeks g next) command outcome h' t' at w = seeking_either p h t b x broker_tier g next command outcome h' t' w
  turn_either p config h t b x broker_tier (Dates g cursor next) command outcome h' t' at w = dating_either p h t b x broker_tier g cursor next command outcome h' t' w
  turn_either p config h t b x broker_tier (Expires g segment next) command outcome h' t' at w = deleting_either h t b x g segment next command outcome h' t' w
  turn_either p config h t b x broker_tier (Rebuilds g next) command outcome h' t' at w = rebuilding_either p h t b x broker_tier g next command outcome h' t' at w

  is_turn_either : (w : Whole D S M) (a : ℕ) (outcome : Outcome) (w' : Whole D S M) → IsTurn disk store meta w a outcome w' → ChangesEither w.partition_state w.tier w'.partition_state w'.tier
  is_turn_either w a outcome w' t =
      let x = some_of _ (slice_get w.partition_state.nodes t.order.broker.0) t.row in
      let broker_tier = some_of _ (slice_get w.tier.broker_tiers t.order.broker.0) x.2 in
      turn_either w.partition w.config w.partition_state w.tier t.order.broker.0 x.0 broker_tier.0 t.actor_state.in_progress t.order.command outcome w'.partition_state w'.tier x.1 broker_tier.2

  stays_partition_state : (h h' : PartitionState D) → KeepsPartition disk.content disk.control h h' → h'.registry ≡ h.registry
  stays_partition_state h h' (inl e) = ap (λ (k : PartitionState D). k.registry) e
  stays_partition_state h h' (inr (b, at)) = let x = some_of _ (slice_get h.nodes b) at in ap (λ (k : PartitionState D). k.registry) x.2.3

  stays_registry : (w : Whole D S M) (a : ℕ) (w' : Whole D S M) → StaysWhole disk store meta w a w' → w'.partition_state.registry ≡ w.partition_state.registry
  stays_registry w a w' s = by s.tier
    where
      by : StaysTier disk store meta w.partition w.partition_state w.tier s.order.broker.0 s.actor_state.in_progress s.order.command w'.partition_state w'.tier → w'.partition_state.registry ≡ w.partition_state.registry
      by (inl k) = stays_partition_state w.partition_state w'.partition_state k.0
      by (inr k) = ap (λ (h : PartitionState D). h.registry) k.0

  seen_either : (w w' : Whole D S M) → ChangesEither w.partition_state w.tier w'.partition_state w'.tier → (w'.partition_state.registry ≡ w.partition_state.registry) ⊎ (SameDevices w w' × (length w'.partition_state.registry.replicas ≡ length w.partition_state.registry.replicas))
  seen_either w w' (inl e) = inl e
  seen_either w w' (inr k) = inr (record { logs = k.0; tier = k.2 }, k.1)

  pub steps_one : StepsChangeOne disk store meta
  steps_one w a Ran w' s = seen_either w w' (is_turn_either w a s.0 w' s.2)
  steps_one w a Done w' s = seen_either w w' (is_turn_either w a (Answers s.0) w' s.1)
  steps_one w a Nothing w' s = inl (ap (λ (k : Whole D S M). k.partition_state.registry) s.1)
  steps_one w a NoMemory w' s = inl (stays_registry w a w' s)
