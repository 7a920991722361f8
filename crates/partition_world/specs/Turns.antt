-- A turn of a command of any kind, over all devices.
--
-- Commands on brokers' logs and the registry leave the remote tier as it is (the crate `partition_commands` has their
-- rows).
use Rattle.std.specs.Prelude.{◌≡◌, ◌⊎◌, ◌<◌, ◌≤◌, ℕ, ℤ}
use Rattle.disk_model.specs.declared.disk.Disk.{Ghosts as DiskGhosts}
use Rattle.object_store.specs.declared.store.Store.{Ghosts as StoreGhosts}
use Rattle.meta_log.specs.declared.log.MetaLog.{Ghosts as MetaGhosts}
use Rattle.tier_base.specs.declared.names.PartitionId.{PartitionId}
use Rattle.copy_task.specs.Copying.{Copied}
use Rattle.copy_task.specs.declared.turn.CopyStep.{CopyStep}
use Rattle.expiry_task.specs.declared.turn.ExpiredSegment.{ExpiredSegment}
use Rattle.expiry_task.specs.declared.turn.DeletionStep.{DeletionStep as Deletion}
use Rattle.tier_fetch.specs.declared.turn.FetchStep.{FetchStep as Search}
use Rattle.tier_fetch.specs.declared.turn.FetchStep.TheVariants.{Refresh}
use Rattle.time_find.specs.declared.turn.SearchStep.{SearchStep as Dating}
use Rattle.time_find.specs.declared.turn.SearchStep.TheVariants.{Seek}
use Rattle.rebuild_task.specs.declared.turn.RebuildStep.{RebuildStep as Rebuild}
use Rattle.rebuild_task.specs.declared.turn.RebuildStep.TheVariants.{Epochs, Restart}
use Rattle.plain_log.specs.declared.answer.Answer.{Answer}
use Rattle.plain_log.specs.declared.command.Command.{Command}
use Rattle.plain_log.specs.declared.command.Command.TheVariants.{Copy, Trim, Expire, Fetch, Join, Offset}
use Rattle.plain_log.specs.declared.command.Which.TheVariants.{LatestTiered, At}
use Rattle.plain_log.specs.declared.command.Config.{Config}
use Rattle.laws_partition.specs.declared.start_snapshot.StartSnapshot.{StartSnapshot}
use Rattle.laws_partition.specs.declared.start_snapshot.Turned.{Turned}
use Rattle.laws_partition.specs.declared.start_snapshot.Turned.TheVariants as turned
use Rattle.partition_commands.specs.declared.partition_state.Node.{Node}
use Rattle.partition_commands.specs.declared.partition_state.PartitionState.{PartitionState}
use Rattle.partition_commands.specs.Partition.{AtNode, KeepsPartition, line_of}
use Rattle.partition_commands.specs.Turns.{FirstRow, LaterRow}
use Rattle.partition_world.specs.declared.tier.BrokerTierState.{BrokerTierState}
use Rattle.partition_world.specs.declared.tier.RemoteTier.{RemoteTier}
use Rattle.partition_world.specs.declared.actor_state.Outcome.{Outcome}
use Rattle.partition_world.specs.declared.actor_state.Outcome.TheVariants.{Answers}
use Rattle.partition_world.specs.declared.actor_state.InProgress.{InProgress}
use Rattle.partition_world.specs.declared.actor_state.InProgress.TheVariants.{Idle, Noted, Copies, Seeks}
use Rattle.partition_world.specs.declared.actor_state.InProgress.TheVariants.{Dates, Expires, Rebuilds}
use Rattle.partition_world.specs.Tier.{AtBrokerTier, HaltsRefresh}
use Rattle.partition_world.specs.ActorStates.{outcome_of}
use Rattle.partition_world.specs.TurnsOfCopy.{CopyFirstRow, ChooseRow, CopyOnRow, WantsForCopy}
use Rattle.partition_world.specs.TurnsOfExpiry.{ExpireFirstRow, ExpireOnRow, DeleteOnRow, WantsForDeletion}
use Rattle.partition_world.specs.TurnsOfFetch.{FetchOnRow, WantsForFetch}
use Rattle.partition_world.specs.TurnsOfDate.{resumed_at, resumed_with, asked_of, DateOnRow, WantsForDate}
use Rattle.partition_world.specs.TurnsOfRebuild.{with_line, RefreshOnRow, EpochsOnRow, WantsForRebuild}
use Rattle.partition_world.specs.TurnsOfOffset.{OffsetFirstRow, OffsetOnRow}
use Rattle.partition_world.specs.TurnsOfTrim.{TrimFirstRow, TrimOnRow}

module _ {D S M : Type 0} (disk : DiskGhosts D) where
  -- the first turn of a command that the remote tier has no part in
  abbrev pub LocalCommandRow : PartitionState D → RemoteTier S M → ℕ → Node D → Command → Outcome → PartitionState D
      → RemoteTier S M → Type 0
  LocalCommandRow h t b x command outcome h' t' =
      ((turn : Turned) × (outcome ≡ outcome_of turn) × FirstRow disk.content disk.control h b x command turn h')
      × (t' ≡ t)

  -- its last one
  abbrev pub OwnOnRow : PartitionState D → RemoteTier S M → ℕ → Node D → StartSnapshot → Command → Outcome
      → PartitionState D → RemoteTier S M → Type 0
  OwnOnRow h t b x g command outcome h' t' =
      ((answer : Answer) × (outcome ≡ Answers answer)
      × LaterRow disk.content disk.control h b x command g (turned.Answers answer) h')
      × (t' ≡ t)

module _ {D S M : Type 0} (store : StoreGhosts S) (meta : MetaGhosts M) where
  -- a later turn of a copy; no other command has one
  abbrev pub CopyLaterRow : PartitionState D → RemoteTier S M → ℕ → Node D → BrokerTierState → StartSnapshot → Copied
      → CopyStep → Command → Outcome → PartitionState D → RemoteTier S M → Type 0
  CopyLaterRow h t b x broker_tier g copy next Copy outcome h' t' = CopyOnRow store meta h t b x broker_tier g copy
      next outcome t' × (h' ≡ h)
  CopyLaterRow h t b x broker_tier g copy next command outcome h' t' = ⊥

  -- a later turn of a fetch that continues in the remote tier; no other command has one
  abbrev pub SeekingRow : PartitionId → PartitionState D → RemoteTier S M → ℕ → Node D → BrokerTierState
      → StartSnapshot → Search → Command → Outcome → PartitionState D → RemoteTier S M → Type 0
  SeekingRow p h t b x broker_tier g next (Fetch offset limit) outcome h' t' =
      FetchOnRow store meta p h t b x broker_tier g offset limit next outcome t' × (h' ≡ h)
  SeekingRow p h t b x broker_tier g next command outcome h' t' = ⊥

  -- a later turn of an expiry that has taken up a remote segment; no other command has one
  abbrev pub DeletingRow : PartitionState D → RemoteTier S M → ℕ → Node D → StartSnapshot → ExpiredSegment → Deletion
      → Command → Outcome → PartitionState D → RemoteTier S M → Type 0
  DeletingRow h t b x g expired_segment next Expire outcome h' t' = DeleteOnRow store meta h t b x g expired_segment
      next outcome t' × (h' ≡ h)
  DeletingRow h t b x g expired_segment next command outcome h' t' = ⊥

module _ {D S M : Type 0} (disk : DiskGhosts D) (store : StoreGhosts S) (meta : MetaGhosts M) where
  -- a later turn of a timestamp lookup that has come to a cursor; no other command has one
  abbrev pub DatingRow : PartitionId → PartitionState D → RemoteTier S M → ℕ → Node D → BrokerTierState → StartSnapshot
      → ℕ → Dating → Command → Outcome → PartitionState D → RemoteTier S M → Type 0
  DatingRow p h t b x broker_tier g cursor next (Offset (At ts)) outcome h' t' =
      DateOnRow disk store meta p h t b x broker_tier g ts cursor next outcome h' t'
  DatingRow p h t b x broker_tier g cursor next command outcome h' t' = ⊥

module _ {D S M : Type 0} (disk : DiskGhosts D) (meta : MetaGhosts M) where
  -- the second turn of a join: where the log start offset had reached the wanted offset when it began, the log restarts
  -- at once
  abbrev pub JoinSecondRow : PartitionState D → RemoteTier S M → ℕ → Node D → BrokerTierState → StartSnapshot → Outcome
      → PartitionState D → RemoteTier S M → Type 0
  JoinSecondRow h t b x broker_tier g outcome h' t' =
      ((g.wanted ≤ g.start) × OwnOnRow disk h t b x g Join outcome h' t')
      ⊎ ((g.start < g.wanted) × RefreshOnRow meta h t b x broker_tier g outcome t' × (h' ≡ h))

module _ {D S M : Type 0} (disk : DiskGhosts D) (store : StoreGhosts S) where
  -- a later turn of a join that restarts its log: it reads the line, or restarts the log with it
  abbrev pub RebuildOnRow : PartitionId → PartitionState D → RemoteTier S M → ℕ → Node D → BrokerTierState
      → StartSnapshot → Rebuild → Outcome → PartitionState D → RemoteTier S M → Type 0
  RebuildOnRow p h t b x broker_tier g Epochs outcome h' t' =
      EpochsOnRow store p h t x broker_tier g outcome t' × (h' ≡ h)
  RebuildOnRow p h t b x broker_tier g (Restart line) outcome h' t' = OwnOnRow disk h t b x (with_line g line) Join
      outcome h' t'

  -- no other command has one
  abbrev pub RebuildingRow : PartitionId → PartitionState D → RemoteTier S M → ℕ → Node D → BrokerTierState
      → StartSnapshot → Rebuild → Command → Outcome → PartitionState D → RemoteTier S M → Type 0
  RebuildingRow p h t b x broker_tier g next Join outcome h' t' =
      RebuildOnRow p h t b x broker_tier g next outcome h' t'
  RebuildingRow p h t b x broker_tier g next command outcome h' t' = ⊥

module _ {D S M : Type 0} (disk : DiskGhosts D) (store : StoreGhosts S) (meta : MetaGhosts M) where
  -- the second turn, of a command of which its actor's state has what was recorded: a fetch begins with a refresh, and
  -- a timestamp lookup at the log start offset
  abbrev pub ContinuedRow : PartitionId → Config → PartitionState D → RemoteTier S M → ℕ → Node D → BrokerTierState
      → StartSnapshot → Command → Outcome → PartitionState D → RemoteTier S M → Type 0
  ContinuedRow p config h t b x broker_tier g Copy outcome h' t' = ChooseRow disk p h t b x broker_tier g outcome h' t'
  ContinuedRow p config h t b x broker_tier g Trim outcome h' t' = TrimOnRow disk h b x broker_tier g config.local_keep
      outcome h' × (t' ≡ t)
  ContinuedRow p config h t b x broker_tier g Expire outcome h' t' =
      ExpireOnRow p h x broker_tier g config.keep outcome h' × (t' ≡ t)
  ContinuedRow p config h t b x broker_tier g (Fetch offset limit) outcome h' t' =
      FetchOnRow store meta p h t b x broker_tier g offset limit Refresh outcome t' × (h' ≡ h)
  ContinuedRow p config h t b x broker_tier g Join outcome h' t' =
      JoinSecondRow disk meta h t b x broker_tier g outcome h' t'
  ContinuedRow p config h t b x broker_tier g (Offset LatestTiered) outcome h' t' = OffsetOnRow h x broker_tier g
      outcome × (h' ≡ h) × (t' ≡ t)
  ContinuedRow p config h t b x broker_tier g (Offset (At ts)) outcome h' t' = DateOnRow disk store meta p h t b x
      broker_tier g ts 0 Seek outcome h' t'
  ContinuedRow p config h t b x broker_tier g command outcome h' t' = OwnOnRow disk h t b x g command outcome h' t'

  -- a command's first turn
  abbrev pub BeginRow : PartitionState D → RemoteTier S M → ℕ → Node D → BrokerTierState → Command → Outcome
      → PartitionState D → RemoteTier S M → Type 0
  BeginRow h t b x broker_tier Copy outcome h' t' = CopyFirstRow meta h t b x broker_tier outcome t' × (h' ≡ h)
  BeginRow h t b x broker_tier Trim outcome h' t' = TrimFirstRow meta h t b x broker_tier outcome t' × (h' ≡ h)
  BeginRow h t b x broker_tier Expire outcome h' t' = ExpireFirstRow meta h t b x broker_tier outcome t' × (h' ≡ h)
  BeginRow h t b x broker_tier (Offset LatestTiered) outcome h' t' =
      OffsetFirstRow meta h t b x broker_tier outcome t' × (h' ≡ h)
  BeginRow h t b x broker_tier (Offset (At ts)) outcome h' t' =
      OffsetFirstRow meta h t b x broker_tier outcome t' × (h' ≡ h)
  BeginRow h t b x broker_tier command outcome h' t' = LocalCommandRow disk h t b x command outcome h' t'

  -- a turn of a command of broker b, of which so much is kept
  abbrev pub Row : PartitionId → Config → PartitionState D → RemoteTier S M → ℕ → Node D → BrokerTierState → InProgress
      → Command → Outcome → PartitionState D → RemoteTier S M → Type 0
  Row p config h t b x broker_tier Idle command outcome h' t' = BeginRow h t b x broker_tier command outcome h' t'
  Row p config h t b x broker_tier (Noted g) command outcome h' t' =
      ContinuedRow p config h t b x broker_tier g command outcome h' t'
  Row p config h t b x broker_tier (Copies g copy next) command outcome h' t' =
      CopyLaterRow store meta h t b x broker_tier g copy next command outcome h' t'
  Row p config h t b x broker_tier (Seeks g next) command outcome h' t' =
      SeekingRow store meta p h t b x broker_tier g next command outcome h' t'
  Row p config h t b x broker_tier (Dates g cursor next) command outcome h' t' =
      DatingRow disk store meta p h t b x broker_tier g cursor next command outcome h' t'
  Row p config h t b x broker_tier (Expires g expired_segment next) command outcome h' t' =
      DeletingRow store meta h t b x g expired_segment next command outcome h' t'
  Row p config h t b x broker_tier (Rebuilds g next) command outcome h' t' =
      RebuildingRow disk store p h t b x broker_tier g next command outcome h' t'

  -- there are such a broker and such a tier state, and the row holds of them
  abbrev pub TurnRow : PartitionId → Config → PartitionState D → RemoteTier S M → ℕ → InProgress → Command → Outcome
      → PartitionState D → RemoteTier S M → Type 0
  TurnRow p config h t b in_progress command outcome h' t' =
      AtNode h b (λ x. AtBrokerTier t b
      (λ broker_tier. Row p config h t b x broker_tier in_progress command outcome h' t'))

-- What a turn leaves that finds no memory: what its own calls of the tier may leave, by its command and by what its
-- actor's state has. A turn that makes none leaves the tier as it was.
module _ {S M : Type 0} (meta : MetaGhosts M) where
  -- a command's first turn has refreshed its broker's view in part
  abbrev pub BeginHalts : RemoteTier S M → ℕ → BrokerTierState → Command → RemoteTier S M → Type 0
  BeginHalts t b broker_tier Copy t' = HaltsRefresh meta t b broker_tier t'
  BeginHalts t b broker_tier Trim t' = HaltsRefresh meta t b broker_tier t'
  BeginHalts t b broker_tier Expire t' = HaltsRefresh meta t b broker_tier t'
  BeginHalts t b broker_tier (Offset LatestTiered) t' = HaltsRefresh meta t b broker_tier t'
  BeginHalts t b broker_tier (Offset (At ts)) t' = HaltsRefresh meta t b broker_tier t'
  BeginHalts t b broker_tier command t' = ⊥

module _ {D S M : Type 0} (store : StoreGhosts S) (meta : MetaGhosts M) where
  -- a timestamp lookup that has come to this cursor with this
  abbrev pub DateHalts : PartitionId → PartitionState D → RemoteTier S M → ℕ → Node D → BrokerTierState → ℤ → ℕ → Dating
      → RemoteTier S M → Type 0
  DateHalts p h t b x broker_tier ts cursor next t' =
      WantsForDate store meta t b broker_tier (line_of x) (asked_of p h x ts) (resumed_at h.registry.start cursor)
      (resumed_with h.registry.start cursor next) t'

  -- the second turn, of a command of which its actor's state has what was recorded
  abbrev pub ContinuedHalts : PartitionId → PartitionState D → RemoteTier S M → ℕ → Node D → BrokerTierState
      → StartSnapshot → Command → RemoteTier S M → Type 0
  ContinuedHalts p h t b x broker_tier g (Fetch offset limit) t' =
      WantsForFetch store meta p t b x broker_tier offset limit Refresh t'
  ContinuedHalts p h t b x broker_tier g Join t' = (g.start < g.wanted) × HaltsRefresh meta t b broker_tier t'
  ContinuedHalts p h t b x broker_tier g (Offset (At ts)) t' = DateHalts p h t b x broker_tier ts 0 Seek t'
  ContinuedHalts p h t b x broker_tier g command t' = ⊥

  -- a later turn of a copy
  abbrev pub CopyingHalts : PartitionState D → RemoteTier S M → ℕ → BrokerTierState → Copied → CopyStep → Command
      → RemoteTier S M → Type 0
  CopyingHalts h t b broker_tier copy next Copy t' = WantsForCopy store meta h t b broker_tier copy next t'
  CopyingHalts h t b broker_tier copy next command t' = ⊥

  -- of a fetch that continues in the remote tier
  abbrev pub SeekingHalts : PartitionId → RemoteTier S M → ℕ → Node D → BrokerTierState → Search → Command
      → RemoteTier S M → Type 0
  SeekingHalts p t b x broker_tier next (Fetch offset limit) t' =
      WantsForFetch store meta p t b x broker_tier offset limit next t'
  SeekingHalts p t b x broker_tier next command t' = ⊥

  -- of a timestamp lookup
  abbrev pub DatingHalts : PartitionId → PartitionState D → RemoteTier S M → ℕ → Node D → BrokerTierState → ℕ → Dating
      → Command → RemoteTier S M → Type 0
  DatingHalts p h t b x broker_tier cursor next (Offset (At ts)) t' = DateHalts p h t b x broker_tier ts cursor next t'
  DatingHalts p h t b x broker_tier cursor next command t' = ⊥

  -- of an expiry that has taken up a remote segment
  abbrev pub DeletingHalts : PartitionState D → RemoteTier S M → ℕ → ExpiredSegment → Deletion → Command
      → RemoteTier S M → Type 0
  DeletingHalts h t b expired_segment next Expire t' = WantsForDeletion store meta h t b expired_segment next t'
  DeletingHalts h t b expired_segment next command t' = ⊥

module _ {S M : Type 0} (store : StoreGhosts S) where
  -- of a join that reads the line
  abbrev pub RebuildingHalts : PartitionId → RemoteTier S M → BrokerTierState → StartSnapshot → Rebuild → Command
      → RemoteTier S M → Type 0
  RebuildingHalts p t broker_tier g Epochs Join t' = WantsForRebuild store p t broker_tier g t'
  RebuildingHalts p t broker_tier g next command t' = ⊥

module _ {D S M : Type 0} (store : StoreGhosts S) (meta : MetaGhosts M) where
  -- what a turn's calls of the tier leave where there was no memory, by what its actor's state has
  abbrev pub HaltsTier : PartitionId → PartitionState D → RemoteTier S M → ℕ → Node D → BrokerTierState → InProgress
      → Command → RemoteTier S M → Type 0
  HaltsTier p h t b x broker_tier Idle command t' = BeginHalts meta t b broker_tier command t'
  HaltsTier p h t b x broker_tier (Noted g) command t' = ContinuedHalts store meta p h t b x broker_tier g command t'
  HaltsTier p h t b x broker_tier (Copies g copy next) command t' =
      CopyingHalts store meta h t b broker_tier copy next command t'
  HaltsTier p h t b x broker_tier (Seeks g next) command t' =
      SeekingHalts store meta p t b x broker_tier next command t'
  HaltsTier p h t b x broker_tier (Dates g cursor next) command t' = DatingHalts store meta p h t b x broker_tier
      cursor next command t'
  HaltsTier p h t b x broker_tier (Expires g expired_segment next) command t' =
      DeletingHalts store meta h t b expired_segment next command t'
  HaltsTier p h t b x broker_tier (Rebuilds g next) command t' = RebuildingHalts store p t broker_tier g next command t'

module _ {D S M : Type 0} (disk : DiskGhosts D) where
  -- there was no memory: nothing that is seen has changed, or of the tier alone, where this holds of broker and tier
  -- state
  abbrev pub StaysOr : PartitionState D → RemoteTier S M → ℕ → (Node D → BrokerTierState → Type 0) → PartitionState D
      → RemoteTier S M → Type 0
  StaysOr h t b W h' t' = (KeepsPartition disk.content disk.control h h' × (t' ≡ t))
      ⊎ ((h' ≡ h) × AtNode h b (λ x. AtBrokerTier t b (λ broker_tier. W x broker_tier)))

module _ {D S M : Type 0} (disk : DiskGhosts D) (store : StoreGhosts S) (meta : MetaGhosts M) where
  -- there was no memory for a turn of a command of broker b, of which so much is kept
  abbrev pub StaysTier : PartitionId → PartitionState D → RemoteTier S M → ℕ → InProgress → Command → PartitionState D
      → RemoteTier S M → Type 0
  StaysTier p h t b in_progress command h' t' =
      StaysOr disk h t b (λ x broker_tier. HaltsTier store meta p h t b x broker_tier in_progress command t') h' t'
