-- A turn that finds no memory leaves what a call of the tier may leave, whichever it is.
use Rattle.std.proofs.Common.{◌⊎◌, inl, inr, ℕ, List, slice_get}
use Rattle.disk_model.specs.declared.disk.Disk.{Ghosts as DiskGhosts}
use Rattle.object_store.specs.declared.store.Store.{Ghosts as StoreGhosts}
use Rattle.meta_log.specs.declared.log.MetaLog.{Ghosts as MetaGhosts}
use Rattle.tier_base.specs.declared.names.PartitionId.{PartitionId}
use Rattle.copy_task.specs.Copying.{Copied}
use Rattle.copy_task.specs.declared.turn.CopyStep.{CopyStep}
use Rattle.expiry_task.specs.declared.turn.ExpiredSegment.{ExpiredSegment}
use Rattle.expiry_task.specs.declared.turn.DeletionStep.{DeletionStep as Deletion}
use Rattle.tier_fetch.specs.declared.turn.FetchStep.{FetchStep as Search}
use Rattle.tier_fetch.specs.declared.turn.FetchStep.TheVariants.{Refresh}
use Rattle.time_find.specs.declared.turn.Asked.{Asked}
use Rattle.time_find.specs.declared.turn.SearchStep.{SearchStep as Dating}
use Rattle.rebuild_task.specs.declared.turn.RebuildStep.TheVariants.{Epochs}
use Rattle.plain_log.specs.declared.command.Command.{Command}
use Rattle.plain_log.specs.declared.command.Command.TheVariants.{Copy, Trim, Expire, Fetch, Join, Offset}
use Rattle.plain_log.specs.declared.command.Which.TheVariants.{LatestTiered, At}
use Rattle.laws_partition.specs.declared.start_snapshot.StartSnapshot.{StartSnapshot}
use Rattle.partition_commands.specs.declared.partition_state.Node.{Node}
use Rattle.partition_commands.specs.declared.partition_state.PartitionState.{PartitionState}
use Rattle.partition_world.specs.declared.tier.BrokerTierState.{BrokerTierState}
use Rattle.partition_world.specs.declared.tier.RemoteTier.{RemoteTier}
use Rattle.partition_world.specs.declared.actor_state.InProgress.{InProgress}
use Rattle.partition_world.specs.declared.actor_state.InProgress.TheVariants.{Idle, Noted, Copies, Seeks, Dates, Expires, Rebuilds}
use Rattle.partition_world.specs.Tier.{AtBrokerTier, HaltsRefresh}
use Rattle.partition_world.specs.TurnsOfCopy.{WantsForCopy}
use Rattle.partition_world.specs.TurnsOfExpiry.{WantsForDeletion}
use Rattle.partition_world.specs.TurnsOfFetch.{WantsForFetch}
use Rattle.partition_world.specs.TurnsOfDate.{WantsForDate}
use Rattle.partition_world.specs.TurnsOfRebuild.{WantsForRebuild}
use Rattle.partition_world.specs.Turns.{BeginHalts, ContinuedHalts, HaltsTier, StaysOr, StaysTier}
use Rattle.partition_world.proofs.Dispatch.{some_more}

module _ {D S M : Type 0} (disk : DiskGhosts D) (store : StoreGhosts S) (meta : MetaGhosts M) where
  -- a call of the tier found no memory
  abbrev pub HaltsSome : PartitionState D → RemoteTier S M → ℕ → Node D → BrokerTierState → RemoteTier S M → Type 0
  HaltsSome h t b x broker_tier t' =
      HaltsRefresh meta t b broker_tier t' ⊎ (((copy : Copied) × (next : CopyStep) × WantsForCopy store meta h t b broker_tier copy next t')
      ⊎ (((p : PartitionId) × (offset : ℕ) × (limit : ℕ) × (next : Search) × WantsForFetch store meta p t b x broker_tier offset limit next t')
      ⊎ (((expired_segment : ExpiredSegment) × (next : Deletion) × WantsForDeletion store meta h t b expired_segment next t')
      ⊎ (((line : List (ℕ × ℕ)) × (asked : Asked) × (cursor : ℕ) × (next : Dating) × WantsForDate store meta t b broker_tier line asked cursor next t')
      ⊎ ((p : PartitionId) × (g : StartSnapshot) × WantsForRebuild store p t broker_tier g t')))))

  -- a turn did
  abbrev pub StaysSome : PartitionState D → RemoteTier S M → ℕ → PartitionState D → RemoteTier S M → Type 0
  StaysSome h t b h' t' = StaysOr disk h t b (λ x broker_tier. HaltsSome h t b x broker_tier t') h' t'

  begin_some : (h : PartitionState D) (t : RemoteTier S M) (b : ℕ) (x : Node D) (broker_tier : BrokerTierState) (command : Command) (t' : RemoteTier S M)
      → BeginHalts meta t b broker_tier command t' → HaltsSome h t b x broker_tier t'
  begin_some h t b x broker_tier Copy t' w = inl w
  begin_some h t b x broker_tier Trim t' w = inl w
  begin_some h t b x broker_tier Expire t' w = inl w
  begin_some h t b x broker_tier (Offset LatestTiered) t' w = inl w
  begin_some h t b x broker_tier (Offset (At ts)) t' w = inl w
  begin_some h t b x broker_tier other t' w = elim w [ ]

  date_some : (h : PartitionState D) (t : RemoteTier S M) (b : ℕ) (x : Node D) (broker_tier : BrokerTierState) (line : List (ℕ × ℕ)) (asked : Asked) (cursor : ℕ) (next : Dating) (t' : RemoteTier S M)
      → WantsForDate store meta t b broker_tier line asked cursor next t' → HaltsSome h t b x broker_tier t'
  date_some h t b x broker_tier line asked cursor next t' w = inr (inr (inr (inr (inl (line, asked, cursor, next, w)))))

  recorded_some : (p : PartitionId) (h : PartitionState D) (t : RemoteTier S M) (b : ℕ) (x : Node D) (broker_tier : BrokerTierState) (g : StartSnapshot) (command : Command) (t' : RemoteTier S M)
      → ContinuedHalts store meta p h t b x broker_tier g command t' → HaltsSome h t b x broker_tier t'
  recorded_some p h t b x broker_tier g (Fetch offset limit) t' w = inr (inr (inl (p, offset, limit, Refresh, w)))
  recorded_some p h t b x broker_tier g Join t' w = inl w.1
  recorded_some p h t b x broker_tier g (Offset (At ts)) t' w = date_some h t b x broker_tier _ _ _ _ t' w
  recorded_some p h t b x broker_tier g other t' w = elim w [ ]

  halts_some : (p : PartitionId) (h : PartitionState D) (t : RemoteTier S M) (b : ℕ) (x : Node D) (broker_tier : BrokerTierState) (in_progress : InProgress) (command : Command) (t' : RemoteTier S M)
      → HaltsTier store meta p h t b x broker_tier in_progress command t' → HaltsSome h t b x broker_tier t'
  halts_some p h t b x broker_tier Idle command t' w = begin_some h t b x broker_tier command t' w
  halts_some p h t b x broker_tier (Noted g) command t' w = recorded_some p h t b x broker_tier g command t' w
  halts_some p h t b x broker_tier (Copies g copy next) Copy t' w = inr (inl (copy, next, w))
  halts_some p h t b x broker_tier (Seeks g next) (Fetch offset limit) t' w = inr (inr (inl (p, offset, limit, next, w)))
  halts_some p h t b x broker_tier (Dates g cursor next) (Offset (At ts)) t' w = date_some h t b x broker_tier _ _ _ _ t' w
  halts_some p h t b x broker_tier (Expires g expired_segment next) Expire t' w = inr (inr (inr (inl (expired_segment, next, w))))
  halts_some p h t b x broker_tier (Rebuilds g Epochs) Join t' w = inr (inr (inr (inr (inr (p, g, w)))))
  halts_some p h t b x broker_tier in_progress command t' w = elim w [ ]

  -- what a turn leaves that finds no memory is left by some call
  pub stays_some : (p : PartitionId) (h : PartitionState D) (t : RemoteTier S M) (b : ℕ) (in_progress : InProgress) (command : Command) (h' : PartitionState D) (t' : RemoteTier S M)
      → StaysTier disk store meta p h t b in_progress command h' t' → StaysSome h t b h' t'
  stays_some p h t b in_progress command h' t' (inl w) = inl w
  stays_some p h t b in_progress command h' t' (inr (same, at)) =
      inr (
        same,
        some_more (λ x. AtBrokerTier t b (λ broker_tier. HaltsTier store meta p h t b x broker_tier in_progress command t'))
            (λ x. AtBrokerTier t b (λ broker_tier. HaltsSome h t b x broker_tier t')) (slice_get h.nodes b)
            (λ x w. some_more (λ broker_tier. HaltsTier store meta p h t b x broker_tier in_progress command t') (λ broker_tier. HaltsSome h t b x broker_tier t')
            (slice_get t.broker_tiers b) (λ broker_tier halts. halts_some p h t b x broker_tier in_progress command t' halts) w) at,
      )
