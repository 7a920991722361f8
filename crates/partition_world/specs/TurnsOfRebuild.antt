-- What a turn of a join comes to over devices, after its first one: the follower's log is to restart, where the
-- leader's local log began at the first turn.
--
--   turn       does                                                answers
--   second     refreshes the follower's view                       Stopped, StaleEpoch, Passed, BelowStart, MetaFault
--   Epochs     reads the line, by the row of rebuilds              the first four of these, and what that row answers
--   Restart    restarts the log with the line                   the first four of these, DiskFault, Rebuilt
--
-- Where the log start offset had reached the wanted offset by the first turn, nothing below it needs the tier: the
-- second turn restarts the log at once, with the leader's leader epochs. The tests are repeated at each turn, in their
-- order. What the last turn comes to the crate `partition_commands` says, of what was recorded.
--
-- Source: KIP-405, where a follower whose fetch offset has moved to tiered storage truncates its log, builds its
-- leader epochs out of remote storage, and fetches on from the leader's local log start offset.
use Rattle.std.specs.Prelude.{◌≡◌, ◌⊎◌, ℕ, ◌<◌, ◌≤◌, List, [], Ok, Err}
use Rattle.std.specs.declared.alloc.AllocError.{AllocError}
use Rattle.tier_base.specs.declared.names.PartitionId.{PartitionId}
use Rattle.object_store.specs.declared.store.Store.{Ghosts as StoreGhosts}
use Rattle.meta_log.specs.declared.log.MetaLog.{Ghosts as MetaGhosts}
use Rattle.rebuild_task.specs.declared.turn.RebuildStep.TheVariants.{Epochs}
use Rattle.rebuild_task.specs.declared.turn.RebuildStep.{RebuildStep}
use Rattle.rebuild_task.specs.declared.turn.RebuildRequest.{RebuildRequest}
use Rattle.rebuild_task.specs.Turns.{RebuildRow}
use Rattle.plain_log.specs.declared.turn.Turn.{Turn}
use Rattle.plain_log.specs.declared.answer.Answer.{Answer}
use Rattle.plain_log.specs.declared.answer.Answer.TheVariants.{Stopped, StaleEpoch, Passed, BelowStart, MetaFault}
use Rattle.plain_log.specs.State.{followed}
use Rattle.laws_partition.specs.declared.start_snapshot.StartSnapshot.{StartSnapshot}
use Rattle.partition_commands.specs.declared.partition_state.Node.{Node}
use Rattle.partition_commands.specs.declared.partition_state.PartitionState.{PartitionState}
use Rattle.partition_commands.specs.Partition.{end_of}
use Rattle.partition_commands.specs.TurnsOfFollowers.{IsStale, GoesOn, IsAsCut, MayRebuild}
use Rattle.partition_world.specs.declared.tier.BrokerTierState.{BrokerTierState}
use Rattle.partition_world.specs.declared.tier.RemoteTier.{RemoteTier}
use Rattle.partition_world.specs.declared.actor_state.Outcome.{Outcome}
use Rattle.partition_world.specs.declared.actor_state.Outcome.TheVariants.{Answers, Rebuilds}
use Rattle.partition_world.specs.Tier.{RefreshesBroker, FailsToRead}
use Rattle.partition_world.specs.ActorStates.{rebuild_outcome}
use Rattle.partition_world.specs.TurnsOfFetch.{HasStopped}

-- what a join records, with these leader epochs in the place of its own
abbrev pub with_line : StartSnapshot → List (ℕ × ℕ) → StartSnapshot
with_line g line = record g { batches = []; line = line }

-- what a rebuild asks for
abbrev pub wanted_of : PartitionId → StartSnapshot → RebuildRequest
wanted_of p g = record { partition = p; offset = g.wanted }

module _ {D : Type 0} where
  -- what a join returns before it continues, with the tests that come before
  abbrev pub AnswersAtOnce : PartitionState D → Node D → StartSnapshot → Answer → Type 0
  AnswersAtOnce h x g Stopped = HasStopped x g
  AnswersAtOnce h x g (StaleEpoch n) = (g.stops ≡ x.stops) × IsStale h (followed g.role) × (n ≡ h.registry.epoch)
  AnswersAtOnce h x g (Passed n) = GoesOn h x g × (n ≡ end_of x) × (IsAsCut x g → ⊥)
  AnswersAtOnce h x g (BelowStart start) = GoesOn h x g × IsAsCut x g × (start ≡ h.registry.start)
      × (g.start < g.wanted) × (g.wanted ≤ start)
  AnswersAtOnce h x g other = ⊥

module _ {D S M : Type 0} where
  -- a join gets this answer, and nothing changes
  abbrev pub IsJoinAnswered : PartitionState D → RemoteTier S M → Node D → StartSnapshot → Outcome → RemoteTier S M
      → Type 0
  IsJoinAnswered h t x g outcome t' =
      (answer : Answer) × (outcome ≡ Answers answer) × AnswersAtOnce h x g answer × (t' ≡ t)

-- what a refresh of the follower's view comes to
module _ {S M : Type 0} (meta : MetaGhosts M) where
  abbrev pub RefreshedRow : RemoteTier S M → ℕ → BrokerTierState → Outcome → RemoteTier S M → Type 0
  RefreshedRow t b broker_tier (Answers MetaFault) t' = FailsToRead meta t broker_tier t'
  RefreshedRow t b broker_tier (Rebuilds Epochs) t' = RefreshesBroker meta t b broker_tier t'
  RefreshedRow t b broker_tier other t' = ⊥

module _ {D S M : Type 0} (meta : MetaGhosts M) where
  -- join, second turn, where the tier is needed
  abbrev pub RefreshOnRow : PartitionState D → RemoteTier S M → ℕ → Node D → BrokerTierState → StartSnapshot → Outcome
      → RemoteTier S M → Type 0
  RefreshOnRow h t b x broker_tier g outcome t' =
      IsJoinAnswered h t x g outcome t' ⊎ (MayRebuild h x g × RefreshedRow meta t b broker_tier outcome t')

-- the turn that reads the line
module _ {S M : Type 0} (store : StoreGhosts S) where
  -- a turn of the row of rebuilds, and nothing else changes
  pub record GoesOnRebuild (p : PartitionId) (t : RemoteTier S M) (broker_tier : BrokerTierState) (g : StartSnapshot)
      (turn : Turn RebuildStep) (t' : RemoteTier S M) : Type 0 where
    pub row : RebuildRow store.content store.control (wanted_of p g) g.line broker_tier.view (Ok turn) t.store t'.store
    pub after : t' ≡ record t { store = t'.store }

  -- it ran out of memory
  pub record WantsForRebuild (p : PartitionId) (t : RemoteTier S M) (broker_tier : BrokerTierState) (g : StartSnapshot)
      (t' : RemoteTier S M) : Type 0 where
    pub error : AllocError
    pub row : RebuildRow store.content store.control (wanted_of p g) g.line broker_tier.view
        (Err error) t.store t'.store
    pub after : t' ≡ record t { store = t'.store }

module _ {D S M : Type 0} (store : StoreGhosts S) where
  -- join, that turn
  abbrev pub EpochsOnRow : PartitionId → PartitionState D → RemoteTier S M → Node D → BrokerTierState → StartSnapshot
      → Outcome → RemoteTier S M → Type 0
  EpochsOnRow p h t x broker_tier g outcome t' =
      IsJoinAnswered h t x g outcome t'
      ⊎ (MayRebuild h x g × ((turn : Turn RebuildStep) × (outcome ≡ rebuild_outcome turn)
      × GoesOnRebuild store p t broker_tier g turn t'))
