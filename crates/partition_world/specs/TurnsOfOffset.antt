-- What a turn comes to of the question up to which offset the remote tier has the log. A timestamp lookup has the same
-- first turn.
--
--   turn      does                                       answers
--   first     refreshes the leader's view                Down, NotLeader, MetaFault
--   second    looks the log up in it                     Stopped, NotLeader, Offset, NoOffset
--
-- The second turn calls no device, and changes nothing.
--
-- Source: Kafka's ListOffsets for the latest tiered timestamp (KIP-1005), answered for the leader's own lineage.
use Rattle.std.specs.Prelude.{◌≡◌, ◌≢◌, ℕ, ◌-◌, ◌==◌, if◌then◌else◌, true, Option, Some, None}
use Rattle.meta_log.specs.declared.log.MetaLog.{Ghosts as MetaGhosts}
use Rattle.plain_log.specs.declared.answer.Answer.{Answer}
use Rattle.plain_log.specs.declared.answer.Answer.TheVariants.{Stopped, NotLeader, Offset, NoOffset}
use Rattle.laws_partition.specs.declared.start_snapshot.StartSnapshot.{StartSnapshot}
use Rattle.partition_commands.specs.declared.partition_state.Node.{Node}
use Rattle.partition_commands.specs.declared.partition_state.PartitionState.{PartitionState}
use Rattle.partition_commands.specs.Partition.{is_up}
use Rattle.partition_world.specs.declared.tier.BrokerTierState.{BrokerTierState}
use Rattle.partition_world.specs.declared.tier.RemoteTier.{RemoteTier}
use Rattle.partition_world.specs.declared.actor_state.Outcome.{Outcome}
use Rattle.partition_world.specs.declared.actor_state.Outcome.TheVariants.{Answers}
use Rattle.partition_world.specs.TurnsOfCopy.{KeepsLead, copied_to, LeadersFirstRow}
use Rattle.partition_world.specs.TurnsOfFetch.{HasStopped}

-- offset, first turn: as a copy's
module _ {D S M : Type 0} (meta : MetaGhosts M) where
  abbrev pub OffsetFirstRow : PartitionState D → RemoteTier S M → ℕ → Node D → BrokerTierState → Outcome
      → RemoteTier S M → Type 0
  OffsetFirstRow h t b x broker_tier outcome t' = LeadersFirstRow meta h t b x broker_tier outcome t'

module _ {D : Type 0} where
  -- the last offset that is in the remote tier with all before it, or none where nothing from the log start offset on
  -- is there
  abbrev pub tiered_offset : PartitionState D → Node D → BrokerTierState → Option ℕ
  tiered_offset h x broker_tier =
      if copied_to x broker_tier h.registry.start == h.registry.start then None else Some
      (copied_to x broker_tier h.registry.start - 1)

  -- the answer of its second turn, where it has kept its lead
  abbrev pub TellsTiered : PartitionState D → Node D → BrokerTierState → Answer → Type 0
  TellsTiered h x broker_tier (Offset n) = tiered_offset h x broker_tier ≡ Some n
  TellsTiered h x broker_tier NoOffset = tiered_offset h x broker_tier ≡ None
  TellsTiered h x broker_tier other = ⊥

  -- offset, second turn
  abbrev pub OffsetOnRow : PartitionState D → Node D → BrokerTierState → StartSnapshot → Outcome → Type 0
  OffsetOnRow h x broker_tier g (Answers Stopped) = HasStopped x g
  OffsetOnRow h x broker_tier g (Answers NotLeader) = (g.stops ≡ x.stops) × (is_up x ≡ true) × (g.role ≢ x.role)
  OffsetOnRow h x broker_tier g (Answers answer) = KeepsLead x g × TellsTiered h x broker_tier answer
  OffsetOnRow h x broker_tier g other = ⊥
