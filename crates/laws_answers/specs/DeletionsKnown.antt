-- What is known of deletions, beside the central fact.
--
-- An expiry may begin before the copy of its segment is whole. What it deletes is below the log start offset all the
-- same; and the copy takes its objects away again once its broker has seen that.
--
-- Source: KIP-405: a remote segment is deleted once the log start offset is past it.
use Rattle.std.specs.Prelude.{◌≡◌, ℕ, ◌<◌, true, List, Some, slice_get, IsSomeAnd}
use Rattle.tier_base.specs.declared.names.SegmentId.{SegmentId}
use Rattle.segment_meta.specs.declared.note.Entry.{Entry}
use Rattle.meta_log.specs.declared.log.MetaLog.{Ghosts as MetaGhosts}
use Rattle.remote_view.specs.Fold.{entry_of, state_of, fold}
use Rattle.copy_task.specs.Copying.{Copied}
use Rattle.copy_task.specs.declared.turn.CopyStep.{CopyStep}
use Rattle.copy_task.specs.declared.turn.CopyStep.TheVariants.{Delete}
use Rattle.plain_log.specs.declared.command.ActorList.{ActorList}
use Rattle.plain_log.specs.declared.command.Order.{Order}
use Rattle.laws_partition.specs.declared.start_snapshot.StartSnapshot.{StartSnapshot}
use Rattle.tier_safe.specs.Copies.{is_deleted}
use Rattle.partition_world.specs.declared.actor_state.ActorState.{ActorState}
use Rattle.partition_world.specs.declared.actor_state.InProgress.TheVariants.{Copies}
use Rattle.partition_world.specs.declared.tier.BrokerTierState.{BrokerTierState}
use Rattle.partition_world.specs.Turn.{IsNextOrder}
use Rattle.partition_world.specs.Whole.{Whole}

-- the remote segment with this id ends below the log start offset, where its deletion has started
abbrev pub DeletedBelow : List Entry → ℕ → SegmentId → Type 0
DeletedBelow entries start id = (entry : Entry) → entry_of id entries ≡ Some entry → is_deleted entry.state ≡ true
    → entry.end < start

-- the entries have the id, and its deletion has started
abbrev pub ShowsDeleted : List Entry → SegmentId → Type 0
ShowsDeleted entries id = IsSomeAnd (state_of id entries) (λ state. is_deleted state ≡ true)

module _ {D S M : Type 0} where
  -- of a copy that takes its objects away its broker's view shows the deletion
  abbrev pub OvertakenSeen : Whole D S M → Type 0
  OvertakenSeen w =
      (a place : ℕ) (l : ActorList) (actor_state : ActorState) (order : Order) (g : StartSnapshot) (copy : Copied)
      (n : ℕ) (broker_tier : BrokerTierState)
      → IsNextOrder w a place l actor_state order → actor_state.in_progress ≡ Copies g copy (Delete n)
      → slice_get w.tier.broker_tiers order.broker.0 ≡ Some broker_tier
      → ShowsDeleted broker_tier.view.entries copy.id

  -- A segment that a copy on the desk copies ends below the log start offset, where its deletion has started. That
  -- isn't so of others: a sweep between two runs deletes what was never finished, wherever it ends.
  abbrev pub OvertakenBelow : MetaGhosts M → Whole D S M → Type 0
  OvertakenBelow meta w =
      (a place : ℕ) (l : ActorList) (actor_state : ActorState) (order : Order) (g : StartSnapshot) (copy : Copied)
      (next : CopyStep) → IsNextOrder w a place l actor_state order
      → actor_state.in_progress ≡ Copies g copy next
      → DeletedBelow (fold (meta.content w.tier.meta).notes) w.partition_state.registry.start copy.id

  -- what is known of deletions
  pub record DeletionsKnown (meta : MetaGhosts M) (w : Whole D S M) : Type 0 where
    pub below : OvertakenBelow meta w
    pub seen : OvertakenSeen w
