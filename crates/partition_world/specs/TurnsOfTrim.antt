-- What a turn of a trim comes to over devices.
--
--   turn      does                                             answers
--   first     refreshes the broker's view                      Down, MetaFault
--   second    drops the local log's first closed segment       Stopped, Kept, DiskFault, Dropped
--
-- The first closed segment may go where retention takes it from the local log, it lies below the known high watermark
-- and the stable end, and each of its offsets from the log start offset on has a piece of a remote segment in the
-- broker's view.
--
-- Source: KIP-405, where local retention deletes a segment only once it has been copied to the remote storage.
use Rattle.std.specs.Prelude.{◌≡◌, ◌-◌, ◌≤◌, ℕ, ℤ, true, false, map, IsSomeAnd, slice_get}
use Rattle.tier_base.specs.declared.plain.Item.{Item}
use Rattle.tier_base.specs.declared.plain.Keep.{Keep}
use Rattle.disk_model.specs.declared.disk.Disk.{Ghosts as DiskGhosts}
use Rattle.meta_log.specs.declared.log.MetaLog.{Ghosts as MetaGhosts}
use Rattle.segment_file.specs.Growing.{Grown, latest_ts}
use Rattle.local_log.specs.Stored.{size_of, end_of as segment_end}
use Rattle.retention_rule.specs.Due.{local_due}
use Rattle.plain_log.specs.declared.answer.Answer.{Answer}
use Rattle.plain_log.specs.declared.answer.Answer.TheVariants.{Down, MetaFault, Stopped, Kept}
use Rattle.broker_log.specs.Seen.{WhileUp, closed_in}
use Rattle.laws_partition.specs.declared.start_snapshot.StartSnapshot.{StartSnapshot}
use Rattle.partition_commands.specs.declared.partition_state.Node.{Node}
use Rattle.partition_commands.specs.declared.partition_state.PartitionState.{PartitionState}
use Rattle.partition_commands.specs.Partition.{is_up}
use Rattle.partition_commands.specs.TurnsOfLog.{Notes, MayDropFirst}
use Rattle.partition_commands.specs.TurnsOfLog as log
use Rattle.partition_world.specs.declared.tier.BrokerTierState.{BrokerTierState}
use Rattle.partition_world.specs.declared.tier.RemoteTier.{RemoteTier}
use Rattle.partition_world.specs.declared.actor_state.Outcome.{Outcome}
use Rattle.partition_world.specs.declared.actor_state.Outcome.TheVariants.{Answers, Begins}
use Rattle.partition_world.specs.Tier.{RefreshesBroker, FailsToRead}
use Rattle.partition_world.specs.TurnsOfCopy.{copied_to}

-- what retention asks about a closed segment
abbrev pub item_of : Grown → Item
item_of segment = record { last = segment_end segment - 1; size = size_of segment; max_ts = latest_ts segment.batches }

module _ {D : Type 0} where
  -- the local rule of retention takes the first closed segment, at this time, where the log starts so
  abbrev pub IsDue : Node D → ℕ → ℤ → Keep → Type 0
  IsDue x start now keep =
      WhileUp x.log (λ log. local_due (map item_of log.closed) (size_of log.active) now keep start ≡ true)

  -- the first closed segment of the local log may go
  pub record MayTrim (h : PartitionState D) (x : Node D) (broker_tier : BrokerTierState) (keep : Keep) : Type 0 where
    pub flushed_end : MayDropFirst x
    pub known_high_watermark : IsSomeAnd (slice_get (closed_in x.log) 0)
        (λ segment. segment_end segment ≤ x.known_high_watermark)
    pub copied : IsSomeAnd (slice_get (closed_in x.log) 0)
        (λ segment. segment_end segment ≤ copied_to x broker_tier h.registry.start)
    pub due : IsDue x h.registry.start h.clock keep

-- trim, first turn
module _ {D S M : Type 0} (meta : MetaGhosts M) where
  abbrev pub TrimFirstRow : PartitionState D → RemoteTier S M → ℕ → Node D → BrokerTierState → Outcome → RemoteTier S M
      → Type 0
  TrimFirstRow h t b x broker_tier (Answers Down) t' = (is_up x ≡ false) × (t' ≡ t)
  TrimFirstRow h t b x broker_tier (Answers MetaFault) t' = (is_up x ≡ true) × FailsToRead meta t broker_tier t'
  TrimFirstRow h t b x broker_tier (Begins g) t' =
      (is_up x ≡ true) × Notes h x g × RefreshesBroker meta t b broker_tier t'
  TrimFirstRow h t b x broker_tier other t' = ⊥

module _ {D : Type 0} (disk : DiskGhosts D) where
  -- whether the segment may go, by the answer
  abbrev pub TrimsBy : PartitionState D → Node D → BrokerTierState → Keep → Answer → Type 0
  TrimsBy h x broker_tier keep Stopped = Unit {0}
  TrimsBy h x broker_tier keep Kept = (is_up x ≡ true) × (MayTrim h x broker_tier keep → ⊥)
  TrimsBy h x broker_tier keep answer = MayTrim h x broker_tier keep

  -- trim, second turn: by the row of the local log, where the segment may go
  abbrev pub TrimOnRow : PartitionState D → ℕ → Node D → BrokerTierState → StartSnapshot → Keep → Outcome
      → PartitionState D → Type 0
  TrimOnRow h b x broker_tier g keep (Answers answer) h' =
      log.TrimOnRow disk.content disk.control h b x g answer h' × TrimsBy h x broker_tier keep answer
  TrimOnRow h b x broker_tier g keep other h' = ⊥
