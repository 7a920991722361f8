-- How a turn over observable disks is seen, and what has to be known of the partition for that.
--
-- What is known follows from the central fact of the partition that is seen, for the node of the turn and for what
-- its state keeps of a command that has begun.
use Rattle.std.specs.Prelude.{◌≡◌, ◌≤◌, ℕ, List, Some, true, slice_get, All, IsOk}
use mathlib.Core.List.{IsPrefix}
use Rattle.disk_model.specs.Content.{Content}
use Rattle.log_terms.specs.Batch.{epoch_of}
use Rattle.log_terms.specs.Line.{line_of}
use Rattle.log_terms.specs.Log.{EndsAt, end_of, end_from, up_to}
use Rattle.record_batch.specs.Check.{checked}
use Rattle.plain_log.specs.declared.command.Command.{Command}
use Rattle.plain_log.specs.declared.command.Command.TheVariants.{Follow, Join, Trim}
use Rattle.broker_log.specs.Seen.{ShowsSeen}
use Rattle.broker_log.specs.Seen as log
use Rattle.broker_log.specs.Effects.{LeadsTo}
use Rattle.laws_partition.specs.declared.start_snapshot.StartSnapshot.{StartSnapshot}
use Rattle.laws_partition.specs.Partition.{the_leader}
use Rattle.laws_partition.specs.Log.{epoch_in}
use Rattle.laws_partition.specs.RowsOfFollowers.{GoesOn, IsMeet}
use Rattle.laws_partition.specs.Seen as seen
use Rattle.laws_partition.specs.Sound.{NodeSound}
use Rattle.partition_commands.specs.declared.partition_state.Node.{Node}
use Rattle.partition_commands.specs.declared.partition_state.PartitionState.{PartitionState}
use Rattle.partition_commands.specs.Partition.{node_of, ShowsPartition}

module _ {D : Type 0} (content : D → Content) where
  -- a node of a partition whose disks are observable, and how both are seen
  pub record Sees (h : PartitionState D) (a : seen.SeenPartition) (b : ℕ) (x : Node D) (s : log.LogSeen) : Type 0 where
    pub partition_state : ShowsPartition content h a
    pub at : slice_get h.nodes b ≡ Some x
    pub there : slice_get a.nodes b ≡ Some (node_of x s)
    pub shows : ShowsSeen content x.log s

  -- the partition after a turn is seen so that this holds
  pub record Refines (h' : PartitionState D) (R : seen.SeenPartition → Type 0) : Type 0 where
    pub after : seen.SeenPartition
    pub partition_state : ShowsPartition content h' after
    pub row : R after

-- the nodes that are seen keep what nodes keep
abbrev pub AreSound : seen.SeenPartition → Type 0
AreSound a = (b : ℕ) (y : seen.Node) → slice_get a.nodes b ≡ Some y → NodeSound y

-- what is known of a partition and of one of its nodes: where that node's log meets the leader's, it has an end
pub record Knows (a : seen.SeenPartition) (y : seen.Node) : Type 0 where
  pub sound : AreSound a
  pub meets : (z : seen.Node) (m : ℕ) → the_leader a ≡ Some z → IsMeet y z m → EndsAt m y.log.batches

-- a node that hasn't stopped since a command began is up
abbrev pub StaysUp : seen.Node → StartSnapshot → Type 0
StaysUp y g = g.stops ≡ y.stops → y.up ≡ true

-- what is known of a follow that continues: what it keeps are batches of one epoch
pub record IsFollowSnapshot (y : seen.Node) (g : StartSnapshot) : Type 0 where
  pub recorded : StaysUp y g
  pub are : All (λ (batch : List ℕ). IsOk (checked batch)) g.batches
  pub epochs : All (λ batch. Some (epoch_of batch) ≡ epoch_in g.batches) g.batches
  pub small : end_from g.end g.batches ≤ 4611686018427387904

-- up to the wanted point the log of z continues from that of y, and the recorded line is its own
pub record HasWanted (y z : seen.Node) (g : StartSnapshot) : Type 0 where
  pub leads : LeadsTo (up_to g.wanted z.log.batches) g.wanted
  pub begins : IsPrefix y.log.batches (up_to g.wanted z.log.batches)
  pub line : g.line ≡ line_of (up_to g.wanted z.log.batches)

-- what is known of a join that continues: the leader's log has what is wanted
pub record IsRebuilding (a : seen.SeenPartition) (y : seen.Node) (g : StartSnapshot) : Type 0 where
  pub recorded : StaysUp y g
  pub way : GoesOn a y g → g.end ≡ end_of y.log.batches
      → (z : seen.Node) → slice_get a.nodes a.registry.leader.0 ≡ Some z → HasWanted y z g
  pub leader : (z : seen.Node) × (slice_get a.nodes a.registry.leader.0 ≡ Some z)

-- what is known of what an actor's state has
abbrev pub KnowsSnapshot : seen.SeenPartition → seen.Node → Command → StartSnapshot → Type 0
KnowsSnapshot a y (Follow limit) g = IsFollowSnapshot y g
KnowsSnapshot a y Join g = IsRebuilding a y g
KnowsSnapshot a y Trim g = StaysUp y g
KnowsSnapshot a y other g = Unit {0}
