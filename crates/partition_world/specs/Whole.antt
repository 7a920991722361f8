-- A world as contracts see it.
use Rattle.std.specs.Prelude.{List}
use Rattle.tier_base.specs.declared.names.PartitionId.{PartitionId}
use Rattle.tier_base.specs.Reserved.{ReservedItems}
use Rattle.plain_log.specs.declared.command.ActorList.{ActorList}
use Rattle.plain_log.specs.declared.command.Config.{Config}
use Rattle.plain_log.specs.declared.journal.JournalEntry.{JournalEntry}
use Rattle.laws_partition.specs.Seen as seen
use Rattle.laws_partition.specs.Whole as seen_whole
use Rattle.partition_commands.specs.declared.partition_state.PartitionState.{PartitionState}
use Rattle.partition_world.specs.declared.actor_state.ActorState.{ActorState}
use Rattle.partition_world.specs.declared.tier.RemoteTier.{RemoteTier}
use Rattle.partition_world.specs.ActorStates.{desk_seen}

-- what it was made with, the partition, the remote tier, how far each list has come, and what has happened
pub record Whole (D S M : Type 0) : Type 0 where
  pub partition : PartitionId
  pub config : Config
  pub lists : List ActorList
  pub partition_state : PartitionState D
  pub tier : RemoteTier S M
  pub desk : List ActorState
  pub journal : ReservedItems JournalEntry

-- the world with its partition as it is seen, without the remote tier
abbrev pub seen_as : {D S M : Type 0} → Whole D S M → seen.SeenPartition → seen_whole.Whole
seen_as w a = record {
  partition = w.partition;
  config = w.config;
  lists = w.lists;
  partition_state = a;
  desk = desk_seen w.desk;
  journal = w.journal;
}
