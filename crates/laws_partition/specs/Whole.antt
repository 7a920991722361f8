-- A world as contracts see it.
use Rattle.std.specs.Prelude.{List}
use Rattle.tier_base.specs.declared.names.PartitionId.{PartitionId}
use Rattle.tier_base.specs.Reserved.{ReservedItems}
use Rattle.plain_log.specs.declared.command.ActorList.{ActorList}
use Rattle.plain_log.specs.declared.command.Config.{Config}
use Rattle.plain_log.specs.declared.journal.JournalEntry.{JournalEntry}
use Rattle.laws_partition.specs.Seen.{SeenPartition}
use Rattle.laws_partition.specs.declared.actor_progress.ActorProgress.{ActorProgress}

-- what it was made with, the partition, how far each list has come, and what has happened
pub record Whole : Type 0 where
  pub partition : PartitionId
  pub config : Config
  pub lists : List ActorList
  pub partition_state : SeenPartition
  pub desk : List ActorProgress
  pub journal : ReservedItems JournalEntry
