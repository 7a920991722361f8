-- A world where nothing has happened yet, over devices whose plans are in force.
use Rattle.std.specs.Prelude.{◌≡◌, ◌≤◌, List, [], None, replicate, length, IsTrue}
use Rattle.tier_base.specs.declared.names.PartitionId.{PartitionId}
use Rattle.tier_base.specs.declared.object_key.ObjectKey.{ObjectKey}
use Rattle.tier_base.specs.Reserved.{ReservedItems}
use Rattle.disk_model.specs.declared.disk.Disk.{Ghosts as DiskGhosts}
use Rattle.object_store.specs.declared.store.Store.{Ghosts as StoreGhosts}
use Rattle.object_store.specs.Content as store
use Rattle.meta_log.specs.declared.log.MetaLog.{Ghosts as MetaGhosts}
use Rattle.meta_log.specs.Content as meta
use Rattle.plain_log.specs.declared.command.ActorList.{ActorList}
use Rattle.plain_log.specs.declared.command.Config.{Config}
use Rattle.plain_log.specs.declared.journal.JournalEntry.{JournalEntry}
use Rattle.laws_partition.specs.Sound.{turns_left as entries_left}
use Rattle.partition_commands.specs.Disks.{HaveDisks}
use Rattle.partition_commands.specs.Fresh.{IsFreshPartition, AreNodesLaid, AllSeen}
use Rattle.partition_world.specs.declared.actor_state.ActorState.{ActorState}
use Rattle.partition_world.specs.declared.actor_state.InProgress.TheVariants.{Idle}
use Rattle.partition_world.specs.declared.tier.BrokerTierState.{BrokerTierState}
use Rattle.partition_world.specs.Tier.{IsArmedTier}
use Rattle.partition_world.specs.Whole.{Whole}

-- an actor's state at the front of its list
abbrev pub fresh_actor_state : ActorState
fresh_actor_state = record { number = 0; in_progress = Idle }

-- an empty journal with room for all entries of the lists, and an actor's state at the front of each list
pub record AreFreshBooks (lists : List ActorList) (journal : ReservedItems JournalEntry)
    (desk : List ActorState) : Type 0 where
  pub empty : journal.items ≡ []
  pub room : entries_left lists [] ≤ journal.room
  pub desk_is : desk ≡ replicate (length lists) fresh_actor_state

-- a broker that has seen no metadata events, and has chosen nothing to copy
abbrev pub fresh_broker_tier : BrokerTierState
fresh_broker_tier = record {
  view = record { entries = []; notes = 0 };
  incarnation = 0;
  attempt = 0;
  cache = record { size = 64; pairs = [] };
}

-- no object is in the store
abbrev pub IsEmptyStore : store.Content → Type 0
IsEmptyStore content = IsTrue content.is_observable → (key : ObjectKey) → content.objects key ≡ None

-- no metadata event is in the metadata log
abbrev pub IsEmptyLog : meta.Content → Type 0
IsEmptyLog content = IsTrue content.is_observable → content.notes ≡ []

-- nothing has happened yet, whatever the devices: each list is at its front, the journal is empty, and each broker
-- has its disk
pub record IsNewWorld {D S M : Type 0} (lists : List ActorList) (w : Whole D S M) : Type 0 where
  pub lists_are : w.lists ≡ lists
  pub desk : w.desk ≡ replicate (length lists) fresh_actor_state
  pub journal : w.journal.items ≡ []
  pub disks : HaveDisks w.partition_state.nodes

module _ {D S M : Type 0} (disk : DiskGhosts D) (store : StoreGhosts S) (meta : MetaGhosts M) where
  -- nothing has happened
  pub record IsFresh (partition : PartitionId) (config : Config) (lists : List ActorList) (disks : List D) (s : S)
      (m : M)
      (w : Whole D S M) : Type 0 where
    pub partition_is : w.partition ≡ partition
    pub config_is : w.config ≡ config
    pub lists_are : w.lists ≡ lists
    pub count : length disks ≡ config.brokers
    pub partition_state : IsFreshPartition disk.control disks w.partition_state
    pub laid : AreNodesLaid config.settings w.partition_state.nodes
    pub tier : IsArmedTier store meta s m w.tier
    pub broker_tiers : w.tier.broker_tiers ≡ replicate config.brokers fresh_broker_tier
    pub desk : w.desk ≡ replicate (length lists) fresh_actor_state
    pub journal : w.journal.items ≡ []

  -- the brokers' logs, the store and the metadata log are seen, and empty
  pub record IsSeenEmpty (w : Whole D S M) : Type 0 where
    pub logs : AllSeen disk.content w.partition_state.nodes
    pub store_tells : IsTrue (store.content w.tier.store).is_observable
    pub objects : IsEmptyStore (store.content w.tier.store)
    pub meta_tells : IsTrue (meta.content w.tier.meta).is_observable
    pub notes : IsEmptyLog (meta.content w.tier.meta)
