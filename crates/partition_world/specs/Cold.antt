-- A world that is reopened over devices that were used before, and what those devices represent.
--
--   form                      says
--   IsReopened .. w           it was made over these devices, which were armed and asked nothing else
--   StandCold p .. l          the devices, with these metadata events, are those of the plain state p, all brokers down
--   ReopensCentral            such a world has the central fact for each plain state that its devices represent
use Rattle.std.specs.Prelude.{◌≡◌, ◌^◌, ◌<◌, List, [], length, map, replicate, IsTrue}
use Rattle.tier_base.specs.declared.names.PartitionId.{PartitionId}
use Rattle.disk_model.specs.declared.disk.Disk.{Ghosts as DiskGhosts}
use Rattle.object_store.specs.declared.store.Store.{Ghosts as StoreGhosts}
use Rattle.object_store.specs.Content.{Objects}
use Rattle.segment_meta.specs.declared.note.Note.{Note}
use Rattle.meta_log.specs.declared.log.MetaLog.{Ghosts as MetaGhosts}
use Rattle.meta_log.specs.Content.{Left}
use Rattle.registry.specs.declared.registry.Registry.{Registry}
use Rattle.plain_log.specs.declared.command.ActorList.{ActorList}
use Rattle.plain_log.specs.declared.command.Config.{Config}
use Rattle.plain_log.specs.declared.state.State.{State}
use Rattle.plain_log.specs.Orders.{AreListsFor}
use Rattle.plain_log.specs.Safe.{PlainSafe}
use Rattle.broker_log.specs.Seen.{LogSeen}
use Rattle.laws_partition.specs.Central.{LinesStand}
use Rattle.laws_partition.specs.Partition.{broker_of}
use Rattle.laws_tier_turns.specs.BrokerTiers.{tier_views_of, fresh_broker_tier as fresh_seen}
use Rattle.partition_commands.specs.Cold.{ShowDisks, IsColdPartition, node_back, partition_back}
use Rattle.tier_safe.specs.Scene.{Scene}
use Rattle.tier_safe.specs.Safe.{TierSafe}
use Rattle.partition_world.specs.Fresh.{fresh_actor_state, fresh_broker_tier}
use Rattle.partition_world.specs.Left.{IsCentralLeft}
use Rattle.partition_world.specs.Tier.{IsArmedTier}
use Rattle.partition_world.specs.Whole.{Whole}

-- the tier of a partition that starts again: no broker knows anything of it, and nothing is on the desk
abbrev pub scene_back : PartitionId → Objects → List Note → List LogSeen → Scene
scene_back partition objects notes logs = record {
  partition = partition;
  objects = objects;
  notes = notes;
  tier_views = tier_views_of (map node_back logs) (replicate (length logs) fresh_seen);
  desk = [];
}

module _ {D S M : Type 0} (disk : DiskGhosts D) (store : StoreGhosts S) (meta : MetaGhosts M) where
  -- this was made over devices that were used before
  pub record IsReopened (partition : PartitionId) (config : Config) (lists : List ActorList) (registry : Registry)
      (disks : List D)
      (s : S) (m : M) (w : Whole D S M) : Type 0 where
    pub partition_is : w.partition ≡ partition
    pub config_is : w.config ≡ config
    pub lists_are : w.lists ≡ lists
    pub count : length disks ≡ config.brokers
    pub partition_state : IsColdPartition disk.content disk.control config.settings registry disks w.partition_state
    pub tier : IsArmedTier store meta s m w.tier
    pub broker_tiers : w.tier.broker_tiers ≡ replicate config.brokers fresh_broker_tier
    pub desk : w.desk ≡ replicate (length lists) fresh_actor_state
    pub journal : w.journal.items ≡ []

  -- The devices and the registry are those of a partition in this plain state, whose brokers are all down and where no
  -- command has begun, and of a remote tier with these metadata events.
  pub record StandCold (partition : PartitionId) (registry : Registry) (disks : List D) (s : S) (m : M) (p : State)
      (l : List Note)
      : Type 0 where
    -- how the brokers' logs are seen
    pub logs : List LogSeen
    pub shows : ShowDisks disk.content disks logs
    pub safe : PlainSafe p
    pub registry_is : p.registry ≡ registry
    pub brokers : p.brokers ≡ map broker_of (map node_back logs)
    pub actors : p.actors ≡ []
    pub lines : LinesStand (partition_back registry logs) p.paths p.broken
    pub store_tells : IsTrue (store.content s).is_observable
    pub meta_tells : IsTrue (meta.content m).is_observable
    pub tier : TierSafe (scene_back partition (store.content s).objects l logs) p

  -- they do with whatever metadata events a power cut now may leave, and a view could count as many more
  pub record AreCold (partition : PartitionId) (registry : Registry) (disks : List D) (s : S) (m : M)
      (p : State) : Type 0 where
    pub stand : (l : List Note) → Left (meta.content m) l → StandCold partition registry disks s m p l
    pub few : (l : List Note) → Left (meta.content m) l → length l < 2 ^ 63

  -- a world that is reopened has the central fact for each plain state that its devices represent
  abbrev pub ReopensCentral : Type 0
  ReopensCentral = (partition : PartitionId) (config : Config) (lists : List ActorList) (registry : Registry)
      (disks : List D) (s : S)
      (m : M) (w : Whole D S M) (p : State) → AreListsFor config lists
      → IsReopened partition config lists registry disks s m w → AreCold partition registry disks s m p
      → IsCentralLeft disk store meta p w
