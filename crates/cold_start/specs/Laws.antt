-- The laws of what a power cut leaves.
use Rattle.std.specs.Prelude.{◌≡◌, ◌≤◌, ℕ, ℤ, List, [], Some, length, slice_get, map}
use Rattle.tier_base.specs.Reserved.{ReservedItems}
use Rattle.disk_model.specs.declared.disk.Disk.{Ghosts as DiskGhosts}
use Rattle.object_store.specs.declared.store.Store.{Ghosts as StoreGhosts}
use Rattle.meta_log.specs.declared.log.MetaLog.{Ghosts as MetaGhosts}
use Rattle.registry.specs.View.{IsRegistry}
use Rattle.partition_world.specs.Central.{IsCentral as IsCentralWorld}
use Rattle.partition_world.specs.Whole.{Whole as World}
use Rattle.plain_log.specs.declared.command.ActorList.{ActorList}
use Rattle.plain_log.specs.declared.journal.JournalEntry.{JournalEntry}
use Rattle.plain_log.specs.Orders.{AreRising}
use Rattle.laws_partition.specs.Seen.{Node}
use Rattle.laws_partition.specs.Whole.{Whole}
use Rattle.laws_partition.specs.Central.{IsCentral}
use Rattle.laws_tier_turns.specs.BrokerTiers.{BrokerTierModel, tier_views_of}
use Rattle.plain_log.specs.declared.state.State.{State}
use Rattle.tier_safe.specs.Scene.{TierTask, Free, Scene}
use Rattle.tier_safe.specs.Safe.{TierSafe}
use Rattle.cold_state.specs.Cold.{cold_of}
use Rattle.cold_start.specs.Cold.{cold_scene, cold_tier_view, cold_node, cold_whole, cold_broker_tiers}

-- nothing is on the desk
abbrev pub IsDeskFree : List TierTask → Type 0
IsDeskFree desk = (a : ℕ) (tier_task : TierTask) → slice_get desk a ≡ Some tier_task → tier_task ≡ Free

-- the tier's safety rules hold in what is left, beside the plain state that is left
abbrev pub ColdTierIsSafe : Type 0
ColdTierIsSafe = (c : Scene) (p : State) (desk : List TierTask) → IsDeskFree desk → TierSafe c p
    → TierSafe (cold_scene c desk) (cold_of p)

-- a partition that has the central fact for some opening state has it, as a power cut leaves it, for the state that
-- is left
abbrev pub ColdIsCentral : Type 0
ColdIsCentral =
    (opening : State) (w : Whole) (clock : ℤ) (lists : List ActorList) (journal : ReservedItems JournalEntry)
    (c : IsCentral opening w)
    → AreRising lists → journal.items ≡ [] → IsCentral (cold_of c.plain) (cold_whole w clock lists journal)

-- the tier states of the brokers that are left are those of the tier that is left
abbrev pub ColdBrokerTiersAreSeen : Type 0
ColdBrokerTiersAreSeen = (nodes : List Node) (broker_tiers : List BrokerTierModel)
    → tier_views_of (map cold_node nodes) (cold_broker_tiers broker_tiers)
    ≡ map cold_tier_view (tier_views_of nodes broker_tiers)

module _ {D S M : Type 0} (disk : DiskGhosts D) (store : StoreGhosts S) (meta : MetaGhosts M) where
  -- the registry of a world of at most 8 brokers that has the central fact keeps the rules of its file
  abbrev pub RegistriesKeepRules : Type 0
  RegistriesKeepRules = (opening : State) (w : World D S M) → IsCentralWorld disk store meta opening w
      → 1 ≤ length w.partition_state.registry.replicas → length w.partition_state.registry.replicas ≤ 8
      → IsRegistry w.partition_state.registry
