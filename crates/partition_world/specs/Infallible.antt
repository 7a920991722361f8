-- Devices that fail no call, and turns that report no fault.
use Rattle.std.specs.Prelude.{◌≡◌, ◌^◌, ◌-◌, ◌<◌, ℕ, [], IsTrue}
use Rattle.tier_base.specs.Device.{Control}
use Rattle.disk_model.specs.declared.disk.Disk.{Ghosts as DiskGhosts}
use Rattle.object_store.specs.declared.store.Store.{Ghosts as StoreGhosts}
use Rattle.meta_log.specs.declared.log.MetaLog.{Ghosts as MetaGhosts}
use Rattle.partition_commands.specs.Infallible.{AreInfallible, AreFaultless}
use Rattle.partition_world.specs.Whole.{Whole}

module _ {K : Type 0} {code : K → ℕ} where
  -- no call of the device can fail yet, and its count of faults could still rise
  pub record IsInfallible (c : Control code) : Type 0 where
    pub infallible : IsTrue c.infallible
    pub few : c.faults < 2 ^ 64 - 1

  -- no call of the device can fail, and its plan alone decides which do once it is in force, and is empty
  pub record IsUnplanned (c : Control code) : Type 0 where
    pub scripted : IsTrue c.scripted
    pub plan : c.plan ≡ []
    pub infallible : IsInfallible c

-- no call of the devices can fail, and nothing has failed
pub record IsUnfailing {D S M : Type 0} (disk : DiskGhosts D) (store : StoreGhosts S) (meta : MetaGhosts M)
    (w : Whole D S M)
    : Type 0 where
  pub infallible : AreInfallible disk.control w.partition_state.nodes
  pub store_infallible : IsInfallible (store.control w.tier.store)
  pub meta_infallible : IsInfallible (meta.control w.tier.meta)
  pub journal : AreFaultless w.journal.items
