-- What steps of an open partition come to.
--
--   form                says
--   SameDevices w w'    the devices are as they were
--   StepsChangeOne      a step changes the registry or a device
--   Ends reg w t why    a step whose registry couldn't be kept: the partition has ended
--   Halts t t' why      steps that didn't come to their end
use Rattle.std.specs.Prelude.{◌≡◌, ◌⊎◌, ℕ, List, length, map, false, true, IsTrue}
use Rattle.tier_base.specs.Counts.{Rose}
use Rattle.disk_model.specs.declared.disk.Disk.{Ghosts as DiskGhosts}
use Rattle.object_store.specs.declared.store.Store.{Ghosts as StoreGhosts}
use Rattle.meta_log.specs.declared.log.MetaLog.{Ghosts as MetaGhosts}
use Rattle.registry_disk.specs.Keeping.{KeepsFile, KeepsOneOf}
use Rattle.broker_log.specs.Seen.{LogState}
use Rattle.plain_log.specs.declared.state.State.{State}
use Rattle.laws_partition.specs.declared.actor_progress.Stepped.{Stepped}
use Rattle.partition_commands.specs.declared.partition_state.Node.{Node}
use Rattle.partition_world.specs.Later.{IsLater}
use Rattle.partition_world.specs.Turn.{Steps}
use Rattle.partition_world.specs.Whole.{Whole}
use Rattle.cold_start.specs.Running.{Running}
use Rattle.cold_start.specs.Stands.{LeavesOneOf}
use Rattle.cold_start.specs.declared.refusal.ColdRefusal.{ColdRefusal}
use Rattle.cold_start.specs.declared.refusal.ColdRefusal.TheVariants.{RegistryFault, NoMemory}

-- the brokers' logs
abbrev pub logs_of : {D : Type 0} → List (Node D) → List (LogState D)
logs_of {D = D} nodes = map (λ (x : Node D). x.log) nodes

module _ {D S M : Type 0} where
  -- each device is as it was
  pub record SameDevices (w w' : Whole D S M) : Type 0 where
    pub logs : logs_of w'.partition_state.nodes ≡ logs_of w.partition_state.nodes
    pub tier : w'.tier ≡ w.tier

module _ {D S M : Type 0} (disk : DiskGhosts D) where
  -- a step from this world whose registry couldn't be kept: the file is that of the world before or of the one after
  pub record Ends (reg : D) (w : Whole D S M) (t : Running D S M) (why : ColdRefusal) : Type 0 where
    pub ended : t.ended ≡ true
    pub devices : SameDevices w t.world
    pub file : KeepsOneOf (disk.content t.reg) w.partition_state.registry t.world.partition_state.registry
    pub dry : why ≡ NoMemory → KeepsFile (disk.content t.reg) w.partition_state.registry
    pub cause : why ≡ RegistryFault → Rose (disk.control reg).faults (disk.control t.reg).faults
    pub only : (why ≡ RegistryFault) ⊎ (why ≡ NoMemory)

module _ {D S M : Type 0} (disk : DiskGhosts D) (store : StoreGhosts S) (meta : MetaGhosts M) where
  -- a step changes the registry or a device, and not both, and the registry has as many replicas as before
  abbrev pub StepsChangeOne : Type 0
  StepsChangeOne = (w : Whole D S M) (a : ℕ) (stepped : Stepped) (w' : Whole D S M)
      → Steps disk store meta w a stepped w'
      → (w'.partition_state.registry ≡ w.partition_state.registry)
      ⊎ (SameDevices w w' × (length w'.partition_state.registry.replicas ≡ length w.partition_state.registry.replicas))

  -- Steps that found no memory, or the last of which ended the partition. Then a power cut leaves what represents the
  -- state before that step or after it.
  abbrev pub HaltsSteps : Running D S M → Running D S M → ColdRefusal → Type 0
  HaltsSteps t t' why = ((why ≡ NoMemory) × (t'.ended ≡ false))
      ⊎ ((w : Whole D S M) × IsLater disk store meta t.world w × Ends disk t.reg w t' why
      × (IsTrue (disk.content t'.reg).is_observable → (opening : State)
      → LeavesOneOf disk store meta opening w t'.world t'.reg))
