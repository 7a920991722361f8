-- What the devices in memory report that a partition has.
use Rattle.std.proofs.Common.{subst, ℕ, ◌+◌, List, [], ◌∷◌, ◌++◌, length, arith}
use Rattle.std.specs.Prelude.{IsTrue}
use Rattle.tier_base.specs.Device.{Control}
use Rattle.disk_model.specs.Call.{call_code}
use Rattle.disk_model.specs.Content.{Content}
use Rattle.disk_model.specs.declared.disk.Disk.{Ghosts as DiskGhosts}
use Rattle.disk_model.specs.declared.memory_disk.MemoryDisk.{MemoryDisk}
use Rattle.disk_model.specs.contracts.memory_disk.MemoryDiskDisk.TheImpl as memory_disk
use Rattle.object_store.specs.declared.store.Store.{Ghosts as StoreGhosts}
use Rattle.object_store.specs.declared.memory_store.MemoryStore.{MemoryStore}
use Rattle.object_store.specs.contracts.memory_store.MemoryStoreStore.TheImpl as memory_store
use Rattle.meta_log.specs.declared.log.MetaLog.{Ghosts as MetaGhosts}
use Rattle.meta_log.specs.declared.memory_log.MemoryLog.{MemoryLog}
use Rattle.meta_log.specs.contracts.memory_log.MemoryLogMetaLog.TheImpl as memory_log
use Rattle.partition_commands.specs.Fresh.{IsFreshDisk, AreFreshDisks, DisksTell}
use Rattle.script_lang.specs.declared.fault.Fault.{Fault}
use Rattle.run_memory.specs.Plans.{disk_plan, IsPlanned, ArePlanned}

abbrev pub disk : DiskGhosts MemoryDisk
disk = memory_disk.ghosts

abbrev pub store : StoreGhosts MemoryStore
store = memory_store.ghosts

abbrev pub meta : MetaGhosts MemoryLog
meta = memory_log.ghosts

abbrev pub content : MemoryDisk → Content
content = disk.content

abbrev pub control : MemoryDisk → Control call_code
control = disk.control

-- one disk more, also of those that have their faults
pub planned_more : (faults : List Fault) (broker : ℕ) (xs : List MemoryDisk) (x : MemoryDisk) → ArePlanned control faults broker xs → IsPlanned (disk_plan (broker + length xs) faults) (control x)
    → ArePlanned control faults broker (xs ++ x ∷ [])
planned_more faults broker [] x p n = (subst (λ (b : ℕ). IsPlanned (disk_plan b faults) (control x)) (omega arith) n, tt)
planned_more faults broker (y ∷ xs) x p n = (p.0, planned_more faults (broker + 1) xs x p.1 (subst (λ (b : ℕ). IsPlanned (disk_plan b faults) (control x)) (omega arith) n))

pub fresh_more : (xs : List MemoryDisk) (x : MemoryDisk) → AreFreshDisks content control xs → IsFreshDisk content control x → AreFreshDisks content control (xs ++ x ∷ [])
fresh_more [] x f d = (d, tt)
fresh_more (y ∷ xs) x f d = (f.0, fresh_more xs x f.1 d)

pub tell_more : (xs : List MemoryDisk) (x : MemoryDisk) → DisksTell content xs → IsTrue (content x).is_observable → DisksTell content (xs ++ x ∷ [])
tell_more [] x t told = (told, tt)
tell_more (y ∷ xs) x t told = (t.0, tell_more xs x t.1 told)
