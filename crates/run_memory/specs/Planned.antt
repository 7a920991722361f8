-- Faults of devices that a journal reports, and the calls that the script's fault lines name.
use Rattle.std.specs.Prelude.{◌≡◌, ◌≤◌, ℕ, List, Option, Some, IsSomeAnd, slice_get}
use Rattle.std.specs.List.{AllByRecursion}
use Rattle.tier_base.specs.Device.{Control}
use Rattle.disk_model.specs.declared.disk.Disk.{Ghosts as DiskGhosts}
use Rattle.object_store.specs.declared.store.Store.{Ghosts as StoreGhosts}
use Rattle.meta_log.specs.declared.log.MetaLog.{Ghosts as MetaGhosts}
use Rattle.plain_log.specs.declared.answer.Answer.{Answer}
use Rattle.plain_log.specs.declared.answer.Answer.TheVariants.{DiskFault, DiskFaultAt, StoreFault, MetaFault}
use Rattle.plain_log.specs.declared.command.Command.{Command}
use Rattle.plain_log.specs.declared.command.Command.TheVariants.{Follow}
use Rattle.plain_log.specs.declared.command.Order.{Order}
use Rattle.plain_log.specs.declared.journal.Event.TheVariants.{Answers}
use Rattle.plain_log.specs.declared.journal.JournalEntry.{JournalEntry}
use Rattle.plain_log.specs.Runs.{order_of}
use Rattle.broker_log.specs.Seen.{OnDisk}
use Rattle.partition_commands.specs.Partition.{AtNode}
use Rattle.partition_world.specs.Whole.{Whole}
use Rattle.script_lang.specs.declared.fault.Fault.{Fault}
use Rattle.script_lang.specs.declared.fault.FaultCall.{FaultCall}
use Rattle.script_lang.specs.declared.fault.FaultDevice.{FaultDevice}
use Rattle.run_memory.specs.Plans.{disk_named, store_named, meta_named}

-- a call of the device was made that one of the fault lines names
pub record IsMet {K : Type 0} {code : K → ℕ} (named : FaultDevice → FaultCall → Option K) (faults : List Fault)
    (c : Control code) : Type 0 where
  pub place : ℕ
  pub line : Fault
  pub at : slice_get faults place ≡ Some line
  pub call : K
  pub names : named line.device line.call ≡ Some call
  pub numbered : 1 ≤ line.number
  pub made : line.number ≤ c.made call

module _ {D S M : Type 0} (disk : DiskGhosts D) (faults : List Fault) where
  -- so it is of this broker's disk
  abbrev pub DiskMet : ℕ → Whole D S M → Type 0
  DiskMet b w = AtNode w.partition_state b (λ x. OnDisk x.log (λ d. IsMet (disk_named b) faults (disk.control d)))

  -- of a disk that a command of this broker works on: a follow also reads the log of its leader
  abbrev pub DiskMetFor : Command → ℕ → Whole D S M → Type 0
  DiskMetFor (Follow limit) b w = (leader : ℕ) × DiskMet leader w
  DiskMetFor command b w = DiskMet b w

module _ {D S M : Type 0} (disk : DiskGhosts D) (store : StoreGhosts S) (meta : MetaGhosts M) (faults : List Fault)
    (w : Whole D S M) where
  -- where the answer is a fault of a device, a call of it was made that a fault line names
  abbrev pub MetAs : Order → Answer → Type 0
  MetAs order DiskFault = DiskMetFor disk faults order.command order.broker.0 w
  MetAs order (DiskFaultAt n) = DiskMet disk faults order.broker.0 w
  MetAs order StoreFault = IsMet store_named faults (store.control w.tier.store)
  MetAs order MetaFault = IsMet meta_named faults (meta.control w.tier.meta)
  MetAs order other = Unit {0}

  -- so where the entry is such an answer of a command
  abbrev pub HasLine : JournalEntry → Type 0
  HasLine entry = IsSomeAnd (order_of w.lists entry)
      (λ order. (answer : Answer) → entry.event ≡ Answers answer → MetAs order answer)

  -- the journal reports a fault of those devices alone of which a call was made that a fault line names
  abbrev pub FaultsArePlanned : Type 0
  FaultsArePlanned = AllByRecursion HasLine w.journal.items
