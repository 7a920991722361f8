-- Faults of devices that a journal reports, and the devices' counts of them.
use Rattle.std.specs.Prelude.{◌≡◌, ℕ, IsSomeAnd}
use Rattle.std.specs.List.{AllByRecursion}
use Rattle.disk_model.specs.declared.disk.Disk.{Ghosts as DiskGhosts}
use Rattle.object_store.specs.declared.store.Store.{Ghosts as StoreGhosts}
use Rattle.meta_log.specs.declared.log.MetaLog.{Ghosts as MetaGhosts}
use Rattle.plain_log.specs.declared.answer.Answer.{Answer}
use Rattle.plain_log.specs.declared.answer.Answer.TheVariants.{DiskFault, DiskFaultAt, StoreFault, MetaFault}
use Rattle.plain_log.specs.declared.command.Command.{Command}
use Rattle.plain_log.specs.declared.command.Command.TheVariants.{Follow}
use Rattle.plain_log.specs.declared.command.Order.{Order}
use Rattle.plain_log.specs.declared.journal.Event.TheVariants.{Answers}
use Rattle.plain_log.specs.declared.journal.JournalEntry.{JournalEntry}
use Rattle.plain_log.specs.Runs.{order_of}
use Rattle.partition_world.specs.Whole.{Whole}
use Rattle.laws_answers.specs.Faults.{DiskFailed, StoreFailed, MetaFailed}

module _ {D S M : Type 0} (disk : DiskGhosts D) where
  -- a call of a disk failed that a command of this broker works on: a follow also reads the log of its leader
  abbrev pub DiskFailedFor : Command → ℕ → Whole D S M → Whole D S M → Type 0
  DiskFailedFor (Follow limit) b w w' = (leader : ℕ) × DiskFailed disk leader w w'
  DiskFailedFor command b w w' = DiskFailed disk b w w'

module _ {D S M : Type 0} (disk : DiskGhosts D) (store : StoreGhosts S) (meta : MetaGhosts M) where
  -- where the answer is a fault of a device, a call of that device failed
  abbrev pub FailedAs : Order → Answer → Whole D S M → Whole D S M → Type 0
  FailedAs order DiskFault w w' = DiskFailedFor disk order.command order.broker.0 w w'
  FailedAs order (DiskFaultAt n) w w' = DiskFailed disk order.broker.0 w w'
  FailedAs order StoreFault w w' = StoreFailed store w w'
  FailedAs order MetaFault w w' = MetaFailed meta w w'
  FailedAs order other w w' = Unit {0}

  -- so where the entry is such an answer of a command
  abbrev pub IsFaultCounted : Whole D S M → Whole D S M → JournalEntry → Type 0
  IsFaultCounted w w' entry =
      IsSomeAnd (order_of w'.lists entry) (λ order. (answer : Answer) → entry.event ≡ Answers answer
      → FailedAs order answer w w')

  -- each fault that the journal reports has been counted by its device since the world before
  abbrev pub FaultsAreCounted : Whole D S M → Whole D S M → Type 0
  FaultsAreCounted w w' = AllByRecursion (IsFaultCounted w w') w'.journal.items
