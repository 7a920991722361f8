-- Disks that fail no call, and turns that report no fault.
use Rattle.std.specs.Prelude.{◌≡◌, List, [], ◌∷◌, IsTrue}
use Rattle.tier_base.specs.Device.{Control}
use Rattle.disk_model.specs.Call.{call_code}
use Rattle.plain_log.specs.declared.answer.Answer.{Answer}
use Rattle.plain_log.specs.declared.answer.Answer.TheVariants.{DiskFault, DiskFaultAt, MetaFault, StoreFault}
use Rattle.plain_log.specs.declared.journal.Event.{Event}
use Rattle.plain_log.specs.declared.journal.Event.TheVariants as event
use Rattle.plain_log.specs.declared.journal.JournalEntry.{JournalEntry}
use Rattle.broker_log.specs.Seen.{OnDisk}
use Rattle.partition_commands.specs.declared.partition_state.Node.{Node}
use Rattle.partition_commands.specs.Partition.{IsInfallible}

-- no call of these brokers' disks can fail
abbrev pub AreInfallible : {D : Type 0} → (D → Control call_code) → List (Node D) → Type 0
AreInfallible control [] = Unit {0}
AreInfallible control (x ∷ xs) = OnDisk x.log (λ d. IsInfallible (control d)) × AreInfallible control xs

-- no call of these disks can fail, and their plans alone decide which do once they are in force, and are empty
abbrev pub AreUnplanned : {D : Type 0} → (D → Control call_code) → List D → Type 0
AreUnplanned control [] = Unit {0}
AreUnplanned control (disk ∷ disks) =
    IsTrue (control disk).scripted × ((control disk).plan ≡ []) × IsInfallible (control disk)
    × AreUnplanned control disks

-- the answer reports no fault of a device
abbrev pub IsFaultless : Answer → Type 0
IsFaultless DiskFault = ⊥
IsFaultless (DiskFaultAt n) = ⊥
IsFaultless MetaFault = ⊥
IsFaultless StoreFault = ⊥
IsFaultless other = Unit {0}

-- so does what happened
abbrev pub HasNoFault : Event → Type 0
HasNoFault (event.Answers answer) = IsFaultless answer
HasNoFault (event.Begins cut) = Unit {0}

-- and all of a journal
abbrev pub AreFaultless : List JournalEntry → Type 0
AreFaultless [] = Unit {0}
AreFaultless (entry ∷ entries) = HasNoFault entry.event × AreFaultless entries
