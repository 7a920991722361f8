-- Which answers are faults of a device, and what a fault makes of the device's count.
use Rattle.std.specs.Prelude.{ℕ, Bool, true, false}
use Rattle.tier_base.specs.Counts.{counted}
use Rattle.plain_log.specs.declared.answer.Answer.{Answer}
use Rattle.plain_log.specs.declared.answer.Answer.TheVariants.{DiskFault, DiskFaultAt, StoreFault, MetaFault}
use Rattle.laws_partition.specs.declared.start_snapshot.Turned.{Turned}
use Rattle.laws_partition.specs.declared.start_snapshot.Turned.TheVariants.{Answers, Begins}

-- a call of a broker's disk failed
abbrev pub is_of_disk : Answer → Bool
is_of_disk DiskFault = true
is_of_disk (DiskFaultAt n) = true
is_of_disk other = false

-- a call of the remote store failed
abbrev pub is_of_store : Answer → Bool
is_of_store StoreFault = true
is_of_store other = false

-- a call of the metadata log failed
abbrev pub is_of_meta : Answer → Bool
is_of_meta MetaFault = true
is_of_meta other = false

-- a count of faults after a turn in which one call failed, or none
abbrev pub after_fault : Bool → ℕ → ℕ
after_fault true n = counted n 1
after_fault false n = n

-- a turn that the remote tier has no part in was answered so
abbrev pub is_answered : (Answer → Bool) → Turned → Bool
is_answered is (Answers answer) = is answer
is_answered is (Begins g) = false
