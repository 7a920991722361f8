use Rattle.std.proofs.Common.{◌≡◌, ◌-◌, ◌≤◌, length}
use Rattle.record_batch.specs.Check.{records_from}
use Rattle.record_batch.specs.Walk.{fault_in}
use Rattle.record_batch.proofs.walking.fault.Given as goal

abbrev pub invariant-loop-number : goal.invariant-loop-number
invariant-loop-number l =
    (fault_in (records_from (l.count - l.number) l.number l.rest) ≡ fault_in (records_from l.count 0 l.bytes))
    × (length l.rest ≤ length l.bytes)
