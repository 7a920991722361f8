use Rattle.std.proofs.Common.{◌≡◌, ◌-◌}
use Rattle.record_batch.specs.Check.{records_from}
use Rattle.record_batch.specs.Read.{all_read}
use Rattle.record_batch.proofs.RecordsCopied.{joined}
use Rattle.record_batch.proofs.reading.records_of.Given as goal

-- the records so far, and those to come
abbrev pub invariant-loop : goal.invariant-loop
invariant-loop l =
    joined l.recs.items (all_read l.head (records_from (l.count - l.counter) l.counter l.rest)) ≡ all_read l.head (records_from l.count 0 l.bytes)
