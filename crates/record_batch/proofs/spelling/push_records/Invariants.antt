use Rattle.std.proofs.Common.{◌≡◌, ◌++◌, ◌≤◌, length, drop}
use Rattle.record_batch.specs.Record.{records_bytes}
use Rattle.record_batch.specs.Build.{deltas_from}
use Rattle.record_batch.proofs.spelling.push_records.Given as goal

-- the bytes so far, and those of the records to come
abbrev pub invariant-loop-number : goal.invariant-loop-number
invariant-loop-number l =
    (l.out.items ++ records_bytes (deltas_from l.base_ts l.number (drop l.number l.recs))
    ≡ l.fn.out.items ++ records_bytes (deltas_from l.base_ts 0 l.recs))
    × (length (records_bytes (deltas_from l.base_ts l.number (drop l.number l.recs))) ≤ 1048576)
