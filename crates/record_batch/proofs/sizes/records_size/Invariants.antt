use Rattle.std.proofs.Common.{◌≡◌, ◌+◌, ◌≤◌, length, drop}
use Rattle.record_batch.specs.Record.{records_bytes}
use Rattle.record_batch.specs.Build.{deltas_from}
use Rattle.record_batch.proofs.sizes.records_size.Given as goal

-- the size so far, and that of the records to come
abbrev pub invariant-loop-number : goal.invariant-loop-number
invariant-loop-number l =
    (l.size + length (records_bytes (deltas_from l.base_ts l.number (drop l.number l.recs))) ≡ length (records_bytes (deltas_from l.base_ts 0 l.recs)))
    × (l.size ≤ 1048576) × (l.number ≤ l.size)
