use Rattle.std.proofs.Common.{◌≡◌, ◌-◌}
use Rattle.record_batch.specs.Record.{headers_at}
use Rattle.record_batch.proofs.HeadersCopied.{behind}
use Rattle.record_batch.proofs.reading.headers_of.Given as goal

-- the headers so far, and those to come
abbrev pub invariant-loop : goal.invariant-loop
invariant-loop l = behind l.headers (headers_at (l.count - l.counter) l.rest) ≡ headers_at l.count l.bytes
