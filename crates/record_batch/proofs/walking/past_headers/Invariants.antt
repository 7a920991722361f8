use Rattle.std.proofs.Common.{◌≡◌, ◌-◌}
use Rattle.record_batch.specs.Record.{headers_at}
use Rattle.record_batch.proofs.Skipping.{second}
use Rattle.record_batch.proofs.walking.past_headers.Given as goal

abbrev pub invariant-loop : goal.invariant-loop
invariant-loop l = second (headers_at (l.count - l.counter) l.rest) ≡ second (headers_at l.count l.bytes)
