use Rattle.std.proofs.Common.{◌≡◌, ◌+◌, ◌≤◌, length, drop}
use Rattle.record_batch.specs.Record.{headers_bytes}
use Rattle.record_batch.proofs.sizes.headers_size.Given as goal

-- the size so far, and that of the headers to come
abbrev pub invariant-loop-header : goal.invariant-loop-header
invariant-loop-header l =
    (l.size + length (headers_bytes (drop l.header-index l.headers)) ≡ length (headers_bytes l.headers)) × (l.size ≤ 1048576)
