use Rattle.std.proofs.Common.{◌≡◌, ◌++◌, ◌≤◌, length, drop}
use Rattle.record_batch.specs.Record.{headers_bytes}
use Rattle.record_batch.proofs.spelling.push_headers.Given as goal

-- the bytes so far, and those of the headers to come
abbrev pub invariant-loop-header : goal.invariant-loop-header
invariant-loop-header l =
    (l.out.items ++ headers_bytes (drop l.header-index l.headers) ≡ l.fn.out.items ++ headers_bytes l.headers)
    × (length (headers_bytes (drop l.header-index l.headers)) ≤ 1048576)
