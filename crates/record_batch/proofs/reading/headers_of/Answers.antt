use Rattle.std.proofs.Common.{◌∙◌, ap, ◌-◌, ◌+◌, List, arith}
use Rattle.record_batch.specs.declared.rec.Header.{Header}
use Rattle.record_batch.specs.Record.{headers_at}
use Rattle.record_batch.proofs.HeadersCopied.{behind, header-copied}
use Rattle.record_batch.proofs.reading.headers_of.Goals as goal

pub loop-preserved : goal.loop-preserved
loop-preserved c =
    ap (λ (hs : List Header). behind hs (headers_at (c.args.count - (c.loop.counter + 1)) c.in_ok-header.after.now)) c.in_ok-push.ensures.ok
    ∙ (header-copied c.args.count c.loop.counter c.loop.headers c.loop.rest.now c.in_ok-header.after.now c.in_ok-header.header (omega arith) c.in_ok-header.ensures
    ∙ c.loop.invariant)
