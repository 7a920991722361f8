use Rattle.std.proofs.Common.{◌∙◌, ap, ◌-◌, ◌+◌, List, arith}
use Rattle.record_batch.specs.declared.rec.Rec.{Rec}
use Rattle.record_batch.specs.Check.{records_from}
use Rattle.record_batch.specs.Read.{all_read}
use Rattle.record_batch.proofs.RecordsCopied.{joined, record-copied}
use Rattle.record_batch.proofs.reading.records_of.Goals as goal

pub loop-preserved : goal.loop-preserved
loop-preserved c =
    ap (λ (rs : List Rec). joined rs (all_read c.args.head (records_from (c.args.count - (c.loop.counter + 1)) (c.loop.counter + 1) c.in-Ok.read.1.now))) c.in_ok-push.ensures.items
    ∙ record-copied c.args.head c.args.count c.loop.counter c.loop.recs.items c.loop.rest.now c.in-Ok.read.1.now c.in-Ok.read.0 _ (omega arith) c.in-Ok.ensures c.loop.invariant c.requires
