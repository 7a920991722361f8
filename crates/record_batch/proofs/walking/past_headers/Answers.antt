use Rattle.std.proofs.Common.{◌∙◌, arith}
use Rattle.record_batch.proofs.Skipping.{header-read}
use Rattle.record_batch.proofs.walking.past_headers.Goals as goal

pub loop-preserved : goal.loop-preserved
loop-preserved c = header-read c.args.count c.loop.counter c.loop.rest.now c.in-Some.after.now _ (omega arith) c.in-Some.ensures ∙ c.loop.invariant
