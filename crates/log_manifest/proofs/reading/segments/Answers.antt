use Rattle.std.proofs.Common.{sym}
use Rattle.log_manifest.specs.Reading.{segment_at}
use Rattle.log_manifest.proofs.Items.{item_taken}
use Rattle.log_manifest.proofs.reading.segments.Goals as goal

pub loop-i-preserved : goal.loop-i-preserved
loop-i-preserved c =
    let taken = item_taken (segment_at c.args.start) c.args.count c.loop-i.i 20 c.loop-i.segments c.loop-i.last c.in_ok-extent.extent
    c.loop-i.rest.now c.in_ok-extent.behind.now _ c.loop-i-test.true (sym c.in_ok-extent.ensures) c.loop-i.invariant in
    rw (c.in_ok-push.ensures.ok) taken
