use Rattle.std.proofs.Common.{arith}
use Rattle.run_story.proofs.Ends.{one_log}
use Rattle.run_story.proofs.tracked.logs_after.Goals as goal

pub loop-broker-preserved : goal.loop-broker-preserved
loop-broker-preserved c =
    let below = c.loop-broker-test.true in
    let count = c.count-broker-end.ensures in
    one_log c.loop-broker.logs c.push.new.self _ c.args.plain.now.brokers c.loop-broker.broker c.loop-broker.invariant c.in_ok-push.ensures.ok
    (omega (arith, below, count)) c.in_ok-end.ensures
