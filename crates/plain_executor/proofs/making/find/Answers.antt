use Rattle.plain_executor.proofs.Longer.{found_at}
use Rattle.plain_executor.proofs.making.find.Goals as goal

pub returns-then-path-epoch : goal.returns-then-path-epoch
returns-then-path-epoch c =
    (c.loop-i.invariant, c.loop-i-test.true, found_at c.args.paths.now c.loop-i.i c.args.epoch c.index-paths-i.result c.loop-i-test.true c.index-paths-i.is c.if-path-epoch.true)
