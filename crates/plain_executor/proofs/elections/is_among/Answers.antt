use Rattle.std.proofs.Common.{arith}
use Rattle.std.proofs.lemmas.Grind.{common_steps}
use Rattle.std.proofs.lemmas.Bool.Decides.{nat_tests}
use Rattle.std.proofs.Math.Seq.{drop-cons}
use Rattle.plain_executor.proofs.elections.is_among.Goals as goal

pub returns-then-m-n : goal.returns-then-m-n
returns-then-m-n c =
    let e = drop-cons c.args.ms.now c.loop-m.m-index 0 c.loop-m-test.true in
    grind (arith, nat_tests, common_steps, e)
