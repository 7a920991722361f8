use Rattle.std.proofs.Common.{length, arith}
use Rattle.std.proofs.lemmas.Bool.{ltb-true}
use Rattle.local_log.proofs.Admitted.{run_taken}
use Rattle.local_log.proofs.log.LocalLog.takes.Goals as goal

pub returns-else-run-gt0 : goal.returns-else-run-gt0
returns-else-run-gt0 g c =
    let run = c.args.run.now in (
      λ t. absurd (let lt = ltb-true 0 (length run) t in omega (arith, lt, c.if-run-gt0.false)),
      λ r. absurd (let some = (run_taken c.args.self.now.end c.args.self.now.line run r).0 in omega (arith, some, c.if-run-gt0.false)),
    )
