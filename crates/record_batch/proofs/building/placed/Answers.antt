use Rattle.std.proofs.Common.{arith}
use Rattle.std.proofs.lemmas.Grind.{common_steps}
use Rattle.record_batch.proofs.BuildLaws.{head_tells_at, max_ts_at, checked_at}
use Rattle.record_batch.proofs.building.placed.Goals as goal

pub returns-clause-head : goal.returns-clause-head
returns-clause-head c =
    head_tells_at _ c.args.recs.now c.args.base c.args.epoch (grind (arith, common_steps)) c.requires.buildable (omega arith) (omega arith)

pub returns-clause-max : goal.returns-clause-max
returns-clause-max c =
    max_ts_at _ c.args.recs.now c.args.base c.args.epoch (grind (arith, common_steps)) c.requires.buildable (omega arith) (omega arith) c.in_ok-batch.ensures.fits

pub returns-clause-checked : goal.returns-clause-checked
returns-clause-checked c =
    checked_at _ c.args.recs.now c.args.base c.args.epoch (grind (arith, common_steps))
    (c.built_is_checked.ensures c.args.recs.now c.args.base c.args.epoch c.requires.buildable c.in_ok-batch.ensures.widths)
