use Rattle.std.proofs.Common.{◌∙◌}
use Rattle.local_log.proofs.Cutting.{cut_back}
use Rattle.local_log.proofs.run.take_in.Goals as goal

pub returns-in-Err-clause-err : goal.returns-in-Err-clause-err
returns-in-Err-clause-err c =
    c.cut_to.ensures ∙ cut_back c.args.segment.now c.gather.new.segment c.end-end.result c.end-end.ensures c.in-Err.ensures.err
