use Rattle.std.proofs.Common.{sym}
use Rattle.segment_file.proofs.Laying.{last_size}
use Rattle.segment_file.proofs.reaching.size_from.Goals as goal

pub returns-in-Some : goal.returns-in-Some
returns-in-Some c = sym (last_size c.args.at c.args.batches.now c.in-Some.batch.now (sym (c.in-Some.ensures.value)))
