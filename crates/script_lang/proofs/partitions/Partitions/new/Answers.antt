use Rattle.std.proofs.Common.{sym}
use Rattle.script_lang.proofs.Sound.{empty-more}
use Rattle.script_lang.proofs.partitions.Partitions.new.Goals as goal

pub loop-partition-preserved : goal.loop-partition-preserved
loop-partition-preserved c = rw (c.in_ok-push.ensures.items, c.empty.ensures, c.loop-partition.invariant) (sym (empty-more c.loop-partition.partition))
