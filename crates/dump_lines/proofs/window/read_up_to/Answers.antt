use Rattle.dump_lines.proofs.Reading.{none_yet, one_more}
use Rattle.dump_lines.proofs.window.read_up_to.Goals as goal

pub loop-source-init : goal.loop-source-init
loop-source-init g c = none_yet _ _

pub loop-source-preserved : goal.loop-source-preserved
loop-source-preserved g c = one_more _ _ _ _ _ _ _ c.loop-source.invariant c.in_ok-count.ensures
