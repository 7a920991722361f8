use Rattle.dump_lines.proofs.Going.{Going}
use Rattle.dump_lines.proofs.dumping.dump.Given as goal

abbrev pub invariant-loop : goal.invariant-loop
invariant-loop g l =
    Going (g.R.Source.left l.fn.source) (g.R.Source.left l.source) (g.S.Show.told l.fn.show) (g.S.Show.told l.show) l.at l.window
