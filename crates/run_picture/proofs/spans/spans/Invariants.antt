use Rattle.std.specs.Prelude.{All}
use Rattle.run_picture.specs.Spans.{IsSpanOf}
use Rattle.run_picture.proofs.spans.spans.Given as goal

abbrev pub invariant-loop-start : goal.invariant-loop-start
invariant-loop-start l = All (IsSpanOf l.log) l.spans.items
