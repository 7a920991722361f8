use Rattle.std.proofs.Common.{◌≡◌, take, map}
use Rattle.std.specs.Prelude.{All}
use Rattle.trace_text.specs.Read.{told}
use Rattle.trace_check.specs.Whole.{part_left, HasWholeRun}
use Rattle.trace_check.proofs.Places.{partly}
use Rattle.trace_check.proofs.judging.judge_parts.Given as goal

abbrev pub invariant-loop-at : goal.invariant-loop-at
invariant-loop-at l = record {
  whole : All (HasWholeRun l.script.config l.fn.states (map told l.journals)) (take l.at l.part-items);
  left : l.states ≡ partly (part_left l.script.config l.fn.states (map told l.journals)) l.part-items l.at l.fn.states;
}
