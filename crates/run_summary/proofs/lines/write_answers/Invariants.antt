use Rattle.std.proofs.Common.{◌≡◌, ◌++◌, take}
use Rattle.std.specs.Prelude.{flat_map, string_bytes}
use Rattle.load_gen.specs.Summary.{answer_line}
use Rattle.run_summary.proofs.lines.write_answers.Given as goal

abbrev pub invariant-loop-word : goal.invariant-loop-word
invariant-loop-word l = string_bytes l.text ≡ string_bytes l.initial.text ++ flat_map (answer_line l.answers l.command) (take l.word-index l.word-items)
