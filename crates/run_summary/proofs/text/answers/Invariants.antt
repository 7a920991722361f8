use Rattle.std.proofs.Common.{◌≡◌, take}
use Rattle.std.specs.Prelude.{flat_map}
use Rattle.run_summary.specs.declared.told.Told.{Told}
use Rattle.run_summary.proofs.text.answers.Given as goal

abbrev pub invariant-loop-part : goal.invariant-loop-part
invariant-loop-part l = l.answers.items ≡ flat_map (λ (t : Told). t.answers) (take l.part-index l.parts)
