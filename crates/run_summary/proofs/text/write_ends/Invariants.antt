use Rattle.std.proofs.Common.{◌≡◌, ◌++◌, take}
use Rattle.std.specs.Prelude.{flat_map, map, string_bytes}
use Rattle.load_gen.specs.Summary.{end_line}
use Rattle.run_summary.specs.declared.told.Told.{Told}
use Rattle.run_summary.proofs.text.write_ends.Given as goal

abbrev pub invariant-loop-part : goal.invariant-loop-part
invariant-loop-part l = string_bytes l.text ≡ string_bytes l.initial.text ++ flat_map end_line (map (λ (t : Told). t.end) (take l.part-index l.parts))
