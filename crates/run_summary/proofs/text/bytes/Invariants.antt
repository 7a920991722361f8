use Rattle.std.proofs.Common.{◌≡◌, ◌≤◌, ◌*◌, ◌^◌, length, take}
use Rattle.std.specs.Prelude.{flat_map, sum_by}
use Rattle.run_summary.specs.Outcome.{Outcome}
use Rattle.run_summary.proofs.text.bytes.Given as goal

abbrev pub invariant-loop-part : goal.invariant-loop-part
invariant-loop-part l = record {
  sum : l.sum ≡ sum_by (λ (t : Outcome). t.bytes) (take l.part-index l.parts);
  small : l.sum ≤ length (flat_map (λ (t : Outcome). t.answers) (take l.part-index l.parts)) * 2 ^ 64;
}
