use Rattle.std.proofs.Common.{◌≤◌, ◌+◌, length, take, arith, sym, subst, List}
use Rattle.std.specs.Prelude.{flat_map}
use Rattle.std.proofs.lemmas.List.Folds.{length-flat_map-take}
use Rattle.load_gen.specs.Summary.{Answered}
use Rattle.run_summary.specs.Outcome.{Outcome}
use Rattle.run_summary.proofs.text.bytes.Goals as goal

pub overflow_add-sum : goal.overflow_add-sum
overflow_add-sum c =
    let f : Outcome → List Answered = λ t. t.answers in
    let parts = c.args.parts.now in
    let within : length (flat_map f (take c.loop-part.part-index parts)) + length c.part-item.result.answers ≤ length (flat_map f parts) =
    subst (λ (t : Outcome). length (flat_map f (take c.loop-part.part-index parts)) + length t.answers ≤ length (flat_map f parts)) (sym c.part-item.is)
    (length-flat_map-take f parts c.loop-part.part-index c.part-item.result c.loop-part-test.true) in
    let so_far = c.loop-part.invariant.small in
    let more = c.bytes-sum.ensures.small in
    let few = c.requires in
    omega (arith, within, so_far, more, few)
