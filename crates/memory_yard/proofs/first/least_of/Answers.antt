use Rattle.std.proofs.Common.{◌≡◌, ◌∙◌, ◌<◌, ap, sym, Some, arith, length, refl}
use Rattle.std.specs.Prelude.{slice_get}
use Rattle.std.proofs.lemmas.Option.{slice_get_read}
use Rattle.memory_yard.proofs.Firsts.{least_more, least_all}
use Rattle.memory_yard.proofs.first.least_of.Goals as goal

pub loop-name-preserved : goal.loop-name-preserved
loop-name-preserved c =
    let names = c.args.names.now in
    let i = c.loop-name.name-index in
    let below : i < length names = omega arith in
    let there : slice_get names i ≡ Some c.as_slice.result.now =
    slice_get_read names (length names) i c.name-item.result refl below c.name-item.is ∙ ap Some (sym c.as_slice.ensures) in
    least_more names i c.as_slice.result.now _ _ there c.loop-name.invariant c.in_ok-offer.ensures

pub returns : goal.returns
returns c = least_all c.args.names.now c.loop-name.name-index _ c.loop-name-test.false c.loop-name.invariant
