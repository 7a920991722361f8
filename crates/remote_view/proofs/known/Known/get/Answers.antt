use Rattle.std.proofs.Common.{◌∙◌, sym, ap, arith, Some}
use Rattle.std.proofs.lemmas.Option.{slice_get-get_or}
use Rattle.remote_view.proofs.Placing.{place_found, no_place}
use Rattle.remote_view.proofs.known.Known.get.Goals as goal

pub index-requires : goal.index-requires
index-requires c =
    let found = place_found c.args.id.now c.self.inside.entries.items c.in-Some.place.now (sym (c.self.invariant.right c.args.id.now c.number_of.ensures.kept) ∙ rw c.number_of.ensures.value at (sym c.in-Some.ensures.value)) in
    omega (arith, found.0)

pub returns-in-Some : goal.returns-in-Some
returns-in-Some c =
    let es = c.self.inside.entries.items in
    let found = place_found c.args.id.now es c.in-Some.place.now (sym (c.self.invariant.right c.args.id.now c.number_of.ensures.kept) ∙ rw c.number_of.ensures.value at (sym c.in-Some.ensures.value)) in
    rw (← c.self.view_is) (ap Some c.index.ensures ∙ (sym (slice_get-get_or es c.in-Some.place.now _ found.0) ∙ found.1))

pub returns-in-None : goal.returns-in-None
returns-in-None c =
    rw (← c.self.view_is) (sym (no_place c.args.id.now (λ e. e) c.self.inside.entries.items (sym (c.self.invariant.right c.args.id.now c.number_of.ensures.kept) ∙ rw c.number_of.ensures.value at (sym c.in-None.ensures.value))).0)
