use Rattle.std.proofs.Common.{◌≡◌, ◌∙◌, sym, ap, refl, Some, None, set, arith, w64, to_z, of_z, rules}
use Rattle.remote_view.specs.Fold.{updated}
use Rattle.remote_view.specs.Places.{place_of}
use Rattle.remote_view.proofs.Gone.{gone_changed}
use Rattle.remote_view.proofs.Placing.{place_found, changed_at, place_changed, no_place}
use Rattle.remote_view.proofs.known.Known.change.Goals as goal

pub index_mut-requires : goal.index_mut-requires
index_mut-requires c =
    let found = place_found c.args.id.now c.self.inside.entries.items c.in-Some.place (sym (c.self.invariant.right c.args.id.now c.number_of.ensures.kept) ∙ (rw c.number_of.ensures.value at (sym c.get.ensures.value) ∙ sym c.in-Some.ensures)) in
    omega (arith, found.0)

pub invariant_of-self : goal.invariant_of-self
invariant_of-self c =
    let ts : to_z w64 (of_z w64 c.args.event_ts) ≡ c.args.event_ts = search rules in
    let f = updated c.args.broker c.args.event_ts c.args.state c.args.custom in
    let es = c.self.inside.entries.items in
    let found : place_of c.args.id.now es ≡ Some c.in-Some.place = sym (c.self.invariant.right c.args.id.now c.number_of.ensures.kept) ∙ (rw c.number_of.ensures.value at (sym c.get.ensures.value) ∙ sym c.in-Some.ensures) in
    let new = ap (set es c.in-Some.place) (rw ts at c.update.ensures ∙ ap f c.index_mut.ensures.value) ∙ changed_at c.args.id.now f es c.in-Some.place c.index_mut.result.now found in
    record {
      right = λ q is. rw new (c.self.invariant.right q is ∙ sym (place_changed q c.args.id.now f es (λ e. refl)));
      begins = rw c.as_slice.ensures.value at c.gone_from-self-inside.ensures;
    }

pub gone_from-self-inside-requires : goal.gone_from-self-inside-requires
gone_from-self-inside-requires c =
    let ts : to_z w64 (of_z w64 c.args.event_ts) ≡ c.args.event_ts = search rules in
    let f = updated c.args.broker c.args.event_ts c.args.state c.args.custom in
    let es = c.self.inside.entries.items in
    let found : place_of c.args.id.now es ≡ Some c.in-Some.place = sym (c.self.invariant.right c.args.id.now c.number_of.ensures.kept) ∙ (rw c.number_of.ensures.value at (sym c.get.ensures.value) ∙ sym c.in-Some.ensures) in
    let new = ap (set es c.in-Some.place) (rw ts at c.update.ensures ∙ ap f c.index_mut.ensures.value) ∙ changed_at c.args.id.now f es c.in-Some.place c.index_mut.result.now found in
    rw (c.as_slice.ensures.value, new) (gone_changed c.self.inside.gone c.args.id.now f es c.self.invariant.begins (rw (← c.self.view_is) at c.requires))

pub returns-in-Some : goal.returns-in-Some
returns-in-Some c =
    let ts : to_z w64 (of_z w64 c.args.event_ts) ≡ c.args.event_ts = search rules in
    let f = updated c.args.broker c.args.event_ts c.args.state c.args.custom in
    let es = c.self.inside.entries.items in
    let found : place_of c.args.id.now es ≡ Some c.in-Some.place = sym (c.self.invariant.right c.args.id.now c.number_of.ensures.kept) ∙ (rw c.number_of.ensures.value at (sym c.get.ensures.value) ∙ sym c.in-Some.ensures) in
    rw (← c.self.view_is) (ap (set es c.in-Some.place) (rw ts at c.update.ensures ∙ ap f c.index_mut.ensures.value) ∙ changed_at c.args.id.now f es c.in-Some.place c.index_mut.result.now found)

pub returns-in_default : goal.returns-in_default
returns-in_default c =
    let none : place_of c.args.id.now c.self.inside.entries.items ≡ None = sym (c.self.invariant.right c.args.id.now c.number_of.ensures.kept) ∙ (rw c.number_of.ensures.value at (sym c.get.ensures.value) ∙ sym c.in_default.ensures) in
    rw (← c.self.view_is) (sym (no_place c.args.id.now (updated c.args.broker c.args.event_ts c.args.state c.args.custom) c.self.inside.entries.items none).1)
