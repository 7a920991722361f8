use Rattle.std.proofs.Common.{◌≡◌, ◌∙◌, ◌+◌, ◌-◌, ◌++◌, ap, sym, arith, List, ℕ, take, drop, length, length-take}
use Rattle.disk_model.proofs.Patches.{put_together, rest_of}
use Rattle.disk_model.proofs.patch.patch_with.Goals as goal

pub slice_bounds-from_slice-end : goal.slice_bounds-from_slice-end
slice_bounds-from_slice-end c = sym (length-take 32 c.args.new.now ∙ omega (arith, c.requires))

pub returns : goal.returns
returns c = λ old e.
    let new : List ℕ = c.args.new.now in
    let fresh : c.in_ok-from_vec.field-0 ≡ take 32 new ++ drop (32 + c.args.same) new =
    c.in_ok-from_vec.ensures.ok ∙ c.in_ok-extend_from_slice.ensures.items
    ∙ ap (λ (xs : List ℕ). xs ++ take (length new - (32 + c.args.same)) (drop (32 + c.args.same) new)) c.in_ok-fresh.ensures.items
    ∙ ap (λ (xs : List ℕ). take 32 new ++ xs) (rest_of (32 + c.args.same) new) in
    ap (λ (f : List ℕ). take 32 f ++ take c.args.same (drop 32 old) ++ drop 32 f) fresh ∙ put_together old new c.args.same c.requires e
