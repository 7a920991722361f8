use Rattle.std.proofs.Common.{◌≡◌, ◌≤◌, ◌∙◌, ◌++◌, ap, sym, subst, arith, List, ℕ, take, drop, length}
use Rattle.std.proofs.lemmas.Result.{IfOk-weaker}
use Rattle.disk_model.proofs.Patches.{of_front, rest_of}
use Rattle.disk_model.proofs.patch.patch_of.Goals as goal

pub returns-then-old-lt-HEAD : goal.returns-then-old-lt-HEAD
returns-then-old-lt-HEAD c = IfOk-weaker c.whole.result _ _ (λ patch is rest. is (c.args.old.now ++ rest)) c.whole.ensures

pub returns : goal.returns
returns c =
    let old : List ℕ = c.args.old.now in
    let new : List ℕ = c.args.new.now in
    let same : ℕ = c.count_same-same.result in
    let within : same ≤ length (drop 32 old) = subst (λ (xs : List ℕ). same ≤ length xs) (rest_of 32 old) c.count_same-same.ensures.old in
    let equal : take same (drop 32 old) ≡ take same (drop 32 new) =
    sym (ap (take same) (rest_of 32 old)) ∙ c.count_same-same.ensures.same ∙ ap (take same) (rest_of 32 new) in
    IfOk-weaker c.patch_with.result _ _
    (λ patch is rest. is (old ++ rest) (of_front old rest new same (omega (arith, c.if-old-lt-HEAD.false)) within equal))
    c.patch_with.ensures
