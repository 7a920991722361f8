use Rattle.std.proofs.Common.{◌∙◌, ◌++◌, ap, List, ℕ, take, drop, take-append-drop, append-nil}
use Rattle.disk_model.proofs.patch.whole.Goals as goal

pub returns : goal.returns
returns c = λ old.
    let new : List ℕ = c.args.new.now in
    ap (λ (f : List ℕ). take 32 f ++ take 0 (drop 32 old) ++ drop 32 f) c.in_ok-copy_from_slice.ensures
    ∙ ap (λ (xs : List ℕ). xs ++ drop 32 new) (append-nil (take 32 new)) ∙ take-append-drop 32 new
