-- Numbers that stop at the greatest of their type.
use Rattle.std.proofs.Common.{◌≡◌, ◌∙◌, sym, ap, ℕ, ◌+◌, ◌-◌, ◌*◌, min, List, [], ◌∷◌, arith}
use Rattle.script_lang.specs.Words.{value_of}

step-same : (n k m : ℕ) → min (10 * min n m + k) m ≡ min (10 * n + k) m
step-same n k m = omega arith

-- what was stopped before a digit stops after it
value_of-capped : (ds : List ℕ) (n m : ℕ) → min (value_of (min n m) ds) m ≡ min (value_of n ds) m
value_of-capped [] n m = omega arith
value_of-capped (d ∷ ds) n m =
    sym (value_of-capped ds (10 * min n m + (d - 48)) m)
    ∙ (ap (λ (x : ℕ). min (value_of x ds) m) (step-same n (d - 48) m) ∙ value_of-capped ds (10 * n + (d - 48)) m)

-- one digit more, at what two steps that stop give
pub value_of-step : (ds : List ℕ) (n m : ℕ) (d x : ℕ) → x ≡ min (min (n * 10) m + (d - 48)) m → min (value_of x ds) m ≡ min (value_of n (d ∷ ds)) m
value_of-step ds n m d x h =
    let e : x ≡ min (10 * n + (d - 48)) m = omega (arith, h) in
    ap (λ (y : ℕ). min (value_of y ds) m) e ∙ value_of-capped ds (10 * n + (d - 48)) m
