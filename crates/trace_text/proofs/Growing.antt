-- Numbers that grow by digits.
use Rattle.std.proofs.Common.{◌≡◌, ℕ, ◌+◌, ◌-◌, ◌*◌, ◌≤◌, ◌<◌, List, [], ◌∷◌, Some, None, arith}
use Rattle.std.proofs.lemmas.Bool.Decides.{nat_tests}
use Rattle.tier_base.specs.Number.{value_of}
use Rattle.trace_text.specs.Fields.{up_to}

-- digits make a number no smaller
pub value_of-ge : (ds : List ℕ) (n : ℕ) → n ≤ value_of n ds
value_of-ge [] n = omega arith
value_of-ge (d ∷ ds) n = omega (arith, value_of-ge ds (10 * n + (d - 48)))

-- a number that is too great
pub up_to-none : (high n : ℕ) → high < n → up_to high n ≡ None
up_to-none high n h = grind (arith, nat_tests)

-- a number that fits
pub up_to-some : (high n : ℕ) → n ≤ high → up_to high n ≡ Some n
up_to-some high n h = grind (arith, nat_tests)
