-- Tests, and options that a test makes.
use Rattle.std.proofs.Common.{◌≡◌, ℕ, ◌≤◌, ◌==◌, Some, None, Option, Bool, true, false, ◌&&◌, not, refl, arith}
use Rattle.std.specs.Prelude.{nat_le, option_map, is_none}
use Rattle.std.proofs.lemmas.Bool.Decides.{nat_tests}
use Rattle.registry.specs.Calls.{when}

-- a value where a test holds: it does, and that is the value
pub when_some : {A : Type 0} (b : Bool) (x q : A) → when b x ≡ Some q → (b ≡ true) × (x ≡ q)
when_some true x q e = (refl, cc)
when_some false x q e = absurd cc

-- what an option that was mapped was
pub map_some : {T U : Type 0} (f : T → U) (o : Option T) (q : U) → option_map f o ≡ Some q → (x : T) × (o ≡ Some x) × (f x ≡ q)
map_some f None q e = absurd cc
map_some f (Some x) q e = (x, refl, cc)

-- both of two tests hold
pub both : (a b : Bool) → a && b ≡ true → (a ≡ true) × (b ≡ true)
both true true e = (refl, refl)
both true false e = absurd cc
both false b e = absurd cc

-- what the tests of numbers say
pub le_of : (a b : ℕ) → nat_le a b ≡ true → a ≤ b
le_of a b h = grind (arith, nat_tests, h)

pub eq_of : (a b : ℕ) → (a == b) ≡ true → a ≡ b
eq_of a b h = grind (arith, nat_tests, h)

-- a test that doesn't hold
pub not_true : (a : Bool) → not a ≡ true → a ≡ false
not_true true e = absurd cc
not_true false e = refl

-- an option that is found to be none
pub none_of : {A : Type 0} (o : Option A) → is_none o ≡ true → o ≡ None
none_of None e = refl
none_of (Some x) e = absurd cc
