-- What a reading shows of its parts.
use Rattle.std.proofs.Common.{◌≡◌, sym, refl, ℕ, ◌≤◌, List, [], ◌∷◌, Bool, true, false, cond, Option, Some, None, ◌⊎◌, inl, inr}
use Rattle.std.specs.Prelude.{option_map, bytes_eq, nat_le}
use Rattle.std.proofs.lemmas.Bool.{leb-true}
use Rattle.std.proofs.lemmas.Slice.Eq.{bytes_eq-Decides}
use Rattle.trace_text.specs.Fields.{◌>>=◌, named, up_to, or_else}

-- a reading of two steps
pub bind-some : {A B : Type 0} (o : Option A) (f : A → Option B) (y : B) → (o >>= f) ≡ Some y → (x : A) × (o ≡ Some x) × (f x ≡ Some y)
bind-some (Some x) f y h = (x, refl, h)
bind-some None f y h = cc h

-- a reading under a test
pub if-some : {A : Type 0} (t : Bool) (o : Option A) (y : A) → cond t o None ≡ Some y → (t ≡ true) × (o ≡ Some y)
if-some true o y h = (refl, h)
if-some false o y h = cc h

-- one of two readings
pub either-some : {A : Type 0} (t : Bool) (a b : Option A) (y : A) → cond t a b ≡ Some y → ((t ≡ true) × (a ≡ Some y)) ⊎ (b ≡ Some y)
either-some true a b y h = inl (refl, h)
either-some false a b y h = inr h

-- the first of two readings, or the second
pub or-some : {A : Type 0} (a b : Option A) (y : A) → or_else a b ≡ Some y → (a ≡ Some y) ⊎ (b ≡ Some y)
or-some (Some x) b y h = inl h
or-some None b y h = inr h

-- a reading of what is then made of it
pub map-some : {A B : Type 0} (f : A → B) (o : Option A) (y : B) → option_map f o ≡ Some y → (x : A) × (o ≡ Some x) × (f x ≡ y)
map-some f (Some x) y h = (x, refl, cc h)
map-some f None y h = cc h

-- two texts that are compared
pub text-is : (a b : List ℕ) → bytes_eq a b ≡ true → a ≡ b
text-is a b h = (bytes_eq-Decides a b).0 h

-- a text is itself
pub same-text : (a : List ℕ) → bytes_eq a a ≡ true
same-text a = (bytes_eq-Decides a a).1 refl

-- P holds of each
abbrev pub Each : {A : Type 0} → (A → Type 0) → List A → Type 0
Each P [] = Unit {0}
Each P (x ∷ xs) = P x × Each P xs

named-cases : {A : Type 0} (P : A → Type 0) (text : A → List ℕ) (word : List ℕ) (t : Bool) (x : A) (later : Option A) (y : A) → bytes_eq word (text x) ≡ t → P x → (later ≡ Some y → (text y ≡ word) × P y)
    → cond t (Some x) later ≡ Some y → (text y ≡ word) × P y
named-cases P text word true x later y is p h e =
    let same : x ≡ y = cc e in
    rw (← same) (sym (text-is word (text x) is), p)
named-cases P text word false x later y is p h e = h e

-- what was found by its text
pub named-some : {A : Type 0} (P : A → Type 0) (text : A → List ℕ) (word : List ℕ) (xs : List A) (y : A) → Each P xs → named text word xs ≡ Some y → (text y ≡ word) × P y
named-some P text word [] y each h = cc h
named-some P text word (x ∷ xs) y each h =
    named-cases P text word (bytes_eq word (text x)) x (named text word xs) y refl each.0 (named-some P text word xs y each.1) h

-- a number that fits
pub up_to-read : (high n m : ℕ) → up_to high n ≡ Some m → (n ≤ high) × (n ≡ m)
up_to-read high n m h =
    let parts = if-some (nat_le n high) (Some n) m h in
    (leb-true n high parts.0, cc parts.1)
