-- What was where a reading continued.
use Rattle.std.proofs.Common.{◌≡◌, ◌≤◌, refl, ℕ, Bool, true, false, cond, List, [], ◌∷◌, length, arith, Result, Ok, Err}
use Rattle.log_manifest.specs.declared.refusal.ManifestRefusal.{ManifestRefusal}
use Rattle.log_manifest.specs.declared.refusal.ManifestRefusal.TheVariants.{Bad, NoMemory}
use Rattle.log_manifest.specs.Reading.{Read, passing, whole, bad, ◌>>=◌, Refuses}

-- equal answers have equal values
pub ok_same : {A : Type 0} (r : Result A ManifestRefusal) (x y : A) → r ≡ Ok x → r ≡ Ok y → x ≡ y
ok_same r x y e e' = cc

-- the first part was read, and then the rest
pub bound : {A B : Type 0} (r : Result A ManifestRefusal) (f : A → Result B ManifestRefusal) (y : B)
    → r >>= f ≡ Ok y → (x : A) × (r ≡ Ok x) × (f x ≡ Ok y)
bound (Ok x) f y e = (x, refl, e)
bound (Err why) f y e = absurd (cc)

-- the same, for what follows from it
pub peeled : {A B : Type 0} (P : Type 0) (r : Result A ManifestRefusal) (f : A → Result B ManifestRefusal) (y : B)
    → r >>= f ≡ Ok y → ((x : A) → r ≡ Ok x → f x ≡ Ok y → P) → P
peeled P (Ok x) f y e then = then x refl e
peeled P (Err why) f y e then = absurd (cc)

-- a choice that gave a value
pub chosen : {A : Type 0} (t : Bool) (x y : A) (why : ManifestRefusal) → cond t (Ok x) (Err why) ≡ Ok y → (x ≡ y) × (t ≡ true)
chosen true x y why e = (cc, refl)
chosen false x y why e = absurd (cc)

-- what was read passed the test
pub passed : {A : Type 0} (test : A → Bool) (why : ManifestRefusal) (r : Read A) (y : A × List ℕ)
    → passing test why r ≡ Ok y → (r ≡ Ok y) × (test y.0 ≡ true)
passed test why (Ok x) y e =
    let is = chosen (test x.0) x y why e in
    (cc, (rw (← is.0) is.1))
passed test why (Err fault) y e = absurd (cc)

-- what is refused is reported
pub refuses_of : {Y : Type 0} (why : ManifestRefusal) (read : Result Y ManifestRefusal) → read ≡ Err why → Refuses why read
refuses_of (Bad at) read e = e
refuses_of NoMemory read e = tt

-- bytes that follow are the first fault
pub whole_more : {A : Type 0} (at : ℕ) (x : A) (rest : List ℕ) → 1 ≤ length rest → whole at x rest ≡ Err (bad at)
whole_more at x [] more = absurd (omega (arith, more))
whole_more at x (b ∷ rest) more = refl

-- nothing follows what was whole
pub whole_ok : {A : Type 0} (at : ℕ) (x y : A) (rest : List ℕ) → whole at x rest ≡ Ok y → (x ≡ y) × (rest ≡ [])
whole_ok at x y [] e = (cc, refl)
whole_ok at x y (b ∷ rest) e = absurd (cc)
