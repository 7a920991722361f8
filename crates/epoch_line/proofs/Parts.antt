-- The part of a line within a segment is a line.
use Rattle.std.proofs.Common.{◌≡◌, refl, ap, sym, subst, ℕ, ◌^◌, ◌<◌, ◌≤◌, List, [], ◌∷◌, ◌++◌, Some, None, Bool, true, false, cond, arith, inl, inr}
use Rattle.std.specs.Prelude.{filter, nat_le, nat_lt, ◌&&◌}
use Rattle.std.specs.List.{AllByRecursion}
use Rattle.std.specs.declared.option.Option.{Option}
use Rattle.std.proofs.lemmas.Bool.{le-leb, lt-leb, lt-ltb, le-ltb, ltb-true, cases_lt, and_parts}
use Rattle.log_terms.specs.Line.{epoch_at}
use Rattle.std.specs.Option.{ForSome}
use Rattle.epoch_line.specs.Line.{IsBelow, IsLine, last_epoch, assign, at_base, within}
use Rattle.epoch_line.proofs.Rising.{IsLine-push, epochs_below}

all-cases : {X : Type 0} (P Q : X → Type 0) (b : Bool) (x : X) (ys : List X) → (b ≡ true → Q x) → AllByRecursion Q ys → AllByRecursion Q (cond b (x ∷ ys) ys)
all-cases P Q true x ys one rest = (one refl, rest)
all-cases P Q false x ys one rest = rest

-- what holds of each entry, and what a test says of those that pass it
pub filter-all : {X : Type 0} (p : X → Bool) (P Q : X → Type 0) → ((x : X) → p x ≡ true → P x → Q x) → (xs : List X) → AllByRecursion P xs → AllByRecursion Q (filter p xs)
filter-all p P Q says [] h = tt
filter-all p P Q says (x ∷ xs) h = all-cases P Q (p x) x (filter p xs) (λ t. says x t h.0) (filter-all p P Q says xs h.1)

filter-cases : {X : Type 0} (p : X → Bool) (b t : Bool) (x : X) (ys zs : List X) → p x ≡ b → filter p ys ≡ zs → filter p (cond t (x ∷ ys) ys) ≡ cond (b && t) (x ∷ zs) zs
filter-cases p true true x ys zs e h = rw e (ap (λ ws. x ∷ ws) h)
filter-cases p false true x ys zs e h = rw e h
filter-cases p true false x ys zs e h = h
filter-cases p false false x ys zs e h = h

-- one test after another
pub filter-filter : {X : Type 0} (p q : X → Bool) (xs : List X) → filter p (filter q xs) ≡ filter (λ x. p x && q x) xs
filter-filter p q [] = refl
filter-filter p q (x ∷ xs) = filter-cases p (p x) (q x) x (filter q xs) (filter (λ x. p x && q x) xs) refl (filter-filter p q xs)

-- what lies above the first entry
pub above-all : (line : List (ℕ × ℕ)) (one : ℕ × ℕ) → IsLine (one ∷ line) → AllByRecursion (λ e. (one.0 < e.0) × (one.1 < e.1)) line
above-all [] one h = tt
above-all (two ∷ line) one h = (h.2, weaker line (above-all line two h.3))
  where
    weaker : (line : List (ℕ × ℕ)) → AllByRecursion (λ e. (two.0 < e.0) × (two.1 < e.1)) line → AllByRecursion (λ e. (one.0 < e.0) × (one.1 < e.1)) line
    weaker [] a = tt
    weaker (e ∷ line) a = ((omega (arith, h.2.0, a.0.0), omega (arith, h.2.1, a.0.1)), weaker line a.1)

-- what lies below all lies below the first
pub below-first : (line : List (ℕ × ℕ)) (one : ℕ × ℕ) → AllByRecursion (λ e. (one.0 < e.0) × (one.1 < e.1)) line → IsBelow one line
below-first [] one a = tt
below-first (two ∷ line) one a = a.0

line-cases : (b : Bool) (one : ℕ × ℕ) (line : List (ℕ × ℕ)) → one.0 < 2 ^ 31 → one.1 ≤ 2 ^ 62 → IsBelow one line → IsLine line → IsLine (cond b (one ∷ line) line)
line-cases true one line fits fits' below h = (fits, fits', below, h)
line-cases false one line fits fits' below h = h

-- some of a line's entries are a line
pub IsLine-filter : (p : ℕ × ℕ → Bool) (line : List (ℕ × ℕ)) → IsLine line → IsLine (filter p line)
IsLine-filter p [] h = tt
IsLine-filter p (one ∷ line) h =
    let above = filter-all p (λ e. (one.0 < e.0) × (one.1 < e.1)) (λ e. (one.0 < e.0) × (one.1 < e.1)) (λ e t a. a) line (above-all line one h) in
    line-cases (p one) one (filter p line) h.0 h.1 (below-first (filter p line) one above) (IsLine-filter p line h.3)

-- the test of a segment's part
abbrev pub is_within : ℕ → ℕ → ℕ × ℕ → Bool
is_within base last entry = nat_lt base entry.1 && nat_le entry.1 last

-- after a base, what lies above its entry in epoch lies above the base in start
pub below-within : (one : ℕ × ℕ) (base last : ℕ) (line : List (ℕ × ℕ)) → IsLine (one ∷ line) → IsBelow (one.0, base) (filter (is_within base last) line)
below-within one base last line h =
    below-first (filter (is_within base last) line) (one.0, base)
    (filter-all (is_within base last) (λ e. (one.0 < e.0) × (one.1 < e.1)) (λ e. (one.0 < e.0) × (base < e.1)) (λ e t a. (a.0, ltb-true base e.1 (and_parts _ _ t).0)) line (above-all line one h))

-- an entry at or below the base isn't within
pub within-not : (one : ℕ × ℕ) (base last : ℕ) (line : List (ℕ × ℕ)) → one.1 ≤ base → filter (is_within base last) (one ∷ line) ≡ filter (is_within base last) line
within-not one base last line l = rw (le-ltb base one.1 l) refl

-- by the epoch at the base
within-by : (line : List (ℕ × ℕ)) (base last : ℕ) (at : Option ℕ) → epoch_at line base ≡ at → IsLine (at_base at base ++ filter (is_within base last) line) → IsLine (within line base last)
within-by line base last at e h = subst (λ (o : Option ℕ). IsLine (at_base o base ++ filter (is_within base last) line)) (sym e) h

single-line : (one : ℕ × ℕ) (base last : ℕ) → IsLine (one ∷ []) → base ≤ 2 ^ 62 → IsLine (within (one ∷ []) base last)
single-line one base last h b = elim (cases_lt base one.1) [
  | inl below ↦ within-by (one ∷ []) base last None (rw (lt-leb one.1 base below) refl) (IsLine-filter (is_within base last) (one ∷ []) h)
  | inr above ↦ within-by (one ∷ []) base last (Some one.0) (rw (le-leb one.1 base above) refl) (rw (within-not one base last [] above) (h.0, b, tt, tt))
]

-- the part of a line within a segment is a line
pub IsLine-within : (line : List (ℕ × ℕ)) (base last : ℕ) → IsLine line → base ≤ 2 ^ 62 → IsLine (within line base last)
IsLine-within [] base last h b = tt
IsLine-within (one ∷ []) base last h b = single-line one base last h b
IsLine-within (one ∷ two ∷ line) base last h b = elim (cases_lt base one.1) [
  | inl below ↦ within-by (one ∷ two ∷ line) base last None (rw (lt-ltb base one.1 below) refl) (IsLine-filter (is_within base last) (one ∷ two ∷ line) h)
  | inr above ↦ elim (cases_lt base two.1) [
    | inl below ↦ within-by (one ∷ two ∷ line) base last (Some one.0) (rw (le-ltb base one.1 above, lt-ltb base two.1 below) refl)
        (subst (λ (rest : List (ℕ × ℕ)). IsLine ((one.0, base) ∷ rest)) (sym (within-not one base last (two ∷ line) above)) (h.0, b, below-within one base last (two ∷ line) h, IsLine-filter (is_within base last) (two ∷ line) h.3))
    | inr over ↦ within-by (one ∷ two ∷ line) base last (epoch_at (two ∷ line) base) (rw (le-ltb base one.1 above, le-ltb base two.1 over) refl)
        (subst (λ (rest : List (ℕ × ℕ)). IsLine (at_base (epoch_at (two ∷ line) base) base ++ rest)) (sym (within-not one base last (two ∷ line) above)) (IsLine-within (two ∷ line) base last h.3 b))
  ]
]

-- a line in which a new epoch starts is a line
pub IsLine-assign : (line : List (ℕ × ℕ)) (epoch start : ℕ) → IsLine line → epoch < 2 ^ 31 → start ≤ 2 ^ 62 → ForSome (last_epoch line) (λ last. last < epoch) → IsLine (assign line epoch start)
IsLine-assign line epoch start h fits fits' above =
    let below = epochs_below line epoch h above in
    let test : ℕ × ℕ → Bool = λ e. nat_lt e.1 start in
    IsLine-push (filter test line) (epoch, start) (IsLine-filter test line h) fits fits'
    (filter-all test (λ e. e.0 < epoch) (λ e. e.0 < epoch) (λ e t a. a) line below)
    (filter-all test (λ e. e.0 < epoch) (λ e. e.1 < start) (λ e t a. ltb-true e.1 start t) line below)

-- whether the last entry found room or not
pub line-either : (b : Bool) (line : List (ℕ × ℕ)) (entry : ℕ × ℕ) → IsLine line → IsLine (line ++ entry ∷ []) → IsLine (cond b (line ++ entry ∷ []) line)
line-either true line entry h more = more
line-either false line entry h more = h
