-- How many of the calls that a plan names were made, and what one call more makes of that.
use Rattle.std.proofs.Common.{◌≡◌, ◌∙◌, refl, ap, ℕ, ◌+◌, ◌<◌, ◌≤◌, Bool, true, false, cond, List, [], ◌∷◌, Option, Some, arith}
use Rattle.std.specs.Prelude.{nat_le, ◌==◌, ◌&&◌, not, is_some, ◌-◌, ◌^◌, min}
use Rattle.std.proofs.lemmas.Bool.{eqb-true, eq-eqb}
use Rattle.tier_base.specs.declared.planned.Planned.{Planned}
use Rattle.tier_base.specs.Counts.{counted}
use Rattle.tier_base.specs.Device.{planned, was_made, met}
use Rattle.tier_base.specs.Faults.{NumbersFit}

-- no number is that of one of no calls
unmade : (n m : ℕ) → m ≡ 0 → (nat_le 1 n && nat_le n m) ≡ false
unmade n m none = by (nat_le 1 n) (nat_le n m) refl refl
  where
    by : (t u : Bool) → nat_le 1 n ≡ t → nat_le n m ≡ u → (t && u) ≡ false
    by true true e f = absurd (grind (arith, none, e, f))
    by true false e f = refl
    by false u e f = refl

-- the next number is that of none of the calls made, and it is then that of one
next_unmade : (n m : ℕ) → n ≡ counted m 1 → n < 2 ^ 32 → (nat_le 1 n && nat_le n m) ≡ false
next_unmade n m next small = by (nat_le 1 n) (nat_le n m) refl refl
  where
    apart : n ≡ min (m + 1) (2 ^ 64 - 1) → n < 2 ^ 32 → n ≤ m → ⊥
    apart is low up = omega (arith, is, low, up)

    by : (t u : Bool) → nat_le 1 n ≡ t → nat_le n m ≡ u → (t && u) ≡ false
    by true true e f = absurd (apart next small (grind (arith, f)))
    by true false e f = refl
    by false u e f = refl

next_made : (n m : ℕ) → n ≡ counted m 1 → (nat_le 1 n && nat_le n (counted m 1)) ≡ true
next_made n m next = by (nat_le 1 n) (nat_le n (counted m 1)) refl refl
  where
    some : n ≡ min (m + 1) (2 ^ 64 - 1) → 1 ≤ n
    some is = omega (arith, is)

    by : (t u : Bool) → nat_le 1 n ≡ t → nat_le n (counted m 1) ≡ u → (t && u) ≡ true
    by true true e f = refl
    by true false e f = absurd (grind (arith, next, f))
    by false u e f = (let low = some next in absurd (grind (arith, low, e)))

-- a number that isn't the next one is that of a call made before or of none
others_stay : (n m : ℕ) → (n == counted m 1) ≡ false → n < 2 ^ 32 → (nat_le 1 n && nat_le n (counted m 1)) ≡ (nat_le 1 n && nat_le n m)
others_stay n m apart small = by (nat_le n (counted m 1)) (nat_le n m) refl refl
  where
    before : (n ≡ min (m + 1) (2 ^ 64 - 1) → ⊥) → n ≤ min (m + 1) (2 ^ 64 - 1) → n ≤ m
    before other up = omega (arith, other, up)

    later : n < 2 ^ 32 → n ≤ m → n ≤ min (m + 1) (2 ^ 64 - 1)
    later low up = omega (arith, low, up)

    other : n ≡ counted m 1 → ⊥
    other is = (let t = eq-eqb n (counted m 1) is in cc)

    by : (t u : Bool) → nat_le n (counted m 1) ≡ t → nat_le n m ≡ u → (nat_le 1 n && t) ≡ (nat_le 1 n && u)
    by true true e f = refl
    by true false e f = (let up = before other (grind (arith, e)) in absurd (grind (arith, up, f)))
    by false true e f = (let up = later small (grind (arith, f)) in absurd (grind (arith, up, e)))
    by false false e f = refl

-- what is added at an item and after it
swapped : (c d : Bool) (n : ℕ) → cond c (cond d (n + 1) n + 1) (cond d (n + 1) n) ≡ cond d (cond c (n + 1) n + 1) (cond c (n + 1) n)
swapped true true n = refl
swapped true false n = refl
swapped false true n = refl
swapped false false n = refl

one_added : (d : Bool) (n : ℕ) → cond (not d) (cond d (n + 1) n + 1) (cond d (n + 1) n) ≡ n + 1
one_added true n = refl
one_added false n = refl

module _ {K : Type 0} (code : K → ℕ) where
  -- a plan says the same of kinds of one code
  planned_same : (kind other : K) (number : ℕ) (plan : List (Planned K)) → code kind ≡ code other
      → planned code kind number plan ≡ planned code other number plan
  planned_same kind other number [] is = refl
  planned_same kind other number (p ∷ ps) is =
      ap (λ (c : ℕ). cond ((code p.call == c) && (p.number == number)) (Some p.after) (planned code kind number ps)) is
      ∙ ap (λ (o : Option Bool). cond ((code p.call == code other) && (p.number == number)) (Some p.after) o) (planned_same kind other number ps is)

  -- where no call was made
  pub met_none : (made : K → ℕ) (plan : List (Planned K)) → ((kind : K) → made kind ≡ 0) → met code made plan ≡ 0
  met_none made [] none = refl
  met_none made (p ∷ ps) none =
      rw (unmade p.number (made p.call) (none p.call)) (met_none made ps none)

  -- where the counts are the same
  pub met_same : (made' made : K → ℕ) (plan : List (Planned K)) → ((kind : K) → made' kind ≡ made kind) → met code made' plan ≡ met code made plan
  met_same made' made [] same = refl
  met_same made' made (p ∷ ps) same = rw (same p.call, met_same made' made ps same) refl

  -- where one more call of a kind was made
  pub met_more : (call : K) (made made' : K → ℕ) (plan : List (Planned K)) → NumbersFit plan
      → ((kind : K) → code kind ≡ code call → made kind ≡ made call)
      → ((kind : K) → code kind ≡ code call → made' kind ≡ counted (made call) 1)
      → ((kind : K) → (code kind == code call) ≡ false → made' kind ≡ made kind)
      → met code made' plan ≡ cond (is_some (planned code call (counted (made call) 1) plan)) (met code made plan + 1) (met code made plan)
  met_more call made made' [] fit same more other = refl
  met_more call made made' (p ∷ ps) fit same more other =
      by (code p.call == code call) (p.number == counted (made call) 1) refl refl (met_more call made made' ps fit.1 same more other)
    where
      by : (t u : Bool) → (code p.call == code call) ≡ t → (p.number == counted (made call) 1) ≡ u
          → met code made' ps ≡ cond (is_some (planned code call (counted (made call) 1) ps)) (met code made ps + 1) (met code made ps)
          → cond (was_made code made' p && not (is_some (planned code p.call p.number ps))) (met code made' ps + 1) (met code made' ps)
          ≡ cond (is_some (cond (t && u) (Some p.after) (planned code call (counted (made call) 1) ps)))
          (cond (was_made code made p && not (is_some (planned code p.call p.number ps))) (met code made ps + 1) (met code made ps) + 1)
          (cond (was_made code made p && not (is_some (planned code p.call p.number ps))) (met code made ps + 1) (met code made ps))
      by true true e f rest =
          let kind : code p.call ≡ code call = eqb-true (code p.call) (code call) e in
          let number : p.number ≡ counted (made call) 1 = eqb-true p.number (counted (made call) 1) f in
          let now : was_made code made' p ≡ true = rw (more p.call kind) (next_made p.number (made call) number) in
          let before : was_made code made p ≡ false = rw (same p.call kind) (next_unmade p.number (made call) number fit.0) in
          let names : planned code p.call p.number ps ≡ planned code call (counted (made call) 1) ps =
          planned_same p.call call p.number ps kind ∙ ap (λ (n : ℕ). planned code call n ps) number in
          rw (now, before, names, rest) (one_added (is_some (planned code call (counted (made call) 1) ps)) (met code made ps))
      by true false e f rest =
          let kind : code p.call ≡ code call = eqb-true (code p.call) (code call) e in
          let stays : was_made code made' p ≡ was_made code made p =
          rw (more p.call kind, same p.call kind) (others_stay p.number (made call) f fit.0) in
          rw (stays, rest) (swapped (was_made code made p && not (is_some (planned code p.call p.number ps)))
          (is_some (planned code call (counted (made call) 1) ps)) (met code made ps))
      by false u e f rest =
          let stays : was_made code made' p ≡ was_made code made p = rw (other p.call e) refl in
          rw (stays, rest) (swapped (was_made code made p && not (is_some (planned code p.call p.number ps)))
          (is_some (planned code call (counted (made call) 1) ps)) (met code made ps))
