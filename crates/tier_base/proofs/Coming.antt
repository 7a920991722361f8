-- What a plan says of a call is said by the next call of that kind, where their numbers don't fall.
use Rattle.std.proofs.Common.{◌≡◌, ◌∙◌, refl, sym, ap, ℕ, ◌+◌, ◌<◌, ◌≤◌, Bool, true, false, cond, List, [], ◌∷◌, drop, length, Option, Some, None, arith}
use Rattle.std.specs.Prelude.{nat_le, nat_lt, ◌==◌, ◌&&◌, IsTrue, ◌≢◌, ◌-◌, ◌^◌}
use Rattle.std.proofs.Math.ListN.{get_or, set}
use Rattle.std.proofs.lemmas.Bool.{eqb-true, eq-eqb}
use Rattle.std.proofs.lemmas.List.{get_or-set_same, get_or-set_other}
use Rattle.tier_base.specs.declared.planned.Planned.{Planned}
use Rattle.tier_base.specs.Counts.{counted}
use Rattle.tier_base.specs.Device.{planned}
use Rattle.tier_base.specs.Nexts.{rises_from, coming, IsNextFault, AreNext, said_first}

module _ {K : Type 0} (code : K → ℕ) where
  -- where the numbers rise from past this one on, it is none of theirs
  none_below : (call : K) (number low : ℕ) (plan : List (Planned K)) → number < low → IsTrue (rises_from code (code call) low plan)
      → planned code call number plan ≡ None
  none_below call number low [] under rises = refl
  none_below call number low (p ∷ ps) under rises =
      by (code p.call == code call) rises (λ l u r. none_below call number l ps u r)
    where
      by : (t : Bool) → IsTrue (cond t (nat_le low p.number && rises_from code (code call) p.number ps) (rises_from code (code call) low ps))
          → ((l : ℕ) → number < l → IsTrue (rises_from code (code call) l ps) → planned code call number ps ≡ None)
          → cond (t && (p.number == number)) (Some p.after) (planned code call number ps) ≡ None
      by true r more = grind (arith)
      by false r more = more low under r

  -- calls that were made are none of those still to come
  planned_coming : (call : K) (made number : ℕ) (plan : List (Planned K)) → made < number
      → planned code call number plan ≡ planned code call number (coming code (code call) made plan)
  planned_coming call made number [] past = refl
  planned_coming call made number (p ∷ ps) past =
      by (code p.call == code call) (nat_lt made p.number) refl refl (planned_coming call made number ps past)
    where
      by : (t u : Bool) → (code p.call == code call) ≡ t → nat_lt made p.number ≡ u
          → planned code call number ps ≡ planned code call number (coming code (code call) made ps)
          → cond (t && (p.number == number)) (Some p.after) (planned code call number ps)
          ≡ planned code call number (cond (t && u) (p ∷ ps) (coming code (code call) made ps))
      by true true e f more = rw e refl
      by true false e f more = grind (arith)
      by false u e f more = more

  -- more calls are made
  coming_coming : (kind before made : ℕ) (plan : List (Planned K)) → before ≤ made
      → coming code kind made (coming code kind before plan) ≡ coming code kind made plan
  coming_coming kind before made [] up = refl
  coming_coming kind before made (p ∷ ps) up =
      by (code p.call == kind) (nat_lt before p.number) (nat_lt made p.number) refl refl refl (coming_coming kind before made ps up)
    where
      by : (t u v : Bool) → (code p.call == kind) ≡ t → nat_lt before p.number ≡ u → nat_lt made p.number ≡ v
          → coming code kind made (coming code kind before ps) ≡ coming code kind made ps
          → coming code kind made (cond (t && u) (p ∷ ps) (coming code kind before ps)) ≡ cond (t && v) (p ∷ ps) (coming code kind made ps)
      by true true v e f g more = rw (e, g) refl
      by true false true e f g more = grind (arith)
      by true false false e f g more = more
      by false u v e f g more = more

  rises_lower : (kind low high : ℕ) (plan : List (Planned K)) → low ≤ high → IsTrue (rises_from code kind high plan) → IsTrue (rises_from code kind low plan)
  rises_lower kind low high [] up rises = rises
  rises_lower kind low high (p ∷ ps) up rises = by (code p.call == kind) rises (rises_lower kind low high ps up)
    where
      by : (t : Bool) → IsTrue (cond t (nat_le high p.number && rises_from code kind p.number ps) (rises_from code kind high ps))
          → (IsTrue (rises_from code kind high ps) → IsTrue (rises_from code kind low ps))
          → IsTrue (cond t (nat_le low p.number && rises_from code kind p.number ps) (rises_from code kind low ps))
      by true r more = grind (arith)
      by false r more = more r

  rises_coming : (kind made : ℕ) (plan : List (Planned K)) → IsTrue (rises_from code kind 0 plan) → IsTrue (rises_from code kind 0 (coming code kind made plan))
  rises_coming kind made [] rises = rises
  rises_coming kind made (p ∷ ps) rises = by (code p.call == kind) (nat_lt made p.number) refl rises (rises_coming kind made ps)
    where
      by : (t u : Bool) → (code p.call == kind) ≡ t → IsTrue (cond t (nat_le 0 p.number && rises_from code kind p.number ps) (rises_from code kind 0 ps))
          → (IsTrue (rises_from code kind 0 ps) → IsTrue (rises_from code kind 0 (coming code kind made ps)))
          → IsTrue (rises_from code kind 0 (cond (t && u) (p ∷ ps) (coming code kind made ps)))
      by true true e r more = rw e r
      by true false e r more = more (rises_lower kind 0 p.number ps (omega arith) (grind (arith, r)))
      by false u e r more = more r

  -- the first call of these is of this kind, and past those made
  abbrev IsPast : ℕ → ℕ → List (Planned K) → Type 0
  IsPast kind made [] = Unit {0}
  IsPast kind made (p ∷ ps) = ((code p.call == kind) ≡ true) × (made < p.number)

  coming_past : (kind made : ℕ) (plan : List (Planned K)) → IsPast kind made (coming code kind made plan)
  coming_past kind made [] = tt
  coming_past kind made (p ∷ ps) = by (code p.call == kind) (nat_lt made p.number) refl refl (coming_past kind made ps)
    where
      by : (t u : Bool) → (code p.call == kind) ≡ t → nat_lt made p.number ≡ u → IsPast kind made (coming code kind made ps)
          → IsPast kind made (cond (t && u) (p ∷ ps) (coming code kind made ps))
      by true true e f more = (e, grind (arith))
      by true false e f more = more
      by false u e f more = more

  said_coming : (call : K) (made : ℕ) (plan : List (Planned K)) → IsPast (code call) made plan → IsTrue (rises_from code (code call) 0 plan)
      → planned code call (made + 1) plan ≡ said_first (made + 1) plan
  said_coming call made [] past rises = refl
  said_coming call made (p ∷ ps) past rises =
      let r : IsTrue (rises_from code (code call) p.number ps) = follow (code p.call == code call) past.0 rises in
      rw past.0 (by (p.number == made + 1) refl (λ under. none_below call (made + 1) p.number ps under r))
    where
      follow : (t : Bool) → t ≡ true → IsTrue (cond t (nat_le 0 p.number && rises_from code (code call) p.number ps) (rises_from code (code call) 0 ps))
          → IsTrue (rises_from code (code call) p.number ps)
      follow true e r = grind (arith)
      follow false e r = cc

      by : (t : Bool) → (p.number == made + 1) ≡ t → (made + 1 < p.number → planned code call (made + 1) ps ≡ None)
          → cond t (Some p.after) (planned code call (made + 1) ps) ≡ cond t (Some p.after) None
      by true e none = refl
      by false e none = none (grind (arith, e, past.1))

  -- the next call of its kind says what the plan says of it
  pub said_next : (call : K) (made at : ℕ) (plan : List (Planned K)) → IsNextFault code (code call) made plan (Some at) → made < 2 ^ 64 - 1
      → said_first (made + 1) (drop at plan) ≡ planned code call (counted made 1) plan
  said_next call made at plan next small =
      let one : counted made 1 ≡ made + 1 = omega (arith, small) in
      let here = said_coming call made (coming code (code call) made plan) (coming_past (code call) made plan) (rises_coming (code call) made plan next.0) in
      ap (said_first (made + 1)) next.1 ∙ sym here ∙ sym (planned_coming call made (made + 1) plan (omega arith))
      ∙ ap (λ (n : ℕ). planned code call n plan) (sym one)

  -- once more of them are made, it is further on
  pub next_later : (kind before made at next : ℕ) (plan : List (Planned K)) → before ≤ made → IsNextFault code kind before plan (Some at)
      → drop next plan ≡ coming code kind made (drop at plan) → IsNextFault code kind made plan (Some next)
  next_later kind before made at next plan up is later =
      (is.0, later ∙ ap (coming code kind made) is.1 ∙ coming_coming kind before made plan up)

module _ {K : Type 0} (code : K → ℕ) (plan : List (Planned K)) (counts : List ℕ) (nexts : List (Option ℕ)) (kind made : ℕ) (next : Option ℕ) where
  -- one more call of a kind is counted
  pub count_one : kind < length counts → kind < length nexts → AreNext code plan counts nexts
      → (IsNextFault code kind (get_or counts kind 0) plan (get_or nexts kind None) → IsNextFault code kind made plan next)
      → AreNext code plan (set counts kind made) (set nexts kind next)
  count_one counted placed are later other = by (other == kind) refl
    where
      by : (t : Bool) → (other == kind) ≡ t → IsNextFault code other (get_or (set counts kind made) other 0) plan (get_or (set nexts kind next) other None)
      by true e =
          rw (eqb-true other kind e, get_or-set_same counts kind made 0 counted, get_or-set_same nexts kind next None placed)
          (later (are kind))
      by false e =
          let apart : other ≢ kind = λ (same : other ≡ kind). (let t = eq-eqb other kind same in cc) in
          rw (get_or-set_other counts kind other made 0 apart, get_or-set_other nexts kind other next None apart) (are other)
