-- Where the next planned call of a kind is, so that a call needn't look through its plan.
use Rattle.std.specs.Prelude.{◌≡◌, ℕ, nat_le, nat_lt, ◌==◌, ◌&&◌, Bool, true, if◌then◌else◌}
use Rattle.std.specs.Prelude.{List, [], ◌∷◌, drop, Option, Some, None, IsTrue}
use Rattle.std.proofs.Math.ListN.{get_or}
use Rattle.tier_base.specs.declared.planned.Planned.{Planned}

module _ {K : Type 0} (code : K → ℕ) where
  -- along the plan the numbers of a kind's calls don't fall, from this one on
  abbrev pub rises_from : ℕ → ℕ → List (Planned K) → Bool
  rises_from kind low [] = true
  rises_from kind low (p ∷ ps) =
      if code p.call == kind then nat_le low p.number && rises_from kind p.number ps else rises_from kind low ps

  -- the plan from the first call of a kind on whose number is past those made
  abbrev pub coming : ℕ → ℕ → List (Planned K) → List (Planned K)
  coming kind made [] = []
  coming kind made (p ∷ ps) =
      if (code p.call == kind) && nat_lt made p.number then p ∷ ps else coming kind made ps

  -- it is there, where a kind's numbers don't fall along the plan
  abbrev pub IsNextFault : ℕ → ℕ → List (Planned K) → Option ℕ → Type 0
  IsNextFault kind made plan None = Unit {0}
  IsNextFault kind made plan (Some at) = IsTrue (rises_from kind 0 plan) × (drop at plan ≡ coming kind made plan)

  -- of each kind
  abbrev pub AreNext : List (Planned K) → List ℕ → List (Option ℕ) → Type 0
  AreNext plan counts nexts = (kind : ℕ) → IsNextFault kind (get_or counts kind 0) plan (get_or nexts kind None)

-- what a plan's first call says, where it has this number
abbrev pub said_first : {K : Type 0} → ℕ → List (Planned K) → Option Bool
said_first number [] = None
said_first number (p ∷ ps) = if p.number == number then Some p.after else None
