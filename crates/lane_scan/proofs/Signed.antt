-- A lane of a signed item holds its bits, and a comparison of lanes reads them as numbers again.
use Rattle.std.proofs.Common.{◌≡◌, ◌∙◌, ap, sym, refl, ℕ, ◌+◌, List, [], ◌∷◌, Bool, cond, length, map, get_or, arith}
use Rattle.std.specs.Prelude.{ℤ, count_by, int_lt}
use Rattle.std.specs.List.{AllByRecursion}
use Rattle.std.proofs.lemmas.Int.{to_z-of_z}
use Rattle.std.proofs.lemmas.List.Sums.{sum_by-cons}
use mir.Syntax.{w64}
use mir.Val.{SFits, to_z, of_z}
use Rattle.lane_scan.specs.Count.{count_lt}

-- the test of a lane against the top's
abbrev pub is_lane_below : ℕ → ℕ → Bool
is_lane_below lane top = int_lt (to_z w64 lane) (to_z w64 top)

-- lanes are counted as the items are
pub count-lanes : (items : List ℤ) (top : ℤ) → AllByRecursion (SFits w64) items → SFits w64 top → count_by (λ lane. is_lane_below lane (of_z w64 top)) (map (of_z w64) items) ≡ count_lt items top
count-lanes [] top fits fits' = refl
count-lanes (item ∷ items) top fits fits' =
    let one : is_lane_below (of_z w64 item) (of_z w64 top) ≡ int_lt item top = rw (to_z-of_z w64 item fits.0, to_z-of_z w64 top fits') refl in
    sum_by-cons (λ lane. cond (is_lane_below lane (of_z w64 top)) 1 0) (of_z w64 item) (map (of_z w64) items)
    ∙ (ap (λ (b : Bool). cond b 1 0 + count_by (λ lane. is_lane_below lane (of_z w64 top)) (map (of_z w64) items)) one
    ∙ (ap (λ n. cond (int_lt item top) 1 0 + n) (count-lanes items top fits.1 fits')
    ∙ sym (sum_by-cons (λ x. cond (int_lt x top) 1 0) item items)))

-- a row of four, item by item
pub four : (items : List ℤ) (d : ℤ) → length items ≡ 4 → get_or items 0 d ∷ get_or items 1 d ∷ get_or items 2 d ∷ get_or items 3 d ∷ [] ≡ items
four [] d h = absurd (omega (arith, h))
four (a ∷ []) d h = absurd (omega (arith, h))
four (a ∷ b ∷ []) d h = absurd (omega (arith, h))
four (a ∷ b ∷ c ∷ []) d h = absurd (omega (arith, h))
four (a ∷ b ∷ c ∷ e ∷ []) d h = refl
four (a ∷ b ∷ c ∷ e ∷ f ∷ items) d h = absurd (omega (arith, h))
