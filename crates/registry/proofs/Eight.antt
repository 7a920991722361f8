-- Ends in eight places, with 0 past the last.
use Rattle.std.proofs.Common.{◌≡◌, ap, refl, ℕ, suc, ◌+◌, ◌-◌, ◌<◌, ◌≤◌, List, [], ◌∷◌, ◌++◌, length, take, drop, replicate, slice_set, arith, length-take}
use Rattle.std.proofs.lemmas.List.{take-append-drop}
use Rattle.registry.specs.View.{eight}

-- an end goes into the place after the front
set-behind : (front : List ℕ) (old p : ℕ) (back : List ℕ) → slice_set (front ++ old ∷ back) (length front) p ≡ (front ++ p ∷ []) ++ back
set-behind [] old p back = refl
set-behind (x ∷ front) old p back = ap (λ (t : List ℕ). x ∷ t) (set-behind front old p back)

-- one end more is put
pub end_put : (b : ℕ) (front acked : List ℕ) (p : ℕ) → b < 8 → length front ≡ b → acked ≡ front ++ replicate (8 - b) 0
    → slice_set acked b p ≡ (front ++ p ∷ []) ++ replicate (8 - (b + 1)) 0
end_put b front acked p few long is =
    let left : 8 - b ≡ suc (8 - (b + 1)) = omega (arith, few) in
    let now : acked ≡ front ++ 0 ∷ replicate (8 - (b + 1)) 0 = rw left at is in
    rw (now, ← long) (set-behind front 0 p (replicate (8 - (length front + 1)) 0))

-- the ends before the zeros, in eight places
pub eight_taken : (count : ℕ) (acked : List ℕ) → count ≤ 8 → length acked ≡ 8 → drop count acked ≡ replicate (8 - count) 0
    → eight (take count acked) ≡ acked
eight_taken count acked few places past =
    let long : length (take count acked) ≡ count = grind (arith, length-take, places, few) in
    rw (long, ← past) (take-append-drop count acked)
