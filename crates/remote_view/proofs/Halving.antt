-- A stair that is parted at a place: the treads in front end at or below an offset, those after it past it.
use Rattle.std.proofs.Common.{zero, suc, ◌≡◌, ◌∙◌, refl, sym, ℕ, ◌+◌, ◌<◌, ◌≤◌, true, false, List, [], ◌∷◌, Option, Some, None, length, drop, get_or, arith, add-one}
use Rattle.std.specs.Prelude.{nat_le}
use Rattle.std.specs.List.Sorted.{IsNonDecreasingBy, IsPartitionPoint}
use Rattle.std.proofs.lemmas.List.Sorted.{IsNonDecreasingBy-from_all_adjacent}
use Rattle.std.proofs.lemmas.List.{drop_more, drop_all}
use Rattle.std.proofs.lemmas.Bool.{leb-true, leb-false}
use Rattle.tier_base.specs.declared.names.SegmentId.{SegmentId}
use Rattle.remote_view.specs.declared.tread.Tread.{Tread}
use Rattle.remote_view.specs.Stairs.{id_at, RisesAlong}
use Rattle.remote_view.proofs.Lying.{within_true, within_past}
use Rattle.remote_view.proofs.Treads.{nothing_below}

ends-adjacent : (stair : List Tread) (k : ℕ) (d : Tread) → RisesAlong stair → suc k < length stair → (get_or stair k d).to ≤ (get_or stair (suc k) d).to
ends-adjacent [] k d h l = absurd (omega (arith, l))
ends-adjacent (x ∷ []) k d h l = absurd (omega (arith, l))
ends-adjacent (x ∷ y ∷ stair) zero d h l = omega (arith, h.1.0, h.2.0)
ends-adjacent (x ∷ y ∷ stair) (suc k) d h l = ends-adjacent (y ∷ stair) k d h.2 (omega (arith, l))

-- the ends rise
pub ends-rise : (stair : List Tread) → RisesAlong stair → IsNonDecreasingBy (λ t. t.to) stair
ends-rise stair h = IsNonDecreasingBy-from_all_adjacent (λ t. t.to) stair (λ k d l. rw add-one (ends-adjacent stair k d h (omega (arith, l))))

abbrev pub IsParted : ℕ → List Tread → ℕ → Type 0
IsParted o stair i = IsPartitionPoint (λ t. nat_le t.to o ≡ true) (λ t. nat_le t.to o ≡ false) stair i

-- the front gives nothing at the offset
front : (stair : List Tread) (o i : ℕ) → i ≤ length stair → IsParted o stair i → id_at stair o ≡ id_at (drop i stair) o
front [] o zero l h = refl
front [] o (suc i) l h = absurd (omega (arith, l))
front (x ∷ stair) o zero l h = refl
front (x ∷ stair) o (suc i) l h =
    let ended : nat_le x.to o ≡ true = h.0 0 x (omega arith) (omega arith) in
    rw (within_past x.from x.to o (leb-true x.to o ended))
    (front stair o i (omega (arith, l)) (λ k d low high. h.0 (suc k) d (omega arith) (omega (arith, high)), λ k d low high. h.1 (suc k) d (omega (arith, low)) (omega (arith, high))))

-- every tread ends at or below the offset
pub nothing_behind : (stair : List Tread) (o i : ℕ) → length stair ≤ i → i ≤ length stair → IsParted o stair i → ◌≡◌ {A = Option SegmentId} None (id_at stair o)
nothing_behind stair o i past l h =
    let none : drop i stair ≡ [] = drop_all i stair past in sym (front stair o i l h ∙ (rw none refl))

pub rises_drop : (stair : List Tread) (i : ℕ) → RisesAlong stair → RisesAlong (drop i stair)
rises_drop stair zero h = h
rises_drop [] (suc i) h = tt
rises_drop (x ∷ stair) (suc i) h = rises_drop stair i h.2

-- the tread at the place ends past the offset
here : (stair : List Tread) (o i : ℕ) (tread : Tread) → RisesAlong stair → i < length stair → tread ≡ get_or stair i tread → IsParted o stair i
    → (id_at stair o ≡ id_at (tread ∷ drop (i + 1) stair) o) × (o < tread.to) × RisesAlong (tread ∷ drop (i + 1) stair)
here stair o i tread rises below is h =
    let there : drop i stair ≡ tread ∷ drop (i + 1) stair = drop_more stair i tread below ∙ (rw (← is) refl) in
    let past : nat_le tread.to o ≡ false = rw (← is) at (h.1 i tread (omega arith) below) in
    (front stair o i (omega (arith, below)) h ∙ (rw there refl), leb-false tread.to o past, rw there at (rises_drop stair i rises))

pub starts_past : (stair : List Tread) (o i : ℕ) (tread : Tread) → RisesAlong stair → i < length stair → tread ≡ get_or stair i tread → IsParted o stair i → o < tread.from
    → ◌≡◌ {A = Option SegmentId} None (id_at stair o)
starts_past stair o i tread rises below is h low =
    let found = here stair o i tread rises below is h in
    sym (found.0 ∙ nothing_below tread (drop (i + 1) stair) o found.2 low)

pub holds_it : (stair : List Tread) (o i : ℕ) (tread : Tread) → RisesAlong stair → i < length stair → tread ≡ get_or stair i tread → IsParted o stair i → tread.from ≤ o
    → Some tread.id ≡ id_at stair o
holds_it stair o i tread rises below is h low =
    let found = here stair o i tread rises below is h in
    sym (found.0 ∙ (rw (within_true tread.from tread.to o low found.1) refl))
