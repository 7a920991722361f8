-- How far treads go that touch one another.
use Rattle.std.proofs.Common.{zero, suc, ◌≡◌, refl, ℕ, ◌<◌, ◌≤◌, true, List, [], ◌∷◌, Option, Some, None, length, drop, arith, inl, inr}
use Rattle.std.specs.Prelude.{nat_le, IsSome, option_map}
use Rattle.std.proofs.lemmas.Bool.{cases_lt, lt-ltb, le-ltb, leb-true, leb-false}
use Rattle.segment_meta.specs.declared.note.Entry.{Entry}
use Rattle.remote_view.specs.declared.tread.Tread.{Tread}
use Rattle.remote_view.specs.Lookup.{finished, IsReach}
use Rattle.remote_view.specs.Stairs.{id_at, IsTreadUnder, RisesAlong, HasAll, IsEndFrom, end_of_touching, IsStair}
use Rattle.remote_view.proofs.Lying.{within_true, within_past}
use Rattle.remote_view.proofs.Treads.{nothing_below}
use Rattle.remote_view.proofs.Halving.{IsParted, rises_drop}

-- the first tread ends past an offset
abbrev FirstPast : ℕ → List Tread → Type 0
FirstPast at [] = Unit {0}
FirstPast at (tread ∷ stair) = at < tread.to

-- the next tread ends past the end of the one before
next_past : (tread : Tread) (stair : List Tread) → IsTreadUnder tread stair → RisesAlong stair → FirstPast tread.to stair
next_past tread [] under rises = tt
next_past tread (next ∷ stair) under rises = omega (arith, under.0, rises.0)

-- treads that touch reach the end of the last of them
touching_ends : (stair : List Tread) (at : ℕ) → RisesAlong stair → FirstPast at stair → IsEndFrom stair at (end_of_touching stair at)
touching_ends [] at rises past = record { from = omega arith; each = λ o up down. absurd (omega (arith, up, down)); none = refl }
touching_ends (tread ∷ stair) at rises past = elim (cases_lt at tread.from) [
  | inl gap ↦ rw (lt-ltb at tread.from gap) (record {
    from = omega arith;
    each = λ o up down. absurd (omega (arith, up, down));
    none = nothing_below tread stair at rises gap;
  })
  | inr here ↦
      let rest = touching_ends stair tread.to rises.2 (next_past tread stair rises.1 rises.2) in
      rw (le-ltb at tread.from here) (record {
        from = omega (arith, past, rest.from);
        each = λ o up down. elim (cases_lt o tread.to) [
          | inl on ↦ rw (within_true tread.from tread.to o (omega (arith, here, up)) on) refl
          | inr behind ↦ rw (within_past tread.from tread.to o behind) (rest.each o behind down)
        ];
        none = rw (within_past tread.from tread.to _ rest.from) rest.none;
      })
]

-- treads that end at or below an offset give nothing from there on
front_gone : (stair : List Tread) (at i o : ℕ) → i ≤ length stair → IsParted at stair i → at ≤ o → id_at stair o ≡ id_at (drop i stair) o
front_gone [] at zero o l h up = refl
front_gone [] at (suc i) o l h up = absurd (omega (arith, l))
front_gone (x ∷ stair) at zero o l h up = refl
front_gone (x ∷ stair) at (suc i) o l h up =
    let ended : nat_le x.to at ≡ true = h.0 0 x (omega arith) (omega arith) in
    let low = leb-true x.to at ended in
    rw (within_past x.from x.to o (omega (arith, low, up)))
    (front_gone stair at i o (omega (arith, l)) (λ k d low high. h.0 (suc k) d (omega arith) (omega (arith, high)), λ k d low high. h.1 (suc k) d (omega (arith, low)) (omega (arith, high))) up)

-- the treads after them end past it
first_past : (stair : List Tread) (at i : ℕ) → IsParted at stair i → FirstPast at (drop i stair)
first_past [] at zero h = tt
first_past [] at (suc i) h = tt
first_past (x ∷ stair) at zero h = leb-false x.to at (h.1 0 x (omega arith) (omega arith))
first_past (x ∷ stair) at (suc i) h = first_past stair at i (λ k d low high. h.0 (suc k) d (omega arith) (omega (arith, high)), λ k d low high. h.1 (suc k) d (omega (arith, low)) (omega (arith, high)))

-- so the end is found after them
pub parted_ends : (stair : List Tread) (at i : ℕ) → RisesAlong stair → i ≤ length stair → IsParted at stair i → IsEndFrom stair at (end_of_touching (drop i stair) at)
parted_ends stair at i rises l h =
    let rest = touching_ends (drop i stair) at (rises_drop stair i rises) (first_past stair at i h) in
    record {
      from = rest.from;
      each = λ o up down. rw (front_gone stair at i o l h up) (rest.each o up down);
      none = rw (front_gone stair at i _ l h rest.from) rest.none;
    }

-- offsets in front that all have a tread don't change where that ends
pub further_ends : (stair : List Tread) (at later end : ℕ) → at ≤ later → HasAll at later stair → IsEndFrom stair later end → IsEndFrom stair at end
further_ends stair at later end up all h = record {
  from = omega (arith, up, h.from);
  each = λ o low high. elim (cases_lt o later) [ inl before ↦ all o low before | inr behind ↦ h.each o behind high ];
  none = h.none;
}

-- without treads that is at once
pub nothing_ends : (stair : List Tread) (at : ℕ) → stair ≡ [] → IsEndFrom stair at at
nothing_ends stair at none = rw none (record { from = omega arith; each = λ o up down. absurd (omega (arith, up, down)); none = refl })

-- a stair goes as far as copies do
pub stair_reaches : (es : List Entry) (epoch at end : ℕ) (stair : List Tread) → IsStair es epoch stair → IsEndFrom stair at end → IsReach epoch es at end
stair_reaches es epoch at end stair right h = record {
  from = h.from;
  each = λ o low high. found (finished epoch o es) (rw (right.best o) at (h.each o low high));
  none = missed (finished epoch end es) (rw (right.best end) at h.none);
}
  where
    found : (f : Option Entry) → IsSome (option_map (λ (entry : Entry). entry.id) f) → IsSome f
    found None some = absurd (cc)
    found (Some entry) some = refl

    missed : (f : Option Entry) → option_map (λ (entry : Entry). entry.id) f ≡ None → f ≡ None
    missed None none = refl
    missed (Some entry) none = absurd (cc)
