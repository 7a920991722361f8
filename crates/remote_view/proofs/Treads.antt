-- Treads that are put one after another.
use Rattle.std.proofs.Common.{◌≡◌, ◌∙◌, refl, sym, ap, ℕ, ◌<◌, ◌≤◌, Bool, true, false, cond, List, [], ◌∷◌, ◌++◌, Option, Some, None, Result, Ok, Err, arith, inl, inr}
use Rattle.std.specs.Prelude.{min, max, OnOk, ◌==◌, ◌&&◌}
use Rattle.std.specs.Str.{bytes_eq}
use Rattle.std.proofs.lemmas.Bool.{cases_lt, eq-eqb}
use Rattle.tier_base.specs.declared.names.SegmentId.{SegmentId}
use Rattle.remote_view.specs.declared.spans.Span.{Span}
use Rattle.remote_view.specs.declared.tread.Tread.{Tread}
use Rattle.remote_view.specs.Stairs.{is_within, id_at, RisesAlong}
use Rattle.remote_view.specs.Laying.{EndsBy, IsPut, IsSplit}
use Rattle.remote_view.proofs.Ids.{same_id}
use Rattle.remote_view.proofs.Lying.{within_true, within_below, within_past}

-- the first that there is
abbrev pub or_else : Option SegmentId → Option SegmentId → Option SegmentId
or_else None other = other
or_else (Some id) other = Some id

-- what two lists of treads give
pub id_at-append : (xs ys : List Tread) (o : ℕ) → id_at (xs ++ ys) o ≡ or_else (id_at xs o) (id_at ys o)
id_at-append [] ys o = refl
id_at-append (x ∷ xs) ys o = by (is_within x.from x.to o) (id_at-append xs ys o)
  where
    by : (t : Bool) → id_at (xs ++ ys) o ≡ or_else (id_at xs o) (id_at ys o) → cond t (Some x.id) (id_at (xs ++ ys) o) ≡ or_else (cond t (Some x.id) (id_at xs o)) (id_at ys o)
    by true more = refl
    by false more = more

-- nothing is given past the treads
pub nothing_past : (stair : List Tread) (at o : ℕ) → EndsBy at stair → at ≤ o → id_at stair o ≡ None
nothing_past [] at o ends past = refl
nothing_past (tread ∷ stair) at o ends past =
    rw (within_past tread.from tread.to o (omega (arith, ends.0, past))) (nothing_past stair at o ends.1 past)

-- nor below the first of them
pub nothing_below : (tread : Tread) (stair : List Tread) (o : ℕ) → RisesAlong (tread ∷ stair) → o < tread.from → id_at (tread ∷ stair) o ≡ None
nothing_below tread [] o rises low = rw (within_below tread.from tread.to o low) refl
nothing_below tread (next ∷ stair) o rises low =
    rw (within_below tread.from tread.to o low) (nothing_below next stair o rises.2 (omega (arith, rises.0, rises.1.0, low)))

pub ends_weaker : (stair : List Tread) (at later : ℕ) → EndsBy at stair → at ≤ later → EndsBy later stair
ends_weaker [] at later ends up = tt
ends_weaker (tread ∷ stair) at later ends up = (omega (arith, ends.0, up), ends_weaker stair at later ends.1 up)

ends_append : (xs ys : List Tread) (at : ℕ) → EndsBy at xs → EndsBy at ys → EndsBy at (xs ++ ys)
ends_append [] ys at h h' = h'
ends_append (x ∷ xs) ys at h h' = (h.0, ends_append xs ys at h.1 h')

ends_front : (xs ys : List Tread) (at : ℕ) → EndsBy at (xs ++ ys) → EndsBy at xs
ends_front [] ys at h = tt
ends_front (x ∷ xs) ys at h = (h.0, ends_front xs ys at h.1)

ends_back : (xs ys : List Tread) (at : ℕ) → EndsBy at (xs ++ ys) → EndsBy at ys
ends_back [] ys at h = h
ends_back (x ∷ xs) ys at h = ends_back xs ys at h.1

-- the treads before the last one end where it starts, or before
before_last : (front : List Tread) (last : Tread) → RisesAlong (front ++ last ∷ []) → EndsBy last.from front
before_last [] last rises = tt
before_last (x ∷ []) last rises = (rises.1.0, tt)
before_last (x ∷ y ∷ front) last rises =
    let rest = before_last (y ∷ front) last rises.2 in (omega (arith, rises.1.0, rises.2.0, rest.0), rest)

last_some : (front : List Tread) (last : Tread) → RisesAlong (front ++ last ∷ []) → last.from < last.to
last_some [] last rises = rises.0
last_some (x ∷ front) last rises = last_some front last rises.2

-- all of them end where the last one does, or before
last_ends : (front : List Tread) (last : Tread) → RisesAlong (front ++ last ∷ []) → EndsBy last.to (front ++ last ∷ [])
last_ends front last rises =
    let some = last_some front last rises in
    ends_append front (last ∷ []) last.to (ends_weaker front last.from last.to (before_last front last rises) (omega (arith, some))) (omega arith, tt)

-- one tread more
rises_push : (front : List Tread) (last tread : Tread) → RisesAlong (front ++ last ∷ []) → last.to ≤ tread.from → tread.from < tread.to
    → (last.to ≡ tread.from → bytes_eq last.id.0 tread.id.0 ≡ false) → RisesAlong ((front ++ last ∷ []) ++ tread ∷ [])
rises_push [] last tread rises up some apart = (rises.0, (up, apart), (some, tt, tt))
rises_push (x ∷ []) last tread rises up some apart = (rises.0, rises.1, rises_push [] last tread rises.2 up some apart)
rises_push (x ∷ y ∷ front) last tread rises up some apart = (rises.0, rises.1, rises_push (y ∷ front) last tread rises.2 up some apart)

-- the last tread made longer
rises_longer : (front : List Tread) (last : Tread) (to : ℕ) → RisesAlong (front ++ last ∷ []) → last.to ≤ to → RisesAlong (front ++ (record last { to = to }) ∷ [])
rises_longer [] last to rises up = (omega (arith, rises.0, up), tt, tt)
rises_longer (x ∷ []) last to rises up = (rises.0, rises.1, rises_longer [] last to rises.2 up)
rises_longer (x ∷ y ∷ front) last to rises up = (rises.0, rises.1, rises_longer (y ∷ front) last to rises.2 up)

-- nothing is in a range that is empty
within_none : (from to o : ℕ) → to ≤ from → is_within from to o ≡ false
within_none from to o none = elim (cases_lt o from) [ inl low ↦ within_below from to o low | inr high ↦ within_past from to o (omega (arith, high, none)) ]

-- an empty range leaves the stair as it was
pub put_none : (from to : ℕ) (id : SegmentId) (stair : List Tread) → RisesAlong stair → to ≤ from → IsPut from to id stair stair
put_none from to id stair rises none = record {
  rises = rises;
  ends = λ at ends up. ends;
  says = λ o. rw (within_none from to o none) refl;
}

-- the first tread
pub put_first : (from to : ℕ) (id : SegmentId) (old : List Tread) → old ≡ [] → from < to → IsPut from to id old (old ++ record { from = from; to = to; id = id } ∷ [])
put_first from to id old none some = rw none (record {
  rises = (some, tt, tt);
  ends = λ at ends up. (up, tt);
  says = λ o. refl;
})

-- what a tread after the others gives
pub behind_says : (stair : List Tread) (tread : Tread) (o : ℕ) → EndsBy tread.from stair
    → id_at (stair ++ tread ∷ []) o ≡ cond (is_within tread.from tread.to o) (Some tread.id) (id_at stair o)
behind_says stair tread o ends = elim (cases_lt o tread.from) [
  | inl low ↦ id_at-append stair (tread ∷ []) o ∙ (rw (within_below tread.from tread.to o low) (at_end (id_at stair o)))
  | inr high ↦ id_at-append stair (tread ∷ []) o ∙ (rw (nothing_past stair tread.from o ends high) (refl))
]
  where
    at_end : (id : Option SegmentId) → or_else id None ≡ id
    at_end None = refl
    at_end (Some id) = refl

-- a tread after the last one
pub put_behind : (from to : ℕ) (id : SegmentId) (old front : List Tread) (last : Tread) → old ≡ front ++ last ∷ [] → RisesAlong old → EndsBy from old → from < to
    → (last.to ≡ from → bytes_eq last.id.0 id.0 ≡ false) → IsPut from to id old ((front ++ last ∷ []) ++ record { from = from; to = to; id = id } ∷ [])
put_behind from to id old front last is rises ends some apart =
    let new : Tread = record { from = from; to = to; id = id } in
    let rises' : RisesAlong (front ++ last ∷ []) = rw is at rises in
    let ends' : EndsBy from (front ++ last ∷ []) = rw is at ends in
    rw is (record {
      rises = rises_push front last new rises' (ends_back front (last ∷ []) from ends').0 some apart;
      ends = λ at before up. ends_append (front ++ last ∷ []) (new ∷ []) at before (up, tt);
      says = λ o. behind_says (front ++ last ∷ []) new o ends';
    })

-- a range that is made longer
ranges : (a b c o : ℕ) (id : SegmentId) (else : Option SegmentId) → a < b → b ≤ c
    → cond (is_within a c o) (Some id) else ≡ cond (is_within b c o) (Some id) (cond (is_within a b o) (Some id) else)
ranges a b c o id else some more = elim (cases_lt o a) [
  | inl low ↦ rw (within_below a c o low, within_below b c o (omega (arith, low, some)), within_below a b o low) refl
  | inr from ↦ elim (cases_lt o b) [
    | inl mid ↦ rw (within_true a c o from (omega (arith, mid, more)), within_below b c o mid, within_true a b o from mid) refl
    | inr over ↦ elim (cases_lt o c) [
      | inl high ↦ rw (within_true a c o from high, within_true b c o over high) refl
      | inr past ↦ rw (within_past a c o past, within_past b c o past, within_past a b o over) refl
    ]
  ]
]

-- the last tread made longer
pub put_joined : (from to : ℕ) (id : SegmentId) (old front : List Tread) (last : Tread) → old ≡ front ++ last ∷ [] → RisesAlong old → EndsBy from old → from < to
    → last.to ≡ from → bytes_eq last.id.0 id.0 ≡ true → IsPut from to id old (front ++ record { from = last.from; to = to; id = id } ∷ [])
put_joined from to id old front last is rises ends some touch same =
    let one : last.id ≡ id = same_id last.id id same in
    let rises' : RisesAlong (front ++ last ∷ []) = rw is at rises in
    let new : Tread = record { from = last.from; to = to; id = last.id } in
    let long : last.to ≤ to = omega (arith, touch, some) in
    let before = before_last front last rises' in
    rw (is, ← one, ← touch) (record {
      rises = rises_longer front last to rises' long;
      ends = λ at before up. ends_append front (new ∷ []) at (ends_front front (last ∷ []) at before) (up, tt);
      says = λ o.
          behind_says front new o before
          ∙ (ranges last.from last.to to o last.id (id_at front o) (last_some front last rises') long
          ∙ sym (ap (λ (given : Option SegmentId). cond (is_within last.to to o) (Some last.id) given) (behind_says front last o before)));
    })

-- three ranges of a tread that lie one after another
parts : (f x y t from to o : ℕ) (own id : SegmentId) (else : Option SegmentId) → f < t → from ≤ to → x ≡ min (max from f) t → y ≡ min (max to f) t
    → cond (is_within y t o) (Some own) (cond (is_within x y o) (Some id) (cond (is_within f x o) (Some own) else))
    ≡ cond (is_within f t o) (Some (cond (is_within from to o) id own)) else
parts f x y t from to o own id else some ordered first last =
    let low_x : f ≤ x = omega (arith, first, some) in
    let x_y : x ≤ y = omega (arith, first, last, ordered) in
    let y_high : y ≤ t = omega (arith, last) in
    elim (cases_lt o f) [
      | inl low ↦ rw (within_below y t o (omega (arith, low, low_x, x_y)), within_below x y o (omega (arith, low, low_x)), within_below f x o low, within_below f t o low) refl
      | inr from_f ↦ elim (cases_lt o x) [
        | inl in_first ↦ rw (within_below y t o (omega (arith, in_first, x_y)), within_below x y o in_first, within_true f x o from_f in_first, within_true f t o from_f (omega (arith, in_first, x_y, y_high)), within_below from to o (omega (arith, first, in_first, from_f))) refl
        | inr from_x ↦ elim (cases_lt o y) [
          | inl in_second ↦ rw (within_below y t o in_second, within_true x y o from_x in_second, within_true f t o from_f (omega (arith, in_second, y_high)), within_true from to o (omega (arith, first, last, from_x, in_second)) (omega (arith, first, last, from_x, in_second, from_f))) refl
          | inr from_y ↦ elim (cases_lt o t) [
            | inl in_third ↦ rw (within_true y t o from_y in_third, within_true f t o from_f in_third, within_past from to o (omega (arith, last, from_y, in_third))) refl
            | inr past ↦ rw (within_past y t o past, within_past x y o from_y, within_past f x o from_x, within_past f t o past) refl
          ]
        ]
      ]
    ]

-- a tread was put in three parts
pub was_split : (tread : Tread) (span : Span) (id : SegmentId) (x y : ℕ) (old one two new : List Tread) → tread.from < tread.to → span.from ≤ span.to
    → x ≡ min (max span.from tread.from) tread.to → y ≡ min (max span.to tread.from) tread.to → EndsBy tread.from old
    → IsPut tread.from x tread.id old one → IsPut x y id one two → IsPut y tread.to tread.id two new → IsSplit tread span id old new
was_split tread span id x y old one two new some ordered first last ends p q r = record {
  rises = r.rises;
  ends = r.ends tread.to (q.ends tread.to (p.ends tread.to (ends_weaker old tread.from tread.to ends (omega (arith, some))) (omega (arith, first))) (omega (arith, last))) (omega arith);
  says = λ o.
      r.says o
      ∙ (ap (λ (given : Option SegmentId). cond (is_within y tread.to o) (Some tread.id) given)
      (q.says o ∙ ap (λ (given : Option SegmentId). cond (is_within x y o) (Some id) given) (p.says o))
      ∙ parts tread.from x y tread.to span.from span.to o tread.id id (id_at old o) some ordered first last);
}

-- the second part is after the first
pub second_ends : (from x y : ℕ) (own id : SegmentId) (old one two : List Tread) → from ≤ y → x ≤ y → EndsBy from old → IsPut from x own old one → IsPut x y id one two → EndsBy y two
second_ends from x y own id old one two low up ends p q = q.ends y (p.ends y (ends_weaker old from y ends low) up) (omega arith)

-- treads that touch and weren't joined are of different segments
pub apart : (n m : ℕ) (same : Bool) → (n == m && same) ≡ false → n ≡ m → same ≡ false
apart n m same h touch = rw (eq-eqb n m touch) at h

-- what holds of an answer
pub on_ok : {A E P Q : Type 0} (answer : Result A E) → OnOk answer P → (P → Q) → OnOk answer Q
on_ok (Ok x) h f = f h
on_ok (Err e) h f = tt
