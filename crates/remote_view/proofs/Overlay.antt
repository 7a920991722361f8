-- A stair with an entry laid over it, tread by tread.
use Rattle.std.proofs.Common.{suc, ◌≡◌, ◌∙◌, refl, sym, ap, ℕ, ◌-◌, ◌<◌, ◌≤◌, Bool, true, false, cond, List, [], ◌∷◌, ◌++◌, Option, Some, None, length, arith, inl, inr}
use Rattle.std.specs.Prelude.{slice_get, min, max, not}
use Rattle.std.specs.Str.{bytes_eq}
use Rattle.std.proofs.lemmas.Bool.{cases_lt}
use Rattle.tier_base.specs.declared.names.SegmentId.{SegmentId}
use Rattle.segment_meta.specs.declared.note.Entry.{Entry}
use Rattle.remote_view.specs.declared.spans.Span.{Span}
use Rattle.remote_view.specs.declared.tread.Tread.{Tread}
use Rattle.remote_view.specs.Fold.{entry_of}
use Rattle.remote_view.specs.Lookup.{better_of}
use Rattle.remote_view.specs.Stairs.{is_within, id_at, IsTreadUnder, RisesAlong}
use Rattle.remote_view.specs.Laying.{EndsBy, Fits, IsPut, split_at, IsSplit, overlaid, IsSegmentLaid}
use Rattle.remote_view.proofs.Lying.{within_true, within_below, within_past}
use Rattle.remote_view.proofs.Treads.{nothing_past, nothing_below, ends_weaker, behind_says}

-- the first tread starts at an offset or after it
abbrev pub StartsFrom : ℕ → List Tread → Type 0
StartsFrom at [] = Unit {0}
StartsFrom at (tread ∷ stair) = at ≤ tread.from

-- a new stair is right below an offset, and the rest of the old one lies after it
pub record IsSoFar (entries : List Entry) (entry : Entry) (span : Span) (stair rest laid : List Tread) (at : ℕ) : Type 0 where
  pub rises : RisesAlong laid
  pub ends : EndsBy at laid
  pub says : (o : ℕ) → o < at → id_at laid o ≡ overlaid entries entry span stair o
  pub rest_rises : RisesAlong rest
  pub starts : StartsFrom at rest
  pub left : (o : ℕ) → at ≤ o → id_at stair o ≡ id_at rest o

-- nothing has been laid yet
pub at_first : (entries : List Entry) (entry : Entry) (span : Span) (stair laid : List Tread) → laid ≡ [] → RisesAlong stair → IsSoFar entries entry span stair stair laid 0
at_first entries entry span stair laid none rises = rw none (record {
  rises = tt;
  ends = tt;
  says = λ o low. absurd (omega (arith, low));
  rest_rises = rises;
  starts = any stair;
  left = λ o up. refl;
})
  where
    any : (s : List Tread) → StartsFrom 0 s
    any [] = tt
    any (x ∷ s) = omega arith

-- where the old stair gives nothing, the entry is laid
nothing_there : (entries : List Entry) (entry : Entry) (span : Span) (stair : List Tread) (o : ℕ) → id_at stair o ≡ None
    → overlaid entries entry span stair o ≡ cond (is_within span.from span.to o) (Some entry.id) None
nothing_there entries entry span stair o none = rw none refl

-- between two places a range is the same when it is cut there
cut_same : (from to a b o : ℕ) → a ≤ o → o < b → is_within (min (max from a) b) (min (max to a) b) o ≡ is_within from to o
cut_same from to a b o low high = elim (cases_lt o from) [
  | inl below ↦ within_below _ _ o (omega (arith, below, high)) ∙ sym (within_below from to o below)
  | inr above ↦ elim (cases_lt o to) [
    | inl under ↦ within_true _ _ o (omega (arith, above, low)) (omega (arith, under, high)) ∙ sym (within_true from to o above under)
    | inr past ↦ within_past _ _ o (omega (arith, past, low)) ∙ sym (within_past from to o past)
  ]
]

cut_front : (from to a o : ℕ) → a ≤ o → is_within (max from a) to o ≡ is_within from to o
cut_front from to a o low = elim (cases_lt o from) [
  | inl below ↦ within_below _ to o (omega (arith, below)) ∙ sym (within_below from to o below)
  | inr above ↦ elim (cases_lt o to) [
    | inl under ↦ within_true _ to o (omega (arith, above, low)) under ∙ sym (within_true from to o above under)
    | inr past ↦ within_past _ to o past ∙ sym (within_past from to o past)
  ]
]

-- a tread of the old stair gives its segment
own_id : (tread : Tread) (rest : List Tread) (o : ℕ) → tread.from ≤ o → o < tread.to → id_at (tread ∷ rest) o ≡ Some tread.id
own_id tread rest o low high = rw (within_true tread.from tread.to o low high) refl

-- what is read where the tread lies
on_tread : (t : Bool) (w own : SegmentId) → Some (cond t w own) ≡ cond t (Some w) (Some own)
on_tread true w own = refl
on_tread false w own = refl

next_starts : (tread : Tread) (rest : List Tread) → IsTreadUnder tread rest → StartsFrom tread.to rest
next_starts tread [] under = tt
next_starts tread (next ∷ rest) under = under.0

-- the gap before a tread lies after what was laid
pub gap_ends : (entries : List Entry) (entry : Entry) (span : Span) (stair rest laid : List Tread) (tread : Tread) (at from : ℕ)
    → IsSoFar entries entry span stair (tread ∷ rest) laid at → from ≡ min (max span.from at) tread.from → EndsBy from laid
gap_ends entries entry span stair rest laid tread at from so is_from =
    let up : at ≤ tread.from = so.starts in ends_weaker laid at from so.ends (omega (arith, up, is_from))

-- so does the tread
pub tread_ends : (entries : List Entry) (entry : Entry) (span : Span) (stair rest laid one : List Tread) (tread : Tread) (at from to : ℕ)
    → IsSoFar entries entry span stair (tread ∷ rest) laid at → to ≤ tread.from → IsPut from to entry.id laid one → EndsBy tread.from one
tread_ends entries entry span stair rest laid one tread at from to so low put = put.ends tread.from (ends_weaker laid at tread.from so.ends so.starts) low

-- one tread more
pub turn : (entries : List Entry) (entry : Entry) (span : Span) (stair rest laid one two : List Tread) (tread : Tread) (at from to : ℕ) (w : SegmentId)
    → IsSoFar entries entry span stair (tread ∷ rest) laid at → from ≡ min (max span.from at) tread.from → to ≡ min (max span.to at) tread.from
    → w ≡ (better_of (entry_of tread.id entries) entry).id → IsPut from to entry.id laid one → IsSplit tread span w one two
    → IsSoFar entries entry span stair rest two tread.to
turn entries entry span stair rest laid one two tread at from to w so is_from is_to is_w put split =
    let some = so.rest_rises.0 in
    let up : at ≤ tread.from = so.starts in
    record {
      rises = split.rises;
      ends = split.ends;
      says = λ o below. split.says o ∙ (ap (λ (given : Option SegmentId). cond (is_within tread.from tread.to o) (Some (split_at tread span w o)) given) (put.says o) ∙ elim (cases_lt o at) [
        | inl done ↦ rw (within_below tread.from tread.to o (omega (arith, done, up)), within_below from to o (omega (arith, done, is_from, up))) (so.says o done)
        | inr new ↦ elim (cases_lt o tread.from) [
          | inl gap ↦ (
              let none = so.left o new ∙ nothing_below tread rest o so.rest_rises gap in
              rw (within_below tread.from tread.to o gap, nothing_past laid at o so.ends new, is_from, is_to)
              (ap (λ (t : Bool). cond t (Some entry.id) None) (cut_same span.from span.to at tread.from o new gap) ∙ sym (nothing_there entries entry span stair o none)))
          | inr on ↦ (
              let own = so.left o new ∙ own_id tread rest o on below in
              rw (within_true tread.from tread.to o on below, own, is_w) (on_tread (is_within span.from span.to o) _ tread.id))
        ]
      ]);
      rest_rises = so.rest_rises.2;
      starts = next_starts tread rest so.rest_rises.1;
      left = λ o past. so.left o (omega (arith, past, some, up)) ∙ (rw (within_past tread.from tread.to o past) refl);
    }

-- nothing of the old stair is left
pub at_last : (entries : List Entry) (entry : Entry) (span : Span) (stair laid new : List Tread) (at from : ℕ)
    → IsSoFar entries entry span stair [] laid at → from ≡ max span.from at → IsPut from span.to entry.id laid new → IsSegmentLaid entries entry span stair new
at_last entries entry span stair laid new at from so is_from put = record {
  rises = put.rises;
  says = λ o. put.says o ∙ elim (cases_lt o at) [
    | inl done ↦ rw (within_below from span.to o (omega (arith, done, is_from))) (so.says o done)
    | inr over ↦ rw (nothing_past laid at o so.ends over, is_from) (ap (λ (t : Bool). cond t (Some entry.id) None) (cut_front span.from span.to at o over) ∙ sym (nothing_there entries entry span stair o (so.left o over)))
  ];
}

-- a stair ends where its last tread does
pub ends_with : (x : Tread) (stair : List Tread) (last : Tread) → RisesAlong (x ∷ stair) → slice_get (x ∷ stair) (length (x ∷ stair) - 1) ≡ Some last → EndsBy last.to (x ∷ stair)
ends_with x [] last rises is = let same : x ≡ last = cc in rw same (omega arith, tt)
ends_with x (y ∷ stair) last rises is =
    let same : suc (suc (length stair)) - 1 ≡ suc (length stair) = omega arith in
    let less : suc (length stair) - 1 ≡ length stair = omega arith in
    let there : slice_get (y ∷ stair) (suc (length stair) - 1) ≡ Some last = rw less (rw same at is) in
    let rest = ends_with y stair last rises.2 there in
    (omega (arith, rises.1.0, rises.2.0, rest.0), rest)

pub ends_with_last : (stair : List Tread) (last : Tread) (at : ℕ) → RisesAlong stair → slice_get stair (length stair - 1) ≡ Some last → last.to ≤ at → EndsBy at stair
ends_with_last [] last at rises is up = tt
ends_with_last (x ∷ stair) last at rises is up = ends_weaker (x ∷ stair) last.to at (ends_with x stair last rises is) up

-- one tread more after the last one, of another segment
rises_more : (x : Tread) (stair : List Tread) (last tread : Tread) → RisesAlong (x ∷ stair) → slice_get (x ∷ stair) (length (x ∷ stair) - 1) ≡ Some last → last.to ≤ tread.from
    → bytes_eq last.id.0 tread.id.0 ≡ false → tread.from < tread.to → RisesAlong ((x ∷ stair) ++ tread ∷ [])
rises_more x [] last tread rises is up other some = let same : x ≡ last = cc in rw same (rw same at rises.0, (up, λ touch. other), (some, tt, tt))
rises_more x (y ∷ stair) last tread rises is up other some =
    let same : suc (suc (length stair)) - 1 ≡ suc (length stair) = omega arith in
    let less : suc (length stair) - 1 ≡ length stair = omega arith in
    let there : slice_get (y ∷ stair) (suc (length stair) - 1) ≡ Some last = rw less (rw same at is) in
    (rises.0, rises.1, rises_more y stair last tread rises.2 there up other some)

-- a tread fits after a stair that ends below it with another segment
pub fits_behind : (stair : List Tread) (last : Tread) (from : ℕ) (id : SegmentId) → RisesAlong stair → slice_get stair (length stair - 1) ≡ Some last → last.to ≤ from → bytes_eq last.id.0 id.0 ≡ false → Fits from id stair
fits_behind [] last from id rises is up other = record { ends = tt; rises = λ to some. (some, tt, tt) }
fits_behind (x ∷ stair) last from id rises is up other = record {
  ends = ends_with_last (x ∷ stair) last from rises is up;
  rises = λ to some. rises_more x stair last (record { from = from; to = to; id = id }) rises is up other some;
}

pub fits_nothing : (stair : List Tread) (from : ℕ) (id : SegmentId) → stair ≡ [] → Fits from id stair
fits_nothing stair from id none = rw none (record { ends = tt; rises = λ to some. (some, tt, tt) })

-- so it lays an entry there
pub fit_laid : (entries : List Entry) (entry : Entry) (span : Span) (stair : List Tread) → Fits span.from entry.id stair → span.from < span.to
    → IsSegmentLaid entries entry span stair (stair ++ (record { from = span.from; to = span.to; id = entry.id }) ∷ [])
fit_laid entries entry span stair fits some = record {
  rises = fits.rises span.to some;
  says = λ o. behind_says stair (record { from = span.from; to = span.to; id = entry.id }) o fits.ends ∙ elim (cases_lt o span.from) [
    | inl low ↦ rw (within_below span.from span.to o low) refl
    | inr high ↦ rw (nothing_past stair span.from o fits.ends high) refl
  ];
}

-- what isn't true is false
pub negated : (t : Bool) → not t ≡ true → t ≡ false
negated true h = absurd (cc)
negated false h = refl
