-- A stair without the treads of one segment.
use Rattle.std.proofs.Common.{◌≡◌, ◌∙◌, refl, sym, ℕ, ◌+◌, ◌<◌, ◌≤◌, Bool, true, false, cond, List, [], ◌∷◌, Some, None, length, drop, arith, inl, inr}
use Rattle.std.specs.Prelude.{filter, not, max, nat_le}
use Rattle.std.specs.List.{AllByRecursion}
use Rattle.std.specs.Str.{bytes_eq}
use Rattle.std.proofs.lemmas.Bool.{and_parts, leb-true, cases_lt}
use Rattle.std.proofs.lemmas.List.{drop_more}
use Rattle.tier_base.specs.declared.names.SegmentId.{SegmentId}
use Rattle.remote_view.specs.declared.tread.Tread.{Tread}
use Rattle.remote_view.specs.Stairs.{is_within, id_at, IsTreadUnder, RisesAlong, HasAll, begins_with}
use Rattle.remote_view.specs.Laying.{in_place, of_others, IsLifted}
use Rattle.remote_view.proofs.Lying.{within_says, within_below, within_past}

-- each tread starts at an offset or after it
abbrev Behind : ℕ → List Tread → Type 0
Behind at stair = AllByRecursion (λ tread. at ≤ tread.from) stair

behind_weaker : (stair : List Tread) (at later : ℕ) → at ≤ later → Behind later stair → Behind at stair
behind_weaker [] at later up h = tt
behind_weaker (x ∷ stair) at later up h = (omega (arith, up, h.0), behind_weaker stair at later up h.1)

-- treads lie after the one before
rises_behind : (tread : Tread) (stair : List Tread) → RisesAlong (tread ∷ stair) → Behind tread.to stair
rises_behind tread [] rises = tt
rises_behind tread (next ∷ stair) rises =
    let rest = rises_behind next stair rises.2 in
    (rises.1.0, behind_weaker stair tread.to next.to (omega (arith, rises.1.0, rises.2.0)) rest)

filter_behind : (test : Tread → Bool) (stair : List Tread) (at : ℕ) → Behind at stair → Behind at (filter test stair)
filter_behind test [] at h = tt
filter_behind test (x ∷ stair) at h = by (test x) (filter_behind test stair at h.1)
  where
    by : (t : Bool) → Behind at (filter test stair) → Behind at (cond t (x ∷ filter test stair) (filter test stair))
    by true rest = (h.0, rest)
    by false rest = rest

-- so none of them is where the one before lies
nothing_before : (stair : List Tread) (at o : ℕ) → Behind at stair → o < at → id_at stair o ≡ None
nothing_before [] at o h low = refl
nothing_before (x ∷ stair) at o h low = rw (within_below x.from x.to o (omega (arith, h.0, low))) (nothing_before stair at o h.1 low)

-- treads that lie apart from one don't touch it
under_far : (tread : Tread) (stair : List Tread) (at : ℕ) → tread.to < at → Behind at stair → IsTreadUnder tread stair
under_far tread [] at low h = tt
under_far tread (x ∷ stair) at low h = (omega (arith, low, h.0), λ touch. absurd (omega (arith, touch, low, h.0)))

module _ (id : SegmentId) where
  under_lifted : (tread : Tread) (stair : List Tread) → RisesAlong (tread ∷ stair) → IsTreadUnder tread (filter (of_others id) stair)
  under_lifted tread [] rises = tt
  under_lifted tread (next ∷ stair) rises = by (of_others id next)
    where
      by : (t : Bool) → IsTreadUnder tread (cond t (next ∷ filter (of_others id) stair) (filter (of_others id) stair))
      by true = rises.1
      by false =
          under_far tread (filter (of_others id) stair) next.to (omega (arith, rises.1.0, rises.2.0))
          (filter_behind (of_others id) stair next.to (rises_behind next stair rises.2))

  lifted_rises : (stair : List Tread) → RisesAlong stair → RisesAlong (filter (of_others id) stair)
  lifted_rises [] rises = tt
  lifted_rises (tread ∷ stair) rises = by (of_others id tread) (lifted_rises stair rises.2)
    where
      by : (t : Bool) → RisesAlong (filter (of_others id) stair) → RisesAlong (cond t (tread ∷ filter (of_others id) stair) (filter (of_others id) stair))
      by true rest = (rises.0, under_lifted tread stair rises, rest)
      by false rest = rest

  lifted_says : (stair : List Tread) → RisesAlong stair → (o : ℕ) → id_at (filter (of_others id) stair) o ≡ in_place id None (id_at stair o)
  lifted_says [] rises o = refl
  lifted_says (tread ∷ stair) rises o = by (bytes_eq tread.id.0 id.0) (is_within tread.from tread.to o) refl refl (lifted_says stair rises.2 o)
    where
      by : (same t : Bool) → bytes_eq tread.id.0 id.0 ≡ same → is_within tread.from tread.to o ≡ t → id_at (filter (of_others id) stair) o ≡ in_place id None (id_at stair o)
          → id_at (cond (not same) (tread ∷ filter (of_others id) stair) (filter (of_others id) stair)) o ≡ in_place id None (cond t (Some tread.id) (id_at stair o))
      by true true is here rest =
          let low = (within_says tread.from tread.to o here).1 in
          rw is (nothing_before (filter (of_others id) stair) tread.to o (filter_behind (of_others id) stair tread.to (rises_behind tread stair rises)) low)
      by true false is here rest = rest
      by false true is here rest = rw (here, is) refl
      by false false is here rest = rw here rest

  -- without its treads a stair gives nothing in the segment's place
  pub is_lifted : (stair new : List Tread) → RisesAlong stair → new ≡ filter (of_others id) stair → IsLifted id stair new
  is_lifted stair new rises is = rw is (record { rises = lifted_rises stair rises; says = lifted_says stair rises })

-- without its first tread a stair gives nothing in the segment's place, where no other is of the segment
taken_front : (id : SegmentId) (end : ℕ) (t : Tread) (rest : List Tread) → RisesAlong (t ∷ rest) → begins_with id end (t ∷ rest) ≡ true
    → ((o : ℕ) → end ≤ o → in_place id None (id_at (t ∷ rest) o) ≡ id_at (t ∷ rest) o) → IsLifted id (t ∷ rest) rest
taken_front id end t rest rises first own = record { rises = rises.2; says = says }
  where
    both : (nat_le end t.to ≡ true) × (bytes_eq t.id.0 id.0 ≡ true)
    both = and_parts (nat_le end t.to) (bytes_eq t.id.0 id.0) first

    before : (u : Bool) → None ≡ in_place id None (cond u (Some t.id) None)
    before true = rw both.1 refl
    before false = refl

    says : (o : ℕ) → id_at rest o ≡ in_place id None (id_at (t ∷ rest) o)
    says o = elim (cases_lt o t.to) [
      | inl low ↦ rw (nothing_before rest t.to o (rises_behind t rest rises) low) (before (is_within t.from t.to o))
      | inr past ↦
          let ends = leb-true end t.to both.0 in
          let same : in_place id None (id_at rest o) ≡ id_at rest o = rw (within_past t.from t.to o past) at (own o (omega (arith, ends, past))) in
          rw (within_past t.from t.to o past) (sym same)
    ]

pub taken_first : (id : SegmentId) (end gone : ℕ) (treads : List Tread) → gone < length treads → RisesAlong (drop gone treads) → begins_with id end (drop gone treads) ≡ true
    → ((o : ℕ) → end ≤ o → in_place id None (id_at (drop gone treads) o) ≡ id_at (drop gone treads) o) → IsLifted id (drop gone treads) (drop (gone + 1) treads)
taken_first id end gone [] low rises first own = absurd (omega (arith, low))
taken_first id end gone (x ∷ treads) low rises first own =
    let here = drop_more (x ∷ treads) gone x low in
    rw here (taken_front id end _ _ (rw here at rises) (rw here at first) (rw here at own))

-- a run after the segment keeps its treads
pub lifted_run : (id : SegmentId) (stair new : List Tread) (from to later end : ℕ) → IsLifted id stair new → later ≡ max from end
    → ((o : ℕ) → end ≤ o → in_place id None (id_at stair o) ≡ id_at stair o) → HasAll from to stair → HasAll later to new
lifted_run id stair new from to later end lifted start own all o low high =
    let says : id_at new o ≡ id_at stair o = lifted.says o ∙ own o (omega (arith, start, low)) in
    rw says (all o (omega (arith, start, low)) high)

pub none_lifted : (id : SegmentId) (stair new : List Tread) → stair ≡ [] → new ≡ [] → IsLifted id stair new
none_lifted id stair new none same = rw (none, same) (record { rises = tt; says = λ o. refl })
