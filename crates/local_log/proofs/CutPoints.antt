-- Where a cut ends, a cut to that end ends too.
use Rattle.std.proofs.Common.{◌≡◌, ℕ, ◌+◌, ◌≤◌, ◌<◌, Bool, true, false, List, [], ◌∷◌, ◌++◌, map, refl, sym, ◌∙◌, ap, inl, inr, arith, lt-ltb, le-ltb}
use Rattle.std.specs.Prelude.{nat_le}
use Rattle.std.proofs.lemmas.Bool.{cases_lt, lt-leb}
use Rattle.std.proofs.lemmas.Bool.Decides.{nat_tests}
use Rattle.disk_model.specs.Content.{Files}
use Rattle.log_terms.specs.Log.{end_from, up_to}
use Rattle.log_terms.proofs.Logs.{up_to_is, up_to_prefix}
use Rattle.segment_file.specs.declared.placed.Placed.{Placed}
use Rattle.segment_file.specs.Growing.{Grown, end_after, ending_by, AreBatchesLaid}
use Rattle.segment_file.proofs.Laying.{end_up}
use Rattle.segment_file.proofs.Searching.{ending_kept}
use Rattle.log_steps.specs.Fronts.{Each}
use Rattle.local_log.specs.Stored.{all_batches, end_of, extent_of, AreChained, IsStored}
use Rattle.local_log.specs.Listing.{IsLaidOut, AreSegmentsOf, front_to}
use Rattle.local_log.specs.Cutting.{open_by, cut_point}
use Rattle.local_log.proofs.Edges.{holder, log_begin}
use Rattle.local_log.proofs.Pieces.{stored_segments, consecutive_segments}
use Rattle.local_log.proofs.Parting.{le_of, lt_of, all_laid, last_laid, front_end}

pub le_true : (a b : ℕ) → a ≤ b → nat_le a b ≡ true
le_true a b le = grind (arith, nat_tests, le)

lt_false : (a b : ℕ) → b < a → nat_le a b ≡ false
lt_false a b lt = grind (arith, nat_tests, lt)

-- the batches that end by an offset are those that end by where they end
ending_again : (base at n : ℕ) (bs : List Placed) → AreBatchesLaid base at bs → ending_by (end_after base (ending_by n bs)) bs ≡ ending_by n bs
ending_again base at n [] laid = refl
ending_again base at n (x ∷ bs) laid = elim (cases_lt x.last n) [
  | inl lt ↦ (
      let kept : ending_by n (x ∷ bs) ≡ x ∷ ending_by n bs = rw (lt-ltb x.last n lt) refl in
      let up = end_up (x.last + 1) x.to (ending_by n bs) (ending_laid (x.last + 1) x.to n bs laid.2) in
      ap (λ (l : List Placed). ending_by (end_after base l) (x ∷ bs)) kept
      ∙ first (end_after (x.last + 1) (ending_by n bs)) (omega (arith, up))
      ∙ ap (λ (l : List Placed). x ∷ l) (ending_again (x.last + 1) x.to n bs laid.2)
      ∙ sym kept
      )
  | inr ge ↦ (
      let none : ending_by n (x ∷ bs) ≡ [] = rw (le-ltb x.last n ge) refl in
      ap (λ (l : List Placed). ending_by (end_after base l) (x ∷ bs)) none ∙ rw (le-ltb x.last base laid.0) refl ∙ sym none
      )
]
  where
    first : (m : ℕ) → x.last < m → ending_by m (x ∷ bs) ≡ x ∷ ending_by m bs
    first m lt = rw (lt-ltb x.last m lt) refl

    ending_laid : (base at n : ℕ) (bs : List Placed) → AreBatchesLaid base at bs → AreBatchesLaid base at (ending_by n bs)
    ending_laid base at n [] laid = tt
    ending_laid base at n (x ∷ bs) laid = elim (cases_lt x.last n) [
      | inl lt ↦ rw (lt-ltb x.last n lt) (laid.0, laid.1, ending_laid (x.last + 1) x.to n bs laid.2)
      | inr ge ↦ rw (le-ltb x.last n ge) tt
    ]

-- the segment that holds the end of a cut is the one that holds the offset
pub record IsPoint (first end n : ℕ) (closed : List Grown) (active : Grown) : Type 0 where
  pub from : first ≤ n
  pub below : n ≤ end
  pub same : open_by n closed active ≡ open_by end closed active

front_from : (end : ℕ) (g : Grown) → IsLaidOut g → g.base ≤ end_of (front_to end g)
front_from end g laid = let k = ending_kept g.base end g.batches laid.laid in end_up g.base 0 (ending_by end g.batches) k.laid

point_in : (first end : ℕ) (closed : List Grown) (active : Grown) → AreChained first (closed ++ active ∷ []) → Each IsLaidOut (closed ++ active ∷ []) → first ≤ end
    → IsPoint first end (cut_point end closed active) closed active
point_in first end [] active c laid le =
    let up = front_from end active laid.0 in
    record { from = omega (arith, up, c.0); below = front_end active.base 0 end active.batches (omega (arith, c.0, le)); same = refl }
point_in first end (g ∷ gs) active c laid le = go (nat_le (end_of g) end) refl (λ up. point_in (end_of g) end gs active c.1 laid.1 up)
  where
    go : (t : Bool) → nat_le (end_of g) end ≡ t → (end_of g ≤ end → IsPoint (end_of g) end (cut_point end gs active) gs active) → IsPoint first end (cut_point end (g ∷ gs) active) (g ∷ gs) active
    go true is h =
        let p = h (le_of (end_of g) end is) in
        let up = end_up g.base 0 g.batches laid.0.laid in
        let from = p.from in
        rw is (record { from = omega (arith, from, up, c.0); below = p.below; same = rw (is, le_true (end_of g) (cut_point end gs active) from) p.same })
    go false is h =
        let past = lt_of (end_of g) end is in
        let up = front_from end g laid.0 in
        let low = front_end g.base 0 end g.batches (omega (arith, c.0, le)) in
        rw is (record { from = omega (arith, up, c.0); below = low; same = rw (is, lt_false (end_of g) (end_of (front_to end g)) (omega (arith, low, past))) refl })

module _ (local_start end : ℕ) (closed : List Grown) (active : Grown) (are : AreSegmentsOf local_start closed active) (from : local_start ≤ end) where
  abbrev pub point : ℕ
  point = cut_point end closed active

  pub point_is : IsPoint local_start end point closed active
  point_is = point_in local_start end closed active are.chained (all_laid local_start end closed active are from) from

  pub point_again : cut_point point closed active ≡ point
  point_again =
      let last = open_by end closed active in
      let laid = last_laid local_start end closed active are from in
      ap (λ (g : Grown). end_of (front_to point g)) point_is.same
      ∙ ap (λ (bs : List Placed). end_after last.base bs) (ending_again last.base 0 end last.batches laid.laid)

-- the segment that holds an offset is the one that a cut there opens
pub holder_open : (n : ℕ) (closed : List Grown) (active : Grown) → holder n closed active ≡ open_by n closed active
holder_open n [] active = refl
holder_open n (g ∷ gs) active = elim (cases_lt n (end_of g)) [
  | inl lt ↦ rw (lt-ltb n (end_of g) lt, lt-leb (end_of g) n lt) refl
  | inr ge ↦ rw (le-ltb n (end_of g) ge, le_true (end_of g) n ge) (holder_open n gs active)
]

-- where the batches end that end at or below an offset, the log that is cut there ends
module _ (f : Files) (line : List (ℕ × ℕ)) (first end : ℕ) (closed : List Grown) (active : Grown) (chained : AreChained first (closed ++ active ∷ [])) (stored : Each (IsStored f line) (closed ++ active ∷ [])) (from : first ≤ end) where
  abbrev pub all : List (List ℕ)
  all = all_batches f (closed ++ active ∷ [])

  pub told_end : end_from first (up_to end all) ≡ cut_point end closed active
  told_end = log_begin f line first end closed active chained stored from ∙ ap (λ (g : Grown). end_of (front_to end g)) (holder_open end closed active)

  pub told_batches : up_to (cut_point end closed active) all ≡ up_to end all
  told_batches =
      up_to_is first (cut_point end closed active) (up_to end all) all
      (consecutive_segments f line first (map extent_of (closed ++ active ∷ [])) all (stored_segments f line first (closed ++ active ∷ []) chained stored))
      (up_to_prefix end all) told_end
