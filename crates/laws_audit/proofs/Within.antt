-- The part of a log's leader epochs within its last batches is their own leader epochs.
use Rattle.std.proofs.Common.{◌≡◌, ◌≢◌, ◌∙◌, inl, inr, refl, ap, sym, subst, ℕ, ◌+◌, ◌<◌, ◌≤◌, List, [], ◌∷◌, ◌++◌, Option, Some, arith}
use Rattle.std.specs.Prelude.{filter}
use Rattle.std.proofs.lemmas.Bool.{lt-ltb, le-leb, le-ltb}
use Rattle.log_terms.specs.Batch.{base_of, last_of, epoch_of}
use Rattle.log_terms.specs.Line.{line_of, line_after, epoch_at}
use Rattle.log_terms.specs.Log.{IsConsecutive, end_from, end_of}
use Rattle.log_terms.proofs.Logs.{end_above, end_append, consecutive_prefix}
use Rattle.epoch_line.specs.Line.{at_base, within}
use Rattle.epoch_line.proofs.Parts.{is_within, within-not}
use Rattle.laws_partition.proofs.Lines.{cases_eq, after_same, after_other}
use Rattle.tier_safe.proofs.Agreeing.{map_at, back_at}

module _ (base last : ℕ) where
  abbrev inside : List (ℕ × ℕ) → List (ℕ × ℕ)
  inside line = filter (is_within base last) line

  -- an entry past the base and not past the last offset stays
  stays : (one : ℕ × ℕ) (line : List (ℕ × ℕ)) → base < one.1 → one.1 ≤ last → inside (one ∷ line) ≡ one ∷ inside line
  stays one line low high = rw (lt-ltb base one.1 low, le-leb one.1 last high) refl

  -- so do all of batches past the base
  all_stay : (e n : ℕ) (bs : List (List ℕ)) → base < n → IsConsecutive n bs → end_from n bs ≤ last + 1 → inside (line_after e bs) ≡ line_after e bs
  all_stay e n [] low c high = refl
  all_stay e n (b ∷ bs) low c high =
      let up = end_above (last_of b + 1) bs c.1 in
      let next : base < last_of b + 1 = omega (arith, low, c.0) in
      elim (cases_eq (epoch_of b) e) [
        | inl same ↦
            ap inside (after_same e b bs same)
            ∙ (all_stay e (last_of b + 1) bs next c.1 high ∙ sym (after_same e b bs same))
        | inr differs ↦
            ap inside (after_other e b bs differs)
            ∙ (stays (epoch_of b, base_of b) (line_after (epoch_of b) bs) (omega (arith, low, c.0)) (omega (arith, up, high))
            ∙ (ap (λ (l : List (ℕ × ℕ)). (epoch_of b, base_of b) ∷ l) (all_stay (epoch_of b) (last_of b + 1) bs next c.1 high)
            ∙ sym (after_other e b bs differs)))
      ]

  -- of batches that begin at the base, what comes after the first
  first_goes : (b : List ℕ) (bs : List (List ℕ)) → IsConsecutive base (b ∷ bs) → end_from base (b ∷ bs) ≤ last + 1
      → inside (line_of (b ∷ bs)) ≡ line_after (epoch_of b) bs
  first_goes b bs c high =
      within-not (epoch_of b, base_of b) base last (line_after (epoch_of b) bs) (omega (arith, c.0))
      ∙ all_stay (epoch_of b) (last_of b + 1) bs (omega (arith, c.0)) c.1 high

  -- of those after others that end at the base, it too
  front_goes : (e n : ℕ) (front : List (List ℕ)) (b : List ℕ) (bs : List (List ℕ)) → IsConsecutive n (front ++ b ∷ bs) → end_from n front ≡ base
      → end_from base (b ∷ bs) ≤ last + 1 → inside (line_after e (front ++ b ∷ bs)) ≡ line_after (epoch_of b) bs
  front_goes e n [] b bs c ends high =
      let here : IsConsecutive base (b ∷ bs) = subst (λ (k : ℕ). IsConsecutive k (b ∷ bs)) ends c in
      elim (cases_eq (epoch_of b) e) [
        | inl same ↦
            ap inside (after_same e b bs same)
            ∙ (all_stay e (last_of b + 1) bs (omega (arith, here.0)) here.1 high
            ∙ ap (λ (k : ℕ). line_after k bs) (sym same))
        | inr differs ↦ ap inside (after_other e b bs differs) ∙ first_goes b bs here high
      ]
  front_goes e n (x ∷ front) b bs c ends high =
      let up = end_above (last_of x + 1) front (consecutive_prefix (last_of x + 1) front (front ++ b ∷ bs) (b ∷ bs, refl) c.1) in
      let low : base_of x ≤ base = omega (arith, up, ends) in
      elim (cases_eq (epoch_of x) e) [
        | inl same ↦ ap inside (after_same e x (front ++ b ∷ bs) same) ∙ front_goes e (last_of x + 1) front b bs c.1 ends high
        | inr differs ↦
            ap inside (after_other e x (front ++ b ∷ bs) differs)
            ∙ (within-not (epoch_of x, base_of x) base last (line_after (epoch_of x) (front ++ b ∷ bs)) low
            ∙ front_goes (epoch_of x) (last_of x + 1) front b bs c.1 ends high)
      ]

  -- and so of a log that has them at its end
  all_go : (front : List (List ℕ)) (b : List ℕ) (bs : List (List ℕ)) → IsConsecutive 0 (front ++ b ∷ bs) → end_of front ≡ base
      → end_from base (b ∷ bs) ≤ last + 1 → inside (line_of (front ++ b ∷ bs)) ≡ line_after (epoch_of b) bs
  all_go [] b bs c ends high = first_goes b bs (subst (λ (k : ℕ). IsConsecutive k (b ∷ bs)) ends c) high
  all_go (x ∷ front) b bs c ends high =
      let up = end_above (last_of x + 1) front (consecutive_prefix (last_of x + 1) front (front ++ b ∷ bs) (b ∷ bs, refl) c.1) in
      within-not (epoch_of x, base_of x) base last (line_after (epoch_of x) (front ++ b ∷ bs)) (omega (arith, up, ends))
      ∙ front_goes (epoch_of x) (last_of x + 1) front b bs c.1 ends high

  -- the base has the first one's epoch
  base_at : (front : List (List ℕ)) (b : List ℕ) (bs : List (List ℕ)) → IsConsecutive 0 (front ++ b ∷ bs) → IsConsecutive base (b ∷ bs) → end_of front ≡ base
      → epoch_at (line_of (front ++ b ∷ bs)) base ≡ Some (epoch_of b)
  base_at front b bs c here ends =
      let up = end_above (last_of b + 1) bs here.1 in
      let end = end_append 0 front (b ∷ bs) in
      map_at 0 (front ++ b ∷ bs) base c (omega arith) (omega (arith, end, up, here.0))
      ∙ (back_at 0 front (b ∷ bs) base c (omega (arith, ends))
      ∙ rw (le-ltb base (base_of b) (omega (arith, here.0)), le-leb base (last_of b) (omega (arith, here.0))) refl)

pub within_whole : (front batches : List (List ℕ)) (base last : ℕ) → batches ≢ [] → IsConsecutive 0 (front ++ batches) → IsConsecutive base batches → end_of front ≡ base
    → last + 1 ≡ end_from base batches → within (line_of (front ++ batches)) base last ≡ line_of batches
within_whole front [] base last some c here ends end = absurd (some refl)
within_whole front (b ∷ bs) base last some c here ends end =
    ap (λ (o : Option ℕ). at_base o base ++ inside base last (line_of (front ++ b ∷ bs))) (base_at base last front b bs c here ends)
    ∙ (ap (λ (l : List (ℕ × ℕ)). (epoch_of b, base) ∷ l) (all_go base last front b bs c ends (omega (arith, end)))
    ∙ ap (λ (n : ℕ). (epoch_of b, n) ∷ line_after (epoch_of b) bs) (sym here.0))
