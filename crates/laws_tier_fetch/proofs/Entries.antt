-- The entries of a segment's offset index: they rise, and their bytes give them.
use Rattle.std.proofs.Common.{◌≡◌, ◌∙◌, sym, ap, subst, refl, ℕ, ◌+◌, ◌-◌, Bool, true, false, List, [], ◌∷◌, ◌++◌, length, arith, append_assoc, append-nil}
use Rattle.std.specs.List.{AllByRecursion}
use Rattle.log_terms.specs.Batch.{last_of}
use Rattle.log_terms.specs.Log.{joined}
use Rattle.sparse_index.specs.Bytes.{bytes_of}
use Rattle.sparse_index.specs.Offsets.{FitsEntry, Rises, AreOffsets, entry_bytes}
use Rattle.sparse_index.proofs.BytesLaws.{pieces-same, chain-all}
use Rattle.sparse_index.proofs.OffsetLaws.{IsWide, entry-same, offsets-push}
use Rattle.segment_file.specs.Index.{Marks, placed, placed_from, is_due, with_offset, unmarked, marked, marked_by, index_of}
use Rattle.segment_file.specs.Marking.{MayMark}
use Rattle.segment_file.specs.Segment.{IsSegment}
use Rattle.segment_file.proofs.Laying.{marked_append}
use Rattle.segment_file.proofs.Placing.{placed_push}
use Rattle.segment_file.proofs.Tracking.{may_mark}

-- entries of eight bytes each are identified by their bytes
wide_same : (xs ys : List (ℕ × ℕ)) → AllByRecursion IsWide xs → AllByRecursion IsWide ys → bytes_of entry_bytes xs ≡ bytes_of entry_bytes ys → xs ≡ ys
wide_same [] [] h k is = refl
wide_same [] (y ∷ ys) h k is = absurd (cc (is))
wide_same (x ∷ xs) [] h k is = absurd (cc (is))
wide_same (x ∷ xs) (y ∷ ys) h k is =
    let parts = pieces-same (entry_bytes x) (entry_bytes y) (bytes_of entry_bytes xs) (bytes_of entry_bytes ys) refl is in
    ap (λ (z : ℕ × ℕ). z ∷ xs) (entry-same x y h.0 k.0 parts.0) ∙ ap (λ (zs : List (ℕ × ℕ)). y ∷ zs) (wide_same xs ys h.1 k.1 parts.1)

wide : (entries : List (ℕ × ℕ)) → AreOffsets entries → AllByRecursion IsWide entries
wide entries h = chain-all FitsEntry IsWide Rises (λ x fits. (omega (arith, fits.0), omega (arith, fits.1))) entries h

pub entries_same : (xs ys : List (ℕ × ℕ)) → AreOffsets xs → AreOffsets ys → bytes_of entry_bytes xs ≡ bytes_of entry_bytes ys → xs ≡ ys
entries_same xs ys h k is = wide_same xs ys (wide xs h) (wide ys k) is

-- the entries with that of a batch, where it is due
one_more : (base interval : ℕ) (marks : Marks) (batch : List ℕ) (at : ℕ) → AreOffsets marks.entries → MayMark base marks (placed at batch)
    → AreOffsets (with_offset base interval marks.entries marks.size (placed at batch).last)
one_more base interval marks batch at h m = by (is_due interval marks.entries marks.size) refl
  where
    by : (t : Bool) → is_due interval marks.entries marks.size ≡ t → AreOffsets (with_offset base interval marks.entries marks.size (placed at batch).last)
    by true is =
        let from = m.from_base in
        let near = m.near in
        rw is (offsets-push marks.entries (last_of batch - base, marks.size) h (omega (arith, from, near), m.small) m.offsets)
    by false is = rw is h

-- the front's entries, and those of all
rising : (base interval : ℕ) (front rest : List (List ℕ)) → IsSegment base (front ++ rest) → AreOffsets (marked_by base interval (unmarked base) (placed_from 0 front)).entries
    → AreOffsets (marked_by base interval (unmarked base) (placed_from 0 (front ++ rest))).entries
rising base interval front [] s h = subst (λ (l : List (List ℕ)). AreOffsets (marked_by base interval (unmarked base) (placed_from 0 l)).entries) (sym (append-nil front)) h
rising base interval front (batch ∷ rest) s h =
    let whole : (front ++ batch ∷ []) ++ rest ≡ front ++ batch ∷ rest = append_assoc front (batch ∷ []) rest in
    let marks = marked_by base interval (unmarked base) (placed_from 0 front) in
    let none : 0 + length (joined front) ≡ length (joined front) = omega arith in
    let next : marked_by base interval (unmarked base) (placed_from 0 (front ++ batch ∷ [])) ≡ marked base interval marks (placed (length (joined front)) batch) =
    ap (marked_by base interval (unmarked base)) (placed_push 0 front batch)
    ∙ ap (λ (n : ℕ). marked_by base interval (unmarked base) (placed_from 0 front ++ placed n batch ∷ [])) none
    ∙ marked_append base interval (unmarked base) (placed_from 0 front) (placed (length (joined front)) batch ∷ []) in
    let more = one_more base interval marks batch (length (joined front)) h (may_mark base interval front rest batch s) in
    subst (λ (l : List (List ℕ)). AreOffsets (marked_by base interval (unmarked base) (placed_from 0 l)).entries) whole
    (rising base interval (front ++ batch ∷ []) rest (subst (IsSegment base) (sym whole) s) (subst (λ (m : Marks). AreOffsets m.entries) (sym next) more))

pub index_rises : (base interval : ℕ) (batches : List (List ℕ)) → IsSegment base batches → AreOffsets (index_of base interval (placed_from 0 batches)).entries
index_rises base interval batches s = rising base interval [] batches s tt
