-- A cut back to where a segment ended before.
use Rattle.std.proofs.Common.{◌≡◌, ◌∙◌, ap, refl, ℕ, ◌+◌, ◌≤◌, List, [], ◌∷◌, ◌++◌, arith, lt-ltb, le-ltb}
use Rattle.segment_file.specs.declared.placed.Placed.{Placed}
use Rattle.segment_file.specs.Growing.{Grown, end_after, ending_by, AreBatchesLaid}
use Rattle.local_log.specs.Stored.{end_of}
use Rattle.local_log.specs.Taking.{HasFront}

-- after where batches end nothing is kept
ending_none : (base at : ℕ) (rest : List Placed) → AreBatchesLaid base at rest → ending_by base rest ≡ []
ending_none base at [] laid = refl
ending_none base at (x ∷ rest) laid = rw (le-ltb x.last base laid.0) refl

ending_back : (base at : ℕ) (front rest : List Placed) → AreBatchesLaid base at (front ++ rest) → ending_by (end_after base front) (front ++ rest) ≡ front
ending_back base at [] rest laid = ending_none base at rest laid
ending_back base at (x ∷ front) rest laid =
    let up = end_front (x.last + 1) x.to front rest laid.2 in
    rw (lt-ltb x.last (end_after (x.last + 1) front) (omega (arith, up))) (ap (λ (l : List Placed). x ∷ l) (ending_back (x.last + 1) x.to front rest laid.2))
  where
    end_front : (base at : ℕ) (front rest : List Placed) → AreBatchesLaid base at (front ++ rest) → base ≤ end_after base front
    end_front base at [] rest laid = omega arith
    end_front base at (x ∷ front) rest laid = let h = end_front (x.last + 1) x.to front rest laid.2 in omega (arith, h, laid.0)

pub cut_back : (old new : Grown) (end : ℕ) → end ≡ end_of old → HasFront old new → record new { batches = ending_by end new.batches } ≡ old
cut_back old new end is h =
    ap (λ (s : Grown). record s { batches = ending_by end s.batches }) h.segment_is
    ∙ ap (λ (n : ℕ). record old { batches = ending_by n (old.batches ++ h.rest) }) is
    ∙ ap (λ (l : List Placed). record old { batches = l }) (ending_back old.base 0 old.batches h.rest h.laid)
