-- Which entry of a line ends a piece: none up to the offset, and none past the end of the segment.
use Rattle.std.proofs.Common.{◌≡◌, refl, ℕ, zero, suc, ◌<◌, ◌≤◌, Bool, true, false, List, [], ◌∷◌, length, drop, get_or, arith, add-one, nat_le, nat_lt}
use Rattle.std.specs.Prelude.{◌&&◌}
use Rattle.std.specs.List.Sorted.{IsNonDecreasingBy, IsPartitionPoint}
use Rattle.std.proofs.lemmas.Bool.Decides.{nat_tests}
use Rattle.std.proofs.lemmas.List.Sorted.{IsNonDecreasingBy-from_all_adjacent}
use Rattle.epoch_line.specs.Line.{IsLine}
use Rattle.segment_file.specs.Growing.{Grown}
use Rattle.log_steps.specs.Fronts.{Each}
use Rattle.log_steps.proofs.Lists.{each_map}
use Rattle.local_log.specs.Stored.{end_of}
use Rattle.local_log.specs.Listing.{IsLaidOut}
use Rattle.local_log.specs.Reading.{is_edge, piece_end}
use Rattle.local_log.proofs.Edges.{and_both, edge_below}
use Rattle.local_log.proofs.Halving.{rest-point}
use Rattle.local_log.proofs.PieceStarts.{rising_below}

-- the starts of a line rise
adjacent : (line : List (ℕ × ℕ)) (k : ℕ) (d : ℕ × ℕ) → IsLine line → suc k < length line → (get_or line k d).1 ≤ (get_or line (suc k) d).1
adjacent [] k d is lt = absurd (omega (arith, lt))
adjacent (e ∷ []) k d is lt = absurd (omega (arith, lt))
adjacent (e ∷ f ∷ line) zero d is lt = let less : e.1 < f.1 = is.2.1 in omega (arith, less)
adjacent (e ∷ f ∷ line) (suc k) d is lt = adjacent (f ∷ line) k d is.3 (omega (arith, lt))

pub starts_rise : (line : List (ℕ × ℕ)) → IsLine line → IsNonDecreasingBy (λ (e : ℕ × ℕ). e.1) line
starts_rise line is = IsNonDecreasingBy-from_all_adjacent (λ (e : ℕ × ℕ). e.1) line (λ k d l. rw add-one (adjacent line k d is (omega (arith, l))))

-- the last entries of a line are a line
pub line_drop : (i : ℕ) (line : List (ℕ × ℕ)) → IsLine line → IsLine (drop i line)
line_drop zero line is = is
line_drop (suc i) [] is = tt
line_drop (suc i) (e ∷ line) is = line_drop i line is.3

module _ (segment : Grown) (offset : ℕ) where
  -- entries that start at or below the offset end no piece
  pub skipped : (line : List (ℕ × ℕ)) (i : ℕ) → IsPartitionPoint (λ (e : ℕ × ℕ). nat_le e.1 offset ≡ true) (λ (e : ℕ × ℕ). nat_le e.1 offset ≡ false) line i
      → piece_end (drop i line) segment offset ≡ piece_end line segment offset
  skipped line zero h = refl
  skipped [] (suc i) h = refl
  skipped (e ∷ line) (suc i) h =
      let yes : nat_le e.1 offset ≡ true = h.0 0 e (omega arith) (omega arith) in
      let no : nat_lt offset e.1 ≡ false = grind (arith, nat_tests, yes) in
      rw no (skipped line i (rest-point (λ (x : ℕ × ℕ). nat_le x.1 offset) e line i h))

  -- none that starts at or past the segment's end ends one before it
  past_end : (line : List (ℕ × ℕ)) → IsLaidOut segment → Each (λ (e : ℕ × ℕ). end_of segment ≤ e.1) line → piece_end line segment offset ≡ end_of segment
  past_end [] laid each = refl
  past_end (e ∷ line) laid each = go (nat_lt offset e.1 && is_edge segment e.1) refl (past_end line laid each.1)
    where
      go : (t : Bool) → (nat_lt offset e.1 && is_edge segment e.1) ≡ t → piece_end line segment offset ≡ end_of segment → piece_end (e ∷ line) segment offset ≡ end_of segment
      go true is more =
          let both = and_both (nat_lt offset e.1) (is_edge segment e.1) is in
          let below = edge_below segment e.1 laid both.1 in
          let past = each.0 in
          rw is (omega (arith, below, past))
      go false is more = rw is more

  pub ends_there : (entry : ℕ × ℕ) (line : List (ℕ × ℕ)) → IsLaidOut segment → IsLine (entry ∷ line) → end_of segment ≤ entry.1 → piece_end (entry ∷ line) segment offset ≡ end_of segment
  ends_there entry line laid is le =
      past_end (entry ∷ line) laid (le, each_map {Q = λ (e : ℕ × ℕ). end_of segment ≤ e.1} (λ e less. omega (arith, less, le)) line (rising_below entry line is))
