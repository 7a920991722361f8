-- What a search passes over.
use Rattle.std.proofs.Common.{◌≡◌, refl, ℕ, ◌<◌, ◌≤◌, ◌&&◌, nat_le, nat_lt, Bool, true, false, cond, ℤ, List, [], ◌∷◌, Some, arith}
use Rattle.std.specs.Prelude.{int_lt}
use Rattle.std.proofs.lemmas.Bool.{ltb-true, and_parts}
use Rattle.epoch_line.specs.Line.{IsLine}
use Rattle.local_log.specs.Stored.{end_of}
use Rattle.segment_file.specs.Growing.{Grown, latest_ts}
use Rattle.segment_meta.specs.declared.note.Entry.{Entry}
use Rattle.remote_view.specs.Fold.{AreEntriesValid, AreDistinct}
use Rattle.remote_find.specs.declared.piece.Piece.{Piece}
use Rattle.remote_find.specs.Pieces.{piece_at}
use Rattle.remote_find.proofs.Clipping.{piece_lies}
use Rattle.time_find.specs.Passing.{is_passed, passed_over}

-- a piece ends past its offset
pub ends_past : (entries : List Entry) (line : List (ℕ × ℕ)) (log_end at : ℕ) (piece : Piece) → AreEntriesValid entries → AreDistinct entries → IsLine line
    → piece_at entries line log_end at ≡ Some piece → at < piece.to
ends_past entries line log_end at piece kept distinct rises found = (piece_lies entries line log_end at piece kept distinct rises found).2.holds.1

-- a segment that is passed ends past the cursor
passed_ends : (ts : ℤ) (at : ℕ) (segment : Grown) → is_passed ts at segment ≡ true → at < end_of segment
passed_ends ts at segment h =
    let late = and_parts (nat_le segment.base at && nat_lt at (end_of segment)) (int_lt (latest_ts segment.batches) ts) h in
    ltb-true _ _ (and_parts (nat_le segment.base at) (nat_lt at (end_of segment)) late.0).1

-- a cursor that passes over segments doesn't fall
pub passed_up : (ts : ℤ) (at : ℕ) (closed : List Grown) → at ≤ passed_over ts at closed
passed_up ts at [] = omega arith
passed_up ts at (segment ∷ closed) = by (is_passed ts at segment) refl (passed_up ts (end_of segment) closed) (passed_up ts at closed)
  where
    by : (t : Bool) → is_passed ts at segment ≡ t → end_of segment ≤ passed_over ts (end_of segment) closed → at ≤ passed_over ts at closed
        → at ≤ passed_over ts (cond t (end_of segment) at) closed
    by true h up stays = let past = passed_ends ts at segment h in omega (arith, up, past)
    by false h up stays = stays
