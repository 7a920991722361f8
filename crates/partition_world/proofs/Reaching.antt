-- Whether pieces that are followed reach a top.
use Rattle.std.proofs.Common.{◌≡◌, sym, refl, ap, ℕ, zero, suc, ◌-◌, ◌<◌, ◌≤◌, nat_le, true, false, List, Option, Some, None, arith}
use Rattle.std.proofs.lemmas.Bool.{le-leb}
use Rattle.epoch_line.specs.Line.{IsLine}
use Rattle.segment_meta.specs.declared.note.Entry.{Entry}
use Rattle.remote_view.specs.Fold.{AreEntriesValid, AreDistinct}
use Rattle.remote_find.specs.declared.piece.Piece.{Piece}
use Rattle.remote_find.specs.Pieces.{Pieces, piece_at, beyond, reached}
use Rattle.remote_find.proofs.Clipping.{piece_lies}
use Rattle.remote_find.proofs.Following.{reached_none, reached_all}

-- pieces that are followed end at or past the place
reached_past : (pieces : Pieces) → ((o : ℕ) (p : Piece) → pieces o ≡ Some p → o < p.to) → (most at : ℕ) → at ≤ reached pieces most at
reached_past pieces on zero at = omega arith
reached_past pieces on (suc most) at = by (pieces at) refl (λ p. reached_past pieces on most p.to)
  where
    by : (o : Option Piece) → pieces at ≡ o → ((p : Piece) → p.to ≤ reached pieces most p.to) → at ≤ beyond at (λ n. reached pieces most n) o
    by None is more = omega arith
    by (Some p) is more = let up = on at p is in let far = more p in omega (arith, up, far)

-- the top is reached already
pub reaches_already : (entries : List Entry) (line : List (ℕ × ℕ)) (log_end most at all top : ℕ) → AreEntriesValid entries → AreDistinct entries → IsLine line
    → top ≤ at → reached (piece_at entries line log_end) most at ≡ all → true ≡ nat_le top all
reaches_already entries line log_end most at all top kept distinct rises low e =
    let past = reached_past (piece_at entries line log_end) (λ o p is. (piece_lies entries line log_end o p kept distinct rises is).2.holds.1) most at in
    sym (le-leb top all (omega (arith, low, past, e)))

-- it isn't, and no piece is left
pub reaches_not : (pieces : Pieces) (n i at all top : ℕ) → i < n → at < top → pieces at ≡ None → reached pieces (n - i) at ≡ all → false ≡ nat_le top all
reaches_not pieces n i at all top below high none e =
    let same = reached_none pieces n i at all below none e in
    rw (← same) (grind (arith, high))

-- as many pieces were passed as there may be
pub reaches_at_last : (pieces : Pieces) (n i at all top : ℕ) → n ≤ i → reached pieces (n - i) at ≡ all → nat_le top at ≡ nat_le top all
reaches_at_last pieces n i at all top passed e = ap (λ k. nat_le top k) (reached_all pieces n i at all passed e)
