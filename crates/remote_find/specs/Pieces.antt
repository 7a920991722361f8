-- The pieces of remote segments that a log is read from, by the leader epochs of the log itself.
--
-- Source: KIP-405, where an offset is looked up with the leader epoch that the reading log has for it.
use Rattle.std.specs.Prelude.{◌≡◌, ℕ, ◌<◌, ◌≤◌, zero, suc, ◌+◌, ◌-◌, ◌==◌, nat_lt, nat_le, true, min, max}
use Rattle.std.specs.Prelude.{if◌then◌else◌, List, [], ◌∷◌, length, Option, Some, None, IsSome}
use Rattle.std.specs.List.{AllByRecursion}
use Rattle.log_terms.specs.Line.{epoch_at}
use Rattle.epoch_line.specs.Line.{end_of}
use Rattle.segment_meta.specs.declared.note.Entry.{Entry}
use Rattle.remote_view.specs.Fold.{entry_of}
use Rattle.remote_view.specs.Lookup.{is_readable, finished}
use Rattle.remote_find.specs.declared.piece.Piece.{Piece}

infixl 10 ◌>>=◌
-- what isn't there ends it
abbrev pub ◌>>=◌ : {A B : Type 0} → Option A → (A → Option B) → Option B
(Some x) >>= f = f x
None >>= f = None

-- where an epoch starts
abbrev pub start_of : List (ℕ × ℕ) → ℕ → Option ℕ
start_of [] epoch = None
start_of (entry ∷ line) epoch = if entry.0 == epoch then Some entry.1 else start_of line epoch

-- the part of a segment that is of an epoch, in the segment's map and in the line alike
abbrev pub clipped : List (ℕ × ℕ) → ℕ → ℕ → Entry → Option Piece
clipped line log_end epoch entry = do
  first ← start_of entry.map epoch
  own_first ← start_of line epoch
  end ← end_of entry.map epoch (entry.end + 1)
  own_end ← end_of line epoch log_end
  Some (record { id = entry.id; from = max first own_first; to = min end own_end })

-- the piece that holds an offset below the log's end: of the best segment that gives the line's epoch there
abbrev pub piece_below : List Entry → List (ℕ × ℕ) → ℕ → ℕ → Option Piece
piece_below entries line log_end offset = do
  epoch ← epoch_at line offset
  entry ← finished epoch offset entries
  clipped line log_end epoch entry

-- the piece that holds an offset
abbrev pub piece_at : List Entry → List (ℕ × ℕ) → ℕ → ℕ → Option Piece
piece_at entries line log_end offset =
    if nat_lt offset log_end then piece_below entries line log_end offset else None

-- what a piece says: it holds its offset, and lies within a finished copy's offsets and in one epoch of the line and of
-- the copy's map; where the leader epochs have no start past the log's end, it ends there or before
pub record IsPieceOf (entries : List Entry) (line : List (ℕ × ℕ)) (log_end offset epoch : ℕ) (entry : Entry)
    (piece : Piece) : Type 0 where
  pub copy : entry_of piece.id entries ≡ Some entry
  pub readable : is_readable entry.state ≡ true
  pub holds : (piece.from ≤ offset) × (offset < piece.to)
  pub within : (entry.start ≤ piece.from) × (piece.to ≤ entry.end + 1)
  pub of_line : (o : ℕ) → piece.from ≤ o → o < piece.to → epoch_at line o ≡ Some epoch
  pub of_copy : (o : ℕ) → piece.from ≤ o → o < piece.to → epoch_at entry.map o ≡ Some epoch
  pub below : AllByRecursion (λ start. start.1 ≤ log_end) line → piece.to ≤ log_end

-- what lookups give: a piece for each offset that has one
abbrev pub Pieces : Type 0
Pieces = ℕ → Option Piece

-- where one continues after a piece that there may be
abbrev pub beyond : ℕ → (ℕ → ℕ) → Option Piece → ℕ
beyond at next None = at
beyond at next (Some piece) = next piece.to

-- the end that at most so many pieces reach, one after another
abbrev pub reached : Pieces → ℕ → ℕ → ℕ
reached pieces zero at = at
reached pieces (suc most) at = beyond at (λ n. reached pieces most n) (pieces at)

-- the end that is reached; each piece continues by an offset at least
abbrev pub covered_to : List Entry → List (ℕ × ℕ) → ℕ → ℕ → ℕ
covered_to entries line log_end at = reached (piece_at entries line log_end) (log_end - at) at

-- a piece that there may be, where it ends at or below a top, and those after it
abbrev pub and_behind : ℕ → (ℕ → List Piece) → Option Piece → List Piece
and_behind top next None = []
and_behind top next (Some piece) = if nat_le piece.to top then piece ∷ next piece.to else []

-- at most so many pieces, one after another, that end at or below a top
abbrev pub chained : Pieces → ℕ → ℕ → ℕ → List Piece
chained pieces top zero at = []
chained pieces top (suc most) at = and_behind top (λ n. chained pieces top most n) (pieces at)

-- all of them
abbrev pub chain : List Entry → List (ℕ × ℕ) → ℕ → ℕ → ℕ → List Piece
chain entries line log_end at top = chained (piece_at entries line log_end) top (log_end - at) at

-- from a place up to an end each offset has a piece, and at the end there is none
pub record IsCovered (pieces : Pieces) (at end : ℕ) : Type 0 where
  pub from : at ≤ end
  pub each : (offset : ℕ) → at ≤ offset → offset < end → IsSome (pieces offset)
  pub none : pieces end ≡ None

-- each of these holds the place where the one before ends, and the first one a given place
abbrev pub AreTouching : Pieces → ℕ → List Piece → Type 0
AreTouching pieces at [] = Unit {0}
AreTouching pieces at (piece ∷ rest) =
    (pieces at ≡ Some piece) × (piece.from ≤ at) × (at < piece.to) × AreTouching pieces piece.to rest

-- they end at or below a top
abbrev pub AreBelow : ℕ → List Piece → Type 0
AreBelow top chain = AllByRecursion (λ piece. piece.to ≤ top) chain

-- the longest chain of pieces from a place on that end at or below a top
pub record IsLongest (pieces : Pieces) (at top : ℕ) (chain : List Piece) : Type 0 where
  pub touching : AreTouching pieces at chain
  pub below : AreBelow top chain
  pub longest : (other : List Piece) → AreTouching pieces at other → AreBelow top other → length other ≤ length chain
