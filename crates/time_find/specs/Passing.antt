-- What a search passes over: what is too early as a whole.
--
-- A remote segment is too early where the greatest timestamp that its entry gives is below the one that is looked for,
-- and a closed segment of the local log where its own batches' is.
use Rattle.std.specs.Prelude.{◌≡◌, ℕ, ◌<◌, ◌≤◌, min, nat_lt, nat_le, ◌&&◌, if◌then◌else◌, ℤ, int_lt}
use Rattle.std.specs.Prelude.{Bool, true, false, List, [], ◌∷◌, Option, Some, None}
use Rattle.segment_file.specs.Growing.{Grown, latest_ts}
use Rattle.local_log.specs.Stored.{end_of}
use Rattle.segment_meta.specs.declared.note.Entry.{Entry}
use Rattle.plain_log.specs.declared.answer.Answer.TheVariants.{Damaged}
use Rattle.plain_log.specs.declared.answer.Place.TheVariants.{Meta}
use Rattle.remote_view.specs.Fold.{EntriesSeen, entry_of}
use Rattle.remote_find.specs.declared.piece.Piece.{Piece}
use Rattle.remote_find.specs.Pieces.{piece_at}
use Rattle.time_find.specs.declared.turn.Asked.{Asked}
use Rattle.time_find.specs.declared.turn.SearchStep.TheVariants.{Seek, Times}
use Rattle.time_find.specs.declared.turn.SearchStep.{SearchStep}
use Rattle.plain_log.specs.declared.turn.Turn.{Turn}
use Rattle.plain_log.specs.declared.turn.Turn.TheVariants.{Goes, Ends}

-- the local log

-- a closed segment holds the offset, and is too early
abbrev pub is_passed : ℤ → ℕ → Grown → Bool
is_passed ts at segment = nat_le segment.base at && nat_lt at (end_of segment) && int_lt (latest_ts segment.batches) ts

-- where a search comes to that passes over closed segments, in their order
abbrev pub passed_over : ℤ → ℕ → List Grown → ℕ
passed_over ts at [] = at
passed_over ts at (segment ∷ closed) = passed_over ts (if is_passed ts at segment then end_of segment else at) closed

-- the remote tier

-- a remote segment is too early, by its entry
abbrev pub is_early : ℤ → Option Entry → Bool
is_early ts None = false
is_early ts (Some entry) = int_lt entry.max_ts ts

-- up to where remote segments are searched: the local log, or the known high watermark where that is lower
abbrev pub top_in : Asked → ℕ
top_in asked = min asked.local asked.mark

-- up to where one of their pieces is
abbrev pub top_of : Asked → Piece → ℕ
top_of asked piece = min piece.to asked.mark

-- from one cursor to another, below a top, each piece is of a segment that is too early
pub data Passes (asked : Asked) (line : List (ℕ × ℕ)) (entries : List Entry) : ℕ → ℕ → Type 0 where
  Stays : (at : ℕ) → Passes asked line entries at at
  Over : (cursor at : ℕ) → (piece : Piece) → Passes asked line entries cursor at → at < top_in asked
      → piece_at entries line asked.log_end at ≡ Some piece → is_early asked.ts (entry_of piece.id entries) ≡ true
      → Passes asked line entries cursor piece.to

-- it ends at the top
pub record SeeksOn (asked : Asked) (line : List (ℕ × ℕ)) (entries : List Entry) (cursor at : ℕ) : Type 0 where
  pub passes : Passes asked line entries cursor at
  pub far : top_in asked ≤ at

-- it ends below the top, at a piece that isn't of such a segment
pub record SeeksPiece (asked : Asked) (line : List (ℕ × ℕ)) (entries : List Entry) (cursor at : ℕ)
    (piece : Piece) : Type 0 where
  pub passes : Passes asked line entries cursor at
  pub below : at < top_in asked
  pub found : piece_at entries line asked.log_end at ≡ Some piece
  pub late : is_early asked.ts (entry_of piece.id entries) ≡ false

-- it ends below the top, where the view has no piece
pub record SeeksNothing (asked : Asked) (line : List (ℕ × ℕ)) (entries : List Entry) (cursor : ℕ) : Type 0 where
  pub at : ℕ
  pub passes : Passes asked line entries cursor at
  pub below : at < top_in asked
  pub none : piece_at entries line asked.log_end at ≡ None

-- what a view shows to a search: a missing piece is damage of the metadata log
abbrev pub Seeks : Asked → List (ℕ × ℕ) → EntriesSeen → ℕ → Turn (ℕ × SearchStep) → Type 0
Seeks asked line view cursor (Goes (at, Seek)) = SeeksOn asked line view.entries cursor at
Seeks asked line view cursor (Goes (at, Times piece)) = SeeksPiece asked line view.entries cursor at piece
Seeks asked line view cursor (Goes (at, other)) = ⊥
Seeks asked line view cursor (Ends (Damaged Meta n)) = SeeksNothing asked line view.entries cursor × (n ≡ view.notes)
Seeks asked line view cursor (Ends answer) = ⊥
