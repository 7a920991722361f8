-- What is shown of a log segment's bytes: its batches one after another, each once and in order, up to the first
-- position without one.
use Rattle.std.specs.Prelude.{◌≡◌, ℕ, ◌+◌, ◌≤◌, List, [], ◌∷◌, ◌++◌, length, drop, Option, ◌⊎◌}
use Rattle.std.specs.Io.KnownBytes.{Consumes, IsAtEnd}
use Rattle.segment_file.specs.Walk.{size_in}
use Rattle.dump_lines.specs.declared.seeing.Shown.{Shown}
use Rattle.dump_lines.specs.declared.seeing.Ending.{Ending}
use Rattle.dump_lines.specs.declared.seeing.Seen.TheVariants.{Batch, Ends}
use Rattle.dump_lines.specs.Seen.{seen_at, place_of}

-- the batches of bytes that begin at a position, and what ends them
abbrev pub IsDump : ℕ → List ℕ → List Shown → Ending → Type 0
IsDump at bytes [] ending = seen_at at bytes ≡ Ends ending
IsDump at bytes (one ∷ others) ending =
    (seen_at at bytes ≡ Batch one) × IsDump (at + size_in one.head) (drop (size_in one.head) bytes) others ending

-- bytes were read; all batches in them were shown after those shown before, and nothing else was. What was read goes
-- to the source's end, or at least by the size of the largest batch past the last one shown
pub record Dumps (old new : Option (List ℕ)) (before after : List Shown → Type 0) (end : Ending) : Type 0 where
  pub bytes : List ℕ
  pub read : Consumes old new bytes
  pub batches : List Shown
  pub shown : (earlier : List Shown) → before earlier → after (earlier ++ batches)
  pub are : IsDump 0 bytes batches end
  pub far : IsAtEnd new ⊎ (place_of end + 1048576 ≤ length bytes)

-- a window was filled: with all that the source has left, or up to the size of the largest batch at least
pub record Fills (old new : Option (List ℕ)) (before after : List ℕ) : Type 0 where
  pub more : List ℕ
  pub taken : Consumes old new more
  pub joined : after ≡ before ++ more
  pub enough : IsAtEnd new ⊎ (1048576 ≤ length after)

-- one read appended so many bytes, and none only where the source is at its end
pub record AppendsRead (old new : Option (List ℕ)) (before after : List ℕ) (count : ℕ) : Type 0 where
  pub more : List ℕ
  pub taken : Consumes old new more
  pub joined : after ≡ before ++ more
  pub many : length more ≡ count
  pub ends : count ≡ 0 → IsAtEnd new

-- reads appended bytes
pub record HasAppended (old new : Option (List ℕ)) (before after : List ℕ) : Type 0 where
  pub more : List ℕ
  pub taken : Consumes old new more
  pub joined : after ≡ before ++ more
