-- A metadata log in two files of a disk. Numbers are big endian.
--
-- `notes`, events one after another:
--
--   at  size    field
--    0       4  length of the event
--    4  length  the event, as segment_meta's module Spelling has it
--
-- `gate`:
--
--   at  size  field
--    0     8  the length of `notes` up to which its events count
--
-- After the gate `notes` may have any bytes: an append that didn't come to its end left them. An absent gate is at 0,
-- and an absent `notes` has no bytes.
use Rattle.std.specs.Prelude.{◌≡◌, ℕ, ◌<◌, ◌^◌, List, [], ◌∷◌, ◌++◌, length, Option, Some, None}
use Rattle.std.specs.Int.{w32, w64, to_be_bytes}
use Rattle.tier_base.specs.declared.plain.FileName.TheVariants as file
use Rattle.tier_base.specs.Told.{bytes_in}
use Rattle.disk_model.specs.Content.{Files}
use Rattle.segment_meta.specs.declared.note.Note.{Note}
use Rattle.segment_meta.specs.Rules.{IsNote, NoteFits}
use Rattle.segment_meta.specs.Spelling.{note_bytes}

-- an event as it is in the file: its length, and its bytes
unfoldable pub framed : Note → List ℕ
framed note = to_be_bytes w32 (length (note_bytes note)) ++ note_bytes note

-- events one after another
abbrev pub frames : List Note → List ℕ
frames [] = []
frames (note ∷ notes) = framed note ++ frames notes

-- the bytes of the gate's file
unfoldable pub gate_bytes : ℕ → List ℕ
gate_bytes end = to_be_bytes w64 end

-- an event that a program may report
pub record IsWritable (note : Note) : Type 0 where
  pub rules : IsNote note
  pub fits : NoteFits note

-- each event
abbrev pub AreWritable : List Note → Type 0
AreWritable [] = Unit {0}
AreWritable (note ∷ notes) = IsWritable note × AreWritable notes

-- where the gate's file has the gate
abbrev pub GateAt : Option (List ℕ) → ℕ → Type 0
GateAt None end = end ≡ 0
GateAt (Some bytes) end = (end < 2 ^ 64) × (bytes ≡ gate_bytes end)

-- the file has these bytes at its front
pub record HasFront (bytes : List ℕ) (held : Option (List ℕ)) : Type 0 where
  pub behind : List ℕ
  pub is : bytes_in held ≡ bytes ++ behind

-- an image opens with these events: they are up to its gate
pub record OpensWithNotes (c : Files) (notes : List Note) : Type 0 where
  pub told : AreWritable notes
  pub gate : GateAt (c file.Gate) (length (frames notes))
  pub front : HasFront (frames notes) (c file.Notes)
