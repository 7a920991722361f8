-- The events that a disk's files report, as a function of the files. It is of use where they open; what they open with
-- is what the module Notes says.
use Rattle.std.specs.Prelude.{ℕ, zero, suc, ◌+◌, List, [], ◌∷◌, length, take, drop}
use Rattle.std.specs.Prelude.{if◌then◌else◌, Option, Some, None, Result, Ok, Err}
use Rattle.std.specs.Int.{w32, w64, from_be_bytes}
use Rattle.tier_base.specs.declared.plain.FileName.TheVariants as file
use Rattle.tier_base.specs.Told.{bytes_in}
use Rattle.disk_model.specs.Content as disk
use Rattle.segment_meta.specs.declared.note.Note.{Note}
use Rattle.segment_meta.specs.declared.refusal.NoteRefusal.{NoteRefusal}
use Rattle.segment_meta.specs.Reading.{note_in}
use Rattle.meta_log.specs.Content.{Content}
use Rattle.meta_log_file.specs.Notes.{OpensWithNotes}

-- an event that was read, and those after it
abbrev pub recorded : Result Note NoteRefusal → List Note → List Note
recorded (Ok note) notes = note ∷ notes
recorded (Err why) notes = []

-- the size that is at the front of bytes
unfoldable pub size_in : List ℕ → ℕ
size_in bytes = from_be_bytes w32 (take 4 bytes)

-- at most so many events, as far as bytes are such
abbrev pub notes_at : ℕ → List ℕ → List Note
notes_at zero bytes = []
notes_at (suc count) bytes =
    recorded (note_in (take (size_in bytes) (drop 4 bytes))) (notes_at count (drop (4 + size_in bytes) bytes))

-- where the gate's file has the gate
abbrev pub gate_of : Option (List ℕ) → ℕ
gate_of None = 0
gate_of (Some bytes) = from_be_bytes w64 bytes

-- the bytes up to the gate
abbrev pub gated : disk.Files → List ℕ
gated c = take (gate_of (c file.Gate)) (bytes_in (c file.Notes))

-- the events up to the gate
unfoldable pub notes_of : disk.Files → List Note
notes_of c = notes_at (length (gated c)) (gated c)

-- the events that a disk reports
abbrev pub notes_told : disk.Content → List Note
notes_told d = if d.is_observable then notes_of d.files else []

-- events with which an image of a disk opens
abbrev pub MayOpenWith : disk.Content → List Note → Type 0
MayOpenWith d notes = (c : disk.Files) × disk.Image d c × OpensWithNotes c notes

-- what the log reports whose disk has this content: a power cut leaves an image of the disk
abbrev pub told_of : disk.Content → Content
told_of d = record { is_observable = d.is_observable; notes = notes_told d; besides = MayOpenWith d }
