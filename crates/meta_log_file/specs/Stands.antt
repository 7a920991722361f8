-- What the files of an open log have, by how the last writing call ended.
use Rattle.std.specs.Prelude.{◌≡◌, ◌⊎◌, ℕ, ◌<◌, ◌^◌, List, [], ◌∷◌, ◌++◌, length, Some, None, IsTrue}
use Rattle.tier_base.specs.declared.plain.FileName.TheVariants as file
use Rattle.tier_base.specs.Told.{bytes_in}
use Rattle.disk_model.specs.Content.{Content, Files, Image}
use Rattle.segment_meta.specs.declared.note.Note.{Note}
use Rattle.meta_log_file.specs.declared.marks.Tail.{Tail}
use Rattle.meta_log_file.specs.declared.marks.Tail.TheVariants.{Exact, Loose, Unsure}
use Rattle.meta_log_file.specs.Notes.{frames, gate_bytes, IsWritable, AreWritable, HasFront}
use Rattle.meta_log_file.specs.Ends.{ends_from}

-- the gate follows these events
abbrev pub GatedBy : Files → List Note → Type 0
GatedBy c notes = c file.Gate ≡ Some (gate_bytes (length (frames notes)))

-- an image has these events, and the gate after them
pub record HoldsNotes (notes : List Note) (c : Files) : Type 0 where
  pub gate : GatedBy c notes
  pub front : HasFront (frames notes) (c file.Notes)

-- an image has more events, and the gate after these or after all
pub record HoldsOr (notes more : List Note) (c : Files) : Type 0 where
  pub gate : GatedBy c notes ⊎ GatedBy c more
  pub front : HasFront (frames more) (c file.Notes)

-- each image has them
abbrev pub AllHold : Content → List Note → Type 0
AllHold d notes = (c : Files) → Image d c → HoldsNotes notes c

-- one event more may count, which ends there
pub record MayCount (d : Content) (notes : List Note) (end : ℕ) : Type 0 where
  pub note : Note
  pub told : IsWritable note
  pub end_is : end ≡ length (frames (notes ++ note ∷ []))
  pub low : end < 2 ^ 64
  pub images : (c : Files) → Image d c → HoldsOr notes (notes ++ note ∷ []) c

-- what reads of `notes` ends with these
abbrev pub EndsWith : Content → List Note → Type 0
EndsWith d notes = IsTrue d.is_observable → bytes_in (d.files file.Notes) ≡ frames notes

-- by how the last writing call ended
abbrev pub StandsBy : Content → List Note → Tail → Type 0
StandsBy d notes Exact = AllHold d notes × EndsWith d notes
StandsBy d notes Loose = AllHold d notes
StandsBy d notes (Unsure None) = AllHold d notes
StandsBy d notes (Unsure (Some end)) = MayCount d notes end

-- the disk has the events that end there
pub record HasNotes (d : Content) (ends : List ℕ) (tail : Tail) : Type 0 where
  pub notes : List Note
  pub told : AreWritable notes
  pub ends_are : ends ≡ ends_from 0 notes
  pub low : length (frames notes) < 2 ^ 64
  pub stands : StandsBy d notes tail

-- where the gate is is known
abbrev pub IsSure : Tail → Type 0
IsSure Exact = Unit {0}
IsSure Loose = Unit {0}
IsSure (Unsure next) = ⊥
