-- What the steps of an append leave, and those of an opening, for events that the disk has.
use Rattle.std.specs.Prelude.{◌≡◌, List, [], ◌∷◌, ◌++◌, IsTrue}
use Rattle.tier_base.specs.declared.plain.FileName.TheVariants as file
use Rattle.tier_base.specs.Device.{Fate, Went, Dry}
use Rattle.disk_model.specs.Content.{Content, Files, Image, LeavesOnly}
use Rattle.segment_meta.specs.declared.note.Note.{Note}
use Rattle.meta_log_file.specs.Notes.{frames, HasFront, OpensWithNotes}
use Rattle.meta_log_file.specs.Crash.{Reopens, OpensLike}
use Rattle.meta_log_file.specs.Stands.{HoldsNotes, HoldsOr, AllHold, EndsWith}

-- where the disk is observable, an image has the events
abbrev pub LeavesNotes : Content → List Note → Files → Type 0
LeavesNotes d notes c = IsTrue d.is_observable × HoldsNotes notes c

-- or more, and the gate after these or after all
abbrev pub LeavesOr : Content → List Note → List Note → Files → Type 0
LeavesOr d notes more c = IsTrue d.is_observable × HoldsOr notes more c

-- what follows the events is cut off
pub record Shortens (notes : List Note) (fate : Fate) (old new : Content) : Type 0 where
  pub since : LeavesOnly old new (LeavesNotes old notes)
  pub images : AllHold new notes
  pub exact : fate ≡ Went → EndsWith new notes

-- an event is written after the events, and stays
pub record WritesNote (notes : List Note) (note : Note) (fate : Fate) (old new : Content) : Type 0 where
  pub since : LeavesOnly old new (LeavesNotes old notes)
  pub images : AllHold new notes
  pub stays : fate ≡ Went → (c : Files) → Image new c → HasFront (frames (notes ++ note ∷ [])) (c file.Notes)
  pub exact : fate ≡ Went → EndsWith new (notes ++ note ∷ [])

-- the gate goes from after the events to after more of them
pub record Commits (notes more : List Note) (fate : Fate) (old new : Content) : Type 0 where
  pub since : LeavesOnly old new (LeavesOr old notes more)
  pub images : (c : Files) → Image new c → HoldsOr notes more c
  pub done : fate ≡ Went → AllHold new more
  pub dry : fate ≡ Dry → AllHold new notes

-- the events that were read are made to stay, and the gate after them
pub record Confirms (notes : List Note) (fate : Fate) (old new : Content) : Type 0 where
  pub is_observable : new.is_observable ≡ old.is_observable
  pub since : Reopens old → LeavesOnly old new (OpensLike old)
  pub same : IsTrue old.is_observable → (opened : List Note) → OpensWithNotes old.files opened
      → OpensWithNotes new.files opened
  pub done : fate ≡ Went → AllHold new notes
