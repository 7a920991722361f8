-- What an opening reads of a disk.
use Rattle.std.specs.Prelude.{◌≡◌, ℕ, ◌<◌, ◌^◌, List, length, IsTrue}
use Rattle.tier_base.specs.declared.plain.FileName.TheVariants as file
use Rattle.disk_model.specs.Content.{Content}
use Rattle.segment_meta.specs.declared.note.Note.{Note}
use Rattle.meta_log_file.specs.Notes.{frames, AreWritable, GateAt, HasFront}
use Rattle.meta_log_file.specs.Ends.{ends_from}

-- events up to the gate that end there; where the disk is observable, they are at the front of its file
pub record HasEnds (d : Content) (gate : ℕ) (ends : List ℕ) : Type 0 where
  pub notes : List Note
  pub told : AreWritable notes
  pub gate_is : gate ≡ length (frames notes)
  pub ends_are : ends ≡ ends_from 0 notes
  pub front : IsTrue d.is_observable → HasFront (frames notes) (d.files file.Notes)

-- the gate and the events up to it
pub record IsGateRead (d : Content) (gate : ℕ) (ends : List ℕ) : Type 0 where
  pub at : IsTrue d.is_observable → GateAt (d.files file.Gate) gate
  pub low : gate < 2 ^ 64
  pub has : HasEnds d gate ends
