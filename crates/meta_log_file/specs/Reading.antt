-- What bytes say as events, and bytes that say none.
use Rattle.std.specs.Prelude.{◌≡◌, ◌≢◌, ◌⊎◌, ℕ, ◌+◌, ◌<◌, ◌^◌, List, ◌++◌, length, take, Some, None}
use Rattle.std.specs.declared.option.Option.{Option}
use Rattle.std.specs.Borrow.{Bor}
use Rattle.segment_meta.specs.declared.note.Note.{Note}
use Rattle.meta_log_file.specs.declared.marks.Tail.{Tail}
use Rattle.meta_log_file.specs.declared.marks.Tail.TheVariants.{Exact, Loose, Unsure}
use Rattle.meta_log_file.specs.Notes.{framed, frames, gate_bytes, IsWritable, AreWritable}
use Rattle.meta_log_file.specs.Ends.{ends_from, start_of}

-- no event begins these bytes
abbrev pub NoNote : List ℕ → Type 0
NoNote bytes = (note : Note) (behind : List ℕ) → IsWritable note → bytes ≢ framed note ++ behind

-- what the reader of a front answers: the event there with the bytes after it, or none where no event begins the bytes
abbrev pub ReadsFirstNote : List ℕ → Option (Note × Bor (List ℕ)) → Type 0
ReadsFirstNote bytes None = NoNote bytes
ReadsFirstNote bytes (Some found) = IsWritable found.0 × (bytes ≡ framed found.0 ++ found.1.now)

-- what the reader of all bytes answers: the events that they are, or none where they are no events
abbrev pub ReadsAll : List ℕ → Option (List Note) → Type 0
ReadsAll bytes None = (notes : List Note) → AreWritable notes → bytes ≢ frames notes
ReadsAll bytes (Some notes) = AreWritable notes × (bytes ≡ frames notes)

-- what the reader of bytes of a size answers
abbrev pub ReadsSpan : ℕ → List ℕ → Option (List Note) → Type 0
ReadsSpan size bytes None =
    (notes : List Note) → AreWritable notes → length (frames notes) ≡ size → bytes ≢ frames notes
ReadsSpan size bytes (Some notes) = AreWritable notes × (bytes ≡ frames notes) × (length (frames notes) ≡ size)

-- bytes are events that end there, the last of them at the gate
pub record EndAt (gate : ℕ) (bytes ends : List ℕ) : Type 0 where
  pub notes : List Note
  pub told : AreWritable notes
  pub bytes_are : bytes ≡ frames notes
  pub gate_is : gate ≡ length (frames notes)
  pub ends_are : ends ≡ ends_from 0 notes

-- bytes are events up to a place, which is before the gate, and no event begins there
pub record BreakAt (gate : ℕ) (bytes : List ℕ) (at : ℕ) : Type 0 where
  pub notes : List Note
  pub rest : List ℕ
  pub told : AreWritable notes
  pub bytes_are : bytes ≡ frames notes ++ rest
  pub at_is : at ≡ length (frames notes)
  pub before : at < gate
  pub none : NoNote rest

-- bytes aren't those of a gate
abbrev pub IsNoGate : List ℕ → Type 0
IsNoGate bytes = (end : ℕ) → end < 2 ^ 64 → bytes ≢ gate_bytes end

-- a gate is here, or at the next end
abbrev pub IsGateOf : ℕ → Option ℕ → ℕ → Type 0
IsGateOf here next end = (end ≡ here) ⊎ (next ≡ Some end)

-- bytes are those of neither gate
abbrev pub IsNoGateOf : ℕ → Option ℕ → List ℕ → Type 0
IsNoGateOf here next bytes = (end : ℕ) → IsGateOf here next end → end < 2 ^ 64 → bytes ≢ gate_bytes end

-- the next end, where one event more may count
abbrev pub next_end : Tail → Option ℕ
next_end Exact = None
next_end Loose = None
next_end (Unsure next) = next

-- bytes are no gate of a log whose events end there
abbrev pub IsStrangeGate : List ℕ → Tail → List ℕ → Type 0
IsStrangeGate ends tail bytes = IsNoGateOf (start_of ends (length ends)) (next_end tail) bytes

-- bytes aren't the events from a number on of a log whose events end there
abbrev pub AreStrangeNotes : List ℕ → ℕ → List ℕ → Type 0
AreStrangeNotes ends from bytes =
    (notes : List Note) → AreWritable notes → start_of ends from + length (frames notes) ≡ start_of ends (length ends)
    → bytes ≢ frames notes
