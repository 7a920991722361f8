-- What is shown of an index file: its entries as their bytes say, up to the first fault that its reader finds.
use Rattle.std.specs.Prelude.{◌≡◌, ℕ, ℤ, ◌<◌, ◌*◌, min, List, ◌++◌, length, take, Option, Some, None, Ok, Err}
use Rattle.sparse_index.specs.declared.refusal.IndexRefusal.{IndexRefusal}
use Rattle.sparse_index.specs.declared.refusal.IndexRefusal.TheVariants.{NotRising}
use Rattle.sparse_index.specs.Bytes.{bytes_of}
use Rattle.sparse_index.specs.Offsets.{OffsetTable, entry_bytes}
use Rattle.sparse_index.specs.Times.{TimeTable, moment_bytes}
use Rattle.sparse_index.specs.Reading.{ReadsOffsets, ReadsTimes}

-- the bytes begin with these entries, and fewer bytes follow than an entry has
pub record BeginsWith {E : Type 0} (spelled : E → List ℕ) (size : ℕ) (bytes : List ℕ) (entries : List E) : Type 0 where
  pub rest : List ℕ
  pub parts : bytes ≡ bytes_of spelled entries ++ rest
  pub short : length rest < size

-- the bytes before a fault: those of so many entries, or all
abbrev pub before : ℕ → Option IndexRefusal → List ℕ → List ℕ
before size (Some (NotRising at)) bytes = take (min (length bytes) (at * size)) bytes
before size fault bytes = bytes

-- what the reader of an offset index returns
abbrev pub OffsetFault : List ℕ → Option IndexRefusal → Type 0
OffsetFault bytes None = (index : OffsetTable) × ReadsOffsets 0 bytes (Ok index)
OffsetFault bytes (Some why) = ReadsOffsets 0 bytes (Err why)

-- the entries shown of an offset index: all before the fault that its reader finds
pub record ShowsOffsets (bytes : List ℕ) (entries : List (ℕ × ℕ)) (fault : Option IndexRefusal) : Type 0 where
  pub read : OffsetFault bytes fault
  pub shown : BeginsWith entry_bytes 8 (before 8 fault bytes) entries

-- what the reader of a time index returns
abbrev pub TimeFault : List ℕ → Option IndexRefusal → Type 0
TimeFault bytes None = (index : TimeTable) × ReadsTimes 0 bytes (Ok index)
TimeFault bytes (Some why) = ReadsTimes 0 bytes (Err why)

-- the entries shown of a time index: all before the fault that its reader finds
pub record ShowsTimes (bytes : List ℕ) (entries : List (ℤ × ℕ)) (fault : Option IndexRefusal) : Type 0 where
  pub read : TimeFault bytes fault
  pub shown : BeginsWith moment_bytes 12 (before 12 fault bytes) entries
