-- What the readers of an index answer.
use Rattle.std.specs.Prelude.{◌≡◌, ◌≢◌, ℕ, ◌%◌, List, length, Ok, Err}
use Rattle.std.specs.declared.result.Result.{Result}
use Rattle.sparse_index.specs.declared.refusal.IndexRefusal.{IndexRefusal}
use Rattle.sparse_index.specs.declared.refusal.IndexRefusal.TheVariants.{BadLength, NotRising, NoMemory}
use Rattle.sparse_index.specs.Bytes.{bytes_of, IsNoIndex, IsFirstFall}
use Rattle.sparse_index.specs.Offsets.{OffsetTable, AreOffsets, entry_bytes}
use Rattle.sparse_index.specs.Times.{TimeTable, AreMoments, moment_bytes}

-- the reader of an offset index
abbrev pub ReadsOffsets : ℕ → List ℕ → Result OffsetTable IndexRefusal → Type 0
ReadsOffsets base bytes (Ok index) = (index.base ≡ base) × (bytes ≡ bytes_of entry_bytes index.entries)
ReadsOffsets base bytes (Err BadLength) = (length bytes % 8 ≢ 0) × IsNoIndex AreOffsets entry_bytes bytes
ReadsOffsets base bytes (Err (NotRising at)) =
    (length bytes % 8 ≡ 0) × IsFirstFall AreOffsets entry_bytes bytes at
ReadsOffsets base bytes (Err NoMemory) = Unit {0}

-- the reader of a time index
abbrev pub ReadsTimes : ℕ → List ℕ → Result TimeTable IndexRefusal → Type 0
ReadsTimes base bytes (Ok index) = (index.base ≡ base) × (bytes ≡ bytes_of moment_bytes index.entries)
ReadsTimes base bytes (Err BadLength) = (length bytes % 12 ≢ 0) × IsNoIndex AreMoments moment_bytes bytes
ReadsTimes base bytes (Err (NotRising at)) =
    (length bytes % 12 ≡ 0) × IsFirstFall AreMoments moment_bytes bytes at
ReadsTimes base bytes (Err NoMemory) = Unit {0}
