-- What reading a trace returns.
--
-- A trace has a part for each partition that has entries, in ascending order of partitions. So the entries before an
-- entry are of its own partition or of lower ones.
use Rattle.std.specs.Prelude.{◌≡◌, ◌≢◌, ℕ, ◌+◌, ◌-◌, ◌^◌, ◌<◌, ◌≤◌, min}
use Rattle.std.specs.Prelude.{List, [], ◌∷◌, ◌++◌, length, map, All, Result, Ok, Err}
use Rattle.plain_log.specs.declared.journal.JournalEntry.{JournalEntry}
use Rattle.trace_text.specs.declared.line.PartJournal.{PartJournal}
use Rattle.trace_text.specs.declared.refusal.TraceRefusal.{TraceRefusal}
use Rattle.trace_text.specs.declared.refusal.TraceRefusal.TheVariants.{Bad, NoMemory}
use Rattle.trace_text.specs.Trace.{entry_line, trace_of}
use Rattle.trace_text.specs.Entries.{IsEntry}

-- a partition's number, and its entries
abbrev pub told : PartJournal → ℕ × List JournalEntry
told part = (part.partition.0, part.journal.items)

-- a partition that has entries, each of which can be written and read back
pub record IsJournalPart (part : ℕ × List JournalEntry) : Type 0 where
  pub partition : part.0 < 2 ^ 16
  pub some : 1 ≤ length part.1
  pub each : All IsEntry part.1

-- the partition isn't below the last so far
abbrev pub MayFollow : List (ℕ × List JournalEntry) → ℕ → Type 0
MayFollow [] partition = Unit {0}
MayFollow (part ∷ []) partition = part.0 ≤ partition
MayFollow (part ∷ next ∷ parts) partition = MayFollow (next ∷ parts) partition

-- each partition is above the one before
abbrev pub ArePartitionsRising : List (ℕ × List JournalEntry) → Type 0
ArePartitionsRising [] = Unit {0}
ArePartitionsRising (part ∷ []) = Unit {0}
ArePartitionsRising (part ∷ next ∷ parts) = (part.0 < next.0) × ArePartitionsRising (next ∷ parts)

-- the parts of a trace
pub record AreParts (parts : List (ℕ × List JournalEntry)) : Type 0 where
  pub rising : ArePartitionsRising parts
  pub each : All IsJournalPart parts

-- how many lines they have
abbrev pub lines_of : List (ℕ × List JournalEntry) → ℕ
lines_of [] = 0
lines_of (part ∷ parts) = length part.1 + lines_of parts

-- the bytes are the text of these journals
pub record IsTrace (bytes : List ℕ) (parts : List PartJournal) : Type 0 where
  pub are : AreParts (map told parts)
  pub text : bytes ≡ trace_of (map told parts)

-- the line of this number is the first that no entry has: the lines before it are a trace, and what follows is neither
-- nothing nor the line of an entry that may be there, with more after it; a number past the type's end stays there
pub record IsBadLine (bytes : List ℕ) (line : ℕ) : Type 0 where
  pub parts : List (ℕ × List JournalEntry)
  pub rest : List ℕ
  pub are : AreParts parts
  pub text : bytes ≡ trace_of parts ++ rest
  pub some : 1 ≤ length rest
  pub none : (partition : ℕ) (entry : JournalEntry) (behind : List ℕ) → partition < 2 ^ 16 → IsEntry entry
      → MayFollow parts partition → rest ≢ entry_line partition entry ++ behind
  pub number : line ≡ min (lines_of parts + 1) (2 ^ 32 - 1)

-- what the reader of a trace returns; only being out of memory is unspecified
abbrev pub ReadsTrace : List ℕ → Result (List PartJournal) TraceRefusal → Type 0
ReadsTrace bytes (Ok parts) = IsTrace bytes parts
ReadsTrace bytes (Err (Bad line)) = IsBadLine bytes line
ReadsTrace bytes (Err NoMemory) = Unit {0}
