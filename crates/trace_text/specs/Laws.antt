-- The laws of traces: print and read are each other's inverse.
use Rattle.std.specs.Prelude.{◌≡◌, ℕ, List, map, Result, Ok, Err}
use Rattle.plain_log.specs.declared.journal.JournalEntry.{JournalEntry}
use Rattle.trace_text.specs.declared.line.PartJournal.{PartJournal}
use Rattle.trace_text.specs.declared.refusal.TraceRefusal.{TraceRefusal}
use Rattle.trace_text.specs.declared.refusal.TraceRefusal.TheVariants.{Bad, NoMemory}
use Rattle.trace_text.specs.Trace.{trace_of}
use Rattle.trace_text.specs.Read.{told, AreParts, ReadsTrace}

-- these journals were read, unless the reader was out of memory
abbrev pub ReadsAs : List (ℕ × List JournalEntry) → Result (List PartJournal) TraceRefusal → Type 0
ReadsAs parts (Ok read) = map told read ≡ parts
ReadsAs parts (Err (Bad line)) = ⊥
ReadsAs parts (Err NoMemory) = Unit {0}

-- reading what was printed returns the journals that were printed
abbrev pub PrintIsRead : Type 0
PrintIsRead = (parts : List (ℕ × List JournalEntry)) (result : Result (List PartJournal) TraceRefusal)
    → AreParts parts → ReadsTrace (trace_of parts) result → ReadsAs parts result

-- two traces with the same text are equal
abbrev pub OneTextOneTrace : Type 0
OneTextOneTrace = (a b : List (ℕ × List JournalEntry)) → AreParts a → AreParts b → trace_of a ≡ trace_of b → a ≡ b
