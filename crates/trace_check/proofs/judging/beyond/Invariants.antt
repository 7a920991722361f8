use Rattle.std.proofs.Common.{ℕ, ◌<◌, List, take, map}
use Rattle.std.specs.Prelude.{All}
use Rattle.plain_log.specs.declared.journal.JournalEntry.{JournalEntry}
use Rattle.trace_text.specs.Read.{told}
use Rattle.trace_check.proofs.judging.beyond.Given as goal

abbrev pub invariant-loop-journal : goal.invariant-loop-journal
invariant-loop-journal l = All (λ (j : ℕ × List JournalEntry). j.0 < l.count) (map told (take l.journal-index l.journals))
