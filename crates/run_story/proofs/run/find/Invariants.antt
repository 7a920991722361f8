use Rattle.std.proofs.Common.{◌≡◌, drop, map}
use Rattle.trace_text.specs.Read.{told}
use Rattle.run_story.specs.Moments.{journal_of}
use Rattle.run_story.proofs.run.find.Given as goal

abbrev pub invariant-loop-journal : goal.invariant-loop-journal
invariant-loop-journal l = journal_of (map told l.journals) l.partition.0 ≡ journal_of (map told (drop l.journal-index l.journals)) l.partition.0
