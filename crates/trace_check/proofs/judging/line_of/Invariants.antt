use Rattle.std.proofs.Common.{◌≡◌, ◌+◌, drop, map}
use Rattle.trace_text.specs.Read.{told}
use Rattle.trace_check.specs.Verdicts.{line_of}
use Rattle.trace_check.proofs.judging.line_of.Given as goal

abbrev pub invariant-loop-journal : goal.invariant-loop-journal
invariant-loop-journal l =
    line_of (map told l.journals) l.partition.0 l.entry + (l.entry + 1) ≡ l.line + line_of (map told (drop l.journal-index l.journals)) l.partition.0 l.entry
