use Rattle.std.proofs.Common.{◌≡◌, ◌++◌, drop}
use Rattle.trace_text.specs.Trace.{journal_text}
use Rattle.trace_text.proofs.trace.print.Given as goal

abbrev pub invariant-loop-entry : goal.invariant-loop-entry
invariant-loop-entry l = l.page ++ journal_text l.partition.0 (drop l.entry-index l.entries) ≡ journal_text l.partition.0 l.entries
