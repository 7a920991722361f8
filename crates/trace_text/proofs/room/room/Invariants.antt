use Rattle.std.proofs.Common.{◌+◌, ◌-◌, ◌^◌, ◌≤◌, min, length, drop}
use Rattle.trace_text.specs.Trace.{journal_text}
use Rattle.trace_text.proofs.room.room.Given as goal

abbrev pub invariant-loop-entry : goal.invariant-loop-entry
invariant-loop-entry l = min (length (journal_text l.partition.0 l.entries)) (2 ^ 64 - 1) ≤ l.room + length (journal_text l.partition.0 (drop l.entry-index l.entries))
