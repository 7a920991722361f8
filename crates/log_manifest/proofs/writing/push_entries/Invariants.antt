use Rattle.std.proofs.Common.{◌≡◌, ◌++◌, drop}
use Rattle.log_manifest.specs.Spelling.{entries_bytes}
use Rattle.log_manifest.proofs.writing.push_entries.Given as goal

abbrev pub invariant-loop-entry : goal.invariant-loop-entry
invariant-loop-entry l = l.out.items ++ entries_bytes (drop l.entry-index l.entries) ≡ l.initial.out.items ++ entries_bytes l.entries
