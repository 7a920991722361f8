use Rattle.std.proofs.Common.{◌≡◌, ◌++◌, drop}
use Rattle.registry_file.specs.Spelling.{ends_bytes}
use Rattle.registry_file.proofs.writing.push_ends.Given as goal

abbrev pub invariant-loop-end : goal.invariant-loop-end
invariant-loop-end l = l.out.items ++ ends_bytes (drop l.end-index l.ends) ≡ l.initial.out.items ++ ends_bytes l.ends
