use Rattle.std.proofs.Common.{◌≡◌, drop}
use Rattle.remote_view.specs.Lookup.{due}
use Rattle.remote_view.proofs.lookup.due_in.Given as goal

abbrev pub invariant-loop-entry : goal.invariant-loop-entry
invariant-loop-entry l = due l.start (drop l.entry-index l.entries) ≡ due l.start l.entries
