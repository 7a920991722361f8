use Rattle.std.proofs.Common.{◌≡◌}
use Rattle.std.specs.Prelude.{drop, Some, None}
use Rattle.script_lang.specs.Names.{call_of}
use Rattle.script_lang.proofs.Rows.{meaning}
use Rattle.script_lang.proofs.names.find_call.Given as goal

-- what the rest of the table says is what all of it says
abbrev pub invariant-loop-name : goal.invariant-loop-name
invariant-loop-name l = call_of l.word ≡ meaning (λ r. r.0.now) (λ r. Some r.1) None l.word (drop l.name-index l.name-items)
