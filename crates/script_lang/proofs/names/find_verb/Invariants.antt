use Rattle.std.proofs.Common.{◌≡◌}
use Rattle.std.specs.Prelude.{drop}
use Rattle.script_lang.specs.Names.{verb_of}
use Rattle.script_lang.specs.declared.names.Verb.TheVariants as verb
use Rattle.script_lang.proofs.Rows.{meaning}
use Rattle.script_lang.proofs.names.find_verb.Given as goal

-- what the rest of the table says is what all of it says
abbrev pub invariant-loop-name : goal.invariant-loop-name
invariant-loop-name l = verb_of l.word ≡ meaning (λ r. r.0.now) (λ r. r.1) verb.Unknown l.word (drop l.name-index l.name-items)
