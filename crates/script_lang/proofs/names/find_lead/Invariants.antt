use Rattle.std.proofs.Common.{◌≡◌}
use Rattle.std.specs.Prelude.{drop}
use Rattle.script_lang.specs.Names.{lead_of}
use Rattle.script_lang.proofs.Rows.{meaning, lead_without_name}
use Rattle.script_lang.proofs.names.find_lead.Given as goal

-- what the rest of the table says is what all of it says
abbrev pub invariant-loop-name : goal.invariant-loop-name
invariant-loop-name l = lead_of l.word ≡ meaning (λ r. r.0.now) (λ r. r.1) (lead_without_name l.word) l.word (drop l.name-index l.name-items)
