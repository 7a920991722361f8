use Rattle.std.proofs.Common.{◌≡◌}
use Rattle.std.specs.Prelude.{drop}
use Rattle.script_lang.specs.Names.{offset_of}
use Rattle.script_lang.specs.declared.names.OffsetName.TheVariants as offset
use Rattle.script_lang.proofs.Rows.{meaning}
use Rattle.script_lang.proofs.names.find_offset.Given as goal

-- what the rest of the table says is what all of it says
abbrev pub invariant-loop-name : goal.invariant-loop-name
invariant-loop-name l = offset_of l.word ≡ meaning (λ r. r.0.now) (λ r. r.1) offset.Unknown l.word (drop l.name-index l.name-items)
