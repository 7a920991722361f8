use Rattle.std.proofs.Common.{◌≡◌}
use Rattle.std.specs.Prelude.{drop}
use Rattle.script_lang.specs.Names.{device_of}
use Rattle.script_lang.specs.declared.names.DeviceName.TheVariants as device
use Rattle.script_lang.proofs.Rows.{meaning}
use Rattle.script_lang.proofs.names.find_device.Given as goal

-- what the rest of the table says is what all of it says
abbrev pub invariant-loop-name : goal.invariant-loop-name
invariant-loop-name l = device_of l.word ≡ meaning (λ r. r.0.now) (λ r. r.1) device.Unknown l.word (drop l.name-index l.name-items)
