use Rattle.std.proofs.Common.{◌≡◌, replicate}
use Rattle.script_lang.specs.Script.{idle}
use Rattle.script_lang.proofs.actors.Actors.new.Given as goal

abbrev pub invariant-loop : goal.invariant-loop
invariant-loop l = l.slots.items ≡ replicate l.counter idle
