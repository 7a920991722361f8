use Rattle.std.proofs.Common.{◌≡◌, ◌++◌, length, List}
use Rattle.std.specs.Prelude.{vec_len}
use Rattle.script_lang.specs.declared.script.PartScript.{PartScript}
use Rattle.tiered_call.proofs.by_threads.all_begun.Given as goal

abbrev pub invariant-loop-part : goal.invariant-loop-part
invariant-loop-part l = (before : List PartScript) × (before ++ l.part-iterator.rest.items ≡ l.fn.script.parts) × (length before ≡ vec_len l.runs)
