use Rattle.std.proofs.Common.{◌≡◌, Ok, length}
use Rattle.std.specs.Prelude.{vec_len}
use Rattle.script_lang.specs.declared.script.Script.{Script}
use Rattle.script_lang.specs.Script.{script_in}
use Rattle.run_memory.proofs.MemoryDevices.{disk, store, meta}
use Rattle.tiered_call.specs.Threads.{IsSoFarByThreads}
use Rattle.tiered_call.proofs.by_threads.text_of.Given as goal

abbrev pub invariant-loop-run : goal.invariant-loop-run
invariant-loop-run l = (script : Script) → script_in l.fn.bytes ≡ Ok script → vec_len l.fn.runs ≡ length script.parts
    → IsSoFarByThreads disk store meta script.config script.parts l.place (length l.run-iterator.rest.items) l.text.items
