use Rattle.std.proofs.Common.{subst, ℕ, List}
use Rattle.std.proofs.lemmas.Result.{IfOk-weaker}
use Rattle.run_memory.proofs.MemoryDevices.{disk, store, meta}
use Rattle.tiered_call.specs.Headline.{IsTraceOfScript}
use Rattle.tiered_call.proofs.Threaded.{trace_in_some_order}
use Rattle.tiered_call.proofs.by_threads.trace_by_threads.Goals as goal

pub returns-in-Ok-None-clause-trace : goal.returns-in-Ok-None-clause-trace
returns-in-Ok-None-clause-trace g c =
    IfOk-weaker c.trace_of.result _ _
    (λ text is. trace_in_some_order disk store meta c.args.bytes.now text.items (subst (λ (k : List ℕ). IsTraceOfScript disk store meta k text.items) c.as_slice-in-Ok-None.ensures is))
    c.trace_of.ensures.trace
