use Rattle.std.proofs.Common.{◌≡◌, ap, subst, ℕ, ◌+◌, List, length, arith}
use Rattle.tiered_call.specs.Threads.{AddsThreadedRun, IsSoFarByThreads}
use Rattle.run_memory.proofs.MemoryDevices.{disk, store, meta}
use Rattle.tiered_call.proofs.Threaded.{so_far_more}
use Rattle.tiered_call.proofs.by_threads.text_of.Goals as goal

pub loop-run-preserved : goal.loop-run-preserved
loop-run-preserved c = λ script reads many.
    let so = c.loop-run.invariant script reads many in
    let is = c.is_of.ensures.0 (grind (arith, c.if-not-is_of.false)) in
    let left : length c.loop-run.run-iterator.rest.items ≡ length c.next.new.self.rest.items + 1 = omega (arith, ap length c.in-Some.ensures.steps.0) in
    let adds : AddsThreadedRun disk store meta c.args.bytes.now c.loop-run.place c.loop-run.text.items c.in_ok-text.text.items =
    subst (λ (k : List ℕ). AddsThreadedRun disk store meta k c.loop-run.place c.loop-run.text.items c.in_ok-text.text.items) is.script_is
    (subst (λ (n : ℕ). AddsThreadedRun disk store meta c.in-Some.run'.script n c.loop-run.text.items c.in_ok-text.text.items) is.place_is c.in_ok-text.ensures) in
    so_far_more disk store meta c.args.bytes.now script c.loop-run.place (length c.next.new.self.rest.items) c.loop-run.text.items c.in_ok-text.text.items reads
    (subst (λ (n : ℕ). IsSoFarByThreads disk store meta script.config script.parts c.loop-run.place n c.loop-run.text.items) left so) adds
