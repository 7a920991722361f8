use Rattle.std.proofs.Common.{◌≡◌, ◌+◌, ◌∙◌, sym, ap, length, List, ℕ, slice_get, slice_set, arith}
use Rattle.plain_log.specs.declared.state.Broker.{Broker}
use Rattle.cold_state.specs.Cold.{cold_broker}
use Rattle.registry.proofs.Changing.{changed, changed_more, changed_all, length-changed}
use Rattle.plain_executor.proofs.cooling.take_all_down.Goals as goal

pub loop-b-preserved : goal.loop-b-preserved
loop-b-preserved c =
    let old = c.loop-b.invariant.0 in
    let x = c.at_mut.result.now in
    let at = sym (ap (λ (k : List Broker). slice_get k c.loop-b.b) old) ∙ c.at_mut.ensures.value in
    let is = ap (λ (y : Broker). slice_set c.loop-b.brokers c.loop-b.b y) c.take_down.ensures
    ∙ ap (λ (k : List Broker). slice_set k c.loop-b.b (cold_broker x)) old ∙ changed_more cold_broker c.loop-b.b c.args.brokers.now x at in
    (is, ap (λ (k : List Broker). length k) is ∙ length-changed cold_broker (c.loop-b.b + 1) c.args.brokers.now)

pub returns : goal.returns
returns c =
    let whole : c.loop-b.b ≡ length c.args.brokers.now = omega (arith, c.len-b-end.ensures, c.loop-b.auto.b-end, c.loop-b-test.false) in
    c.loop-b.invariant.0 ∙ ap (λ (k : ℕ). changed cold_broker k c.args.brokers.now) whole ∙ changed_all cold_broker c.args.brokers.now
