use Rattle.std.proofs.Common.{◌≡◌, ◌+◌, ◌∙◌, sym, ap, length, List, ℕ, slice_get, slice_set, arith}
use Rattle.registry.specs.declared.registry.Replica.{Replica}
use Rattle.registry.specs.Replicas.{renewed}
use Rattle.registry.proofs.Changing.{changed, changed_more, changed_all, length-changed}
use Rattle.registry.proofs.replicas.reset.Goals as goal

pub loop-at-preserved : goal.loop-at-preserved
loop-at-preserved c =
    let f : Replica → Replica = renewed c.args.mark in
    let old = c.loop-at.invariant.0 in
    let put : c.replace.new.self ≡ slice_set c.loop-at.replicas c.loop-at.at (f c.get.result.now) =
    c.replace.ensures.now ∙ ap (λ (k : Replica). slice_set c.loop-at.replicas c.loop-at.at k) c.renewed-replica.ensures in
    let at = sym (ap (λ (k : List Replica). slice_get k c.loop-at.at) old) ∙ c.get.ensures in
    let is = put ∙ ap (λ (k : List Replica). slice_set k c.loop-at.at (f c.get.result.now)) old
    ∙ changed_more f c.loop-at.at c.args.replicas.now c.get.result.now at in
    (is, ap (λ (k : List Replica). length k) is ∙ length-changed f (c.loop-at.at + 1) c.args.replicas.now)

pub returns : goal.returns
returns c =
    let whole : c.loop-at.at ≡ length c.args.replicas.now = omega (arith, c.len-at-end.ensures, c.loop-at.auto.at-end, c.loop-at-test.false) in
    c.loop-at.invariant.0 ∙ ap (λ (k : ℕ). changed (renewed c.args.mark) k c.args.replicas.now) whole ∙ changed_all (renewed c.args.mark) c.args.replicas.now
