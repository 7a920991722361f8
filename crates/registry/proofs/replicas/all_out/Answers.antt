use Rattle.std.proofs.Common.{◌≡◌, ◌+◌, ◌∙◌, sym, ap, length, List, ℕ, slice_get, slice_set, arith}
use Rattle.registry.specs.declared.registry.Replica.{Replica}
use Rattle.registry.specs.Replicas.{outsider}
use Rattle.registry.proofs.Changing.{changed, changed_more, changed_all, length-changed}
use Rattle.registry.proofs.replicas.all_out.Goals as goal

abbrev out : Replica → Replica
out s = outsider

pub loop-at-preserved : goal.loop-at-preserved
loop-at-preserved c =
    let old = c.loop-at.invariant.0 in
    let at = sym (ap (λ (k : List Replica). slice_get k c.loop-at.at) old) ∙ c.replace.ensures.before in
    let is = c.replace.ensures.now ∙ ap (λ (k : List Replica). slice_set k c.loop-at.at outsider) old
    ∙ changed_more out c.loop-at.at c.args.replicas.now c.replace.result at in
    (is, ap (λ (k : List Replica). length k) is ∙ length-changed out (c.loop-at.at + 1) c.args.replicas.now)

pub returns : goal.returns
returns c =
    let whole : c.loop-at.at ≡ length c.args.replicas.now = omega (arith, c.len-at-end.ensures, c.loop-at.auto.at-end, c.loop-at-test.false) in
    c.loop-at.invariant.0 ∙ ap (λ (k : ℕ). changed out k c.args.replicas.now) whole ∙ changed_all out c.args.replicas.now
