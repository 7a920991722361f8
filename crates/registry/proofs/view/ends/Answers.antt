use Rattle.std.proofs.Common.{◌≡◌, ◌∙◌, ◌<◌, length, take, false, arith, length-take}
use Rattle.registry.specs.declared.registry.Replica.{Replica}
use Rattle.registry.specs.View.{acked_ends}
use Rattle.registry.proofs.Eight.{end_put}
use Rattle.registry.proofs.Viewing.{ends_more, length-ends}
use Rattle.registry.proofs.view.ends.Goals as goal

pub loop-b-preserved : goal.loop-b-preserved
loop-b-preserved c =
    let l = c.loop-b in
    let all = c.args.replicas.now in
    let d : Replica = record { in_sync = false; acked = 0 } in
    let few : l.b < 8 = omega (arith, c.loop-b-test.true, c.requires) in
    let size : length (take l.b all) ≡ l.b = grind (arith, length-take, c.loop-b-test.true) in
    let long : length (acked_ends (take l.b all)) ≡ l.b = length-ends (take l.b all) ∙ size in
    rw (ends_more all l.b d c.loop-b-test.true) (end_put l.b (acked_ends (take l.b all)) l.acked _ few long l.invariant)
