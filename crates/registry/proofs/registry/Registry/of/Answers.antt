use Rattle.std.proofs.Common.{◌≡◌, ◌+◌, ◌++◌, ◌∷◌, [], length, arith, length-append}
use Rattle.registry.proofs.Viewing.{replica_made}
use Rattle.registry.proofs.registry.Registry.of.Goals as goal

pub loop-b-preserved : goal.loop-b-preserved
loop-b-preserved c =
    let view = c.args.view.now in
    let l = c.loop-b in
    let long : length (l.replicas ++ c.replica.result ∷ []) ≡ l.b + 1 = grind (arith, length-append, l.invariant.0) in
    let made = replica_made view.brokers l.b view.in_sync view.acked l.replicas _ c.replica.result c.loop-b-test.true c.replica.ensures.in_sync c.replica.ensures.acked l.invariant.1 in
    rw (c.in_ok-push.ensures.ok) (long, made)
