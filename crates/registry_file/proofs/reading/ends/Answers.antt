use Rattle.std.proofs.Common.{◌+◌, ◌<◌, ◌++◌, ◌∷◌, [], ◌≡◌, length, sym, arith, length-append}
use Rattle.registry.proofs.Eight.{end_put}
use Rattle.registry_file.proofs.Ends.{end_taken}
use Rattle.registry_file.specs.Reading.{ends_at}
use Rattle.registry_file.proofs.reading.ends.Goals as goal

pub loop-b-preserved : goal.loop-b-preserved
loop-b-preserved c =
    let l = c.loop-b in
    let front = l.invariant.0 in
    let p = c.in_ok-end.end in
    let long : length (front ++ p ∷ []) ≡ l.b + 1 = grind (arith, length-append, l.invariant.1) in
    let few : l.b < 8 = omega (arith, c.loop-b-test.true, c.requires) in
    let put = end_put l.b front l.acked p few l.invariant.1 l.invariant.2 in
    let taken = end_taken c.args.count l.b front p l.rest.now c.in_ok-end.behind.now (ends_at c.args.count 29 c.args.bytes.now) c.loop-b-test.true (sym c.in_ok-end.ensures) l.invariant.3 in
    (front ++ p ∷ [], long, put, taken)
