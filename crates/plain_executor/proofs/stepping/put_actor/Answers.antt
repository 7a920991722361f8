use Rattle.std.proofs.Common.{◌∙◌, sym, arith}
use Rattle.plain_executor.proofs.Actors.{put_set, put_push, put_last}
use Rattle.plain_executor.proofs.stepping.put_actor.Goals as goal

pub returns-then-a-len : goal.returns-then-a-len
returns-then-a-len c = sym (put_set c.args.actors.now.items c.args.a c.args.actor (omega (arith, c.args.actors.now.ok)))

pub loop-actors-preserved : goal.loop-actors-preserved
loop-actors-preserved c =
    let p = put_push c.loop-actors.actors.items c.args.a c.args.actor (omega (arith, c.loop-actors.actors.ok)) in
    record {
      within = omega arith;
      room = omega arith;
      same = rw c.push_reserved.ensures.items (p ∙ c.loop-actors.invariant.same);
    }

pub returns : goal.returns
returns c =
    let p = put_last c.loop-actors.actors.items c.args.a c.args.actor (omega (arith, c.loop-actors.actors.ok)) in
    c.push_reserved-2.ensures.items ∙ (sym p ∙ c.loop-actors.invariant.same)
