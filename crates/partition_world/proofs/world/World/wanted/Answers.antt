use Rattle.std.proofs.Common.{◌≡◌, arith}
use Rattle.std.proofs.lemmas.Result.{IfOk-weaker}
use Rattle.laws_partition.proofs.Lists.{some_at}
use Rattle.partition_world.proofs.Wanting.{wanted_none, wanted_next}
use Rattle.partition_world.proofs.world.World.wanted.Goals as goal

pub returns-then-actor_state-len : goal.returns-then-actor_state-len
returns-then-actor_state-len g c =
    let actor = some_at (λ l. l.actor.0 ≡ c.args.actor.0) c.self.inside.lists c.in-Some.place c.get-list.result.now (rw c.as_slice.ensures at c.in-Some.ensures.found) c.get-list.ensures in
    rw (← c.self.view_is) (
    wanted_none _ c.args.actor.0 c.in-Some.place c.get-list.result.now c.get-actor_state.result.now c.self.invariant.0.fit.rising
    (record { list = c.get-list.ensures; actor = actor; actor_state_is = c.get-actor_state.ensures }) (omega (arith, c.len.ensures, c.if-actor_state-len.true))
    )

pub returns : goal.returns
returns g c =
    let actor = some_at (λ l. l.actor.0 ≡ c.args.actor.0) c.self.inside.lists c.in-Some.place c.get-list.result.now (rw c.as_slice.ensures at c.in-Some.ensures.found) c.get-list.ensures in
    rw (← c.self.view_is) (
    IfOk-weaker c.want_of.result _ _ (λ wanted is. wanted_next _ c.args.actor.0 c.in-Some.place c.get-list.result.now c.get-actor_state.result.now c.self.invariant.0.fit.rising
    (record { list = c.get-list.ensures; actor = actor; actor_state_is = c.get-actor_state.ensures }) c.get-order.result.now wanted c.get-order.ensures is) c.want_of.ensures
    )
