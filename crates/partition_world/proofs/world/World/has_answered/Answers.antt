use Rattle.std.proofs.Common.{◌≡◌, arith}
use Rattle.laws_partition.proofs.Lists.{some_at}
use Rattle.partition_world.proofs.WorldSound.{answers_now, answers_so_far}
use Rattle.partition_world.proofs.world.World.has_answered.Goals as goal

pub returns-then-number-actor_state : goal.returns-then-number-actor_state
returns-then-number-actor_state g c =
    let actor = some_at (λ l. l.actor.0 ≡ c.args.actor.0) c.self.inside.lists c.in-Some.place c.get-list.result.now (rw c.as_slice.ensures at c.in-Some.ensures.found) c.get-list.ensures in
    rw (← c.self.view_is) (
    answers_now g.D.Disk g.S.Store g.M.MetaLog _ c.args.actor.0 c.args.number c.in-Some.place c.get-list.result.now c.get-actor_state.result.now c.self.invariant.0
    (record { list = c.get-list.ensures; actor = actor; actor_state_is = c.get-actor_state.ensures }) c.if-number-actor_state.true
    )

pub returns-else-number-actor_state : goal.returns-else-number-actor_state
returns-else-number-actor_state g c =
    let actor = some_at (λ l. l.actor.0 ≡ c.args.actor.0) c.self.inside.lists c.in-Some.place c.get-list.result.now (rw c.as_slice.ensures at c.in-Some.ensures.found) c.get-list.ensures in
    rw (← c.self.view_is, c.len.ensures) (
    answers_so_far g.D.Disk g.S.Store g.M.MetaLog _ c.args.actor.0 c.args.number c.in-Some.place c.get-list.result.now c.get-actor_state.result.now c.self.invariant.0
    (record { list = c.get-list.ensures; actor = actor; actor_state_is = c.get-actor_state.ensures }) (λ le. absurd (omega (arith, le, c.if-number-actor_state.false)))
    )
