use Rattle.std.proofs.Common.{◌≡◌, ◌++◌, refl, arith, length, slice_set}
use Rattle.log_terms.proofs.Lists.{within}
use Rattle.laws_partition.proofs.Lists.{some_at}
use Rattle.partition_world.specs.ActorStates.{actor_state_after, told_of}
use Rattle.partition_world.specs.Turns.{TurnRow, StaysTier}
use Rattle.partition_world.proofs.Halting.{stays_some}
use Rattle.partition_world.proofs.Counts.{may_stop, may_try, told_more, counted_after, counted_after_none}
use Rattle.partition_world.proofs.WorldSound.{at_end, list_at, order_at, room_at, sound_after, sound_after_none, steps_of}
use Rattle.partition_world.proofs.world.World.take_turn.Goals as goal

pub returns-then-number-len : goal.returns-then-number-len
returns-then-number-len g c =
    let lists = c.self.inside.lists in
    let actor = some_at (λ l. l.actor.0 ≡ c.args.actor.0) lists c.in-Some.place c.get-list.result.now (rw c.as_slice.ensures at c.in-Some.ensures.found) c.get-list.ensures in
    rw (← c.self.view_is) (
      at_end g.D.Disk g.S.Store g.M.MetaLog _ c.args.actor.0 c.in-Some.place c.get-list.result.now c.get-actor_state.result.now c.self.invariant.0.fit.rising
          (record { list = c.get-list.ensures; actor = actor; actor_state_is = c.get-actor_state.ensures }) (omega (arith, c.len.ensures, c.if-number-len.true)),
      refl,
    )

pub turn_at-requires-clause-node : goal.turn_at-requires-clause-node
turn_at-requires-clause-node g c =
    let order = order_at g.D.Disk g.S.Store g.M.MetaLog c.self.inside.config c.self.inside.lists c.self.inside.partition_state c.self.inside.tier.broker_tiers c.self.inside.desk c.self.inside.journal.room c.in-Some.place c.get-actor_state.result.now.number
    c.get-list.result.now c.get-order.result.now c.self.invariant.0 c.get-list.ensures c.get-order.ensures in
    omega (arith, order.broker, c.self.invariant.0.partition_state.count)

pub turn_at-requires-clause-fit : goal.turn_at-requires-clause-fit
turn_at-requires-clause-fit g c =
    (order_at g.D.Disk g.S.Store g.M.MetaLog c.self.inside.config c.self.inside.lists c.self.inside.partition_state c.self.inside.tier.broker_tiers c.self.inside.desk c.self.inside.journal.room c.in-Some.place c.get-actor_state.result.now.number
    c.get-list.result.now c.get-order.result.now c.self.invariant.0 c.get-list.ensures c.get-order.ensures).command

pub turn_at-requires-clause-place : goal.turn_at-requires-clause-place
turn_at-requires-clause-place g c = within c.self.inside.desk _ c.get-actor_state.result.now c.get-actor_state.ensures

pub turn_at-requires-clause-in_progress : goal.turn_at-requires-clause-in_progress
turn_at-requires-clause-in_progress g c = rw c.get-actor_state.ensures (c.self.invariant.0.works c.in-Some.place c.get-list.result.now c.get-actor_state.result.now c.get-order.result.now c.get-list.ensures c.get-actor_state.ensures c.get-order.ensures)

pub turn_at-requires-clause-stops : goal.turn_at-requires-clause-stops
turn_at-requires-clause-stops g c =
    let order = order_at g.D.Disk g.S.Store g.M.MetaLog c.self.inside.config c.self.inside.lists c.self.inside.partition_state c.self.inside.tier.broker_tiers c.self.inside.desk c.self.inside.journal.room c.in-Some.place c.get-actor_state.result.now.number
    c.get-list.result.now c.get-order.result.now c.self.invariant.0 c.get-list.ensures c.get-order.ensures in
    may_stop c.self.inside.lists c.self.inside.partition_state c.self.inside.tier.broker_tiers c.self.inside.desk (length c.self.inside.journal.items) c.get-order.result.now.broker.0 c.self.invariant.3
    (omega (arith, order.broker, c.self.invariant.0.partition_state.count))

pub turn_at-requires-clause-tries : goal.turn_at-requires-clause-tries
turn_at-requires-clause-tries g c =
    let order = order_at g.D.Disk g.S.Store g.M.MetaLog c.self.inside.config c.self.inside.lists c.self.inside.partition_state c.self.inside.tier.broker_tiers c.self.inside.desk c.self.inside.journal.room c.in-Some.place c.get-actor_state.result.now.number
    c.get-list.result.now c.get-order.result.now c.self.invariant.0 c.get-list.ensures c.get-order.ensures in
    may_try c.self.inside.lists c.self.inside.partition_state c.self.inside.tier.broker_tiers c.self.inside.desk (length c.self.inside.journal.items) c.get-order.result.now.broker.0 c.self.invariant.3
    (omega (arith, order.broker, c.self.invariant.0.sided))

pub enter-requires-clause-place : goal.enter-requires-clause-place
enter-requires-clause-place g c = rw c.turn_at.ensures.desk (within c.self.inside.desk _ c.get-actor_state.result.now c.get-actor_state.ensures)

pub enter-requires-clause-few : goal.enter-requires-clause-few
enter-requires-clause-few g c =
    let list = list_at g.D.Disk g.S.Store g.M.MetaLog c.self.inside.config c.self.inside.lists c.self.inside.partition_state c.self.inside.tier.broker_tiers c.self.inside.desk c.self.inside.journal.room c.in-Some.place c.get-list.result.now c.self.invariant.0 c.get-list.ensures in
    rw (c.turn_at.ensures.desk, c.get-actor_state.ensures) (omega (arith, list.few, c.len.ensures, c.if-number-len.false))

pub enter-requires-clause-room : goal.enter-requires-clause-room
enter-requires-clause-room g c =
    room_at g.D.Disk g.S.Store g.M.MetaLog c.self.inside.config c.self.inside.lists c.self.inside.partition_state c.self.inside.tier.broker_tiers c.self.inside.desk c.self.inside.journal.room c.in-Some.place c.get-list.result.now c.get-actor_state.result.now c.self.invariant.0
    c.get-list.ensures c.get-actor_state.ensures (omega (arith, c.len.ensures, c.if-number-len.false))

pub invariant_of-self : goal.invariant_of-self
invariant_of-self g c =
    let desk = some_at (λ actor_state. c.enter.new.desk ≡ slice_set c.self.inside.desk c.in-Some.place (actor_state_after actor_state c.in-Ok.outcome)) c.self.inside.desk c.in-Some.place c.get-actor_state.result.now (rw c.turn_at.ensures.desk at c.enter.ensures.desk) c.get-actor_state.ensures in
    let row = some_at (λ actor_state. TurnRow g.D.Disk g.S.Store g.M.MetaLog c.self.inside.partition c.self.inside.config c.self.inside.partition_state c.self.inside.tier c.get-order.result.now.broker.0 actor_state.in_progress c.get-order.result.now.command c.in-Ok.outcome c.turn_at.new.partition_state c.turn_at.new.self)
    c.self.inside.desk c.in-Some.place c.get-actor_state.result.now c.in-Ok.ensures.row c.get-actor_state.ensures in
    let entered = some_at (λ actor_state. c.enter.new.journal.items ≡ c.self.inside.journal.items ++ told_of c.get-list.result.now.actor actor_state.number c.get-order.result.now.command c.in-Ok.outcome) c.self.inside.desk c.in-Some.place c.get-actor_state.result.now (rw c.turn_at.ensures.desk at c.enter.ensures.entered) c.get-actor_state.ensures in (
      sound_after g.D.Disk g.S.Store g.M.MetaLog c.self.inside.config c.self.inside.lists c.self.inside.partition c.self.inside.partition_state c.self.inside.tier c.turn_at.new.partition_state c.turn_at.new.self c.self.inside.desk c.enter.new.desk c.self.inside.journal.room _ c.in-Some.place
          c.get-list.result.now c.get-actor_state.result.now c.get-order.result.now c.in-Ok.outcome c.self.invariant.0 c.get-list.ensures c.get-actor_state.ensures c.get-order.ensures (omega (arith, c.len.ensures, c.if-number-len.false))
          row desk c.enter.ensures.room,
      c.self.invariant.1,
      c.self.invariant.2,
      counted_after g.D.Disk g.S.Store g.M.MetaLog c.self.inside.config c.self.inside.lists c.self.inside.partition c.self.inside.partition_state c.self.inside.tier c.turn_at.new.partition_state c.turn_at.new.self c.self.inside.desk c.enter.new.desk
          (length c.self.inside.journal.items) (length c.enter.new.journal.items) c.in-Some.place c.get-list.result.now c.get-actor_state.result.now c.get-order.result.now c.in-Ok.outcome c.self.invariant.3 c.get-list.ensures c.get-actor_state.ensures
          (omega (arith, c.len.ensures, c.if-number-len.false)) row desk
          (told_more c.get-list.result.now.actor c.get-actor_state.result.now.number c.get-order.result.now.command c.in-Ok.outcome c.self.inside.journal.items c.enter.new.journal.items entered),
    )

pub invariant_of-self-in-Err : goal.invariant_of-self-in-Err
invariant_of-self-in-Err g c =
    let stays = some_at (λ actor_state. StaysTier g.D.Disk g.S.Store g.M.MetaLog c.self.inside.partition c.self.inside.partition_state c.self.inside.tier c.get-order.result.now.broker.0 actor_state.in_progress c.get-order.result.now.command c.turn_at.new.partition_state c.turn_at.new.self)
    c.self.inside.desk c.in-Some.place c.get-actor_state.result.now c.in-Err.ensures.err c.get-actor_state.ensures in
    let some = stays_some g.D.Disk g.S.Store g.M.MetaLog c.self.inside.partition c.self.inside.partition_state c.self.inside.tier c.get-order.result.now.broker.0 c.get-actor_state.result.now.in_progress c.get-order.result.now.command c.turn_at.new.partition_state c.turn_at.new.self stays in
    rw c.turn_at.ensures.desk (
      sound_after_none g.D.Disk g.S.Store g.M.MetaLog c.self.inside.config c.self.inside.lists c.self.inside.partition_state c.self.inside.tier c.get-order.result.now.broker.0 c.turn_at.new.partition_state c.turn_at.new.self c.self.inside.desk c.self.inside.journal.room c.self.invariant.0
          some,
      c.self.invariant.1,
      c.self.invariant.2,
      counted_after_none g.D.Disk g.S.Store g.M.MetaLog c.self.inside.lists c.self.inside.partition_state c.self.inside.tier c.get-order.result.now.broker.0 c.turn_at.new.partition_state c.turn_at.new.self c.self.inside.desk (length c.self.inside.journal.items)
          c.self.invariant.3 some,
    )

pub returns-in-Ok : goal.returns-in-Ok
returns-in-Ok g c =
    let actor = some_at (λ l. l.actor.0 ≡ c.args.actor.0) c.self.inside.lists c.in-Some.place c.get-list.result.now (rw c.as_slice.ensures at c.in-Some.ensures.found) c.get-list.ensures in
    let desk = some_at (λ actor_state. c.enter.new.desk ≡ slice_set c.self.inside.desk c.in-Some.place (actor_state_after actor_state c.in-Ok.outcome)) c.self.inside.desk c.in-Some.place c.get-actor_state.result.now (rw c.turn_at.ensures.desk at c.enter.ensures.desk) c.get-actor_state.ensures in
    let entered = some_at (λ actor_state. c.enter.new.journal.items ≡ c.self.inside.journal.items ++ told_of c.get-list.result.now.actor actor_state.number c.get-order.result.now.command c.in-Ok.outcome) c.self.inside.desk c.in-Some.place c.get-actor_state.result.now (rw c.turn_at.ensures.desk at c.enter.ensures.entered) c.get-actor_state.ensures in
    let row = some_at (λ actor_state. TurnRow g.D.Disk g.S.Store g.M.MetaLog c.self.inside.partition c.self.inside.config c.self.inside.partition_state c.self.inside.tier c.get-order.result.now.broker.0 actor_state.in_progress c.get-order.result.now.command c.in-Ok.outcome c.turn_at.new.partition_state c.turn_at.new.self)
    c.self.inside.desk c.in-Some.place c.get-actor_state.result.now c.in-Ok.ensures.row c.get-actor_state.ensures in
    rw (← c.self.view_is, c.enter.ensures.stepped) (steps_of g.D.Disk g.S.Store g.M.MetaLog _ c.args.actor.0 c.in-Ok.outcome _ (record {
      place = c.in-Some.place;
      list = c.get-list.result.now;
      actor_state = c.get-actor_state.result.now;
      order = c.get-order.result.now;
      at = record { list = c.get-list.ensures; actor = actor; actor_state_is = c.get-actor_state.ensures };
      next = c.get-order.ensures;
      row = row;
      desk = desk;
      entered = entered;
      partition = refl;
      config = refl;
      lists = refl;
    }))

pub returns-in-Err : goal.returns-in-Err
returns-in-Err g c =
    let actor = some_at (λ l. l.actor.0 ≡ c.args.actor.0) c.self.inside.lists c.in-Some.place c.get-list.result.now (rw c.as_slice.ensures at c.in-Some.ensures.found) c.get-list.ensures in
    let order = order_at g.D.Disk g.S.Store g.M.MetaLog c.self.inside.config c.self.inside.lists c.self.inside.partition_state c.self.inside.tier.broker_tiers c.self.inside.desk c.self.inside.journal.room c.in-Some.place c.get-actor_state.result.now.number
    c.get-list.result.now c.get-order.result.now c.self.invariant.0 c.get-list.ensures c.get-order.ensures in
    let stays = some_at (λ actor_state. StaysTier g.D.Disk g.S.Store g.M.MetaLog c.self.inside.partition c.self.inside.partition_state c.self.inside.tier c.get-order.result.now.broker.0 actor_state.in_progress c.get-order.result.now.command c.turn_at.new.partition_state c.turn_at.new.self)
    c.self.inside.desk c.in-Some.place c.get-actor_state.result.now c.in-Err.ensures.err c.get-actor_state.ensures in
    rw (← c.self.view_is, c.turn_at.ensures.desk) (record {
      place = c.in-Some.place;
      list = c.get-list.result.now;
      actor_state = c.get-actor_state.result.now;
      order = c.get-order.result.now;
      next = record { at = record { list = c.get-list.ensures; actor = actor; actor_state_is = c.get-actor_state.ensures }; next = c.get-order.ensures };
      node = omega (arith, order.broker, c.self.invariant.0.partition_state.count);
      tier = stays;
      wants = c.in-Err.ensures.wants;
      fields = refl;
    })
