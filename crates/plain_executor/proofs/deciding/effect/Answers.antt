use Rattle.std.proofs.Common.{ap, sym, subst, ◌∙◌, ◌-◌, ℕ}
use Rattle.log_terms.specs.Batch.{last_offset_delta_of}
use Rattle.plain_log.specs.Orders.{IsBuildableAppend}
use Rattle.log_terms.proofs.Lists.{within}
use Rattle.plain_log.specs.declared.command.Command.TheVariants as command
use Rattle.plain_executor.proofs.Safety.{matches_paths}
use Rattle.plain_executor.proofs.deciding.effect.Goals as goal

pub returns-in-Append : goal.returns-in-Append
returns-in-Append c =
    let tells = c.built_head_tells.ensures c.in-Append.recs (subst IsBuildableAppend c.in-Append.is c.requires.fit) in
    rw c.in-Append.is (c.append.ensures c.args.p.now c.args.b c.args.s.now (command.Append c.in-Append.recs) (tells.last_offset_delta ∙ ap (λ (n : ℕ). n - 1) (sym c.len.ensures)))

pub returns-in-Raw : goal.returns-in-Raw
returns-in-Raw c = rw c.in-Raw.is (c.append-in-Raw.ensures c.args.p.now c.args.b c.args.s.now (command.Raw c.in-Raw.bytes)
    (ap last_offset_delta_of (sym c.as_slice.ensures) ∙ (sym c.last_delta.ensures ∙ sym c.from.ensures)))

pub returns-in-Flush : goal.returns-in-Flush
returns-in-Flush c = rw c.in-Flush.is (c.flush.ensures c.args.p.now c.args.b c.args.s.now command.Flush)

pub returns-in-Roll : goal.returns-in-Roll
returns-in-Roll c = rw c.in-Roll.is (c.roll.ensures c.args.p.now c.args.b c.args.s.now command.Roll)

pub returns-in-Elect : goal.returns-in-Elect
returns-in-Elect c = rw c.in-Elect.is (c.elect.ensures c.args.b c.args.x.now c.args.s.now command.Elect)

pub returns-in-Unclean : goal.returns-in-Unclean
returns-in-Unclean c = rw c.in-Unclean.is (c.unclean.ensures c.args.b c.args.s.now command.Unclean)

pub returns-in-Learn : goal.returns-in-Learn
returns-in-Learn c = rw c.in-Learn.is (c.learn.ensures c.args.x.now c.args.s.now command.Learn)

pub join-requires-clause-matches : goal.join-requires-clause-matches
join-requires-clause-matches c = matches_paths c.args.p.now c.args.b c.args.x.now c.requires.safe c.requires.broker

pub returns-in-Join : goal.returns-in-Join
returns-in-Join c = rw c.in-Join.is (c.join.ensures c.args.s.now command.Join)

pub returns-in-Follow : goal.returns-in-Follow
returns-in-Follow c = rw c.in-Follow.is (c.follow.ensures c.args.b c.args.s.now (command.Follow c.in-Follow.limit))

pub ack-requires-clause-within : goal.ack-requires-clause-within
ack-requires-clause-within c = within c.args.p.now.registry.replicas c.args.b c.args.s.now c.requires.replica

pub returns-in-Ack : goal.returns-in-Ack
returns-in-Ack c = rw c.in-Ack.is (c.ack.ensures c.args.s.now command.Ack c.requires.replica)

pub returns-in-Shrink : goal.returns-in-Shrink
returns-in-Shrink c = rw c.in-Shrink.is (c.shrink.ensures c.args.p.now c.args.b c.args.x.now c.args.s.now command.Shrink)

pub returns-in-Expand : goal.returns-in-Expand
returns-in-Expand c = rw c.in-Expand.is (c.expand.ensures c.args.p.now c.args.b c.args.x.now c.args.s.now command.Expand)

pub returns-in-Stop : goal.returns-in-Stop
returns-in-Stop c = rw c.in-Stop.is (c.stop.ensures c.args.p.now c.args.b c.args.x.now c.args.s.now command.Stop)

pub returns-in-Up : goal.returns-in-Up
returns-in-Up c = rw c.in-Up.is (c.up.ensures c.args.p.now c.args.b c.args.s.now command.Up)

pub returns-in-Trim : goal.returns-in-Trim
returns-in-Trim c = rw c.in-Trim.is (c.trim.ensures c.args.p.now c.args.b c.args.s.now command.Trim)

pub returns-in-Expire : goal.returns-in-Expire
returns-in-Expire c = rw c.in-Expire.is (c.expire.ensures c.args.b c.args.x.now c.args.s.now command.Expire)

pub returns-in-Raise : goal.returns-in-Raise
returns-in-Raise c = rw c.in-Raise.is (c.raise.ensures c.args.p.now c.args.b c.args.x.now c.args.s.now (command.Raise c.in-Raise.start))
