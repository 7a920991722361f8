use Rattle.std.proofs.Common.{rules, FitsSigned}
use Rattle.std.specs.Int.{w64}
use Rattle.std.proofs.lemmas.Int.{to_z-of_z}
use Rattle.partition_world.proofs.Dispatch.{follow_at, date_at}
use Rattle.partition_world.proofs.tier.RemoteTier.go_on.Goals as goal

pub returns-in-At-clause-row : goal.returns-in-At-clause-row
returns-in-At-clause-row g c =
    let fits : FitsSigned w64 c.in-At.ts = search rules in
    date_at g.D.Disk g.S.Store g.M.MetaLog c.args.partition c.args.config c.args.partition_state.now c.args.self.now c.args.order.now.broker.0 c.args.recorded.now c.args.order.now.command
    c.in-Offset.which c.in-At.ts c.date_on.result c.date_on.new.partition_state c.date_on.new.self c.in-Offset.is c.in-At.is
    (rw (to_z-of_z w64 c.in-At.ts fits) at c.date_on.ensures.row)

pub returns-in_ok-follow_on-in-Follow-clause-row : goal.returns-in_ok-follow_on-in-Follow-clause-row
returns-in_ok-follow_on-in-Follow-clause-row g c =
    follow_at g.D.Disk g.S.Store g.M.MetaLog c.args.partition c.args.config c.args.partition_state.now c.args.self.now c.args.order.now.broker.0 c.args.recorded.now c.args.order.now.command
    c.in-Follow.limit c.in_ok-follow_on-in-Follow.field-0 _ c.in-Follow.is c.requires.broker_tier c.in_ok-follow_on-in-Follow.ensures.row
