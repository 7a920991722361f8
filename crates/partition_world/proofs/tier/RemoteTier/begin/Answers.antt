use Rattle.std.proofs.Common.{rules}
use Rattle.std.proofs.lemmas.Result.{IfOk-weaker}
use Rattle.partition_commands.specs.Turns.{IsOfTier}
use Rattle.partition_world.proofs.Dispatch.{begin_at}
use Rattle.partition_world.proofs.tier.RemoteTier.begin.Goals as goal

pub returns-in_default-clause-row : goal.returns-in_default-clause-row
returns-in_default-clause-row g c =
    let own : IsOfTier c.args.order.now.command → ⊥ = search rules in
    IfOk-weaker c.begin_own.result _ _ (λ outcome row. begin_at g.D.Disk g.S.Store g.M.MetaLog c.args.partition_state.now c.args.self.now c.args.order.now.broker.0 c.args.order.now.command outcome c.begin_own.new.partition_state c.begin_own.new.self
    c.requires.broker_tier own row) c.begin_own.ensures.row
