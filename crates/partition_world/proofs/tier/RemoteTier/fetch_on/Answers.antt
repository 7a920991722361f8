use Rattle.std.proofs.Common.{refl}
use Rattle.partition_world.proofs.FetchTurns.{turn_row}
use Rattle.partition_world.proofs.tier.RemoteTier.fetch_on.Goals as goal

pub returns-clause-row : goal.returns-clause-row
returns-clause-row g c =
    rw (c.fetch_outcome.ensures, c.get-node.ensures, c.at_mut-broker_tier.ensures.value) (turn_row g.S.Store g.M.MetaLog c.args.partition c.args.partition_state.now c.args.self.now c.args.broker.0 c.get-node.result.now c.at_mut-broker_tier.result.now c.args.recorded.now
    c.args.offset c.args.limit c.end.result c.line-line.result.now c.args.next c.in_ok-turn.turn c.fetch_turn.new.view c.fetch_turn.new.cache _ c.end.ensures c.line-line.ensures (c.in_default.ensures.none refl) c.in_ok-turn.ensures.row refl
    c.in_ok-turn.ensures.goes)
