use Rattle.std.proofs.Common.{◌∙◌, ap, List, slice_set}
use Rattle.std.proofs.lemmas.Result.{on_err_weaker}
use Rattle.partition_world.specs.declared.tier.BrokerTierState.{BrokerTierState}
use Rattle.partition_world.proofs.BrokerTierStates.{set_same}
use Rattle.partition_world.proofs.tier.RemoteTier.read_segment.Goals as goal

pub returns-clause-tier : goal.returns-clause-tier
returns-clause-tier g c =
    let broker_tiers = c.args.self.now.broker_tiers in
    let b = c.args.broker.0 in
    on_err_weaker c.read_next.result (λ same.
    ap (λ (k : List BrokerTierState). record c.args.self.now { broker_tiers = k })
    (ap (λ (k : BrokerTierState). slice_set broker_tiers b k) same ∙ set_same broker_tiers b c.at_mut-broker_tier.result.now c.at_mut-broker_tier.ensures.value)) c.read_next.ensures.broker_tier
