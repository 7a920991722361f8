-- The tier states of a fresh partition are those of a fresh tier.
use Rattle.std.proofs.Common.{◌≡◌, ap, refl, ℕ, zero, suc, ◌-◌, List, [], ◌∷◌, arith}
use Rattle.std.specs.Prelude.{replicate}
use Rattle.plain_log.specs.declared.state.Role.TheVariants.{Joined}
use Rattle.laws_partition.specs.Fresh.{fresh_node}
use Rattle.tier_safe.specs.Scene.{BrokerTierView}
use Rattle.tier_safe.specs.Fresh.{fresh_tier_view}
use Rattle.laws_tier_turns.specs.BrokerTiers.{tier_views_of, fresh_broker_tier}
use Rattle.laws_tier_turns.specs.Laws.{FreshTier}

followers : (n : ℕ) → tier_views_of (replicate n (fresh_node (Joined 0) [])) (replicate n fresh_broker_tier) ≡ replicate n fresh_tier_view
followers zero = refl
followers (suc n) = ap (λ (ss : List BrokerTierView). fresh_tier_view ∷ ss) (followers n)

pub fresh_tier : FreshTier
fresh_tier zero = refl
fresh_tier (suc n) =
    let less : suc n - 1 ≡ n = omega arith in
    rw less (ap (λ (ss : List BrokerTierView). fresh_tier_view ∷ ss) (followers n))
