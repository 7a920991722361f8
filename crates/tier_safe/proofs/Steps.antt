-- A step of the plain log, by what it does to what the tier rests on.
use Rattle.std.proofs.Common.{◌≡◌, ℕ, List, Some, length, slice_get}
use Rattle.plain_log.specs.declared.state.State.{State as Plain}
use Rattle.plain_log.specs.declared.state.Broker.{Broker}
use Rattle.tier_safe.specs.Scene.{Scene, BrokerTierView}
use Rattle.plain_log.specs.Grows.{Grows}
use Rattle.tier_safe.specs.Follow.{BrokerTierGoes, MayStep}
use Rattle.plain_log.proofs.StepsGrow.{steps_grow}
use Rattle.plain_log.specs.Safe.{PlainSafe}

-- paths grow, and each tier state follows its broker
pub record StepGoes (tier_views : List BrokerTierView) (c : Scene) (p q : Plain) : Type 0 where
  pub grows : Grows p q
  pub count : length tier_views ≡ length c.tier_views
  pub each : (b : ℕ) (old new : BrokerTierView) (x y : Broker) → slice_get c.tier_views b ≡ Some old → slice_get tier_views b ≡ Some new
      → slice_get p.brokers b ≡ Some x → slice_get q.brokers b ≡ Some y → BrokerTierGoes old new x y

pub step_goes : (tier_views : List BrokerTierView) (c : Scene) (p q : Plain) → MayStep tier_views c p q → PlainSafe p → StepGoes tier_views c p q
step_goes tier_views c p q m safe = record { grows = steps_grow p m.order m.entry q m.is safe; count = m.follow.count; each = m.follow.each }
