use Rattle.std.proofs.Common.{◌≡◌, ℕ, ℤ, List, Option, map, take}
use Rattle.std.specs.List.{AllByRecursion}
use Rattle.tier_base.specs.declared.names.BrokerId.{BrokerId}
use Rattle.remote_view.specs.Fold.{changed, updated}
use Rattle.remote_view.specs.Stairs.{IsStair}
use Rattle.remote_view.specs.Storing.{stair_on, HaveRoom}
use Rattle.remote_view.proofs.stepping.fresh.Given as goal

-- the stairs of the epochs so far
pub record AreMade (l : goal.Live-loop-pair) : Type 0 where
  pub same : (epoch : ℕ) → stair_on l.stairs epoch ≡ stair_on l.initial.stairs epoch
  pub room : HaveRoom l.stairs l.fresh
  pub epochs : map (λ stair. stair.epoch) l.fresh ≡ map (λ pair. pair.0) (take l.pair-index l.entry.map)
  pub each : (broker : BrokerId) (event_ts : ℤ) (custom : Option (List ℕ)) → AllByRecursion (λ stair. IsStair (changed l.entry.id (updated broker event_ts l.state custom) l.known) stair.epoch stair.treads) l.fresh

abbrev pub invariant-loop-pair : goal.invariant-loop-pair
invariant-loop-pair l = AreMade l
