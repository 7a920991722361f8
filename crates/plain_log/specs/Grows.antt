-- What a step of the plain log does to paths, logs and the log start offset.
use Rattle.std.specs.Prelude.{◌≡◌, ◌⊎◌, ℕ, ◌≤◌, List, Some, None, length, slice_get}
use mathlib.Core.List.{IsPrefix}
use Rattle.plain_log.specs.declared.state.State.{State}
use Rattle.plain_log.specs.declared.state.Path.{Path}
use Rattle.plain_log.specs.declared.state.Broker.{Broker}
use Rattle.plain_log.specs.declared.state.Role.TheVariants.{Leads}
use Rattle.plain_log.specs.State.{path_of}
use Rattle.plain_log.specs.Safe.{HasOnPath}

-- each path begins a path of its epoch
abbrev pub PathsGrow : List Path → List Path → Type 0
PathsGrow ps qs = (e : ℕ) (log : List (List ℕ)) → path_of ps e ≡ Some log → HasOnPath qs e log

-- a broker's log is cut or gains batches; one that leads either led that epoch before, without a stop, or is its
-- first leader
pub record BrokerGrows (paths : List Path) (x y : Broker) : Type 0 where
  pub stops : x.stops ≤ y.stops
  pub log : IsPrefix x.log y.log ⊎ IsPrefix y.log x.log
  pub leads : (e : ℕ) → y.stops ≡ x.stops → y.role ≡ Leads e
      → ((x.role ≡ Leads e) × IsPrefix x.log y.log) ⊎ (path_of paths e ≡ None)

-- paths grow, the log start offset doesn't fall, and each broker's log grows or is cut
pub record Grows (p q : State) : Type 0 where
  pub paths : PathsGrow p.paths q.paths
  pub start : p.registry.start ≤ q.registry.start
  pub count : length q.brokers ≡ length p.brokers
  pub brokers : (b : ℕ) (x y : Broker) → slice_get p.brokers b ≡ Some x → slice_get q.brokers b ≡ Some y
      → BrokerGrows p.paths x y
