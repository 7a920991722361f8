-- A registry as plain numbers, and what they must say.
use Rattle.std.specs.Prelude.{◌≡◌, ℕ, suc, ◌+◌, ◌-◌, ◌*◌, ◌^◌, ◌/◌, ◌%◌, ◌==◌, ◌<◌, ◌≤◌, Bool, true}
use Rattle.std.specs.Prelude.{if◌then◌else◌, All, List, [], ◌∷◌, ◌++◌, length, map, drop, replicate}
use Rattle.registry.specs.declared.registry.Replica.{Replica}
use Rattle.registry.specs.declared.registry.Registry.{Registry}
use Rattle.registry.specs.declared.view.RegView.{RegView}
use Rattle.registry.specs.Replicas.{AtReplica}

-- the bit of a broker is set
abbrev pub has_bit : ℕ → ℕ → Bool
has_bit bits b = bits / 2 ^ b % 2 == 1

-- eight places, with 0 past the last end
abbrev pub eight : List ℕ → List ℕ
eight ends = ends ++ replicate (8 - length ends) 0

-- the rules of a view
pub record IsView (view : RegView) : Type 0 where
  pub some : 1 ≤ view.brokers
  pub few : view.brokers ≤ 8
  pub epoch : view.epoch < 2 ^ 31
  pub leader : view.leader.0 < view.brokers
  pub leads : has_bit view.in_sync view.leader.0 ≡ true
  pub within : view.in_sync < 2 ^ view.brokers
  pub mark : view.mark ≤ 2 ^ 62
  pub start : view.start ≤ view.mark
  pub ends : All (λ end. end ≤ 2 ^ 62) view.acked
  pub places : length view.acked ≡ 8
  pub past : drop view.brokers view.acked ≡ replicate (8 - view.brokers) 0

-- the same rules, of a registry
pub record IsRegistry (r : Registry) : Type 0 where
  pub some : 1 ≤ length r.replicas
  pub few : length r.replicas ≤ 8
  pub epoch : r.epoch < 2 ^ 31
  pub leader : AtReplica r r.leader.0 (λ s. s.in_sync ≡ true)
  pub mark : r.mark ≤ 2 ^ 62
  pub start : r.start ≤ r.mark
  pub ends : All (λ s. s.acked ≤ 2 ^ 62) r.replicas

-- who is in sync, bit by bit: the lowest is the first replica's
abbrev pub sync_bits : List Replica → ℕ
sync_bits [] = 0
sync_bits (s ∷ ss) = (if s.in_sync then 1 else 0) + 2 * sync_bits ss

-- the end that each replica acknowledged
abbrev pub acked_ends : List Replica → List ℕ
acked_ends replicas = map (λ (s : Replica). s.acked) replicas

-- the view of a registry
abbrev pub view_of : Registry → RegView
view_of r = record {
  brokers = length r.replicas;
  epoch = r.epoch;
  leader = r.leader;
  in_sync = sync_bits r.replicas;
  acked = eight (acked_ends r.replicas);
  mark = r.mark;
  start = r.start;
}

-- so many replicas, by who is in sync and by what each acknowledged
abbrev pub replicas_of : ℕ → ℕ → List ℕ → List Replica
replicas_of (suc more) bits (end ∷ ends) =
    record { in_sync = bits % 2 == 1; acked = end } ∷ replicas_of more (bits / 2) ends
replicas_of count bits ends = []

-- the registry of a view
abbrev pub registry_of : RegView → Registry
registry_of view = record {
  epoch = view.epoch;
  leader = view.leader;
  mark = view.mark;
  start = view.start;
  replicas = replicas_of view.brokers view.in_sync view.acked;
}
