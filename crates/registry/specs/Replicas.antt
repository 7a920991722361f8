-- The replicas of a partition: which are in sync, and what each acknowledged.
--
-- A broker acknowledges its flushed end. The high watermark is the greatest offset that every replica in sync has
-- acknowledged, and never falls.
use Rattle.std.specs.Prelude.{ℕ, min, max, true, false, List, [], ◌∷◌, map, Option, Some, None}
use Rattle.std.specs.Prelude.{if◌then◌else◌, slice_get, IsSomeAnd, option_map, unwrap_or}
use Rattle.registry.specs.declared.registry.Replica.{Replica}
use Rattle.registry.specs.declared.registry.Registry.{Registry}

-- a replica in sync, which has acknowledged nothing
abbrev pub fresh_replica : Replica
fresh_replica = record { in_sync = true; acked = 0 }

-- a replica that isn't in sync, and has acknowledged nothing
abbrev pub outsider : Replica
outsider = record { in_sync = false; acked = 0 }

-- the least acknowledged end of the replicas in sync
abbrev pub least_acked : List Replica → Option ℕ
least_acked [] = None
least_acked (s ∷ ss) =
    if s.in_sync then Some (unwrap_or (option_map (min s.acked) (least_acked ss)) s.acked) else least_acked ss

-- the high watermark over these replicas, which never falls
abbrev pub mark_over : ℕ → List Replica → ℕ
mark_over mark replicas = max mark (unwrap_or (least_acked replicas) 0)

-- a replica in a new epoch: one in sync has acknowledged the high watermark, any other nothing
abbrev pub renewed : ℕ → Replica → Replica
renewed mark s = record s { acked = if s.in_sync then mark else 0 }

-- the replicas in a new epoch
abbrev pub reset_acks : ℕ → List Replica → List Replica
reset_acks mark replicas = map (renewed mark) replicas

-- the replicas, none of them in sync
abbrev pub all_out : List Replica → List Replica
all_out replicas = map (λ s. outsider) replicas

-- there is such a replica, and this holds of it
abbrev pub AtReplica : Registry → ℕ → (Replica → Type 0) → Type 0
AtReplica r b P = IsSomeAnd (slice_get r.replicas b) P
