-- What each action does to the registry: r before it, b the broker, s that broker's replica.
use Rattle.std.specs.Prelude.{ℕ, ◌+◌, true, false, slice_set, replicate}
use Rattle.registry.specs.declared.registry.Replica.{Replica}
use Rattle.registry.specs.declared.registry.Registry.{Registry}
use Rattle.registry.specs.Replicas.{fresh_replica, mark_over, reset_acks, all_out}

-- the greatest leader epoch
abbrev pub epoch_limit : ℕ
epoch_limit = 2147483647

-- nothing has happened yet: broker 0 leads epoch 0, and all are in sync
abbrev pub fresh_registry : ℕ → Registry
fresh_registry brokers =
    record { epoch = 0; leader = record { 0 = 0 }; mark = 0; start = 0; replicas = replicate brokers fresh_replica }

-- another replica is in the broker's place
abbrev pub put_replica : Registry → ℕ → Replica → Registry
put_replica r b s = record r { replicas = slice_set r.replicas b s }

-- a clean election: the next epoch, whose leader has all that is committed
abbrev pub elected : Registry → ℕ → Registry
elected r b =
    record r { epoch = r.epoch + 1; leader = record { 0 = b }; replicas = reset_acks r.mark r.replicas }

-- an unclean election: the next epoch, whose leader alone is in sync, and its flushed end is the high watermark
abbrev pub elected_alone : Registry → ℕ → ℕ → Registry
elected_alone r b flushed_end = record r {
  epoch = r.epoch + 1;
  leader = record { 0 = b };
  mark = flushed_end;
  replicas = slice_set (all_out r.replicas) b (record { in_sync = true; acked = flushed_end });
}

-- an acknowledgement of this end, which may raise the high watermark
abbrev pub with_ack : Registry → ℕ → Replica → ℕ → Registry
with_ack r b s end = record r {
  mark = mark_over r.mark (slice_set r.replicas b (record s { acked = end }));
  replicas = slice_set r.replicas b (record s { acked = end });
}

-- the replica leaves those in sync
abbrev pub shrunk : Registry → ℕ → Replica → Registry
shrunk r b s = put_replica r b (record s { in_sync = false })

-- the replica is in sync
abbrev pub expanded : Registry → ℕ → Replica → Registry
expanded r b s = put_replica r b (record s { in_sync = true })

-- the log start offset is this one
abbrev pub started : Registry → ℕ → Registry
started r start = record r { start = start }
