-- What a partition keeps over any disks: what its turns need to be carried out.
use Rattle.std.specs.Prelude.{◌≡◌, ℕ, ◌^◌, ◌<◌, ◌≤◌, Some, true, false, length, slice_get}
use Rattle.epoch_line.specs.Line.{last_epoch}
use Rattle.registry.specs.declared.registry.Registry.{Registry}
use Rattle.plain_log.specs.declared.state.Role.TheVariants.{Leads, Idle}
use Rattle.partition_commands.specs.declared.partition_state.Node.{Node}
use Rattle.partition_commands.specs.declared.partition_state.PartitionState.{PartitionState}
use Rattle.partition_commands.specs.Partition.{is_up, line_of}

module _ {D : Type 0} where
  -- a leader is up, and its leader epochs end with its epoch, which isn't above the registry's; that of the registry's
  -- epoch knows no high watermark above the registry's; a node that is down is idle and knows none
  pub record LeaderSound (r : Registry) (x : Node D) : Type 0 where
    pub up : (e : ℕ) → x.role ≡ Leads e → is_up x ≡ true
    pub leads : (e : ℕ) → x.role ≡ Leads e → last_epoch (line_of x) ≡ Some e
    pub fits : (e : ℕ) → x.role ≡ Leads e → e < 2 ^ 31
    pub past : (e : ℕ) → x.role ≡ Leads e → e ≤ r.epoch
    pub known_high_watermark : (e : ℕ) → x.role ≡ Leads e → r.epoch ≤ e → x.known_high_watermark ≤ r.mark
    pub down : is_up x ≡ false → (x.role ≡ Idle) × (x.known_high_watermark ≡ 0)

  -- as many nodes and replicas as brokers, and an epoch that a line can have
  pub record SoundPartition (brokers : ℕ) (h : PartitionState D) : Type 0 where
    pub count : length h.nodes ≡ brokers
    pub same : length h.registry.replicas ≡ brokers
    pub epoch : h.registry.epoch < 2 ^ 31
    pub nodes : (b : ℕ) (x : Node D) → slice_get h.nodes b ≡ Some x → LeaderSound h.registry x
