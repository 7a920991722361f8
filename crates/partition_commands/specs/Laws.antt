-- The laws of the rows over disks.
use Rattle.std.specs.Prelude.{◌≡◌, ℕ, Option, Some, slice_get}
use Rattle.tier_base.specs.Device.{Control}
use Rattle.disk_model.specs.Call.{call_code}
use Rattle.disk_model.specs.Content.{Content}
use Rattle.plain_log.specs.declared.command.Command.{Command}
use Rattle.broker_log.specs.Seen as log
use Rattle.laws_partition.specs.declared.start_snapshot.StartSnapshot.{StartSnapshot}
use Rattle.laws_partition.specs.declared.start_snapshot.Turned.{Turned}
use Rattle.laws_partition.specs.Seen as seen
use Rattle.laws_partition.specs.Rows as seen_rows
use Rattle.laws_partition.specs.Turn.{event_of}
use Rattle.partition_commands.specs.declared.partition_state.Node.{Node}
use Rattle.partition_commands.specs.declared.partition_state.PartitionState.{PartitionState}
use Rattle.partition_commands.specs.Partition.{node_of}
use Rattle.partition_commands.specs.Infallible.{AreInfallible, HasNoFault}
use Rattle.partition_commands.specs.Faults.{is_answered, is_of_disk}
use Rattle.partition_commands.specs.Disks.{HaveDisks, DisksLast, DisksCount}
use Rattle.partition_commands.specs.Shown.{Sees, Refines, Knows, KnowsSnapshot}
use Rattle.partition_commands.specs.Sound.{SoundPartition}
use Rattle.partition_commands.specs.Turns.{Row}

module _ {D : Type 0} (content : D → Content) (control : D → Control call_code) where
  -- over observable disks each row is one of the partition as it is seen
  abbrev pub RowsAreSeen : Type 0
  RowsAreSeen = (h : PartitionState D) (a : seen.SeenPartition) (b : ℕ) (x : Node D) (s : log.LogSeen)
      (snapshot : Option StartSnapshot) (command : Command)
      (turned : Turned) (h' : PartitionState D) → Sees content h a b x s → Knows a (node_of x s)
      → ((g : StartSnapshot) → snapshot ≡ Some g → KnowsSnapshot a (node_of x s) command g)
      → Row content control h b x snapshot command turned h'
      → Refines content h' (λ a'. seen_rows.Row a b (node_of x s) snapshot command turned a')

  -- over any disks each row keeps what later turns need
  abbrev pub RowsKeepSound : Type 0
  RowsKeepSound =
      (brokers : ℕ) (h : PartitionState D) (b : ℕ) (x : Node D) (snapshot : Option StartSnapshot) (command : Command)
      (turned : Turned) (h' : PartitionState D) → slice_get h.nodes b ≡ Some x → SoundPartition brokers h
      → Row content control h b x snapshot command turned h' → SoundPartition brokers h'

  -- over any disks each of them lasts over each row
  abbrev pub RowsLast : Type 0
  RowsLast = (h : PartitionState D) (b : ℕ) (x : Node D) (snapshot : Option StartSnapshot) (command : Command)
      (turned : Turned) (h' : PartitionState D)
      → slice_get h.nodes b ≡ Some x → HaveDisks h.nodes → Row content control h b x snapshot command turned h'
      → DisksLast control h.nodes h'.nodes

  -- over any disks one call of a disk fails over a row that reports a fault of one, and none over any other
  abbrev pub RowsCountFaults : Type 0
  RowsCountFaults = (h : PartitionState D) (b : ℕ) (x : Node D) (snapshot : Option StartSnapshot) (command : Command)
      (turned : Turned) (h' : PartitionState D)
      → slice_get h.nodes b ≡ Some x → HaveDisks h.nodes → Row content control h b x snapshot command turned h'
      → DisksCount control command b (is_answered is_of_disk turned) h.nodes h'.nodes

  -- over disks of which no call can fail each row leaves them so, and reports no fault
  abbrev pub RowsStayInfallible : Type 0
  RowsStayInfallible = (h : PartitionState D) (b : ℕ) (x : Node D) (snapshot : Option StartSnapshot) (command : Command)
      (turned : Turned) (h' : PartitionState D)
      → slice_get h.nodes b ≡ Some x → AreInfallible control h.nodes
      → Row content control h b x snapshot command turned h'
      → AreInfallible control h'.nodes × HasNoFault (event_of turned command)
