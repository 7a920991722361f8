-- What a turn of a command on a broker's own log comes to over disks: append, raw, flush, roll, trim.
--
-- A row says for each answer which tests come before it, in their order, its own, and the partition afterwards.
use Rattle.std.specs.Prelude.{◌≡◌, ◌≢◌, ◌⊎◌, ◌+◌, ◌^◌, ◌<◌, ◌≤◌, ℕ, true, false, List, length, Some, Err, IsOk}
use Rattle.tier_base.specs.Device.{Control}
use Rattle.disk_model.specs.Call.{call_code}
use Rattle.disk_model.specs.Content.{Content}
use Rattle.log_terms.specs.Batch.{base_of, last_of, epoch_of, last_offset_delta_of}
use Rattle.log_terms.specs.Log.{end_of as end_of_log}
use Rattle.epoch_line.specs.Line.{last_epoch}
use Rattle.record_batch.specs.Check.{checked}
use Rattle.record_batch.specs.Stamp.{stamped}
use Rattle.plain_log.specs.declared.answer.Answer.{Answer}
use Rattle.plain_log.specs.declared.answer.Answer.TheVariants.{OkAt, OkSpan, Down, NotLeader, Refused, LastOffset}
use Rattle.plain_log.specs.declared.answer.Answer.TheVariants.{TooManySegments, EmptySegment, DiskFault, Stopped}
use Rattle.plain_log.specs.declared.answer.Answer.TheVariants.{Kept as Remains, Dropped}
use Rattle.plain_log.specs.declared.state.Role.TheVariants.{Leads}
use Rattle.plain_log.specs.State.{leads}
use Rattle.plain_log.specs.RowsOfLog.{offset_limit}
use Rattle.local_log.specs.Dropping.{IsFirstFlushed}
use Rattle.local_log.specs.Stored.{size_of}
use Rattle.broker_log.specs.Seen.{LogState, back_of, WhileUp, Quiet}
use Rattle.broker_log.specs.Effects.{loosened}
use Rattle.broker_log.specs.Failure.{DropBreaks}
use Rattle.broker_log.specs.Write.{Appends, Settles, Rolls, DropsFirst}
use Rattle.laws_partition.specs.declared.start_snapshot.StartSnapshot.{StartSnapshot}
use Rattle.laws_partition.specs.declared.start_snapshot.Turned.{Turned}
use Rattle.laws_partition.specs.declared.start_snapshot.Turned.TheVariants.{Answers, Begins}
use Rattle.partition_commands.specs.declared.partition_state.Node.{Node}
use Rattle.partition_commands.specs.declared.partition_state.PartitionState.{PartitionState}
use Rattle.partition_commands.specs.Partition.{is_up, end_of, line_of, put_node, IsFull, BreaksNode, BreaksBy}

module _ {D : Type 0} where
  -- where the log would end with the batch
  abbrev pub end_with : Node D → List ℕ → ℕ
  end_with x batch = end_of x + last_offset_delta_of batch + 1

  -- the batch has this base and last offset and this epoch, and may be at the end of the leader's log
  pub record MayPut (x : Node D) (batch : List ℕ) (base last epoch : ℕ) : Type 0 where
    pub up : is_up x ≡ true
    pub end : end_of x ≡ base
    pub is : IsOk (checked batch)
    pub base_is : base_of batch ≡ base
    pub last_is : last_of batch ≡ last
    pub low : last < 2 ^ 62
    pub epoch_is : epoch_of batch ≡ epoch
    pub few : epoch < 2 ^ 31
    pub leads : last_epoch (line_of x) ≡ Some epoch

  -- the batch, placed at the end of the leader's log, finds no segment
  abbrev pub FindsNone : Node D → List ℕ → Type 0
  FindsNone x batch = (e : ℕ) × (x.role ≡ Leads e) × IsFull x (stamped batch (end_of x) e)

  -- the open segment has bytes, and the log as many segments as it may
  abbrev pub IsLast : Node D → Type 0
  IsLast x = WhileUp x.log (λ log. (0 < size_of log.active) × (4095 ≤ length log.closed))

  -- the open segment has bytes, and the log may have one segment more
  abbrev pub MayRoll : Node D → Type 0
  MayRoll x = WhileUp x.log (λ log. (0 < size_of log.active) × (length log.closed < 4095))

  -- the offset lies between the log start offset and the log end offset
  abbrev pub IsInLog : PartitionState D → Node D → ℕ → Type 0
  IsInLog h x offset = (h.registry.start ≤ offset) × (offset ≤ end_of x)

  -- the node is up, has a closed segment, and the first one is flushed
  abbrev pub MayDropFirst : Node D → Type 0
  MayDropFirst x = WhileUp x.log (λ log. IsFirstFlushed log.flushed_end log.closed)

  -- what an actor's state has of a command that begins: what was recorded of its broker, and the log start offset
  pub record Notes (h : PartitionState D) (x : Node D) (g : StartSnapshot) : Type 0 where
    pub stops : g.stops ≡ x.stops
    pub role : g.role ≡ x.role
    pub end : g.end ≡ end_of x
    pub start : g.start ≡ h.registry.start

module _ {D : Type 0} (content : D → Content) (control : D → Control call_code) where
  -- a write of what isn't flushed yet fails
  abbrev pub BreaksUnsaved : PartitionState D → ℕ → Node D → PartitionState D → Type 0
  BreaksUnsaved h b x h' = BreaksNode content control h b x (λ s. loosened s (back_of s)) h'

  -- the batch is at the end of the broker's log
  abbrev pub NodeGains : PartitionState D → ℕ → Node D → List ℕ → PartitionState D → Type 0
  NodeGains h b x batch h' =
      (kept : LogState D) × (span : ℕ × ℕ) × IsOk (checked batch) × Appends content x.log kept batch span
      × Quiet control x.log kept × (h' ≡ put_node h b (record x { log = kept }))

  -- a batch that may be put
  abbrev pub PutBatchRow : PartitionState D → ℕ → Node D → List ℕ → ℕ → ℕ → ℕ → Answer → PartitionState D → Type 0
  PutBatchRow h b x batch base last epoch TooManySegments h' = IsFull x batch × (h' ≡ h)
  PutBatchRow h b x batch base last epoch DiskFault h' = (IsFull x batch → ⊥) × BreaksUnsaved h b x h'
  PutBatchRow h b x batch base last epoch (OkSpan from to e) h' =
      (from ≡ base) × (to ≡ last) × (e ≡ epoch) × (IsFull x batch → ⊥) × NodeGains h b x batch h'
  PutBatchRow h b x batch base last epoch other h' = ⊥

  -- append: the leader's log gains the batch, stamped with its end and its epoch
  abbrev pub AppendRow : PartitionState D → ℕ → Node D → List ℕ → Answer → PartitionState D → Type 0
  AppendRow h b x batch Down h' = (is_up x ≡ false) × (h' ≡ h)
  AppendRow h b x batch NotLeader h' = (is_up x ≡ true) × (leads x.role ≡ false) × (h' ≡ h)
  AppendRow h b x batch LastOffset h' =
      (is_up x ≡ true) × (leads x.role ≡ true) × (offset_limit < end_with x batch) × (h' ≡ h)
  AppendRow h b x batch TooManySegments h' =
      (is_up x ≡ true) × (leads x.role ≡ true) × (end_with x batch ≤ offset_limit) × FindsNone x batch × (h' ≡ h)
  AppendRow h b x batch DiskFault h' =
      (is_up x ≡ true) × (leads x.role ≡ true) × (end_with x batch ≤ offset_limit) × (FindsNone x batch → ⊥)
      × BreaksUnsaved h b x h'
  AppendRow h b x batch (OkSpan base last e) h' =
      (is_up x ≡ true) × (x.role ≡ Leads e) × (end_with x batch ≤ offset_limit) × (base ≡ end_of x)
      × (last ≡ base + last_offset_delta_of batch) × (IsFull x (stamped batch base e) → ⊥)
      × NodeGains h b x (stamped batch base e) h'
  AppendRow h b x batch other h' = ⊥

  -- raw: bytes from outside are appended where they are a batch, and else refused with the first test that they fail
  abbrev pub RawRow : PartitionState D → ℕ → Node D → List ℕ → Answer → PartitionState D → Type 0
  RawRow h b x bytes Down h' = AppendRow h b x bytes Down h'
  RawRow h b x bytes NotLeader h' = AppendRow h b x bytes NotLeader h'
  RawRow h b x bytes (Refused cause) h' =
      (is_up x ≡ true) × (leads x.role ≡ true) × (checked bytes ≡ Err cause) × (h' ≡ h)
  RawRow h b x bytes LastOffset h' = IsOk (checked bytes) × AppendRow h b x bytes LastOffset h'
  RawRow h b x bytes TooManySegments h' = IsOk (checked bytes) × AppendRow h b x bytes TooManySegments h'
  RawRow h b x bytes DiskFault h' = IsOk (checked bytes) × AppendRow h b x bytes DiskFault h'
  RawRow h b x bytes (OkSpan base last e) h' = IsOk (checked bytes) × AppendRow h b x bytes (OkSpan base last e) h'
  RawRow h b x bytes other h' = ⊥

  -- flush: all of the log is flushed
  abbrev pub FlushRow : PartitionState D → ℕ → Node D → Answer → PartitionState D → Type 0
  FlushRow h b x Down h' = (is_up x ≡ false) × (h' ≡ h)
  FlushRow h b x DiskFault h' =
      (is_up x ≡ true) × BreaksNode content control h b x (λ s. loosened s (end_of_log s.batches, s.line, s.local)) h'
  FlushRow h b x (OkAt n) h' = (is_up x ≡ true) × ((kept : LogState D) × Settles content x.log kept (λ line end. line) n
      × Quiet control x.log kept × (h' ≡ put_node h b (record x { log = kept })))
  FlushRow h b x other h' = ⊥

  -- the broker's open segment is closed
  abbrev pub RollsNode : PartitionState D → ℕ → Node D → PartitionState D → Type 0
  RollsNode h b x h' = (kept : LogState D) × Rolls content x.log kept × Quiet control x.log kept
      × (h' ≡ put_node h b (record x { log = kept }))

  -- roll: the open segment is closed, and the next begins at the log's end
  abbrev pub RollRow : PartitionState D → ℕ → Node D → Answer → PartitionState D → Type 0
  RollRow h b x Down h' = (is_up x ≡ false) × (h' ≡ h)
  RollRow h b x EmptySegment h' = (is_up x ≡ true) × WhileUp x.log (λ log. size_of log.active ≡ 0) × (h' ≡ h)
  RollRow h b x TooManySegments h' = (is_up x ≡ true) × IsLast x × (h' ≡ h)
  RollRow h b x DiskFault h' = (is_up x ≡ true) × MayRoll x × BreaksUnsaved h b x h'
  RollRow h b x (OkAt n) h' = (is_up x ≡ true) × MayRoll x × (n ≡ end_of x) × RollsNode h b x h'
  RollRow h b x other h' = ⊥

  -- trim, first turn
  abbrev pub TrimRow : PartitionState D → Node D → Turned → PartitionState D → Type 0
  TrimRow h x (Answers Down) h' = (is_up x ≡ false) × (h' ≡ h)
  TrimRow h x (Begins g) h' = (is_up x ≡ true) × Notes h x g × (h' ≡ h)
  TrimRow h x other h' = ⊥

  -- the local log's first closed segment goes
  abbrev pub DropRow : PartitionState D → ℕ → Node D → Answer → PartitionState D → Type 0
  DropRow h b x DiskFault h' = BreaksBy content control h b x (DropBreaks content) h'
  DropRow h b x (Dropped base last) h' = (kept : LogState D) × DropsFirst content x.log kept (base, last)
      × Quiet control x.log kept × (h' ≡ put_node h b (record x { log = kept }))
  DropRow h b x other h' = ⊥

  -- trim, later turns
  abbrev pub TrimOnRow : PartitionState D → ℕ → Node D → StartSnapshot → Answer → PartitionState D → Type 0
  TrimOnRow h b x g Stopped h' = ((g.stops ≢ x.stops) ⊎ (is_up x ≡ false)) × (h' ≡ h)
  TrimOnRow h b x g Remains h' = (g.stops ≡ x.stops) × (h' ≡ h)
  TrimOnRow h b x g DiskFault h' = (g.stops ≡ x.stops) × (is_up x ≡ true) × DropRow h b x DiskFault h'
  TrimOnRow h b x g (Dropped base last) h' =
      (g.stops ≡ x.stops) × (is_up x ≡ true) × DropRow h b x (Dropped base last) h'
  TrimOnRow h b x g other h' = ⊥
