-- What a turn of each command comes to over disks: its answer's cause, or what its actor's state has, and what it
-- does to the partition.
--
-- A row says for each answer the tests before it, in their order, its own, and the partition afterwards. A fault of a
-- broker's disk in a write stops the broker. Follow and some joins take two turns. What a later turn of a fetch comes
-- to, which only begins here, the remote tier has a part in.
use Rattle.std.specs.Prelude.{◌≡◌, ℕ, ℤ, max, Bool, true, false, Option, None, Some}
use Rattle.tier_base.specs.Device.{Control}
use Rattle.disk_model.specs.Call.{call_code}
use Rattle.disk_model.specs.Content.{Content}
use Rattle.record_batch.specs.Build.{built}
use Rattle.plain_log.specs.declared.answer.Answer.{Answer}
use Rattle.plain_log.specs.declared.answer.Answer.TheVariants.{Ok, Down, NotLeader, IsUp, DiskFault, Damaged}
use Rattle.plain_log.specs.declared.answer.Answer.TheVariants.{LastIncarnation, Up, Offset as OffsetAnswer}
use Rattle.plain_log.specs.declared.answer.Place.TheVariants.{File}
use Rattle.plain_log.specs.declared.command.Command.{Command}
use Rattle.plain_log.specs.declared.command.Command.TheVariants.{Append, Raw, Flush, Roll, Elect, Unclean, Learn, Join}
use Rattle.plain_log.specs.declared.command.Command.TheVariants.{Follow, Copy, Trim, Expire, Ack, Shrink, Expand, Raise}
use Rattle.plain_log.specs.declared.command.Command.TheVariants.{Clock, Stop as StopCommand, Up as UpCommand, Fetch}
use Rattle.plain_log.specs.declared.command.Command.TheVariants.{Pack, Copying, Offset}
use Rattle.plain_log.specs.declared.command.Which.{Which}
use Rattle.plain_log.specs.declared.command.Which.TheVariants.{Earliest, Latest, EarliestLocal, LatestTiered, At}
use Rattle.plain_log.specs.State.{leads}
use Rattle.plain_log.specs.RowsOfReads.{is_long}
use Rattle.broker_log.specs.Seen.{LogState, Quiet}
use Rattle.broker_log.specs.Open.{StopsBroker, ComesUp, Unopened, IsSpent}
use Rattle.laws_partition.specs.declared.start_snapshot.StartSnapshot.{StartSnapshot}
use Rattle.laws_partition.specs.declared.start_snapshot.Turned.{Turned}
use Rattle.laws_partition.specs.declared.start_snapshot.Turned.TheVariants.{Answers, Begins}
use Rattle.partition_commands.specs.declared.partition_state.Node.{Node}
use Rattle.partition_commands.specs.declared.partition_state.PartitionState.{PartitionState}
use Rattle.partition_commands.specs.Partition.{is_up, local_of, stopped, put_node, NodeReadFails}
use Rattle.partition_commands.specs.TurnsOfLog.{AppendRow, RawRow, FlushRow, RollRow, TrimRow, TrimOnRow}
use Rattle.partition_commands.specs.TurnsOfFetch.{FetchTurn}
use Rattle.partition_commands.specs.TurnsOfElections.{ElectRow, UncleanRow, LearnRow, AckRow}
use Rattle.partition_commands.specs.TurnsOfElections.{ShrinkRow, ExpandRow, RaiseRow}
use Rattle.partition_commands.specs.TurnsOfFollowers.{JoinRow, JoinOnRow, FollowRow, FollowOnRow}

-- the offset is known at once, without the remote tier
abbrev pub IsAtOnce : Which → Type 0
IsAtOnce Earliest = Unit {0}
IsAtOnce Latest = Unit {0}
IsAtOnce EarliestLocal = Unit {0}
IsAtOnce other = ⊥

-- the remote tier has a part in its first turn
abbrev pub IsOfTier : Command → Type 0
IsOfTier Copy = Unit {0}
IsOfTier Trim = Unit {0}
IsOfTier Expire = Unit {0}
IsOfTier (Offset LatestTiered) = Unit {0}
IsOfTier (Offset (At ts)) = Unit {0}
IsOfTier command = ⊥

-- the command may need memory: none does that only asks the registry, sets the clock or a switch, stops a broker, or
-- asks for an offset that is known at once
abbrev pub takes_memory : Command → Bool
takes_memory Elect = false
takes_memory Unclean = false
takes_memory Ack = false
takes_memory Shrink = false
takes_memory Expand = false
takes_memory (Raise start) = false
takes_memory (Clock ms) = false
takes_memory StopCommand = false
takes_memory (Pack on) = false
takes_memory (Copying on) = false
takes_memory (Offset which) = is_long which
takes_memory other = true

module _ {D : Type 0} where
  -- clock
  abbrev pub ClockRow : PartitionState D → ℤ → Answer → PartitionState D → Type 0
  ClockRow h ms Ok h' = h' ≡ record h { clock = ms }
  ClockRow h ms other h' = ⊥

  -- pack: segments that are chosen for copy from then on have one object each, or an object a part
  abbrev pub PackRow : PartitionState D → Bool → Answer → PartitionState D → Type 0
  PackRow h on Ok h' = h' ≡ record h { packed = on }
  PackRow h on other h' = ⊥

  -- copying: from then on segments are copied, or none is chosen to be
  abbrev pub CopyingRow : PartitionState D → Bool → Answer → PartitionState D → Type 0
  CopyingRow h on Ok h' = h' ≡ record h { copying = on }
  CopyingRow h on other h' = ⊥

  -- the log start offset, the known high watermark, or where the local log begins of what isn't below the log start
  -- offset
  abbrev pub known_offset : PartitionState D → Node D → Which → Option ℕ
  known_offset h x Earliest = Some h.registry.start
  known_offset h x Latest = Some x.known_high_watermark
  known_offset h x EarliestLocal = Some (max (local_of x) h.registry.start)
  known_offset h x other = None

  -- offset, where it is known at once
  abbrev pub OffsetRow : PartitionState D → Node D → Which → Answer → PartitionState D → Type 0
  OffsetRow h x which Down h' = (is_up x ≡ false) × (h' ≡ h)
  OffsetRow h x which NotLeader h' = (is_up x ≡ true) × (leads x.role ≡ false) × (h' ≡ h)
  OffsetRow h x which (OffsetAnswer n) h' =
      (is_up x ≡ true) × (leads x.role ≡ true) × (known_offset h x which ≡ Some n) × (h' ≡ h)
  OffsetRow h x which other h' = ⊥

module _ {D : Type 0} (content : D → Content) (control : D → Control call_code) where
  -- stop
  abbrev pub StopRow : PartitionState D → ℕ → Node D → Answer → PartitionState D → Type 0
  StopRow h b x Down h' = (is_up x ≡ false) × (h' ≡ h)
  StopRow h b x Ok h' =
      (is_up x ≡ true) × ((kept : LogState D) × StopsBroker content x.log kept × Quiet control x.log kept
      × (h' ≡ put_node h b (record (stopped x) { log = kept })))
  StopRow h b x other h' = ⊥

  -- up: what wasn't flushed is gone; after a write that failed, what it was to make durable may be there
  abbrev pub UpRow : PartitionState D → ℕ → Node D → Answer → PartitionState D → Type 0
  UpRow h b x IsUp h' = (is_up x ≡ true) × (h' ≡ h)
  UpRow h b x (Up n) h' =
      (is_up x ≡ false) × ((kept : LogState D) × ComesUp content x.log kept n × Quiet control x.log kept
      × (h' ≡ put_node h b (record x { log = kept })))
  UpRow h b x DiskFault h' = (is_up x ≡ false) × NodeReadFails content control h b x h'
  UpRow h b x (Damaged (File name) at) h' =
      (is_up x ≡ false) × ((kept : LogState D) × Unopened content control x.log kept name at
      × Quiet control x.log kept × (h' ≡ put_node h b (record x { log = kept })))
  UpRow h b x LastIncarnation h' = (is_up x ≡ false) × ((kept : LogState D) × IsSpent content control x.log kept
      × Quiet control x.log kept × (h' ≡ put_node h b (record x { log = kept })))
  UpRow h b x other h' = ⊥

  -- a command of one turn
  abbrev pub AnswerRow : PartitionState D → ℕ → Node D → Command → Answer → PartitionState D → Type 0
  AnswerRow h b x (Append recs) answer h' = AppendRow content control h b x (built recs) answer h'
  AnswerRow h b x (Raw bytes) answer h' = RawRow content control h b x bytes answer h'
  AnswerRow h b x Flush answer h' = FlushRow content control h b x answer h'
  AnswerRow h b x Roll answer h' = RollRow content control h b x answer h'
  AnswerRow h b x Elect answer h' = ElectRow h b x answer h'
  AnswerRow h b x Unclean answer h' = UncleanRow h b x answer h'
  AnswerRow h b x Learn answer h' = LearnRow content control h b x answer h'
  AnswerRow h b x Ack answer h' = AckRow h b x answer h'
  AnswerRow h b x Shrink answer h' = ShrinkRow h b answer h'
  AnswerRow h b x Expand answer h' = ExpandRow h b x answer h'
  AnswerRow h b x (Raise start) answer h' = RaiseRow h b x start answer h'
  AnswerRow h b x (Clock ms) answer h' = ClockRow h ms answer h'
  AnswerRow h b x (Pack on) answer h' = PackRow h on answer h'
  AnswerRow h b x (Copying on) answer h' = CopyingRow h on answer h'
  AnswerRow h b x (Offset which) answer h' = OffsetRow h x which answer h'
  AnswerRow h b x StopCommand answer h' = StopRow h b x answer h'
  AnswerRow h b x UpCommand answer h' = UpRow h b x answer h'
  AnswerRow h b x other answer h' = ⊥

  -- a first turn
  abbrev pub FirstRow : PartitionState D → ℕ → Node D → Command → Turned → PartitionState D → Type 0
  FirstRow h b x (Follow limit) turned h' = FollowRow content control h b x limit turned h'
  FirstRow h b x Join turned h' = JoinRow content control h b x turned h'
  FirstRow h b x Trim turned h' = TrimRow content control h x turned h'
  FirstRow h b x (Fetch offset limit) turned h' = FetchTurn content control h b x offset limit turned h'
  FirstRow h b x (Offset LatestTiered) turned h' = ⊥
  FirstRow h b x (Offset (At ts)) turned h' = ⊥
  FirstRow h b x command (Answers answer) h' = AnswerRow h b x command answer h'
  FirstRow h b x command (Begins g) h' = ⊥

  -- a later turn
  abbrev pub LaterRow : PartitionState D → ℕ → Node D → Command → StartSnapshot → Turned → PartitionState D → Type 0
  LaterRow h b x (Follow limit) g (Answers answer) h' = FollowOnRow content control h b x g answer h'
  LaterRow h b x Join g (Answers answer) h' = JoinOnRow content control h b x g answer h'
  LaterRow h b x Trim g (Answers answer) h' = TrimOnRow content control h b x g answer h'
  LaterRow h b x command g turned h' = ⊥

  -- a turn of a command of broker b, of which so much has begun
  abbrev pub Row : PartitionState D → ℕ → Node D → Option StartSnapshot → Command → Turned → PartitionState D → Type 0
  Row h b x None command turned h' = FirstRow h b x command turned h'
  Row h b x (Some g) command turned h' = LaterRow h b x command g turned h'
