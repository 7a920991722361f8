-- What a turn of each command comes to: its answer's cause, or what its actor's state has, and what it does to the
-- partition.
--
-- A row says for each answer exactly when it is given, the tests in their order, and the partition afterwards. Follow,
-- trim, copy, expire, some joins, some fetches, and the offsets of the remote tier and of a timestamp take more than
-- one turn.
use Rattle.std.specs.Prelude.{◌≡◌, ◌⊎◌, ◌<◌, ℕ, ℤ, true, false, Option, None, Some}
use Rattle.log_terms.specs.Log.{end_of, up_to}
use Rattle.record_batch.specs.Build.{built}
use Rattle.plain_log.specs.declared.answer.Answer.{Answer}
use Rattle.plain_log.specs.declared.answer.Answer.TheVariants.{Ok, Down, IsUp, DiskFault, LastIncarnation, Up}
use Rattle.plain_log.specs.declared.command.Command.{Command}
use Rattle.plain_log.specs.declared.command.Command.TheVariants.{Append, Raw, Flush, Roll, Elect, Unclean, Learn, Join}
use Rattle.plain_log.specs.declared.command.Command.TheVariants.{Follow, Copy, Trim, Expire, Ack, Shrink, Expand, Raise}
use Rattle.plain_log.specs.declared.command.Command.TheVariants.{Clock, Stop as StopCommand, Up as UpCommand, Fetch}
use Rattle.plain_log.specs.declared.command.Command.TheVariants.{Pack, Copying, Offset}
use Rattle.plain_log.specs.declared.command.Which.TheVariants.{LatestTiered, At}
use Rattle.laws_partition.specs.declared.start_snapshot.StartSnapshot.{StartSnapshot}
use Rattle.laws_partition.specs.declared.start_snapshot.Turned.{Turned}
use Rattle.laws_partition.specs.declared.start_snapshot.Turned.TheVariants.{Answers, Begins}
use Rattle.laws_partition.specs.Seen.{Back, Node, SeenPartition}
use Rattle.laws_partition.specs.Partition.{put_node, back_of, stopped}
use Rattle.laws_partition.specs.RowsOfLog.{AppendRow, RawRow, FlushRow, RollRow, TrimRow, TrimOnRow, FetchRow}
use Rattle.laws_partition.specs.RowsOfElections.{ElectRow, UncleanRow, LearnRow, AckRow, ShrinkRow, ExpandRow, RaiseRow}
use Rattle.laws_partition.specs.RowsOfFollowers.{JoinRow, JoinOnRow, FollowRow, FollowOnRow}
use Rattle.laws_partition.specs.RowsOfTiers.{LeadersRow, CopyRow, CopyOnRow, ExpireOnRow, FetchBegins, FetchOnRow}
use Rattle.laws_partition.specs.RowsOfOffsets.{OffsetRow, OffsetOnRow, OffsetAtRow}

-- stop
abbrev pub StopRow : SeenPartition → ℕ → Node → Answer → SeenPartition → Type 0
StopRow h b x Down h' = (x.up ≡ false) × (h' ≡ h)
StopRow h b x Ok h' = (x.up ≡ true) × (h' ≡ put_node h b (stopped x))
StopRow h b x other h' = ⊥

-- what comes back of a node's log: what is flushed, or after a write that failed the other
abbrev pub MayComeBack : Node → Back → Type 0
MayComeBack x back = (back ≡ back_of x) ⊎ (x.loose ≡ Some back)

-- a node that starts so, opened so many times
abbrev pub opened : Node → Back → ℕ → Node
opened x back incarnation = record x {
  up = true;
  log = record { batches = up_to back.0 x.log.batches; line = back.1 };
  flushed_end = end_of (up_to back.0 x.log.batches);
  saved = back.1;
  local = back.2;
  loose = None;
  incarnation = incarnation;
}

-- up: how often the log was opened rises, by more than one where openings failed; that it can't is answered as it comes
abbrev pub UpRow : SeenPartition → ℕ → Node → Answer → SeenPartition → Type 0
UpRow h b x IsUp h' = (x.up ≡ true) × (h' ≡ h)
UpRow h b x DiskFault h' = (x.up ≡ false) × (h' ≡ h)
UpRow h b x LastIncarnation h' = (x.up ≡ false) × (h' ≡ h)
UpRow h b x (Up n) h' = (x.up ≡ false) × ((back : Back) × (i : ℕ) × MayComeBack x back × (x.incarnation < i)
    × (n ≡ end_of (up_to back.0 x.log.batches)) × (h' ≡ put_node h b (opened x back i)))
UpRow h b x other h' = ⊥

-- clock
abbrev pub ClockRow : SeenPartition → ℤ → Answer → SeenPartition → Type 0
ClockRow h ms Ok h' = h' ≡ record h { clock = ms }
ClockRow h ms other h' = ⊥

-- pack and copying: how segments are copied, and whether they are, isn't seen
abbrev pub SwitchRow : SeenPartition → Answer → SeenPartition → Type 0
SwitchRow h Ok h' = h' ≡ h
SwitchRow h other h' = ⊥

-- a command of one turn
abbrev pub AnswerRow : SeenPartition → ℕ → Node → Command → Answer → SeenPartition → Type 0
AnswerRow h b x (Append recs) answer h' = AppendRow h b x (built recs) answer h'
AnswerRow h b x (Raw bytes) answer h' = RawRow h b x bytes answer h'
AnswerRow h b x Flush answer h' = FlushRow h b x answer h'
AnswerRow h b x Roll answer h' = RollRow h b x answer h'
AnswerRow h b x Elect answer h' = ElectRow h b x answer h'
AnswerRow h b x Unclean answer h' = UncleanRow h b x answer h'
AnswerRow h b x Learn answer h' = LearnRow h b x answer h'
AnswerRow h b x Ack answer h' = AckRow h b x answer h'
AnswerRow h b x Shrink answer h' = ShrinkRow h b answer h'
AnswerRow h b x Expand answer h' = ExpandRow h b x answer h'
AnswerRow h b x (Raise start) answer h' = RaiseRow h b x start answer h'
AnswerRow h b x (Clock ms) answer h' = ClockRow h ms answer h'
AnswerRow h b x (Pack on) answer h' = SwitchRow h answer h'
AnswerRow h b x (Copying on) answer h' = SwitchRow h answer h'
AnswerRow h b x StopCommand answer h' = StopRow h b x answer h'
AnswerRow h b x UpCommand answer h' = UpRow h b x answer h'
AnswerRow h b x (Fetch offset limit) answer h' = FetchRow h x offset limit answer h'
AnswerRow h b x (Offset which) answer h' = OffsetRow h x which answer h'
AnswerRow h b x other answer h' = ⊥

-- a first turn
abbrev pub FirstRow : SeenPartition → ℕ → Node → Command → Turned → SeenPartition → Type 0
FirstRow h b x (Follow limit) turned h' = FollowRow h b x limit turned h'
FirstRow h b x Join turned h' = JoinRow h b x turned h'
FirstRow h b x Trim turned h' = TrimRow h x turned h'
FirstRow h b x Copy turned h' = CopyRow h x turned h'
FirstRow h b x Expire turned h' = LeadersRow h x turned h'
FirstRow h b x (Fetch offset limit) (Begins g) h' = FetchBegins h x offset g h'
FirstRow h b x (Offset LatestTiered) turned h' = LeadersRow h x turned h'
FirstRow h b x (Offset (At ts)) turned h' = LeadersRow h x turned h'
FirstRow h b x command (Answers answer) h' = AnswerRow h b x command answer h'
FirstRow h b x command (Begins g) h' = ⊥

-- a later turn
abbrev pub LaterRow : SeenPartition → ℕ → Node → Command → StartSnapshot → Turned → SeenPartition → Type 0
LaterRow h b x (Follow limit) g (Answers answer) h' = FollowOnRow h b x g answer h'
LaterRow h b x Join g (Answers answer) h' = JoinOnRow h b x g answer h'
LaterRow h b x Trim g (Answers answer) h' = TrimOnRow h b x g answer h'
LaterRow h b x Copy g (Answers answer) h' = CopyOnRow h x g answer h'
LaterRow h b x Expire g (Answers answer) h' = ExpireOnRow h x g answer h'
LaterRow h b x (Fetch offset limit) g (Answers answer) h' = FetchOnRow h x offset limit g answer h'
LaterRow h b x (Offset LatestTiered) g (Answers answer) h' = OffsetOnRow h x g answer h'
LaterRow h b x (Offset (At ts)) g (Answers answer) h' = OffsetAtRow h x ts g answer h'
LaterRow h b x command g turned h' = ⊥

-- a turn of a command of broker b, of which so much has begun
abbrev pub Row : SeenPartition → ℕ → Node → Option StartSnapshot → Command → Turned → SeenPartition → Type 0
Row h b x None command turned h' = FirstRow h b x command turned h'
Row h b x (Some g) command turned h' = LaterRow h b x command g turned h'
