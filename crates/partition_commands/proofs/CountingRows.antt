-- The turns of commands on brokers' logs: one call of a disk failed where a fault of one is reported, and none
-- elsewhere.
use Rattle.std.proofs.Common.{◌≡◌, sym, subst, refl, ℕ, List, slice_get, Some, None, Option, Bool, Ok as Done}
use Rattle.std.specs.Prelude.{min, ℤ}
use Rattle.tier_base.specs.Device.{Control}
use Rattle.disk_model.specs.Call.{call_code}
use Rattle.disk_model.specs.Content.{Content}
use Rattle.registry.specs.Calls.{after_ack}
use Rattle.record_batch.specs.Build.{built}
use Rattle.plain_log.specs.declared.answer.Answer.{Answer}
use Rattle.plain_log.specs.declared.answer.Answer.TheVariants.{Ok, OkAt, OkSpan, Down, NotLeader, Refused, LastOffset, TooManySegments, EmptySegment, DiskFault, DiskFaultAt, Damaged, OutOfRange, Empty, Run, LastEpoch, NotInSync, DownBroker, BehindStart, Known, Follows, NeedsElection, Leads, NotJoined, StaleEpoch, IsLeader, Behind, NotAbove, AboveMark, NotFollower, NoLeader, Cut, Level, Stopped, Passed, Copied, IsUp, LastIncarnation, Up as IsOpen, Moved, BelowStart, Rebuilt, Kept as Remains, Dropped, Offset as OffsetAnswer}
use Rattle.plain_log.specs.declared.answer.Place.TheVariants.{File}
use Rattle.plain_log.specs.declared.command.Command.{Command}
use Rattle.plain_log.specs.declared.command.Command.TheVariants.{Append, Raw, Flush, Roll, Elect, Unclean, Learn, Join, Follow, Trim, Ack, Shrink, Expand, Raise, Clock, Stop as StopCommand, Up as UpCommand, Fetch, Pack, Copying, Offset}
use Rattle.plain_log.specs.declared.command.Which.{Which}
use Rattle.plain_log.specs.declared.command.Which.TheVariants.{LatestTiered, At}
use Rattle.plain_log.specs.State.{acking}
use Rattle.broker_log.specs.Seen.{LogState}
use Rattle.broker_log.specs.Seen as log
use Rattle.laws_partition.specs.declared.start_snapshot.StartSnapshot.{StartSnapshot}
use Rattle.laws_partition.specs.declared.start_snapshot.Turned.{Turned}
use Rattle.laws_partition.specs.declared.start_snapshot.Turned.TheVariants.{Answers, Begins}
use Rattle.laws_partition.proofs.BoolTests.{some_of}
use Rattle.partition_commands.specs.declared.partition_state.Node.{Node}
use Rattle.partition_commands.specs.declared.partition_state.PartitionState.{PartitionState}
use Rattle.partition_commands.specs.Disks.{HaveDisks, DisksCount}
use Rattle.partition_commands.specs.Faults.{is_of_disk, is_answered}
use Rattle.partition_commands.specs.Partition.{put_node, end_of, flushed_end_of, stopped, the_leader, NodeReadFails, BreaksNode, BreaksBy}
use Rattle.partition_commands.specs.Turns.{ClockRow, PackRow, CopyingRow, OffsetRow, StopRow, UpRow, AnswerRow, FirstRow, LaterRow, Row}
use Rattle.partition_commands.specs.TurnsOfLog.{NodeGains, AppendRow, RawRow, FlushRow, RollRow, TrimRow, TrimOnRow}
use Rattle.partition_commands.specs.TurnsOfFetch.{FetchRow, FetchTurn}
use Rattle.partition_commands.specs.TurnsOfElections.{ElectRow, UncleanRow, LearnRow, AckRow, ShrinkRow, ExpandRow, RaiseRow}
use Rattle.partition_commands.specs.TurnsOfFollowers.{JoinRow, JoinOnRow, FollowRow, FollowOnRow}
use Rattle.partition_commands.proofs.SoundLaw.{leader_at}
use Rattle.partition_commands.proofs.CountingDisks.{ByFault, by_map, Quietly, Once, OnceFor, quiet_same, quiet_put, quiet_log, quiet_leaves, once_put, counts_by}

module _ {D : Type 0} (content : D → Content) (control : D → Control call_code) where
  -- what a turn of the broker counts that works on its own log, where it gets this answer
  abbrev Leaving : PartitionState D → ℕ → PartitionState D → Answer → Type 0
  Leaving h b h' answer = ByFault (Once control h b h') (Quietly control h h') (is_of_disk answer)

  -- what a turn of the command counts
  abbrev pub LeavingFor : Command → PartitionState D → ℕ → PartitionState D → Turned → Type 0
  LeavingFor command h b h' turned = ByFault (OnceFor control command h b h') (Quietly control h h') (is_answered is_of_disk turned)

  of_follow : (h : PartitionState D) (b : ℕ) (h' : PartitionState D) (limit : ℕ) (answer : Answer) → Leaving h b h' answer → LeavingFor (Follow limit) h b h' (Answers answer)
  of_follow h b h' limit answer k =
      by_map (Once control h b h') (OnceFor control (Follow limit) h b h') (Quietly control h h') (is_of_disk answer) (λ once have. (b, once have)) k

  fails_counts : (h : PartitionState D) (b : ℕ) (x : Node D) (h' : PartitionState D) → slice_get h.nodes b ≡ Some x → NodeReadFails content control h b x h' → Once control h b h'
  fails_counts h b x h' at k = once_put control h b x (record x { log = k.0 }) h' at k.3 k.4

  breaks_counts : (h : PartitionState D) (b : ℕ) (x : Node D) (makes : log.LogSeen → log.LogSeen) (h' : PartitionState D) → slice_get h.nodes b ≡ Some x → BreaksNode content control h b x makes h' → Once control h b h'
  breaks_counts h b x makes h' at k = once_put control h b x (record (stopped x) { log = k.kept }) h' at k.cause k.after

  -- whatever the write that failed makes of the log
  broken_counts : (h : PartitionState D) (b : ℕ) (x : Node D) (B : LogState D → LogState D → Type 0) (h' : PartitionState D) → slice_get h.nodes b ≡ Some x → BreaksBy content control h b x B h' → Once control h b h'
  broken_counts h b x B h' at k = once_put control h b x (record (stopped x) { log = k.kept }) h' at k.cause k.after

  gains_counts : (h : PartitionState D) (b : ℕ) (x : Node D) (batch : List ℕ) (h' : PartitionState D) → slice_get h.nodes b ≡ Some x → NodeGains content control h b x batch h' → Quietly control h h'
  gains_counts h b x batch h' at k = quiet_put control h b x (record x { log = k.0 }) h' at k.4.1 k.5

  append_counts : (h : PartitionState D) (b : ℕ) (x : Node D) (batch : List ℕ) (answer : Answer) (h' : PartitionState D) → slice_get h.nodes b ≡ Some x → AppendRow content control h b x batch answer h' → Leaving h b h' answer
  append_counts h b x batch Down h' at w = quiet_same control h h' w.1
  append_counts h b x batch NotLeader h' at w = quiet_same control h h' w.2
  append_counts h b x batch LastOffset h' at w = quiet_same control h h' w.3
  append_counts h b x batch TooManySegments h' at w = quiet_same control h h' w.4
  append_counts h b x batch DiskFault h' at w = breaks_counts h b x _ h' at w.4
  append_counts h b x batch (OkSpan base last e) h' at w = gains_counts h b x _ h' at w.6
  append_counts h b x batch other h' at w = elim w [ ]

  raw_counts : (h : PartitionState D) (b : ℕ) (x : Node D) (bytes : List ℕ) (answer : Answer) (h' : PartitionState D) → slice_get h.nodes b ≡ Some x → RawRow content control h b x bytes answer h' → Leaving h b h' answer
  raw_counts h b x bytes Down h' at w = append_counts h b x bytes Down h' at w
  raw_counts h b x bytes NotLeader h' at w = append_counts h b x bytes NotLeader h' at w
  raw_counts h b x bytes (Refused cause) h' at w = quiet_same control h h' w.3
  raw_counts h b x bytes LastOffset h' at w = append_counts h b x bytes LastOffset h' at w.1
  raw_counts h b x bytes TooManySegments h' at w = append_counts h b x bytes TooManySegments h' at w.1
  raw_counts h b x bytes DiskFault h' at w = append_counts h b x bytes DiskFault h' at w.1
  raw_counts h b x bytes (OkSpan base last e) h' at w = append_counts h b x bytes (OkSpan base last e) h' at w.1
  raw_counts h b x bytes other h' at w = elim w [ ]

  flush_counts : (h : PartitionState D) (b : ℕ) (x : Node D) (answer : Answer) (h' : PartitionState D) → slice_get h.nodes b ≡ Some x → FlushRow content control h b x answer h' → Leaving h b h' answer
  flush_counts h b x Down h' at w = quiet_same control h h' w.1
  flush_counts h b x DiskFault h' at w = breaks_counts h b x _ h' at w.1
  flush_counts h b x (OkAt n) h' at w = quiet_put control h b x (record x { log = w.1.0 }) h' at w.1.2.1 w.1.3
  flush_counts h b x other h' at w = elim w [ ]

  roll_counts : (h : PartitionState D) (b : ℕ) (x : Node D) (answer : Answer) (h' : PartitionState D) → slice_get h.nodes b ≡ Some x → RollRow content control h b x answer h' → Leaving h b h' answer
  roll_counts h b x Down h' at w = quiet_same control h h' w.1
  roll_counts h b x EmptySegment h' at w = quiet_same control h h' w.2
  roll_counts h b x TooManySegments h' at w = quiet_same control h h' w.2
  roll_counts h b x DiskFault h' at w = breaks_counts h b x _ h' at w.2
  roll_counts h b x (OkAt n) h' at w = quiet_put control h b x (record x { log = w.3.0 }) h' at w.3.2.1 w.3.3
  roll_counts h b x other h' at w = elim w [ ]

  fetch_counts : (h : PartitionState D) (b : ℕ) (x : Node D) (offset limit : ℕ) (answer : Answer) (h' : PartitionState D) → slice_get h.nodes b ≡ Some x
      → FetchRow content control h b x offset limit answer h' → Leaving h b h' answer
  fetch_counts h b x offset limit Down h' at w = quiet_same control h h' w.1
  fetch_counts h b x offset limit NotLeader h' at w = quiet_same control h h' w.2
  fetch_counts h b x offset limit (OutOfRange start end) h' at w = quiet_same control h h' w.5
  fetch_counts h b x offset limit Empty h' at w = quiet_same control h h' w.4
  fetch_counts h b x offset limit (Run tier size stop bytes) h' at w = quiet_put control h b x (record x { log = w.4.kept }) h' at w.4.quiet.1 w.4.after
  fetch_counts h b x offset limit DiskFault h' at w = fails_counts h b x h' at w.4
  fetch_counts h b x offset limit (Damaged (File name) from) h' at w = quiet_put control h b x (record x { log = w.4.kept }) h' at w.4.quiet.1 w.4.after
  fetch_counts h b x offset limit other h' at w = elim w [ ]

  elect_counts : (h : PartitionState D) (b : ℕ) (x : Node D) (answer : Answer) (h' : PartitionState D) → ElectRow h b x answer h' → Leaving h b h' answer
  elect_counts h b x LastEpoch h' w = let t = some_of _ (slice_get h.registry.replicas b) w in quiet_leaves control h _ h' t.2
  elect_counts h b x NotInSync h' w = let t = some_of _ (slice_get h.registry.replicas b) w in quiet_leaves control h _ h' t.2
  elect_counts h b x DownBroker h' w = let t = some_of _ (slice_get h.registry.replicas b) w in quiet_leaves control h _ h' t.2
  elect_counts h b x (OkAt n) h' w = let t = some_of _ (slice_get h.registry.replicas b) w in quiet_leaves control h _ h' t.2
  elect_counts h b x other h' w = elim w [ ]

  unclean_counts : (h : PartitionState D) (b : ℕ) (x : Node D) (answer : Answer) (h' : PartitionState D) → UncleanRow h b x answer h' → Leaving h b h' answer
  unclean_counts h b x LastEpoch h' w = quiet_leaves control h _ h' w
  unclean_counts h b x DownBroker h' w = quiet_leaves control h _ h' w
  unclean_counts h b x (BehindStart end start) h' w = quiet_leaves control h _ h' w
  unclean_counts h b x (OkAt n) h' w = quiet_leaves control h _ h' w
  unclean_counts h b x other h' w = elim w [ ]

  learn_counts : (h : PartitionState D) (b : ℕ) (x : Node D) (answer : Answer) (h' : PartitionState D) → slice_get h.nodes b ≡ Some x → LearnRow content control h b x answer h' → Leaving h b h' answer
  learn_counts h b x Down h' at w = quiet_same control h h' w.1
  learn_counts h b x Known h' at w = quiet_same control h h' w.2
  learn_counts h b x (Follows n) h' at w = quiet_log control h b x _ h' at refl w.4
  learn_counts h b x (NeedsElection n) h' at w = quiet_same control h h' w.5
  learn_counts h b x (Leads n) h' at w = let g = w.4.1 in quiet_put control h b x _ h' at g.quiet.1 g.after
  learn_counts h b x DiskFault h' at w = breaks_counts h b x _ h' at w.4
  learn_counts h b x other h' at w = elim w [ ]

  ack_counts : (h : PartitionState D) (b : ℕ) (x : Node D) (answer : Answer) (h' : PartitionState D) → slice_get h.nodes b ≡ Some x → AckRow h b x answer h' → Leaving h b h' answer
  ack_counts h b x Down h' at w = quiet_same control h h' w.1
  ack_counts h b x NotJoined h' at w = quiet_same control h h' w.2
  ack_counts h b x (StaleEpoch e) h' at w =
      let o = some_of _ (acking x.role) w.1 in
      let t = some_of _ (slice_get h.registry.replicas b) o.2 in
      quiet_leaves control h _ h' t.2
  ack_counts h b x (OkAt mark) h' at w =
      let o = some_of _ (acking x.role) w.1 in
      let t = some_of _ (slice_get h.registry.replicas b) o.2 in
      let r = some_of _ (after_ack h.registry b t.0 o.0 (flushed_end_of x) (Done mark)) t.2 in
      let y = record x { known_high_watermark = min r.0.mark (end_of x) } in
      let put = quiet_log control h b x y (put_node h b y) at refl refl in
      subst (λ (k : PartitionState D). Quietly control h k) (sym r.2) put
  ack_counts h b x other h' at w = elim w [ ]

  shrink_counts : (h : PartitionState D) (b : ℕ) (answer : Answer) (h' : PartitionState D) → ShrinkRow h b answer h' → Leaving h b h' answer
  shrink_counts h b NotInSync h' w = let t = some_of _ (slice_get h.registry.replicas b) w in quiet_leaves control h _ h' t.2
  shrink_counts h b IsLeader h' w = let t = some_of _ (slice_get h.registry.replicas b) w in quiet_leaves control h _ h' t.2
  shrink_counts h b Ok h' w = let t = some_of _ (slice_get h.registry.replicas b) w in quiet_leaves control h _ h' t.2
  shrink_counts h b other h' w = elim w [ ]

  expand_counts : (h : PartitionState D) (b : ℕ) (x : Node D) (answer : Answer) (h' : PartitionState D) → ExpandRow h b x answer h' → Leaving h b h' answer
  expand_counts h b x DownBroker h' w = let t = some_of _ (slice_get h.registry.replicas b) w in quiet_leaves control h _ h' t.2
  expand_counts h b x (Behind ack mark) h' w = let t = some_of _ (slice_get h.registry.replicas b) w in quiet_leaves control h _ h' t.2
  expand_counts h b x Ok h' w = let t = some_of _ (slice_get h.registry.replicas b) w in quiet_leaves control h _ h' t.2
  expand_counts h b x other h' w = elim w [ ]

  raise_counts : (h : PartitionState D) (b : ℕ) (x : Node D) (wanted : ℕ) (answer : Answer) (h' : PartitionState D) → RaiseRow h b x wanted answer h' → Leaving h b h' answer
  raise_counts h b x wanted Down h' w = quiet_same control h h' w.1
  raise_counts h b x wanted NotLeader h' w = quiet_same control h h' w.2
  raise_counts h b x wanted (StaleEpoch e) h' w = quiet_leaves control h _ h' w.1.2
  raise_counts h b x wanted (NotAbove start) h' w = quiet_leaves control h _ h' w.1.2
  raise_counts h b x wanted (AboveMark mark) h' w = quiet_leaves control h _ h' w.1.2
  raise_counts h b x wanted (OkAt start) h' w = quiet_leaves control h _ h' w.1.2
  raise_counts h b x wanted other h' w = elim w [ ]

  stop_counts : (h : PartitionState D) (b : ℕ) (x : Node D) (answer : Answer) (h' : PartitionState D) → slice_get h.nodes b ≡ Some x → StopRow content control h b x answer h' → Leaving h b h' answer
  stop_counts h b x Down h' at w = quiet_same control h h' w.1
  stop_counts h b x Ok h' at w = quiet_put control h b x _ h' at w.1.2.1 w.1.3
  stop_counts h b x other h' at w = elim w [ ]

  up_counts : (h : PartitionState D) (b : ℕ) (x : Node D) (answer : Answer) (h' : PartitionState D) → slice_get h.nodes b ≡ Some x → UpRow content control h b x answer h' → Leaving h b h' answer
  up_counts h b x IsUp h' at w = quiet_same control h h' w.1
  up_counts h b x (IsOpen n) h' at w = quiet_put control h b x _ h' at w.1.2.1 w.1.3
  up_counts h b x DiskFault h' at w = fails_counts h b x h' at w.1
  up_counts h b x (Damaged (File name) from) h' at w = quiet_put control h b x _ h' at w.1.2.1 w.1.3
  up_counts h b x LastIncarnation h' at w = quiet_put control h b x _ h' at w.1.2.1 w.1.3
  up_counts h b x other h' at w = elim w [ ]

  clock_counts : (h : PartitionState D) (b : ℕ) (ms : ℤ) (answer : Answer) (h' : PartitionState D) → ClockRow h ms answer h' → Leaving h b h' answer
  clock_counts h b ms Ok h' w = quiet_same control (record h { clock = ms }) h' w
  clock_counts h b ms other h' w = elim w [ ]

  pack_counts : (h : PartitionState D) (b : ℕ) (on : Bool) (answer : Answer) (h' : PartitionState D) → PackRow h on answer h' → Leaving h b h' answer
  pack_counts h b on Ok h' w = quiet_same control (record h { packed = on }) h' w
  pack_counts h b on other h' w = elim w [ ]

  copying_counts : (h : PartitionState D) (b : ℕ) (on : Bool) (answer : Answer) (h' : PartitionState D) → CopyingRow h on answer h' → Leaving h b h' answer
  copying_counts h b on Ok h' w = quiet_same control (record h { copying = on }) h' w
  copying_counts h b on other h' w = elim w [ ]

  offset_counts : (h : PartitionState D) (b : ℕ) (x : Node D) (which : Which) (answer : Answer) (h' : PartitionState D) → OffsetRow h x which answer h' → Leaving h b h' answer
  offset_counts h b x which Down h' w = quiet_same control h h' w.1
  offset_counts h b x which NotLeader h' w = quiet_same control h h' w.2
  offset_counts h b x which (OffsetAnswer n) h' w = quiet_same control h h' w.3
  offset_counts h b x which other h' w = elim w [ ]

  answer_counts : (h : PartitionState D) (b : ℕ) (x : Node D) (command : Command) (answer : Answer) (h' : PartitionState D) → slice_get h.nodes b ≡ Some x
      → AnswerRow content control h b x command answer h' → LeavingFor command h b h' (Answers answer)
  answer_counts h b x (Append recs) answer h' at w = append_counts h b x (built recs) answer h' at w
  answer_counts h b x (Raw bytes) answer h' at w = raw_counts h b x bytes answer h' at w
  answer_counts h b x Flush answer h' at w = flush_counts h b x answer h' at w
  answer_counts h b x Roll answer h' at w = roll_counts h b x answer h' at w
  answer_counts h b x Elect answer h' at w = elect_counts h b x answer h' w
  answer_counts h b x Unclean answer h' at w = unclean_counts h b x answer h' w
  answer_counts h b x Learn answer h' at w = learn_counts h b x answer h' at w
  answer_counts h b x Ack answer h' at w = ack_counts h b x answer h' at w
  answer_counts h b x Shrink answer h' at w = shrink_counts h b answer h' w
  answer_counts h b x Expand answer h' at w = expand_counts h b x answer h' w
  answer_counts h b x (Raise start) answer h' at w = raise_counts h b x start answer h' w
  answer_counts h b x (Clock ms) answer h' at w = clock_counts h b ms answer h' w
  answer_counts h b x (Pack on) answer h' at w = pack_counts h b on answer h' w
  answer_counts h b x (Copying on) answer h' at w = copying_counts h b on answer h' w
  answer_counts h b x (Offset which) answer h' at w = offset_counts h b x which answer h' w
  answer_counts h b x StopCommand answer h' at w = stop_counts h b x answer h' at w
  answer_counts h b x UpCommand answer h' at w = up_counts h b x answer h' at w
  answer_counts h b x other answer h' at w = elim w [ ]

  fetch_turn_counts : (h : PartitionState D) (b : ℕ) (x : Node D) (offset limit : ℕ) (turned : Turned) (h' : PartitionState D) → slice_get h.nodes b ≡ Some x
      → FetchTurn content control h b x offset limit turned h' → LeavingFor (Fetch offset limit) h b h' turned
  fetch_turn_counts h b x offset limit (Answers answer) h' at w = fetch_counts h b x offset limit answer h' at w
  fetch_turn_counts h b x offset limit (Begins g) h' at w = quiet_same control h h' w.6

  join_counts : (h : PartitionState D) (b : ℕ) (x : Node D) (turned : Turned) (h' : PartitionState D) → slice_get h.nodes b ≡ Some x → JoinRow content control h b x turned h' → LeavingFor Join h b h' turned
  join_counts h b x (Answers Down) h' at w = quiet_same control h h' w.1
  join_counts h b x (Answers NotFollower) h' at w = quiet_same control h h' w.2
  join_counts h b x (Answers (StaleEpoch e)) h' at w = quiet_same control h h' w.3
  join_counts h b x (Answers NoLeader) h' at w = quiet_same control h h' w.3
  join_counts h b x (Answers (Cut n)) h' at w = let g = (some_of _ (the_leader h) w.2).2.5 in quiet_put control h b x _ h' at g.quiet.1 g.after
  join_counts h b x (Answers (DiskFaultAt n)) h' at w = broken_counts h b x _ h' at (some_of _ (the_leader h) w.2).2.4.1
  join_counts h b x (Begins g) h' at w = let k = (some_of _ (the_leader h) w.2).2.4.cuts in quiet_put control h b x _ h' at k.quiet.1 k.after
  join_counts h b x other h' at w = elim w [ ]

  join_on_counts : (h : PartitionState D) (b : ℕ) (x : Node D) (g : StartSnapshot) (answer : Answer) (h' : PartitionState D) → slice_get h.nodes b ≡ Some x → JoinOnRow content control h b x g answer h' → Leaving h b h' answer
  join_on_counts h b x g Stopped h' at w = quiet_same control h h' w.1
  join_on_counts h b x g (StaleEpoch e) h' at w = quiet_same control h h' w.3
  join_on_counts h b x g (Passed n) h' at w = quiet_same control h h' w.3
  join_on_counts h b x g (BelowStart start) h' at w = quiet_same control h h' w.5
  join_on_counts h b x g (DiskFaultAt n) h' at w = broken_counts h b x _ h' at w.2
  join_on_counts h b x g (Rebuilt n) h' at w = quiet_put control h b x (record x { log = w.2.kept }) h' at w.2.quiet.1 w.2.after
  join_on_counts h b x g other h' at w = elim w [ ]

  trim_counts : (h : PartitionState D) (b : ℕ) (x : Node D) (turned : Turned) (h' : PartitionState D) → TrimRow content control h x turned h' → LeavingFor Trim h b h' turned
  trim_counts h b x (Answers Down) h' w = quiet_same control h h' w.1
  trim_counts h b x (Begins g) h' w = quiet_same control h h' w.2
  trim_counts h b x other h' w = elim w [ ]

  trim_on_counts : (h : PartitionState D) (b : ℕ) (x : Node D) (g : StartSnapshot) (answer : Answer) (h' : PartitionState D) → slice_get h.nodes b ≡ Some x → TrimOnRow content control h b x g answer h' → Leaving h b h' answer
  trim_on_counts h b x g Stopped h' at w = quiet_same control h h' w.1
  trim_on_counts h b x g Remains h' at w = quiet_same control h h' w.1
  trim_on_counts h b x g DiskFault h' at w = broken_counts h b x _ h' at w.2
  trim_on_counts h b x g (Dropped base last) h' at w = quiet_put control h b x (record x { log = w.2.0 }) h' at w.2.2.1 w.2.3
  trim_on_counts h b x g other h' at w = elim w [ ]

  follow_counts : (h : PartitionState D) (b : ℕ) (x : Node D) (limit : ℕ) (turned : Turned) (h' : PartitionState D) → FollowRow content control h b x limit turned h' → LeavingFor (Follow limit) h b h' turned
  follow_counts h b x limit (Answers Down) h' w = quiet_same control h h' w.1
  follow_counts h b x limit (Answers NotJoined) h' w = quiet_same control h h' w.2
  follow_counts h b x limit (Answers (StaleEpoch e)) h' w = quiet_same control h h' w.3
  follow_counts h b x limit (Answers NoLeader) h' w = quiet_same control h h' w.3
  follow_counts h b x limit (Answers Level) h' w = quiet_same control h h' w.3
  follow_counts h b x limit (Answers DiskFault) h' w =
      let y = some_of _ (the_leader h) w.2 in
      λ have. (h.registry.leader.0, fails_counts h h.registry.leader.0 y.0 h' (leader_at h y.0 y.1) y.2.2 have)
  follow_counts h b x limit (Answers (Moved n)) h' w = quiet_same control h h' w.3
  follow_counts h b x limit (Answers (Damaged (File name) from)) h' w =
      let y = some_of _ (the_leader h) w.2 in
      quiet_put control h h.registry.leader.0 y.0 (record y.0 { log = y.2.2.kept }) h' (leader_at h y.0 y.1) y.2.2.quiet.1 y.2.2.after
  follow_counts h b x limit (Begins g) h' w =
      let y = some_of _ (the_leader h) w.2 in
      quiet_put control h h.registry.leader.0 y.0 (record y.0 { log = y.2.2.kept }) h' (leader_at h y.0 y.1) y.2.2.quiet.1 y.2.2.after
  follow_counts h b x limit other h' w = elim w [ ]

  follow_on_counts : (h : PartitionState D) (b : ℕ) (x : Node D) (g : StartSnapshot) (answer : Answer) (h' : PartitionState D) → slice_get h.nodes b ≡ Some x
      → FollowOnRow content control h b x g answer h' → Leaving h b h' answer
  follow_on_counts h b x g Stopped h' at w = quiet_same control h h' w.1
  follow_on_counts h b x g (StaleEpoch e) h' at w = quiet_same control h h' w.3
  follow_on_counts h b x g (Passed n) h' at w = quiet_same control h h' w.3
  follow_on_counts h b x g TooManySegments h' at w = quiet_same control h h' w.3
  follow_on_counts h b x g DiskFault h' at w = breaks_counts h b x _ h' at w.3
  follow_on_counts h b x g (Copied n) h' at w = quiet_put control h b x (record x { log = w.3.kept }) h' at w.3.quiet.1 w.3.after
  follow_on_counts h b x g other h' at w = elim w [ ]

  first_counts : (h : PartitionState D) (b : ℕ) (x : Node D) (command : Command) (turned : Turned) (h' : PartitionState D) → slice_get h.nodes b ≡ Some x
      → FirstRow content control h b x command turned h' → LeavingFor command h b h' turned
  first_counts h b x (Follow limit) turned h' at w = follow_counts h b x limit turned h' w
  first_counts h b x Join turned h' at w = join_counts h b x turned h' at w
  first_counts h b x Trim turned h' at w = trim_counts h b x turned h' w
  first_counts h b x (Fetch offset limit) turned h' at w = fetch_turn_counts h b x offset limit turned h' at w
  first_counts h b x (Offset LatestTiered) turned h' at w = elim w [ ]
  first_counts h b x (Offset (At ts)) turned h' at w = elim w [ ]
  first_counts h b x command (Answers answer) h' at w = answer_counts h b x command answer h' at w
  first_counts h b x command (Begins g) h' at w = elim w [ ]

  later_counts : (h : PartitionState D) (b : ℕ) (x : Node D) (command : Command) (g : StartSnapshot) (turned : Turned) (h' : PartitionState D) → slice_get h.nodes b ≡ Some x
      → LaterRow content control h b x command g turned h' → LeavingFor command h b h' turned
  later_counts h b x (Follow limit) g (Answers answer) h' at w = of_follow h b h' limit answer (follow_on_counts h b x g answer h' at w)
  later_counts h b x Join g (Answers answer) h' at w = join_on_counts h b x g answer h' at w
  later_counts h b x Trim g (Answers answer) h' at w = trim_on_counts h b x g answer h' at w
  later_counts h b x command g turned h' at w = elim w [ ]

  pub row_counts : (h : PartitionState D) (b : ℕ) (x : Node D) (snapshot : Option StartSnapshot) (command : Command) (turned : Turned) (h' : PartitionState D) → slice_get h.nodes b ≡ Some x
      → Row content control h b x snapshot command turned h' → LeavingFor command h b h' turned
  row_counts h b x None command turned h' at w = first_counts h b x command turned h' at w
  row_counts h b x (Some g) command turned h' at w = later_counts h b x command g turned h' at w

  -- over each row
  pub rows_count : (h : PartitionState D) (b : ℕ) (x : Node D) (snapshot : Option StartSnapshot) (command : Command) (turned : Turned) (h' : PartitionState D) → slice_get h.nodes b ≡ Some x → HaveDisks h.nodes
      → Row content control h b x snapshot command turned h' → DisksCount control command b (is_answered is_of_disk turned) h.nodes h'.nodes
  rows_count h b x snapshot command turned h' at have w =
      counts_by control command h b h' (is_answered is_of_disk turned) have (row_counts h b x snapshot command turned h' at w)
