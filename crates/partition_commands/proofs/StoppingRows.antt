-- How often brokers have stopped after each row: one of them once more at most, where its command is answered.
use Rattle.std.proofs.Common.{◌≡◌, inl, inr, ap, sym, subst, refl, ℕ, ◌+◌, ◌≤◌, List, slice_get, slice_set, Some, None, Option, Bool, Ok as Done, arith}
use Rattle.std.specs.Prelude.{min, ℤ}
use Rattle.tier_base.specs.Device.{Control}
use Rattle.disk_model.specs.Call.{call_code}
use Rattle.disk_model.specs.Content.{Content}
use Rattle.log_terms.proofs.Lists.{get-set}
use Rattle.registry.specs.Calls.{after_ack}
use Rattle.registry.specs.declared.registry.Registry.{Registry}
use Rattle.record_batch.specs.Build.{built}
use Rattle.plain_log.specs.declared.answer.Answer.{Answer}
use Rattle.plain_log.specs.declared.answer.Answer.TheVariants.{Ok, OkAt, OkSpan, Down, NotLeader, Refused, LastOffset, TooManySegments, EmptySegment, DiskFault, DiskFaultAt, Damaged, OutOfRange, Empty, Run, LastEpoch, NotInSync, DownBroker, BehindStart, Known, Follows, NeedsElection, Leads, NotJoined, StaleEpoch, IsLeader, Behind, NotAbove, AboveMark, NotFollower, NoLeader, Cut, Level, Stopped, Passed, Copied, IsUp, LastIncarnation, Up as IsOpen, Moved, BelowStart, Rebuilt, Kept as Remains, Dropped, Offset as OffsetAnswer}
use Rattle.plain_log.specs.declared.answer.Place.TheVariants.{File}
use Rattle.plain_log.specs.declared.command.Command.{Command}
use Rattle.plain_log.specs.declared.command.Command.TheVariants.{Append, Raw, Flush, Roll, Elect, Unclean, Learn, Join, Follow, Trim, Ack, Shrink, Expand, Raise, Clock, Stop as StopCommand, Up as UpCommand, Fetch, Pack, Copying, Offset}
use Rattle.plain_log.specs.declared.command.Which.{Which}
use Rattle.plain_log.specs.declared.command.Which.TheVariants.{LatestTiered, At}
use Rattle.plain_log.specs.State.{acking}
use Rattle.broker_log.specs.Seen.{LogState}
use Rattle.broker_log.specs.Seen as log
use Rattle.laws_partition.specs.declared.start_snapshot.StartSnapshot.{StartSnapshot}
use Rattle.laws_partition.specs.declared.start_snapshot.Turned.{Turned}
use Rattle.laws_partition.specs.declared.start_snapshot.Turned.TheVariants.{Answers, Begins}
use Rattle.laws_partition.proofs.BoolTests.{some_of}
use Rattle.partition_commands.specs.declared.partition_state.Node.{Node}
use Rattle.partition_commands.specs.declared.partition_state.PartitionState.{PartitionState}
use Rattle.partition_commands.specs.Stopping.{HaveStopped}
use Rattle.partition_commands.specs.Partition.{put_node, end_of, flushed_end_of, stopped, the_leader, NodeReadFails, LogRests, KeepsPartition, BreaksNode, BreaksBy}
use Rattle.partition_commands.specs.Turns.{ClockRow, PackRow, CopyingRow, OffsetRow, StopRow, UpRow, AnswerRow, FirstRow, LaterRow, Row}
use Rattle.partition_commands.specs.TurnsOfLog.{AppendRow, RawRow, FlushRow, RollRow, TrimRow, TrimOnRow}
use Rattle.partition_commands.specs.TurnsOfFetch.{FetchRow, FetchTurn}
use Rattle.partition_commands.specs.TurnsOfElections.{Leaves, ElectRow, UncleanRow, LearnRow, AckRow, ShrinkRow, ExpandRow, RaiseRow}
use Rattle.partition_commands.specs.TurnsOfFollowers.{JoinRow, JoinOnRow, FollowRow, FollowOnRow}
use Rattle.partition_commands.proofs.SoundLaw.{leader_at}

module _ {D : Type 0} where
  -- the brokers have stopped as often at most
  abbrev pub StopsStay : PartitionState D → PartitionState D → Type 0
  StopsStay h h' = (n : ℕ) → HaveStopped n h.nodes → HaveStopped n h'.nodes

  -- each once more at most
  abbrev pub StopsRise : PartitionState D → PartitionState D → Type 0
  StopsRise h h' = (n : ℕ) → HaveStopped n h.nodes → HaveStopped (n + 1) h'.nodes

  -- by what the turn came to
  abbrev pub StopsBy : Turned → PartitionState D → PartitionState D → Type 0
  StopsBy (Answers answer) h h' = StopsRise h h'
  StopsBy (Begins g) h h' = StopsStay h h'

  pub rises : (h h' : PartitionState D) → StopsStay h h' → StopsRise h h'
  rises h h' stays n few b x at = let le = stays n few b x at in omega (arith, le)

  pub stays_same : (h h' : PartitionState D) → h' ≡ h → StopsStay h h'
  stays_same h h' is n few = subst (λ (k : PartitionState D). HaveStopped n k.nodes) (sym is) few

  put_few : (n : ℕ) (h : PartitionState D) (b : ℕ) (y : Node D) → HaveStopped n h.nodes → y.stops ≤ n → HaveStopped n (slice_set h.nodes b y)
  put_few n h b y few le i z at = elim (get-set h.nodes b y i z at) [
    | inl one ↦ (let same : z.stops ≡ y.stops = ap (λ (k : Node D). k.stops) one.1 in omega (arith, same, le))
    | inr other ↦ few i z other.1
  ]

  -- a node in its place
  pub stays_put : (h : PartitionState D) (b : ℕ) (x y : Node D) (h' : PartitionState D) → slice_get h.nodes b ≡ Some x → y.stops ≡ x.stops → h' ≡ put_node h b y → StopsStay h h'
  stays_put h b x y h' at same is n few =
      let le = few b x at in
      subst (λ (k : PartitionState D). HaveStopped n k.nodes) (sym is) (put_few n h b y few (omega (arith, same, le)))

  -- one that has stopped
  once_put : (h : PartitionState D) (b : ℕ) (x y : Node D) (h' : PartitionState D) → slice_get h.nodes b ≡ Some x → y.stops ≤ x.stops + 1 → h' ≡ put_node h b y → StopsRise h h'
  once_put h b x y h' at once is n few =
      let le = few b x at in
      subst (λ (k : PartitionState D). HaveStopped (n + 1) k.nodes) (sym is)
      (put_few (n + 1) h b y (λ i z there. let low = few i z there in omega (arith, low)) (omega (arith, once, le)))

  pub stays_leaves : (h : PartitionState D) (after : Option Registry) (h' : PartitionState D) → Leaves h after h' → StopsStay h h'
  stays_leaves h after h' w = let r = some_of _ after w in stays_same (record h { registry = r.0 }) h' r.2

module _ {D : Type 0} (content : D → Content) (control : D → Control call_code) where
  fails_stays : (h : PartitionState D) (b : ℕ) (x : Node D) (h' : PartitionState D) → slice_get h.nodes b ≡ Some x → NodeReadFails content control h b x h' → StopsRise h h'
  fails_stays h b x h' at k = rises h h' (stays_put h b x (record x { log = k.0 }) h' at refl k.4)

  breaks_once : (h : PartitionState D) (b : ℕ) (x : Node D) (makes : log.LogSeen → log.LogSeen) (h' : PartitionState D) → slice_get h.nodes b ≡ Some x → BreaksNode content control h b x makes h' → StopsRise h h'
  breaks_once h b x makes h' at k = once_put h b x (record (stopped x) { log = k.kept }) h' at (omega arith) k.after

  broken_once : (h : PartitionState D) (b : ℕ) (x : Node D) (B : LogState D → LogState D → Type 0) (h' : PartitionState D) → slice_get h.nodes b ≡ Some x → BreaksBy content control h b x B h' → StopsRise h h'
  broken_once h b x B h' at k = once_put h b x (record (stopped x) { log = k.kept }) h' at (omega arith) k.after

  append_stops : (h : PartitionState D) (b : ℕ) (x : Node D) (batch : List ℕ) (answer : Answer) (h' : PartitionState D) → slice_get h.nodes b ≡ Some x → AppendRow content control h b x batch answer h' → StopsRise h h'
  append_stops h b x batch Down h' at w = rises h h' (stays_same h h' w.1)
  append_stops h b x batch NotLeader h' at w = rises h h' (stays_same h h' w.2)
  append_stops h b x batch LastOffset h' at w = rises h h' (stays_same h h' w.3)
  append_stops h b x batch TooManySegments h' at w = rises h h' (stays_same h h' w.4)
  append_stops h b x batch DiskFault h' at w = breaks_once h b x _ h' at w.4
  append_stops h b x batch (OkSpan base last e) h' at w = rises h h' (stays_put h b x _ h' at refl w.6.5)
  append_stops h b x batch other h' at w = elim w [ ]

  raw_stops : (h : PartitionState D) (b : ℕ) (x : Node D) (bytes : List ℕ) (answer : Answer) (h' : PartitionState D) → slice_get h.nodes b ≡ Some x → RawRow content control h b x bytes answer h' → StopsRise h h'
  raw_stops h b x bytes Down h' at w = append_stops h b x bytes Down h' at w
  raw_stops h b x bytes NotLeader h' at w = append_stops h b x bytes NotLeader h' at w
  raw_stops h b x bytes (Refused cause) h' at w = rises h h' (stays_same h h' w.3)
  raw_stops h b x bytes LastOffset h' at w = append_stops h b x bytes LastOffset h' at w.1
  raw_stops h b x bytes TooManySegments h' at w = append_stops h b x bytes TooManySegments h' at w.1
  raw_stops h b x bytes DiskFault h' at w = append_stops h b x bytes DiskFault h' at w.1
  raw_stops h b x bytes (OkSpan base last e) h' at w = append_stops h b x bytes (OkSpan base last e) h' at w.1
  raw_stops h b x bytes other h' at w = elim w [ ]

  flush_stops : (h : PartitionState D) (b : ℕ) (x : Node D) (answer : Answer) (h' : PartitionState D) → slice_get h.nodes b ≡ Some x → FlushRow content control h b x answer h' → StopsRise h h'
  flush_stops h b x Down h' at w = rises h h' (stays_same h h' w.1)
  flush_stops h b x DiskFault h' at w = breaks_once h b x _ h' at w.1
  flush_stops h b x (OkAt n) h' at w = rises h h' (stays_put h b x (record x { log = w.1.0 }) h' at refl w.1.3)
  flush_stops h b x other h' at w = elim w [ ]

  roll_stops : (h : PartitionState D) (b : ℕ) (x : Node D) (answer : Answer) (h' : PartitionState D) → slice_get h.nodes b ≡ Some x → RollRow content control h b x answer h' → StopsRise h h'
  roll_stops h b x Down h' at w = rises h h' (stays_same h h' w.1)
  roll_stops h b x EmptySegment h' at w = rises h h' (stays_same h h' w.2)
  roll_stops h b x TooManySegments h' at w = rises h h' (stays_same h h' w.2)
  roll_stops h b x DiskFault h' at w = breaks_once h b x _ h' at w.2
  roll_stops h b x (OkAt n) h' at w = rises h h' (stays_put h b x (record x { log = w.3.0 }) h' at refl w.3.3)
  roll_stops h b x other h' at w = elim w [ ]

  fetch_stops : (h : PartitionState D) (b : ℕ) (x : Node D) (offset limit : ℕ) (answer : Answer) (h' : PartitionState D) → slice_get h.nodes b ≡ Some x
      → FetchRow content control h b x offset limit answer h' → StopsRise h h'
  fetch_stops h b x offset limit Down h' at w = rises h h' (stays_same h h' w.1)
  fetch_stops h b x offset limit NotLeader h' at w = rises h h' (stays_same h h' w.2)
  fetch_stops h b x offset limit (OutOfRange start end) h' at w = rises h h' (stays_same h h' w.5)
  fetch_stops h b x offset limit Empty h' at w = rises h h' (stays_same h h' w.4)
  fetch_stops h b x offset limit (Run tier size stop bytes) h' at w = rises h h' (stays_put h b x (record x { log = w.4.kept }) h' at refl w.4.after)
  fetch_stops h b x offset limit DiskFault h' at w = fails_stays h b x h' at w.4
  fetch_stops h b x offset limit (Damaged (File name) from) h' at w = rises h h' (stays_put h b x (record x { log = w.4.kept }) h' at refl w.4.after)
  fetch_stops h b x offset limit other h' at w = elim w [ ]

  elect_stops : (h : PartitionState D) (b : ℕ) (x : Node D) (answer : Answer) (h' : PartitionState D) → ElectRow h b x answer h' → StopsRise h h'
  elect_stops h b x LastEpoch h' w = let t = some_of _ (slice_get h.registry.replicas b) w in rises h h' (stays_leaves h _ h' t.2)
  elect_stops h b x NotInSync h' w = let t = some_of _ (slice_get h.registry.replicas b) w in rises h h' (stays_leaves h _ h' t.2)
  elect_stops h b x DownBroker h' w = let t = some_of _ (slice_get h.registry.replicas b) w in rises h h' (stays_leaves h _ h' t.2)
  elect_stops h b x (OkAt n) h' w = let t = some_of _ (slice_get h.registry.replicas b) w in rises h h' (stays_leaves h _ h' t.2)
  elect_stops h b x other h' w = elim w [ ]

  unclean_stops : (h : PartitionState D) (b : ℕ) (x : Node D) (answer : Answer) (h' : PartitionState D) → UncleanRow h b x answer h' → StopsRise h h'
  unclean_stops h b x LastEpoch h' w = rises h h' (stays_leaves h _ h' w)
  unclean_stops h b x DownBroker h' w = rises h h' (stays_leaves h _ h' w)
  unclean_stops h b x (BehindStart end start) h' w = rises h h' (stays_leaves h _ h' w)
  unclean_stops h b x (OkAt n) h' w = rises h h' (stays_leaves h _ h' w)
  unclean_stops h b x other h' w = elim w [ ]

  learn_stops : (h : PartitionState D) (b : ℕ) (x : Node D) (answer : Answer) (h' : PartitionState D) → slice_get h.nodes b ≡ Some x → LearnRow content control h b x answer h' → StopsRise h h'
  learn_stops h b x Down h' at w = rises h h' (stays_same h h' w.1)
  learn_stops h b x Known h' at w = rises h h' (stays_same h h' w.2)
  learn_stops h b x (Follows n) h' at w = rises h h' (stays_put h b x _ h' at refl w.4)
  learn_stops h b x (NeedsElection n) h' at w = rises h h' (stays_same h h' w.5)
  learn_stops h b x (Leads n) h' at w = let g = w.4.1 in rises h h' (stays_put h b x _ h' at refl g.after)
  learn_stops h b x DiskFault h' at w = breaks_once h b x _ h' at w.4
  learn_stops h b x other h' at w = elim w [ ]

  ack_stops : (h : PartitionState D) (b : ℕ) (x : Node D) (answer : Answer) (h' : PartitionState D) → slice_get h.nodes b ≡ Some x → AckRow h b x answer h' → StopsRise h h'
  ack_stops h b x Down h' at w = rises h h' (stays_same h h' w.1)
  ack_stops h b x NotJoined h' at w = rises h h' (stays_same h h' w.2)
  ack_stops h b x (StaleEpoch e) h' at w =
      let o = some_of _ (acking x.role) w.1 in
      let t = some_of _ (slice_get h.registry.replicas b) o.2 in
      rises h h' (stays_leaves h _ h' t.2)
  ack_stops h b x (OkAt mark) h' at w =
      let o = some_of _ (acking x.role) w.1 in
      let t = some_of _ (slice_get h.registry.replicas b) o.2 in
      let r = some_of _ (after_ack h.registry b t.0 o.0 (flushed_end_of x) (Done mark)) t.2 in
      let y = record x { known_high_watermark = min r.0.mark (end_of x) } in
      let put = stays_put h b x y (put_node h b y) at refl refl in
      rises h h' (subst (λ (k : PartitionState D). StopsStay h k) (sym r.2) put)
  ack_stops h b x other h' at w = elim w [ ]

  shrink_stops : (h : PartitionState D) (b : ℕ) (answer : Answer) (h' : PartitionState D) → ShrinkRow h b answer h' → StopsRise h h'
  shrink_stops h b NotInSync h' w = let t = some_of _ (slice_get h.registry.replicas b) w in rises h h' (stays_leaves h _ h' t.2)
  shrink_stops h b IsLeader h' w = let t = some_of _ (slice_get h.registry.replicas b) w in rises h h' (stays_leaves h _ h' t.2)
  shrink_stops h b Ok h' w = let t = some_of _ (slice_get h.registry.replicas b) w in rises h h' (stays_leaves h _ h' t.2)
  shrink_stops h b other h' w = elim w [ ]

  expand_stops : (h : PartitionState D) (b : ℕ) (x : Node D) (answer : Answer) (h' : PartitionState D) → ExpandRow h b x answer h' → StopsRise h h'
  expand_stops h b x DownBroker h' w = let t = some_of _ (slice_get h.registry.replicas b) w in rises h h' (stays_leaves h _ h' t.2)
  expand_stops h b x (Behind ack mark) h' w = let t = some_of _ (slice_get h.registry.replicas b) w in rises h h' (stays_leaves h _ h' t.2)
  expand_stops h b x Ok h' w = let t = some_of _ (slice_get h.registry.replicas b) w in rises h h' (stays_leaves h _ h' t.2)
  expand_stops h b x other h' w = elim w [ ]

  raise_stops : (h : PartitionState D) (b : ℕ) (x : Node D) (wanted : ℕ) (answer : Answer) (h' : PartitionState D) → RaiseRow h b x wanted answer h' → StopsRise h h'
  raise_stops h b x wanted Down h' w = rises h h' (stays_same h h' w.1)
  raise_stops h b x wanted NotLeader h' w = rises h h' (stays_same h h' w.2)
  raise_stops h b x wanted (StaleEpoch e) h' w = rises h h' (stays_leaves h _ h' w.1.2)
  raise_stops h b x wanted (NotAbove start) h' w = rises h h' (stays_leaves h _ h' w.1.2)
  raise_stops h b x wanted (AboveMark mark) h' w = rises h h' (stays_leaves h _ h' w.1.2)
  raise_stops h b x wanted (OkAt start) h' w = rises h h' (stays_leaves h _ h' w.1.2)
  raise_stops h b x wanted other h' w = elim w [ ]

  stop_stops : (h : PartitionState D) (b : ℕ) (x : Node D) (answer : Answer) (h' : PartitionState D) → slice_get h.nodes b ≡ Some x → StopRow content control h b x answer h' → StopsRise h h'
  stop_stops h b x Down h' at w = rises h h' (stays_same h h' w.1)
  stop_stops h b x Ok h' at w = once_put h b x _ h' at (omega arith) w.1.3
  stop_stops h b x other h' at w = elim w [ ]

  up_stops : (h : PartitionState D) (b : ℕ) (x : Node D) (answer : Answer) (h' : PartitionState D) → slice_get h.nodes b ≡ Some x → UpRow content control h b x answer h' → StopsRise h h'
  up_stops h b x IsUp h' at w = rises h h' (stays_same h h' w.1)
  up_stops h b x (IsOpen n) h' at w = rises h h' (stays_put h b x _ h' at refl w.1.3)
  up_stops h b x DiskFault h' at w = fails_stays h b x h' at w.1
  up_stops h b x (Damaged (File name) from) h' at w = rises h h' (stays_put h b x _ h' at refl w.1.3)
  up_stops h b x LastIncarnation h' at w = rises h h' (stays_put h b x _ h' at refl w.1.3)
  up_stops h b x other h' at w = elim w [ ]

  clock_stops : (h : PartitionState D) (b : ℕ) (ms : ℤ) (answer : Answer) (h' : PartitionState D) → ClockRow h ms answer h' → StopsRise h h'
  clock_stops h b ms Ok h' w = rises (record h { clock = ms }) h' (stays_same (record h { clock = ms }) h' w)
  clock_stops h b ms other h' w = elim w [ ]

  pack_stops : (h : PartitionState D) (b : ℕ) (on : Bool) (answer : Answer) (h' : PartitionState D) → PackRow h on answer h' → StopsRise h h'
  pack_stops h b on Ok h' w = rises (record h { packed = on }) h' (stays_same (record h { packed = on }) h' w)
  pack_stops h b on other h' w = elim w [ ]

  copying_stops : (h : PartitionState D) (b : ℕ) (on : Bool) (answer : Answer) (h' : PartitionState D) → CopyingRow h on answer h' → StopsRise h h'
  copying_stops h b on Ok h' w = rises (record h { copying = on }) h' (stays_same (record h { copying = on }) h' w)
  copying_stops h b on other h' w = elim w [ ]

  offset_stops : (h : PartitionState D) (b : ℕ) (x : Node D) (which : Which) (answer : Answer) (h' : PartitionState D) → OffsetRow h x which answer h' → StopsRise h h'
  offset_stops h b x which Down h' w = rises h h' (stays_same h h' w.1)
  offset_stops h b x which NotLeader h' w = rises h h' (stays_same h h' w.2)
  offset_stops h b x which (OffsetAnswer n) h' w = rises h h' (stays_same h h' w.3)
  offset_stops h b x which other h' w = elim w [ ]

  answer_stops : (h : PartitionState D) (b : ℕ) (x : Node D) (command : Command) (answer : Answer) (h' : PartitionState D) → slice_get h.nodes b ≡ Some x
      → AnswerRow content control h b x command answer h' → StopsBy (Answers answer) h h'
  answer_stops h b x (Append recs) answer h' at w = append_stops h b x (built recs) answer h' at w
  answer_stops h b x (Raw bytes) answer h' at w = raw_stops h b x bytes answer h' at w
  answer_stops h b x Flush answer h' at w = flush_stops h b x answer h' at w
  answer_stops h b x Roll answer h' at w = roll_stops h b x answer h' at w
  answer_stops h b x Elect answer h' at w = elect_stops h b x answer h' w
  answer_stops h b x Unclean answer h' at w = unclean_stops h b x answer h' w
  answer_stops h b x Learn answer h' at w = learn_stops h b x answer h' at w
  answer_stops h b x Ack answer h' at w = ack_stops h b x answer h' at w
  answer_stops h b x Shrink answer h' at w = shrink_stops h b answer h' w
  answer_stops h b x Expand answer h' at w = expand_stops h b x answer h' w
  answer_stops h b x (Raise start) answer h' at w = raise_stops h b x start answer h' w
  answer_stops h b x (Clock ms) answer h' at w = clock_stops h b ms answer h' w
  answer_stops h b x (Pack on) answer h' at w = pack_stops h b on answer h' w
  answer_stops h b x (Copying on) answer h' at w = copying_stops h b on answer h' w
  answer_stops h b x (Offset which) answer h' at w = offset_stops h b x which answer h' w
  answer_stops h b x StopCommand answer h' at w = stop_stops h b x answer h' at w
  answer_stops h b x UpCommand answer h' at w = up_stops h b x answer h' at w
  answer_stops h b x other answer h' at w = elim w [ ]

  fetch_turn_stops : (h : PartitionState D) (b : ℕ) (x : Node D) (offset limit : ℕ) (turned : Turned) (h' : PartitionState D) → slice_get h.nodes b ≡ Some x
      → FetchTurn content control h b x offset limit turned h' → StopsBy turned h h'
  fetch_turn_stops h b x offset limit (Answers answer) h' at w = fetch_stops h b x offset limit answer h' at w
  fetch_turn_stops h b x offset limit (Begins g) h' at w = stays_same h h' w.6

  join_stops : (h : PartitionState D) (b : ℕ) (x : Node D) (turned : Turned) (h' : PartitionState D) → slice_get h.nodes b ≡ Some x → JoinRow content control h b x turned h' → StopsBy turned h h'
  join_stops h b x (Answers Down) h' at w = rises h h' (stays_same h h' w.1)
  join_stops h b x (Answers NotFollower) h' at w = rises h h' (stays_same h h' w.2)
  join_stops h b x (Answers (StaleEpoch e)) h' at w = rises h h' (stays_same h h' w.3)
  join_stops h b x (Answers NoLeader) h' at w = rises h h' (stays_same h h' w.3)
  join_stops h b x (Answers (Cut n)) h' at w = let g = (some_of _ (the_leader h) w.2).2.5 in rises h h' (stays_put h b x _ h' at refl g.after)
  join_stops h b x (Answers (DiskFaultAt n)) h' at w = broken_once h b x _ h' at (some_of _ (the_leader h) w.2).2.4.1
  join_stops h b x (Begins g) h' at w = let k = (some_of _ (the_leader h) w.2).2.4.cuts in stays_put h b x _ h' at refl k.after
  join_stops h b x other h' at w = elim w [ ]

  join_on_stops : (h : PartitionState D) (b : ℕ) (x : Node D) (g : StartSnapshot) (answer : Answer) (h' : PartitionState D) → slice_get h.nodes b ≡ Some x → JoinOnRow content control h b x g answer h' → StopsRise h h'
  join_on_stops h b x g Stopped h' at w = rises h h' (stays_same h h' w.1)
  join_on_stops h b x g (StaleEpoch e) h' at w = rises h h' (stays_same h h' w.3)
  join_on_stops h b x g (Passed n) h' at w = rises h h' (stays_same h h' w.3)
  join_on_stops h b x g (BelowStart start) h' at w = rises h h' (stays_same h h' w.5)
  join_on_stops h b x g (DiskFaultAt n) h' at w = broken_once h b x _ h' at w.2
  join_on_stops h b x g (Rebuilt n) h' at w = rises h h' (stays_put h b x (record x { log = w.2.kept }) h' at refl w.2.after)
  join_on_stops h b x g other h' at w = elim w [ ]

  trim_stops : (h : PartitionState D) (b : ℕ) (x : Node D) (turned : Turned) (h' : PartitionState D) → TrimRow content control h x turned h' → StopsBy turned h h'
  trim_stops h b x (Answers Down) h' w = rises h h' (stays_same h h' w.1)
  trim_stops h b x (Begins g) h' w = stays_same h h' w.2
  trim_stops h b x other h' w = elim w [ ]

  trim_on_stops : (h : PartitionState D) (b : ℕ) (x : Node D) (g : StartSnapshot) (answer : Answer) (h' : PartitionState D) → slice_get h.nodes b ≡ Some x → TrimOnRow content control h b x g answer h' → StopsRise h h'
  trim_on_stops h b x g Stopped h' at w = rises h h' (stays_same h h' w.1)
  trim_on_stops h b x g Remains h' at w = rises h h' (stays_same h h' w.1)
  trim_on_stops h b x g DiskFault h' at w = broken_once h b x _ h' at w.2
  trim_on_stops h b x g (Dropped base last) h' at w = rises h h' (stays_put h b x (record x { log = w.2.0 }) h' at refl w.2.3)
  trim_on_stops h b x g other h' at w = elim w [ ]

  follow_stops : (h : PartitionState D) (b : ℕ) (x : Node D) (limit : ℕ) (turned : Turned) (h' : PartitionState D) → FollowRow content control h b x limit turned h' → StopsBy turned h h'
  follow_stops h b x limit (Answers Down) h' w = rises h h' (stays_same h h' w.1)
  follow_stops h b x limit (Answers NotJoined) h' w = rises h h' (stays_same h h' w.2)
  follow_stops h b x limit (Answers (StaleEpoch e)) h' w = rises h h' (stays_same h h' w.3)
  follow_stops h b x limit (Answers NoLeader) h' w = rises h h' (stays_same h h' w.3)
  follow_stops h b x limit (Answers Level) h' w = rises h h' (stays_same h h' w.3)
  follow_stops h b x limit (Answers DiskFault) h' w =
      let y = some_of _ (the_leader h) w.2 in
      fails_stays h h.registry.leader.0 y.0 h' (leader_at h y.0 y.1) y.2.2
  follow_stops h b x limit (Answers (Moved n)) h' w = rises h h' (stays_same h h' w.3)
  follow_stops h b x limit (Answers (Damaged (File name) from)) h' w =
      let y = some_of _ (the_leader h) w.2 in
      rises h h' (stays_put h h.registry.leader.0 y.0 (record y.0 { log = y.2.2.kept }) h' (leader_at h y.0 y.1) refl y.2.2.after)
  follow_stops h b x limit (Begins g) h' w =
      let y = some_of _ (the_leader h) w.2 in
      stays_put h h.registry.leader.0 y.0 (record y.0 { log = y.2.2.kept }) h' (leader_at h y.0 y.1) refl y.2.2.after
  follow_stops h b x limit other h' w = elim w [ ]

  follow_on_stops : (h : PartitionState D) (b : ℕ) (x : Node D) (g : StartSnapshot) (answer : Answer) (h' : PartitionState D) → slice_get h.nodes b ≡ Some x
      → FollowOnRow content control h b x g answer h' → StopsRise h h'
  follow_on_stops h b x g Stopped h' at w = rises h h' (stays_same h h' w.1)
  follow_on_stops h b x g (StaleEpoch e) h' at w = rises h h' (stays_same h h' w.3)
  follow_on_stops h b x g (Passed n) h' at w = rises h h' (stays_same h h' w.3)
  follow_on_stops h b x g TooManySegments h' at w = rises h h' (stays_same h h' w.3)
  follow_on_stops h b x g DiskFault h' at w = breaks_once h b x _ h' at w.3
  follow_on_stops h b x g (Copied n) h' at w = rises h h' (stays_put h b x (record x { log = w.3.kept }) h' at refl w.3.after)
  follow_on_stops h b x g other h' at w = elim w [ ]

  first_stops : (h : PartitionState D) (b : ℕ) (x : Node D) (command : Command) (turned : Turned) (h' : PartitionState D) → slice_get h.nodes b ≡ Some x
      → FirstRow content control h b x command turned h' → StopsBy turned h h'
  first_stops h b x (Follow limit) turned h' at w = follow_stops h b x limit turned h' w
  first_stops h b x Join turned h' at w = join_stops h b x turned h' at w
  first_stops h b x Trim turned h' at w = trim_stops h b x turned h' w
  first_stops h b x (Fetch offset limit) turned h' at w = fetch_turn_stops h b x offset limit turned h' at w
  first_stops h b x (Offset LatestTiered) turned h' at w = elim w [ ]
  first_stops h b x (Offset (At ts)) turned h' at w = elim w [ ]
  first_stops h b x command (Answers answer) h' at w = answer_stops h b x command answer h' at w
  first_stops h b x command (Begins g) h' at w = elim w [ ]

  later_stops : (h : PartitionState D) (b : ℕ) (x : Node D) (command : Command) (g : StartSnapshot) (turned : Turned) (h' : PartitionState D) → slice_get h.nodes b ≡ Some x
      → LaterRow content control h b x command g turned h' → StopsBy turned h h'
  later_stops h b x (Follow limit) g (Answers answer) h' at w = follow_on_stops h b x g answer h' at w
  later_stops h b x Join g (Answers answer) h' at w = join_on_stops h b x g answer h' at w
  later_stops h b x Trim g (Answers answer) h' at w = trim_on_stops h b x g answer h' at w
  later_stops h b x command g turned h' at w = elim w [ ]

  pub row_stops : (h : PartitionState D) (b : ℕ) (x : Node D) (snapshot : Option StartSnapshot) (command : Command) (turned : Turned) (h' : PartitionState D) → slice_get h.nodes b ≡ Some x
      → Row content control h b x snapshot command turned h' → StopsBy turned h h'
  row_stops h b x None command turned h' at w = first_stops h b x command turned h' at w
  row_stops h b x (Some g) command turned h' at w = later_stops h b x command g turned h' at w

  -- running out of memory
  pub partition_state_stops : (h h' : PartitionState D) → KeepsPartition content control h h' → StopsStay h h'
  partition_state_stops h h' (inl is) = stays_same h h' is
  partition_state_stops h h' (inr k) =
      let x = some_of (λ x. LogRests content control h k.0 x h') (slice_get h.nodes k.0) k.1 in
      stays_put h k.0 x.0 (record x.0 { log = x.2.0 }) h' x.1 refl x.2.3
