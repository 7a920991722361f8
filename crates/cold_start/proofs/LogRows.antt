-- A turn of a command on brokers' logs or the registry works on one log at most.
use Rattle.std.proofs.Common.{◌≡◌, ◌∙◌, ◌⊎◌, inl, inr, ap, refl, ℕ, zero, suc, List, [], ◌∷◌, slice_get, slice_set, Some, None, Option, Bool, Ok as Done}
use Rattle.std.specs.Prelude.{min, ℤ}
use Rattle.tier_base.specs.Device.{Control}
use Rattle.disk_model.specs.Call.{call_code}
use Rattle.disk_model.specs.Content.{Content}
use Rattle.registry.specs.Calls.{after_ack}
use Rattle.registry.specs.declared.registry.Registry.{Registry}
use Rattle.record_batch.specs.Build.{built}
use Rattle.plain_log.specs.declared.answer.Answer.{Answer}
use Rattle.plain_log.specs.declared.answer.Answer.TheVariants.{Ok, OkAt, OkSpan, Down, NotLeader, Refused, LastOffset, TooManySegments, EmptySegment, DiskFault, DiskFaultAt, Damaged, OutOfRange, Empty, Run, LastEpoch, NotInSync, DownBroker, BehindStart, Known, Follows, NeedsElection, Leads, NotJoined, StaleEpoch, IsLeader, Behind, NotAbove, AboveMark, NotFollower, NoLeader, Cut, Level, Stopped, Passed, Copied, IsUp, LastIncarnation, Up as IsOpen, Moved, BelowStart, Rebuilt, Kept as Remains, Dropped, Offset as OffsetAnswer}
use Rattle.plain_log.specs.declared.answer.Place.TheVariants.{File}
use Rattle.plain_log.specs.declared.command.Command.{Command}
use Rattle.plain_log.specs.declared.command.Command.TheVariants.{Append, Raw, Flush, Roll, Elect, Unclean, Learn, Join, Follow, Trim, Ack, Shrink, Expand, Raise, Clock, Stop as StopCommand, Up as UpCommand, Fetch, Pack, Copying, Offset}
use Rattle.plain_log.specs.declared.command.Which.{Which}
use Rattle.plain_log.specs.declared.command.Which.TheVariants.{LatestTiered, At}
use Rattle.plain_log.specs.State.{acking}
use Rattle.broker_log.specs.Seen.{LogState, LeavesBetween}
use Rattle.broker_log.specs.Seen as log
use Rattle.laws_partition.specs.declared.start_snapshot.StartSnapshot.{StartSnapshot}
use Rattle.laws_partition.specs.declared.start_snapshot.Turned.{Turned}
use Rattle.laws_partition.specs.declared.start_snapshot.Turned.TheVariants.{Answers, Begins}
use Rattle.laws_partition.proofs.BoolTests.{some_of}
use Rattle.partition_commands.specs.declared.partition_state.Node.{Node}
use Rattle.partition_commands.specs.declared.partition_state.PartitionState.{PartitionState}
use Rattle.partition_commands.specs.Partition.{put_node, end_of, flushed_end_of, stopped, the_leader, NodeReadFails, BreaksNode, BreaksBy}
use Rattle.partition_commands.specs.Turns.{ClockRow, PackRow, CopyingRow, OffsetRow, StopRow, UpRow, AnswerRow, FirstRow, LaterRow, Row}
use Rattle.partition_commands.specs.TurnsOfLog.{NodeGains, AppendRow, RawRow, FlushRow, RollRow, TrimRow, TrimOnRow}
use Rattle.partition_commands.specs.TurnsOfFetch.{FetchRow, FetchTurn}
use Rattle.partition_commands.specs.TurnsOfElections.{Leaves, ElectRow, UncleanRow, LearnRow, AckRow, ShrinkRow, ExpandRow, RaiseRow}
use Rattle.partition_commands.specs.TurnsOfFollowers.{JoinRow, JoinOnRow, FollowRow, FollowOnRow}
use Rattle.partition_commands.proofs.SoundLaw.{leader_at}
use Rattle.cold_start.specs.Moments.{ChangesLog}
use Rattle.cold_start.specs.Stepping.{logs_of}
use Rattle.cold_start.proofs.RegistryRows.{logs_put}

module _ {D : Type 0} where
  logs_set : (xs : List (Node D)) (b : ℕ) (y : Node D) → logs_of (slice_set xs b y) ≡ slice_set (logs_of xs) b y.log
  logs_set [] b y = refl
  logs_set (z ∷ xs) zero y = refl
  logs_set (z ∷ xs) (suc b) y = ap (λ (l : List (LogState D)). z.log ∷ l) (logs_set xs b y)

module _ {D : Type 0} (content : D → Content) where
  -- one log became another, or each is as it was
  abbrev pub OneLog : PartitionState D → PartitionState D → Type 0
  OneLog h h' = (ChangesLog content h.nodes h'.nodes × (h'.registry ≡ h.registry)) ⊎ (logs_of h'.nodes ≡ logs_of h.nodes)

  pub none : (h h' : PartitionState D) → h' ≡ h → OneLog h h'
  none h h' e = inr (ap (λ (k : PartitionState D). logs_of k.nodes) e)

  -- a node in its place, whose log may be another
  pub one_put : (h : PartitionState D) (b : ℕ) (x y : Node D) (h' : PartitionState D) → slice_get h.nodes b ≡ Some x → LeavesBetween content x.log y.log → h' ≡ put_node h b y → OneLog h h'
  one_put h b x y h' at between e =
      inl (
        record { at = b; old = x; was = at; kept = y.log; logs = ap (λ (k : PartitionState D). logs_of k.nodes) e ∙ logs_set h.nodes b y; between = between },
        ap (λ (k : PartitionState D). k.registry) e,
      )

  -- one whose log isn't
  pub same_put : (h : PartitionState D) (b : ℕ) (x y : Node D) (h' : PartitionState D) → slice_get h.nodes b ≡ Some x → y.log ≡ x.log → h' ≡ put_node h b y → OneLog h h'
  same_put h b x y h' at same e = inr (ap (λ (k : PartitionState D). logs_of k.nodes) e ∙ logs_put h.nodes b x y at same)

  pub leaves : (h : PartitionState D) (after : Option Registry) (h' : PartitionState D) → Leaves h after h' → OneLog h h'
  leaves h after h' w = let r = some_of _ after w in inr (ap (λ (k : PartitionState D). logs_of k.nodes) r.2)

module _ {D : Type 0} (content : D → Content) (control : D → Control call_code) where
  fails_log : (h : PartitionState D) (b : ℕ) (x : Node D) (h' : PartitionState D) → slice_get h.nodes b ≡ Some x → NodeReadFails content control h b x h' → OneLog content h h'
  fails_log h b x h' at k = one_put content h b x (record x { log = k.0 }) h' at k.1.between k.4

  breaks_log : (h : PartitionState D) (b : ℕ) (x : Node D) (makes : log.LogSeen → log.LogSeen) (h' : PartitionState D) → slice_get h.nodes b ≡ Some x → BreaksNode content control h b x makes h' → OneLog content h h'
  breaks_log h b x makes h' at k = one_put content h b x (record (stopped x) { log = k.kept }) h' at k.breaks.between k.after

  -- whatever the write that failed makes of the log
  broken_log : (h : PartitionState D) (b : ℕ) (x : Node D) (B : LogState D → LogState D → Type 0) (h' : PartitionState D) → slice_get h.nodes b ≡ Some x → ((kept : LogState D) → B x.log kept → LeavesBetween content x.log kept) → BreaksBy content control h b x B h' → OneLog content h h'
  broken_log h b x B h' at between k = one_put content h b x (record (stopped x) { log = k.kept }) h' at (between k.kept k.breaks) k.after

  gains_log : (h : PartitionState D) (b : ℕ) (x : Node D) (batch : List ℕ) (h' : PartitionState D) → slice_get h.nodes b ≡ Some x → NodeGains content control h b x batch h' → OneLog content h h'
  gains_log h b x batch h' at k = one_put content h b x (record x { log = k.0 }) h' at k.3.between k.5

  append_log : (h : PartitionState D) (b : ℕ) (x : Node D) (batch : List ℕ) (answer : Answer) (h' : PartitionState D) → slice_get h.nodes b ≡ Some x → AppendRow content control h b x batch answer h' → OneLog content h h'
  append_log h b x batch Down h' at w = none content h h' w.1
  append_log h b x batch NotLeader h' at w = none content h h' w.2
  append_log h b x batch LastOffset h' at w = none content h h' w.3
  append_log h b x batch TooManySegments h' at w = none content h h' w.4
  append_log h b x batch DiskFault h' at w = breaks_log h b x _ h' at w.4
  append_log h b x batch (OkSpan base last e) h' at w = gains_log h b x _ h' at w.6
  append_log h b x batch other h' at w = elim w [ ]

  raw_log : (h : PartitionState D) (b : ℕ) (x : Node D) (bytes : List ℕ) (answer : Answer) (h' : PartitionState D) → slice_get h.nodes b ≡ Some x → RawRow content control h b x bytes answer h' → OneLog content h h'
  raw_log h b x bytes Down h' at w = append_log h b x bytes Down h' at w
  raw_log h b x bytes NotLeader h' at w = append_log h b x bytes NotLeader h' at w
  raw_log h b x bytes (Refused cause) h' at w = none content h h' w.3
  raw_log h b x bytes LastOffset h' at w = append_log h b x bytes LastOffset h' at w.1
  raw_log h b x bytes TooManySegments h' at w = append_log h b x bytes TooManySegments h' at w.1
  raw_log h b x bytes DiskFault h' at w = append_log h b x bytes DiskFault h' at w.1
  raw_log h b x bytes (OkSpan base last e) h' at w = append_log h b x bytes (OkSpan base last e) h' at w.1
  raw_log h b x bytes other h' at w = elim w [ ]

  flush_log : (h : PartitionState D) (b : ℕ) (x : Node D) (answer : Answer) (h' : PartitionState D) → slice_get h.nodes b ≡ Some x → FlushRow content control h b x answer h' → OneLog content h h'
  flush_log h b x Down h' at w = none content h h' w.1
  flush_log h b x DiskFault h' at w = breaks_log h b x _ h' at w.1
  flush_log h b x (OkAt n) h' at w = one_put content h b x (record x { log = w.1.0 }) h' at w.1.1.between w.1.3
  flush_log h b x other h' at w = elim w [ ]

  roll_log : (h : PartitionState D) (b : ℕ) (x : Node D) (answer : Answer) (h' : PartitionState D) → slice_get h.nodes b ≡ Some x → RollRow content control h b x answer h' → OneLog content h h'
  roll_log h b x Down h' at w = none content h h' w.1
  roll_log h b x EmptySegment h' at w = none content h h' w.2
  roll_log h b x TooManySegments h' at w = none content h h' w.2
  roll_log h b x DiskFault h' at w = breaks_log h b x _ h' at w.2
  roll_log h b x (OkAt n) h' at w = one_put content h b x (record x { log = w.3.0 }) h' at w.3.1.between w.3.3
  roll_log h b x other h' at w = elim w [ ]

  fetch_log : (h : PartitionState D) (b : ℕ) (x : Node D) (offset limit : ℕ) (answer : Answer) (h' : PartitionState D) → slice_get h.nodes b ≡ Some x
      → FetchRow content control h b x offset limit answer h' → OneLog content h h'
  fetch_log h b x offset limit Down h' at w = none content h h' w.1
  fetch_log h b x offset limit NotLeader h' at w = none content h h' w.2
  fetch_log h b x offset limit (OutOfRange start end) h' at w = none content h h' w.5
  fetch_log h b x offset limit Empty h' at w = none content h h' w.4
  fetch_log h b x offset limit (Run tier size stop bytes) h' at w = one_put content h b x (record x { log = w.4.kept }) h' at w.4.reads.stays.between w.4.after
  fetch_log h b x offset limit DiskFault h' at w = fails_log h b x h' at w.4
  fetch_log h b x offset limit (Damaged (File name) from) h' at w = one_put content h b x (record x { log = w.4.kept }) h' at w.4.misreads.stays.between w.4.after
  fetch_log h b x offset limit other h' at w = elim w [ ]

  elect_log : (h : PartitionState D) (b : ℕ) (x : Node D) (answer : Answer) (h' : PartitionState D) → ElectRow h b x answer h' → OneLog content h h'
  elect_log h b x LastEpoch h' w = let t = some_of _ (slice_get h.registry.replicas b) w in leaves content h _ h' t.2
  elect_log h b x NotInSync h' w = let t = some_of _ (slice_get h.registry.replicas b) w in leaves content h _ h' t.2
  elect_log h b x DownBroker h' w = let t = some_of _ (slice_get h.registry.replicas b) w in leaves content h _ h' t.2
  elect_log h b x (OkAt n) h' w = let t = some_of _ (slice_get h.registry.replicas b) w in leaves content h _ h' t.2
  elect_log h b x other h' w = elim w [ ]

  unclean_log : (h : PartitionState D) (b : ℕ) (x : Node D) (answer : Answer) (h' : PartitionState D) → UncleanRow h b x answer h' → OneLog content h h'
  unclean_log h b x LastEpoch h' w = leaves content h _ h' w
  unclean_log h b x DownBroker h' w = leaves content h _ h' w
  unclean_log h b x (BehindStart end start) h' w = leaves content h _ h' w
  unclean_log h b x (OkAt n) h' w = leaves content h _ h' w
  unclean_log h b x other h' w = elim w [ ]

  learn_log : (h : PartitionState D) (b : ℕ) (x : Node D) (answer : Answer) (h' : PartitionState D) → slice_get h.nodes b ≡ Some x → LearnRow content control h b x answer h' → OneLog content h h'
  learn_log h b x Down h' at w = none content h h' w.1
  learn_log h b x Known h' at w = none content h h' w.2
  learn_log h b x (Follows n) h' at w = same_put content h b x _ h' at refl w.4
  learn_log h b x (NeedsElection n) h' at w = none content h h' w.5
  learn_log h b x (Leads n) h' at w = let g = w.4.1 in one_put content h b x _ h' at g.settles.between g.after
  learn_log h b x DiskFault h' at w = breaks_log h b x _ h' at w.4
  learn_log h b x other h' at w = elim w [ ]

  ack_log : (h : PartitionState D) (b : ℕ) (x : Node D) (answer : Answer) (h' : PartitionState D) → slice_get h.nodes b ≡ Some x → AckRow h b x answer h' → OneLog content h h'
  ack_log h b x Down h' at w = none content h h' w.1
  ack_log h b x NotJoined h' at w = none content h h' w.2
  ack_log h b x (StaleEpoch e) h' at w =
      let o = some_of _ (acking x.role) w.1 in
      let t = some_of _ (slice_get h.registry.replicas b) o.2 in
      leaves content h _ h' t.2
  ack_log h b x (OkAt mark) h' at w =
      let o = some_of _ (acking x.role) w.1 in
      let t = some_of _ (slice_get h.registry.replicas b) o.2 in
      let r = some_of _ (after_ack h.registry b t.0 o.0 (flushed_end_of x) (Done mark)) t.2 in
      let y = record x { known_high_watermark = min r.0.mark (end_of x) } in
      inr (ap (λ (k : PartitionState D). logs_of k.nodes) r.2 ∙ logs_put h.nodes b x y at refl)
  ack_log h b x other h' at w = elim w [ ]

  shrink_log : (h : PartitionState D) (b : ℕ) (answer : Answer) (h' : PartitionState D) → ShrinkRow h b answer h' → OneLog content h h'
  shrink_log h b NotInSync h' w = let t = some_of _ (slice_get h.registry.replicas b) w in leaves content h _ h' t.2
  shrink_log h b IsLeader h' w = let t = some_of _ (slice_get h.registry.replicas b) w in leaves content h _ h' t.2
  shrink_log h b Ok h' w = let t = some_of _ (slice_get h.registry.replicas b) w in leaves content h _ h' t.2
  shrink_log h b other h' w = elim w [ ]

  expand_log : (h : PartitionState D) (b : ℕ) (x : Node D) (answer : Answer) (h' : PartitionState D) → ExpandRow h b x answer h' → OneLog content h h'
  expand_log h b x DownBroker h' w = let t = some_of _ (slice_get h.registry.replicas b) w in leaves content h _ h' t.2
  expand_log h b x (Behind ack mark) h' w = let t = some_of _ (slice_get h.registry.replicas b) w in leaves content h _ h' t.2
  expand_log h b x Ok h' w = let t = some_of _ (slice_get h.registry.replicas b) w in leaves content h _ h' t.2
  expand_log h b x other h' w = elim w [ ]

  raise_log : (h : PartitionState D) (b : ℕ) (x : Node D) (wanted : ℕ) (answer : Answer) (h' : PartitionState D) → RaiseRow h b x wanted answer h' → OneLog content h h'
  raise_log h b x wanted Down h' w = none content h h' w.1
  raise_log h b x wanted NotLeader h' w = none content h h' w.2
  raise_log h b x wanted (StaleEpoch e) h' w = leaves content h _ h' w.1.2
  raise_log h b x wanted (NotAbove start) h' w = leaves content h _ h' w.1.2
  raise_log h b x wanted (AboveMark mark) h' w = leaves content h _ h' w.1.2
  raise_log h b x wanted (OkAt start) h' w = leaves content h _ h' w.1.2
  raise_log h b x wanted other h' w = elim w [ ]

  stop_log : (h : PartitionState D) (b : ℕ) (x : Node D) (answer : Answer) (h' : PartitionState D) → slice_get h.nodes b ≡ Some x → StopRow content control h b x answer h' → OneLog content h h'
  stop_log h b x Down h' at w = none content h h' w.1
  stop_log h b x Ok h' at w = one_put content h b x _ h' at w.1.1.between w.1.3
  stop_log h b x other h' at w = elim w [ ]

  up_log : (h : PartitionState D) (b : ℕ) (x : Node D) (answer : Answer) (h' : PartitionState D) → slice_get h.nodes b ≡ Some x → UpRow content control h b x answer h' → OneLog content h h'
  up_log h b x IsUp h' at w = none content h h' w.1
  up_log h b x (IsOpen n) h' at w = one_put content h b x _ h' at w.1.1.between w.1.3
  up_log h b x DiskFault h' at w = fails_log h b x h' at w.1
  up_log h b x (Damaged (File name) from) h' at w = one_put content h b x _ h' at w.1.1.stays.between w.1.3
  up_log h b x LastIncarnation h' at w = one_put content h b x _ h' at w.1.1.stays.between w.1.3
  up_log h b x other h' at w = elim w [ ]

  clock_log : (h : PartitionState D) (b : ℕ) (ms : ℤ) (answer : Answer) (h' : PartitionState D) → ClockRow h ms answer h' → OneLog content h h'
  clock_log h b ms Ok h' w = none content (record h { clock = ms }) h' w
  clock_log h b ms other h' w = elim w [ ]

  pack_log : (h : PartitionState D) (b : ℕ) (on : Bool) (answer : Answer) (h' : PartitionState D) → PackRow h on answer h' → OneLog content h h'
  pack_log h b on Ok h' w = none content (record h { packed = on }) h' w
  pack_log h b on other h' w = elim w [ ]

  copying_log : (h : PartitionState D) (b : ℕ) (on : Bool) (answer : Answer) (h' : PartitionState D) → CopyingRow h on answer h' → OneLog content h h'
  copying_log h b on Ok h' w = none content (record h { copying = on }) h' w
  copying_log h b on other h' w = elim w [ ]

  offset_log : (h : PartitionState D) (b : ℕ) (x : Node D) (which : Which) (answer : Answer) (h' : PartitionState D) → OffsetRow h x which answer h' → OneLog content h h'
  offset_log h b x which Down h' w = none content h h' w.1
  offset_log h b x which NotLeader h' w = none content h h' w.2
  offset_log h b x which (OffsetAnswer n) h' w = none content h h' w.3
  offset_log h b x which other h' w = elim w [ ]

  answer_log : (h : PartitionState D) (b : ℕ) (x : Node D) (command : Command) (answer : Answer) (h' : PartitionState D) → slice_get h.nodes b ≡ Some x
      → AnswerRow content control h b x command answer h' → OneLog content h h'
  answer_log h b x (Append recs) answer h' at w = append_log h b x (built recs) answer h' at w
  answer_log h b x (Raw bytes) answer h' at w = raw_log h b x bytes answer h' at w
  answer_log h b x Flush answer h' at w = flush_log h b x answer h' at w
  answer_log h b x Roll answer h' at w = roll_log h b x answer h' at w
  answer_log h b x Elect answer h' at w = elect_log h b x answer h' w
  answer_log h b x Unclean answer h' at w = unclean_log h b x answer h' w
  answer_log h b x Learn answer h' at w = learn_log h b x answer h' at w
  answer_log h b x Ack answer h' at w = ack_log h b x answer h' at w
  answer_log h b x Shrink answer h' at w = shrink_log h b answer h' w
  answer_log h b x Expand answer h' at w = expand_log h b x answer h' w
  answer_log h b x (Raise start) answer h' at w = raise_log h b x start answer h' w
  answer_log h b x (Clock ms) answer h' at w = clock_log h b ms answer h' w
  answer_log h b x (Pack on) answer h' at w = pack_log h b on answer h' w
  answer_log h b x (Copying on) answer h' at w = copying_log h b on answer h' w
  answer_log h b x (Offset which) answer h' at w = offset_log h b x which answer h' w
  answer_log h b x StopCommand answer h' at w = stop_log h b x answer h' at w
  answer_log h b x UpCommand answer h' at w = up_log h b x answer h' at w
  answer_log h b x other answer h' at w = elim w [ ]

  fetch_turn_log : (h : PartitionState D) (b : ℕ) (x : Node D) (offset limit : ℕ) (turned : Turned) (h' : PartitionState D) → slice_get h.nodes b ≡ Some x
      → FetchTurn content control h b x offset limit turned h' → OneLog content h h'
  fetch_turn_log h b x offset limit (Answers answer) h' at w = fetch_log h b x offset limit answer h' at w
  fetch_turn_log h b x offset limit (Begins g) h' at w = none content h h' w.6

  join_log : (h : PartitionState D) (b : ℕ) (x : Node D) (turned : Turned) (h' : PartitionState D) → slice_get h.nodes b ≡ Some x → JoinRow content control h b x turned h' → OneLog content h h'
  join_log h b x (Answers Down) h' at w = none content h h' w.1
  join_log h b x (Answers NotFollower) h' at w = none content h h' w.2
  join_log h b x (Answers (StaleEpoch e)) h' at w = none content h h' w.3
  join_log h b x (Answers NoLeader) h' at w = none content h h' w.3
  join_log h b x (Answers (Cut n)) h' at w = let g = (some_of _ (the_leader h) w.2).2.5 in one_put content h b x _ h' at g.cuts.between g.after
  join_log h b x (Answers (DiskFaultAt n)) h' at w = broken_log h b x _ h' at (λ kept k. k.between) (some_of _ (the_leader h) w.2).2.4.1
  join_log h b x (Begins g) h' at w = let k = (some_of _ (the_leader h) w.2).2.4.cuts in one_put content h b x _ h' at k.cuts.between k.after
  join_log h b x other h' at w = elim w [ ]

  join_on_log : (h : PartitionState D) (b : ℕ) (x : Node D) (g : StartSnapshot) (answer : Answer) (h' : PartitionState D) → slice_get h.nodes b ≡ Some x → JoinOnRow content control h b x g answer h' → OneLog content h h'
  join_on_log h b x g Stopped h' at w = none content h h' w.1
  join_on_log h b x g (StaleEpoch e) h' at w = none content h h' w.3
  join_on_log h b x g (Passed n) h' at w = none content h h' w.3
  join_on_log h b x g (BelowStart start) h' at w = none content h h' w.5
  join_on_log h b x g (DiskFaultAt n) h' at w = broken_log h b x _ h' at (λ kept k. k.between) w.2
  join_on_log h b x g (Rebuilt n) h' at w = one_put content h b x (record x { log = w.2.kept }) h' at w.2.restarts.between w.2.after
  join_on_log h b x g other h' at w = elim w [ ]

  trim_log : (h : PartitionState D) (b : ℕ) (x : Node D) (turned : Turned) (h' : PartitionState D) → TrimRow content control h x turned h' → OneLog content h h'
  trim_log h b x (Answers Down) h' w = none content h h' w.1
  trim_log h b x (Begins g) h' w = none content h h' w.2
  trim_log h b x other h' w = elim w [ ]

  pub trim_on_log : (h : PartitionState D) (b : ℕ) (x : Node D) (g : StartSnapshot) (answer : Answer) (h' : PartitionState D) → slice_get h.nodes b ≡ Some x → TrimOnRow content control h b x g answer h' → OneLog content h h'
  trim_on_log h b x g Stopped h' at w = none content h h' w.1
  trim_on_log h b x g Remains h' at w = none content h h' w.1
  trim_on_log h b x g DiskFault h' at w = broken_log h b x _ h' at (λ kept k. k.between) w.2
  trim_on_log h b x g (Dropped base last) h' at w = one_put content h b x (record x { log = w.2.0 }) h' at w.2.1.between w.2.3
  trim_on_log h b x g other h' at w = elim w [ ]

  follow_log : (h : PartitionState D) (b : ℕ) (x : Node D) (limit : ℕ) (turned : Turned) (h' : PartitionState D) → FollowRow content control h b x limit turned h' → OneLog content h h'
  follow_log h b x limit (Answers Down) h' w = none content h h' w.1
  follow_log h b x limit (Answers NotJoined) h' w = none content h h' w.2
  follow_log h b x limit (Answers (StaleEpoch e)) h' w = none content h h' w.3
  follow_log h b x limit (Answers NoLeader) h' w = none content h h' w.3
  follow_log h b x limit (Answers Level) h' w = none content h h' w.3
  follow_log h b x limit (Answers DiskFault) h' w =
      let y = some_of _ (the_leader h) w.2 in
      fails_log h h.registry.leader.0 y.0 h' (leader_at h y.0 y.1) y.2.2
  follow_log h b x limit (Answers (Moved n)) h' w = none content h h' w.3
  follow_log h b x limit (Answers (Damaged (File name) from)) h' w =
      let y = some_of _ (the_leader h) w.2 in
      one_put content h h.registry.leader.0 y.0 (record y.0 { log = y.2.2.kept }) h' (leader_at h y.0 y.1) y.2.2.misreads.stays.between y.2.2.after
  follow_log h b x limit (Begins g) h' w =
      let y = some_of _ (the_leader h) w.2 in
      one_put content h h.registry.leader.0 y.0 (record y.0 { log = y.2.2.kept }) h' (leader_at h y.0 y.1) y.2.2.reads.stays.between y.2.2.after
  follow_log h b x limit other h' w = elim w [ ]

  follow_on_log : (h : PartitionState D) (b : ℕ) (x : Node D) (g : StartSnapshot) (answer : Answer) (h' : PartitionState D) → slice_get h.nodes b ≡ Some x
      → FollowOnRow content control h b x g answer h' → OneLog content h h'
  follow_on_log h b x g Stopped h' at w = none content h h' w.1
  follow_on_log h b x g (StaleEpoch e) h' at w = none content h h' w.3
  follow_on_log h b x g (Passed n) h' at w = none content h h' w.3
  follow_on_log h b x g TooManySegments h' at w = none content h h' w.3
  follow_on_log h b x g DiskFault h' at w = breaks_log h b x _ h' at w.3
  follow_on_log h b x g (Copied n) h' at w = one_put content h b x (record x { log = w.3.kept }) h' at w.3.appends.between w.3.after
  follow_on_log h b x g other h' at w = elim w [ ]

  first_log : (h : PartitionState D) (b : ℕ) (x : Node D) (command : Command) (turned : Turned) (h' : PartitionState D) → slice_get h.nodes b ≡ Some x
      → FirstRow content control h b x command turned h' → OneLog content h h'
  first_log h b x (Follow limit) turned h' at w = follow_log h b x limit turned h' w
  first_log h b x Join turned h' at w = join_log h b x turned h' at w
  first_log h b x Trim turned h' at w = trim_log h b x turned h' w
  first_log h b x (Fetch offset limit) turned h' at w = fetch_turn_log h b x offset limit turned h' at w
  first_log h b x (Offset LatestTiered) turned h' at w = elim w [ ]
  first_log h b x (Offset (At ts)) turned h' at w = elim w [ ]
  first_log h b x command (Answers answer) h' at w = answer_log h b x command answer h' at w
  first_log h b x command (Begins g) h' at w = elim w [ ]

  later_log : (h : PartitionState D) (b : ℕ) (x : Node D) (command : Command) (g : StartSnapshot) (turned : Turned) (h' : PartitionState D) → slice_get h.nodes b ≡ Some x
      → LaterRow content control h b x command g turned h' → OneLog content h h'
  later_log h b x (Follow limit) g (Answers answer) h' at w = follow_on_log h b x g answer h' at w
  later_log h b x Join g (Answers answer) h' at w = join_on_log h b x g answer h' at w
  later_log h b x Trim g (Answers answer) h' at w = trim_on_log h b x g answer h' at w
  later_log h b x command g turned h' at w = elim w [ ]

  pub row_log : (h : PartitionState D) (b : ℕ) (x : Node D) (snapshot : Option StartSnapshot) (command : Command) (turned : Turned) (h' : PartitionState D) → slice_get h.nodes b ≡ Some x
      → Row content control h b x snapshot command turned h' → OneLog content h h'
  row_log h b x None command turned h' at w = first_log h b x command turned h' at w
  row_log h b x (Some g) command turned h' at w = later_log h b x command g turned h' at w
