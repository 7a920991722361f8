-- Each turn keeps what the turns need, over any disks.
use Rattle.std.proofs.Common.{◌≡◌, ◌∙◌, inl, inr, sym, ap, subst, refl, ℕ, ◌+◌, ◌^◌, ◌<◌, ◌≤◌, List, [], ◌∷◌, length, slice_get, Some, None, Option, Ok as Done, Err, Bool, true, false, ◌&&◌, arith}
use Rattle.std.specs.Prelude.{unwrap_or, min, IsSome}
use Rattle.tier_base.specs.Device.{Control}
use Rattle.disk_model.specs.Call.{call_code}
use Rattle.disk_model.specs.Content.{Content}
use Rattle.log_terms.specs.Batch.{base_of, epoch_of, last_offset_delta_of}
use Rattle.log_terms.proofs.Lists.{and_then_some, each-set, length-slice_set}
use Rattle.epoch_line.specs.Line.{last_epoch, assign, cut_end}
use Rattle.record_batch.specs.Build.{built}
use Rattle.record_batch.specs.Stamp.{stamped}
use Rattle.record_batch.proofs.BuildLaws.{built_long}
use Rattle.record_batch.proofs.Passing.{checked_long}
use Rattle.record_batch.proofs.StampLaws.{sets_base_and_epoch}
use Rattle.registry.specs.declared.registry.Registry.{Registry}
use Rattle.registry.specs.declared.refusal.RegRefusal.TheVariants as Reg
use Rattle.registry.specs.Registry.{epoch_limit}
use Rattle.registry.specs.Calls.{when, after_ack}
use Rattle.plain_log.specs.declared.answer.Answer.{Answer}
use Rattle.plain_log.specs.declared.answer.Answer.TheVariants.{Ok, OkAt, OkSpan, Down, NotLeader, Refused, LastOffset, TooManySegments, EmptySegment, DiskFault, DiskFaultAt, Damaged, OutOfRange, Empty, Run, LastEpoch, NotInSync, DownBroker, BehindStart, Known, Follows, NeedsElection, Leads, NotJoined, StaleEpoch, IsLeader, Behind, NotAbove, AboveMark, NotFollower, NoLeader, Cut, Level, Stopped, Passed, Copied, IsUp, LastIncarnation, Up as IsOpen, Moved, BelowStart, Rebuilt, Kept as Remains, Dropped, Offset as OffsetAnswer}
use Rattle.plain_log.specs.declared.answer.Place.TheVariants.{File}
use Rattle.plain_log.specs.declared.command.Command.{Command}
use Rattle.plain_log.specs.declared.command.Command.TheVariants.{Append, Raw, Flush, Roll, Elect, Unclean, Learn, Join, Follow, Trim, Ack, Shrink, Expand, Raise, Clock, Stop as StopCommand, Up as UpCommand, Fetch, Pack, Copying, Offset}
use Rattle.plain_log.specs.declared.command.Which.{Which}
use Rattle.plain_log.specs.declared.command.Which.TheVariants.{LatestTiered, At}
use Rattle.plain_log.specs.declared.state.Role.{Role}
use Rattle.plain_log.specs.declared.state.Role.TheVariants.{Idle, Leads as LeadsIn, Follows as FollowsIn, Joined as JoinedIn}
use Rattle.plain_log.specs.State.{acking, joined, leads_in}
use Rattle.plain_log.specs.RowsOfLog.{offset_limit}
use Rattle.plain_log.proofs.Options.{when_some}
use Rattle.local_log.specs.Run.{lined}
use Rattle.broker_log.specs.Seen.{LogSeen, LogState, Up, Down as Closed, Away, WhileUp, LogStays, is_up as is_open, end_in, line_in}
use Rattle.laws_partition.specs.declared.start_snapshot.StartSnapshot.{StartSnapshot}
use Rattle.laws_partition.specs.declared.start_snapshot.Turned.{Turned}
use Rattle.laws_partition.specs.declared.start_snapshot.Turned.TheVariants.{Answers, Begins}
use Rattle.laws_partition.proofs.BoolTests.{some_of}
use Rattle.laws_partition.proofs.Lines.{last_of_push}
use Rattle.laws_partition.proofs.RegistryLaw.{Moves, elect_moves, unclean_moves, ack_moves, shrink_moves, expand_moves, raise_moves}
use Rattle.partition_commands.specs.declared.partition_state.Node.{Node}
use Rattle.partition_commands.specs.declared.partition_state.PartitionState.{PartitionState}
use Rattle.partition_commands.specs.Partition.{is_up, end_of, line_of, flushed_end_of, stopped, put_node, AtNode, the_leader, LogRests, NodeReadFails, BreaksNode, KeepsPartition, BreaksBy}
use Rattle.partition_commands.specs.Sound.{LeaderSound, SoundPartition}
use Rattle.partition_commands.specs.Turns.{OffsetRow, StopRow, UpRow, AnswerRow, FirstRow, LaterRow, Row}
use Rattle.partition_commands.specs.TurnsOfLog.{end_with, NodeGains, AppendRow, RawRow, FlushRow, RollRow, TrimRow, TrimOnRow}
use Rattle.partition_commands.specs.TurnsOfFetch.{FetchRow, FetchTurn}
use Rattle.partition_commands.specs.TurnsOfElections.{Leaves, ElectRow, UncleanRow, LearnRow, AckRow, ShrinkRow, ExpandRow, RaiseRow}
use Rattle.partition_commands.specs.TurnsOfFollowers.{CutsNode, JoinRow, JoinOnRow, FollowRow, FollowOnRow}
use Rattle.partition_commands.proofs.OwnRefined.{open_of}
use Rattle.partition_commands.proofs.Marks.{MarkStays, elect_marks, unclean_marks, ack_marks, shrink_marks, expand_marks, raise_marks}
use Rattle.partition_commands.proofs.Fronts.{whole_batch, front_one, begun_entered, entered_last}
use Rattle.partition_commands.proofs.Shown.{up_of_end}

-- a role of one kind isn't of another
idle_leads : (r : Role) (e : ℕ) → r ≡ Idle → r ≡ LeadsIn e → ⊥
idle_leads r e is lead = let none : Idle ≡ LeadsIn e = sym is ∙ lead in absurd cc

joined_leads : (r : Role) (e : ℕ) → IsSome (joined r) → r ≡ LeadsIn e → ⊥
joined_leads r e some lead = let none = subst (λ (k : Role). IsSome (joined k)) lead some in absurd cc

-- one that is up isn't down
up_down : {A : Type 0} (t : Bool) → t ≡ true → t ≡ false → A
up_down true up down = absurd cc
up_down false up down = absurd cc

-- the epoch hasn't fallen
epoch_up : (old r : Registry) → Moves old r → old.epoch ≤ r.epoch
epoch_up old r m = elim m.epoch [ inl k ↦ (let is = k.epoch in omega (arith, is)) | inr k ↦ (let is = k.epoch in omega (arith, is)) ]

module _ {D : Type 0} where
  -- the leader epochs of a log that was up
  line_while : (k kept : LogState D) (f : List (ℕ × ℕ) → ℕ → List (ℕ × ℕ)) → is_open k ≡ true → WhileUp k (λ log. line_in kept ≡ Some (f log.line log.end))
      → unwrap_or (line_in kept) [] ≡ f (unwrap_or (line_in k) []) (unwrap_or (end_in k) 0)
  line_while (Up l) kept f up is = ap (λ (o : Option (List (ℕ × ℕ))). unwrap_or o []) is
  line_while (Closed i d) kept f up is = absurd cc
  line_while Away kept f up is = absurd is

  -- the partition hasn't changed
  pub same : (n : ℕ) (h h' : PartitionState D) → h' ≡ h → SoundPartition n h → SoundPartition n h'
  same n h h' e s = subst (SoundPartition n) (sym e) s

  put_sound : (n : ℕ) (h : PartitionState D) (b : ℕ) (y : Node D) → SoundPartition n h → LeaderSound h.registry y → SoundPartition n (put_node h b y)
  put_sound n h b y s k = record {
    count = length-slice_set h.nodes b y ∙ s.count;
    same = s.same;
    epoch = s.epoch;
    nodes = each-set (LeaderSound h.registry) h.nodes b y s.nodes k;
  }

  -- a node has
  pub put_is : (n : ℕ) (h : PartitionState D) (b : ℕ) (y : Node D) (h' : PartitionState D) → h' ≡ put_node h b y → SoundPartition n h → LeaderSound h.registry y → SoundPartition n h'
  put_is n h b y h' e s k = subst (SoundPartition n) (sym e) (put_sound n h b y s k)

  -- a node as the registry has moved: its epoch is the next, or the high watermark hasn't fallen
  moved_node : (old r : Registry) (x : Node D) → old.epoch ≤ r.epoch → MarkStays old r → LeaderSound old x → LeaderSound r x
  moved_node old r x later stays s = record {
    up = s.up;
    leads = s.leads;
    fits = s.fits;
    past = λ e is. (let was = s.past e is in omega (arith, was, later));
    known_high_watermark = λ e is le.
        (let was = s.past e is in
        let known = s.known_high_watermark e is (omega (arith, le, later)) in
        let low = stays (omega (arith, was, le, later)) in
        omega (arith, known, low));
    down = s.down;
  }

  -- the registry has
  moved_sound : (n : ℕ) (h : PartitionState D) (r : Registry) → SoundPartition n h → Moves h.registry r → MarkStays h.registry r → SoundPartition n (record h { registry = r })
  moved_sound n h r s m stays = record {
    count = s.count;
    same = m.count ∙ s.same;
    epoch = elim m.epoch [
      | inl k ↦ subst (λ (e : ℕ). e < 2 ^ 31) (sym k.epoch) s.epoch
      | inr k ↦ small r.epoch h.registry.epoch epoch_limit k.epoch k.below refl
    ];
    nodes = λ b x at. moved_node h.registry r x (epoch_up h.registry r m) stays (s.nodes b x at);
  }
    where
      small : (e old limit : ℕ) → e ≡ old + 1 → old < limit → limit ≡ 2147483647 → e < 2 ^ 31
      small e old limit is lt l = omega (arith, is, lt, l)

  leaves_sound : (n : ℕ) (h : PartitionState D) (after : Option Registry) (h' : PartitionState D) → SoundPartition n h → Leaves h after h' → ((r : Registry) → after ≡ Some r → Moves h.registry r)
      → ((r : Registry) → after ≡ Some r → MarkStays h.registry r) → SoundPartition n h'
  leaves_sound n h after h' s w moves marks = let r = some_of _ after w in subst (SoundPartition n) (sym r.2) (moved_sound n h r.0 s (moves r.0 r.1) (marks r.0 r.1))

  -- a node whose log is up still, with a line that ends with the same epoch
  line_sound : {r : Registry} (x : Node D) (kept : LogState D) → LeaderSound r x → is_open kept ≡ true → ((e : ℕ) → x.role ≡ LeadsIn e → last_epoch (unwrap_or (line_in kept) []) ≡ Some e)
      → LeaderSound r (record x { log = kept })
  line_sound x kept s up line = record { up = λ e is. up; leads = line; fits = s.fits; past = s.past; known_high_watermark = s.known_high_watermark; down = λ down. up_down (is_open kept) up down }

  -- a node with another log that leads no more
  follows_sound : {r : Registry} (x : Node D) → is_up x ≡ true → ((e : ℕ) → x.role ≡ LeadsIn e → ⊥) → LeaderSound r x
  follows_sound x up never = record { up = λ e is. up; leads = λ e is. absurd (never e is); fits = λ e is. absurd (never e is); past = λ e is. absurd (never e is); known_high_watermark = λ e is le. absurd (never e is); down = λ down. up_down (is_up x) up down }

  -- a node that has stopped
  stopped_sound : {r : Registry} (x : Node D) (kept : LogState D) → LeaderSound r (record (stopped x) { log = kept })
  stopped_sound x kept = record {
    up = λ e is. absurd (idle_leads Idle e refl is);
    leads = λ e is. absurd (idle_leads Idle e refl is);
    fits = λ e is. absurd (idle_leads Idle e refl is);
    past = λ e is. absurd (idle_leads Idle e refl is);
    known_high_watermark = λ e is le. absurd (idle_leads Idle e refl is);
    down = λ down. (refl, refl);
  }

  pub leader_at : (h : PartitionState D) (y : Node D) → the_leader h ≡ Some y → slice_get h.nodes h.registry.leader.0 ≡ Some y
  leader_at h y is =
      let one = and_then_some (λ y. when (is_up y && leads_in h.registry.epoch y.role) y) (slice_get h.nodes h.registry.leader.0) y is in
      one.1 ∙ ap (λ (z : Node D). Some z) (when_some (is_up one.0 && leads_in h.registry.epoch one.0.role) one.0 y one.2).1

module _ {D : Type 0} (content : D → Content) (control : D → Control call_code) where
  -- a log with the leader epochs that it had
  looks_sound : (n : ℕ) (h : PartitionState D) (b : ℕ) (x : Node D) (kept : LogState D) (h' : PartitionState D) → slice_get h.nodes b ≡ Some x → SoundPartition n h → is_open kept ≡ is_open x.log → line_in kept ≡ line_in x.log
      → h' ≡ put_node h b (record x { log = kept }) → SoundPartition n h'
  looks_sound n h b x kept h' at s up line is =
      let y = s.nodes b x at in
      put_is n h b (record x { log = kept }) h' is s (record {
        up = λ e lead. up ∙ y.up e lead;
        leads = λ e lead. ap (λ (o : Option (List (ℕ × ℕ))). last_epoch (unwrap_or o [])) line ∙ y.leads e lead;
        fits = y.fits;
        past = y.past;
        known_high_watermark = y.known_high_watermark;
        down = λ down. y.down (sym up ∙ down);
      })

  -- a log that was asked
  stays_sound : (n : ℕ) (h : PartitionState D) (b : ℕ) (x : Node D) (kept : LogState D) (h' : PartitionState D) → slice_get h.nodes b ≡ Some x → SoundPartition n h → LogStays content x.log kept → h' ≡ put_node h b (record x { log = kept })
      → SoundPartition n h'
  stays_sound n h b x kept h' at s k is = looks_sound n h b x kept h' at s k.up k.line is

  rests_sound : (n : ℕ) (h : PartitionState D) (b : ℕ) (x : Node D) (h' : PartitionState D) → slice_get h.nodes b ≡ Some x → SoundPartition n h → LogRests content control h b x h' → SoundPartition n h'
  rests_sound n h b x h' at s k = stays_sound n h b x k.0 h' at s k.1 k.3

  fails_sound : (n : ℕ) (h : PartitionState D) (b : ℕ) (x : Node D) (h' : PartitionState D) → slice_get h.nodes b ≡ Some x → SoundPartition n h → NodeReadFails content control h b x h' → SoundPartition n h'
  fails_sound n h b x h' at s k = stays_sound n h b x k.0 h' at s k.1 k.4

  breaks_sound : (n : ℕ) (h : PartitionState D) (b : ℕ) (x : Node D) (makes : LogSeen → LogSeen) (h' : PartitionState D) → SoundPartition n h → BreaksNode content control h b x makes h' → SoundPartition n h'
  breaks_sound n h b x makes h' s k = put_is n h b _ h' k.after s (stopped_sound x k.kept)

  -- append, raw, flush, roll, fetch

  placed_epoch : (x : Node D) (batch : List ℕ) (base e : ℕ) → 61 ≤ length batch → base ≡ end_of x → end_with x batch ≤ offset_limit → e < 2 ^ 31 → epoch_of (stamped batch base e) ≡ e
  placed_epoch x batch base e long is fits low =
      (sets_base_and_epoch batch base e long (below_64 base (end_of x) (last_offset_delta_of batch) offset_limit is fits refl) (omega (arith, low))).leader_epoch
    where
      below_64 : (base end delta limit : ℕ) → base ≡ end → end + delta + 1 ≤ limit → limit ≡ 4611686018427387904 → base < 2 ^ 64
      below_64 base end delta limit is le l = omega (arith, is, le, l)

  -- a log whose leader puts a batch of its epoch at the end
  gains_sound : (n : ℕ) (h : PartitionState D) (b : ℕ) (x : Node D) (placed : List ℕ) (e : ℕ) (h' : PartitionState D) → slice_get h.nodes b ≡ Some x → SoundPartition n h → is_up x ≡ true → x.role ≡ LeadsIn e → epoch_of placed ≡ e
      → NodeGains content control h b x placed h' → SoundPartition n h'
  gains_sound n h b x placed e h' at s up lead epoch k =
      let kept = k.0 in
      let g = k.3 in
      let front : g.front ≡ placed ∷ [] = front_one g.front g.rest placed g.some (whole_batch g.front g.rest placed g.bytes g.are k.2) in
      let line : unwrap_or (line_in kept) [] ≡ lined (line_of x) (placed ∷ []) = line_while x.log kept (λ line end. lined line g.front) up g.line_is ∙ ap (lined (line_of x)) front in
      let last : last_epoch (unwrap_or (line_in kept) []) ≡ Some e =
      ap last_epoch (line ∙ begun_entered (line_of x) (epoch_of placed) (base_of placed)) ∙ (entered_last (line_of x) (epoch_of placed) (base_of placed) ∙ ap (λ (m : ℕ). Some m) epoch) in
      put_is n h b (record x { log = kept }) h' k.5 s (line_sound x kept (s.nodes b x at) (up_of_end content kept (k.1.1 + 1) g.end_is) (λ f is. last ∙ ap (λ (m : ℕ). Some m) (one e f (sym lead ∙ is))))
    where
      one : (e f : ℕ) → LeadsIn e ≡ LeadsIn f → e ≡ f
      one e f is = cc (is)

  append_sound : (n : ℕ) (h : PartitionState D) (b : ℕ) (x : Node D) (batch : List ℕ) (answer : Answer) (h' : PartitionState D) → slice_get h.nodes b ≡ Some x → 61 ≤ length batch → SoundPartition n h
      → AppendRow content control h b x batch answer h' → SoundPartition n h'
  append_sound n h b x batch Down h' at long s w = same n h h' w.1 s
  append_sound n h b x batch NotLeader h' at long s w = same n h h' w.2 s
  append_sound n h b x batch LastOffset h' at long s w = same n h h' w.3 s
  append_sound n h b x batch TooManySegments h' at long s w = same n h h' w.4 s
  append_sound n h b x batch DiskFault h' at long s w = breaks_sound n h b x _ h' s w.4
  append_sound n h b x batch (OkSpan base last e) h' at long s w =
      gains_sound n h b x (stamped batch base e) e h' at s w.0 w.1 (placed_epoch x batch base e long w.3 w.2 ((s.nodes b x at).fits e w.1)) w.6
  append_sound n h b x batch other h' at long s w = elim w [ ]

  raw_sound : (n : ℕ) (h : PartitionState D) (b : ℕ) (x : Node D) (bytes : List ℕ) (answer : Answer) (h' : PartitionState D) → slice_get h.nodes b ≡ Some x → SoundPartition n h
      → RawRow content control h b x bytes answer h' → SoundPartition n h'
  raw_sound n h b x bytes Down h' at s w = same n h h' w.1 s
  raw_sound n h b x bytes NotLeader h' at s w = same n h h' w.2 s
  raw_sound n h b x bytes (Refused cause) h' at s w = same n h h' w.3 s
  raw_sound n h b x bytes LastOffset h' at s w = same n h h' w.1.3 s
  raw_sound n h b x bytes TooManySegments h' at s w = same n h h' w.1.4 s
  raw_sound n h b x bytes DiskFault h' at s w = breaks_sound n h b x _ h' s w.1.4
  raw_sound n h b x bytes (OkSpan base last e) h' at s w = append_sound n h b x bytes (OkSpan base last e) h' at (checked_long bytes w.0) s w.1
  raw_sound n h b x bytes other h' at s w = elim w [ ]

  flush_sound : (n : ℕ) (h : PartitionState D) (b : ℕ) (x : Node D) (answer : Answer) (h' : PartitionState D) → slice_get h.nodes b ≡ Some x → SoundPartition n h → FlushRow content control h b x answer h' → SoundPartition n h'
  flush_sound n h b x Down h' at s w = same n h h' w.1 s
  flush_sound n h b x DiskFault h' at s w = breaks_sound n h b x _ h' s w.1
  flush_sound n h b x (OkAt m) h' at s w =
      let kept = w.1.0 in
      let g = w.1.1 in
      let y = s.nodes b x at in
      let line = line_while x.log kept (λ line end. line) w.0 g.line_is in
      put_is n h b (record x { log = kept }) h' w.1.3 s (line_sound x kept y (up_of_end content kept m g.end_is) (λ e is. ap last_epoch line ∙ y.leads e is))
  flush_sound n h b x other h' at s w = elim w [ ]

  roll_sound : (n : ℕ) (h : PartitionState D) (b : ℕ) (x : Node D) (answer : Answer) (h' : PartitionState D) → slice_get h.nodes b ≡ Some x → SoundPartition n h → RollRow content control h b x answer h' → SoundPartition n h'
  roll_sound n h b x Down h' at s w = same n h h' w.1 s
  roll_sound n h b x EmptySegment h' at s w = same n h h' w.2 s
  roll_sound n h b x TooManySegments h' at s w = same n h h' w.2 s
  roll_sound n h b x DiskFault h' at s w = breaks_sound n h b x _ h' s w.2
  roll_sound n h b x (OkAt m) h' at s w = looks_sound n h b x w.3.0 h' at s w.3.1.up w.3.1.line w.3.3
  roll_sound n h b x other h' at s w = elim w [ ]

  fetch_sound : (n : ℕ) (h : PartitionState D) (b : ℕ) (x : Node D) (offset limit : ℕ) (answer : Answer) (h' : PartitionState D) → slice_get h.nodes b ≡ Some x → SoundPartition n h
      → FetchRow content control h b x offset limit answer h' → SoundPartition n h'
  fetch_sound n h b x offset limit Down h' at s w = same n h h' w.1 s
  fetch_sound n h b x offset limit NotLeader h' at s w = same n h h' w.2 s
  fetch_sound n h b x offset limit (OutOfRange start end) h' at s w = same n h h' w.5 s
  fetch_sound n h b x offset limit Empty h' at s w = same n h h' w.4 s
  fetch_sound n h b x offset limit (Run tier size stop bytes) h' at s w = stays_sound n h b x w.4.kept h' at s w.4.reads.stays w.4.after
  fetch_sound n h b x offset limit DiskFault h' at s w = fails_sound n h b x h' at s w.4
  fetch_sound n h b x offset limit (Damaged (File name) from) h' at s w = stays_sound n h b x w.4.kept h' at s w.4.misreads.stays w.4.after
  fetch_sound n h b x offset limit other h' at s w = elim w [ ]

  fetch_turn_sound : (n : ℕ) (h : PartitionState D) (b : ℕ) (x : Node D) (offset limit : ℕ) (turned : Turned) (h' : PartitionState D) → slice_get h.nodes b ≡ Some x → SoundPartition n h
      → FetchTurn content control h b x offset limit turned h' → SoundPartition n h'
  fetch_turn_sound n h b x offset limit (Answers answer) h' at s w = fetch_sound n h b x offset limit answer h' at s w
  fetch_turn_sound n h b x offset limit (Begins g) h' at s w = same n h h' w.6 s

  -- elections and what is learned of them

  elect_sound : (n : ℕ) (h : PartitionState D) (b : ℕ) (x : Node D) (answer : Answer) (h' : PartitionState D) → SoundPartition n h → ElectRow h b x answer h' → SoundPartition n h'
  elect_sound n h b x LastEpoch h' s w = let t = some_of _ (slice_get h.registry.replicas b) w in leaves_sound n h _ h' s t.2 (elect_moves h.registry b t.0 (is_up x) (Err Reg.LastEpoch)) (elect_marks h.registry b t.0 (is_up x) (Err Reg.LastEpoch))
  elect_sound n h b x NotInSync h' s w = let t = some_of _ (slice_get h.registry.replicas b) w in leaves_sound n h _ h' s t.2 (elect_moves h.registry b t.0 (is_up x) (Err Reg.NotInSync)) (elect_marks h.registry b t.0 (is_up x) (Err Reg.NotInSync))
  elect_sound n h b x DownBroker h' s w = let t = some_of _ (slice_get h.registry.replicas b) w in leaves_sound n h _ h' s t.2 (elect_moves h.registry b t.0 (is_up x) (Err Reg.DownBroker)) (elect_marks h.registry b t.0 (is_up x) (Err Reg.DownBroker))
  elect_sound n h b x (OkAt m) h' s w = let t = some_of _ (slice_get h.registry.replicas b) w in leaves_sound n h _ h' s t.2 (elect_moves h.registry b t.0 (is_up x) (Done m)) (elect_marks h.registry b t.0 (is_up x) (Done m))
  elect_sound n h b x other h' s w = elim w [ ]

  unclean_sound : (n : ℕ) (h : PartitionState D) (b : ℕ) (x : Node D) (answer : Answer) (h' : PartitionState D) → SoundPartition n h → UncleanRow h b x answer h' → SoundPartition n h'
  unclean_sound n h b x LastEpoch h' s w = leaves_sound n h _ h' s w (unclean_moves h.registry b (is_up x) (flushed_end_of x) (Err Reg.LastEpoch)) (unclean_marks h.registry b (is_up x) (flushed_end_of x) (Err Reg.LastEpoch))
  unclean_sound n h b x DownBroker h' s w = leaves_sound n h _ h' s w (unclean_moves h.registry b (is_up x) (flushed_end_of x) (Err Reg.DownBroker)) (unclean_marks h.registry b (is_up x) (flushed_end_of x) (Err Reg.DownBroker))
  unclean_sound n h b x (BehindStart end start) h' s w = leaves_sound n h _ h' s w (unclean_moves h.registry b (is_up x) (flushed_end_of x) (Err (Reg.BehindStart end start))) (unclean_marks h.registry b (is_up x) (flushed_end_of x) (Err (Reg.BehindStart end start)))
  unclean_sound n h b x (OkAt m) h' s w = leaves_sound n h _ h' s w (unclean_moves h.registry b (is_up x) (flushed_end_of x) (Done m)) (unclean_marks h.registry b (is_up x) (flushed_end_of x) (Done m))
  unclean_sound n h b x other h' s w = elim w [ ]

  learn_sound : (n : ℕ) (h : PartitionState D) (b : ℕ) (x : Node D) (answer : Answer) (h' : PartitionState D) → slice_get h.nodes b ≡ Some x → SoundPartition n h → LearnRow content control h b x answer h' → SoundPartition n h'
  learn_sound n h b x Down h' at s w = same n h h' w.1 s
  learn_sound n h b x Known h' at s w = same n h h' w.2 s
  learn_sound n h b x (Follows e) h' at s w = put_is n h b (record x { role = FollowsIn e }) h' w.4 s (follows_sound (record x { role = FollowsIn e }) w.0 (differ e))
    where
      differ : (e f : ℕ) → FollowsIn e ≡ LeadsIn f → ⊥
      differ e f is = absurd cc
  learn_sound n h b x (NeedsElection e) h' at s w = same n h h' w.5 s
  learn_sound n h b x (Leads e) h' at s w =
      let g = w.4.1 in
      let epoch = h.registry.epoch in
      let line = line_while x.log g.kept (λ line end. assign line epoch end) w.0 g.settles.line_is in
      let last : last_epoch (unwrap_or (line_in g.kept) []) ≡ Some epoch = ap last_epoch line ∙ last_of_push (cut_end (line_of x) (end_of x)) (epoch, end_of x) in
      let up = up_of_end content g.kept g.end g.settles.end_is in
      put_is n h b (record x { role = LeadsIn epoch; log = g.kept; known_high_watermark = min h.registry.mark g.end }) h' g.after s (record {
        up = λ f is. up;
        leads = λ f is. last ∙ ap (λ (m : ℕ). Some m) (one epoch f is);
        fits = λ f is. subst (λ (m : ℕ). m < 2 ^ 31) (one epoch f is) s.epoch;
        past = λ f is. (let same = one epoch f is in omega (arith, same));
        known_high_watermark = λ f is le. omega arith;
        down = λ down. up_down (is_open g.kept) up down;
      })
    where
      one : (e f : ℕ) → LeadsIn e ≡ LeadsIn f → e ≡ f
      one e f is = cc (is)
  learn_sound n h b x DiskFault h' at s w = breaks_sound n h b x _ h' s w.4
  learn_sound n h b x other h' at s w = elim w [ ]

  ack_sound : (n : ℕ) (h : PartitionState D) (b : ℕ) (x : Node D) (answer : Answer) (h' : PartitionState D) → slice_get h.nodes b ≡ Some x → SoundPartition n h → AckRow h b x answer h' → SoundPartition n h'
  ack_sound n h b x Down h' at s w = same n h h' w.1 s
  ack_sound n h b x NotJoined h' at s w = same n h h' w.2 s
  ack_sound n h b x (StaleEpoch e) h' at s w =
      let o = some_of _ (acking x.role) w.1 in
      let t = some_of _ (slice_get h.registry.replicas b) o.2 in
      leaves_sound n h _ h' s t.2 (ack_moves h.registry b t.0 o.0 (flushed_end_of x) (Err (Reg.StaleEpoch e))) (ack_marks h.registry b t.0 o.0 (flushed_end_of x) (Err (Reg.StaleEpoch e)))
  ack_sound n h b x (OkAt mark) h' at s w =
      let o = some_of _ (acking x.role) w.1 in
      let t = some_of _ (slice_get h.registry.replicas b) o.2 in
      let r = some_of _ (after_ack h.registry b t.0 o.0 (flushed_end_of x) (Done mark)) t.2 in
      let y = s.nodes b x at in
      let z = record x { known_high_watermark = min r.0.mark (end_of x) } in
      let moves = ack_moves h.registry b t.0 o.0 (flushed_end_of x) (Done mark) r.0 r.1 in
      let later = epoch_up h.registry r.0 moves in
      subst (SoundPartition n) (sym r.2) (put_sound n (record h { registry = r.0 }) b z
      (moved_sound n h r.0 s moves (ack_marks h.registry b t.0 o.0 (flushed_end_of x) (Done mark) r.0 r.1))
      (record {
        up = y.up;
        leads = y.leads;
        fits = y.fits;
        past = λ e is. (let was = y.past e is in omega (arith, was, later));
        known_high_watermark = λ e is le. omega arith;
        down = λ down. up_down (is_up x) w.0 down;
      }))
  ack_sound n h b x other h' at s w = elim w [ ]

  shrink_sound : (n : ℕ) (h : PartitionState D) (b : ℕ) (answer : Answer) (h' : PartitionState D) → SoundPartition n h → ShrinkRow h b answer h' → SoundPartition n h'
  shrink_sound n h b NotInSync h' s w = let t = some_of _ (slice_get h.registry.replicas b) w in leaves_sound n h _ h' s t.2 (shrink_moves h.registry b t.0 (Err Reg.NotInSync)) (shrink_marks h.registry b t.0 (Err Reg.NotInSync))
  shrink_sound n h b IsLeader h' s w = let t = some_of _ (slice_get h.registry.replicas b) w in leaves_sound n h _ h' s t.2 (shrink_moves h.registry b t.0 (Err Reg.IsLeader)) (shrink_marks h.registry b t.0 (Err Reg.IsLeader))
  shrink_sound n h b Ok h' s w = let t = some_of _ (slice_get h.registry.replicas b) w in leaves_sound n h _ h' s t.2 (shrink_moves h.registry b t.0 (Done tt)) (shrink_marks h.registry b t.0 (Done tt))
  shrink_sound n h b other h' s w = elim w [ ]

  expand_sound : (n : ℕ) (h : PartitionState D) (b : ℕ) (x : Node D) (answer : Answer) (h' : PartitionState D) → SoundPartition n h → ExpandRow h b x answer h' → SoundPartition n h'
  expand_sound n h b x DownBroker h' s w = let t = some_of _ (slice_get h.registry.replicas b) w in leaves_sound n h _ h' s t.2 (expand_moves h.registry b t.0 (is_up x) (Err Reg.DownBroker)) (expand_marks h.registry b t.0 (is_up x) (Err Reg.DownBroker))
  expand_sound n h b x (Behind ack mark) h' s w = let t = some_of _ (slice_get h.registry.replicas b) w in leaves_sound n h _ h' s t.2 (expand_moves h.registry b t.0 (is_up x) (Err (Reg.Behind ack mark))) (expand_marks h.registry b t.0 (is_up x) (Err (Reg.Behind ack mark)))
  expand_sound n h b x Ok h' s w = let t = some_of _ (slice_get h.registry.replicas b) w in leaves_sound n h _ h' s t.2 (expand_moves h.registry b t.0 (is_up x) (Done tt)) (expand_marks h.registry b t.0 (is_up x) (Done tt))
  expand_sound n h b x other h' s w = elim w [ ]

  raise_sound : (n : ℕ) (h : PartitionState D) (b : ℕ) (x : Node D) (wanted : ℕ) (answer : Answer) (h' : PartitionState D) → SoundPartition n h → RaiseRow h b x wanted answer h' → SoundPartition n h'
  raise_sound n h b x wanted Down h' s w = same n h h' w.1 s
  raise_sound n h b x wanted NotLeader h' s w = same n h h' w.2 s
  raise_sound n h b x wanted (StaleEpoch e) h' s w = leaves_sound n h _ h' s w.1.2 (raise_moves h.registry w.1.0 wanted (Err (Reg.StaleEpoch e))) (raise_marks h.registry w.1.0 wanted (Err (Reg.StaleEpoch e)))
  raise_sound n h b x wanted (NotAbove start) h' s w = leaves_sound n h _ h' s w.1.2 (raise_moves h.registry w.1.0 wanted (Err (Reg.NotAbove start))) (raise_marks h.registry w.1.0 wanted (Err (Reg.NotAbove start)))
  raise_sound n h b x wanted (AboveMark mark) h' s w = leaves_sound n h _ h' s w.1.2 (raise_moves h.registry w.1.0 wanted (Err (Reg.AboveMark mark))) (raise_marks h.registry w.1.0 wanted (Err (Reg.AboveMark mark)))
  raise_sound n h b x wanted (OkAt start) h' s w = leaves_sound n h _ h' s w.1.2 (raise_moves h.registry w.1.0 wanted (Done start)) (raise_marks h.registry w.1.0 wanted (Done start))
  raise_sound n h b x wanted other h' s w = elim w [ ]

  -- followers

  joined_not : (e f : ℕ) → JoinedIn e ≡ LeadsIn f → ⊥
  joined_not e f is = absurd cc

  cut_sound : (n : ℕ) (h : PartitionState D) (b : ℕ) (x : Node D) (e met m : ℕ) (h' : PartitionState D) → SoundPartition n h → CutsNode content control h b x e met m h' → SoundPartition n h'
  cut_sound n h b x e met m h' s g =
      put_is n h b (record x { role = JoinedIn e; log = g.kept; known_high_watermark = min x.known_high_watermark m }) h' g.after s
      (follows_sound (record x { role = JoinedIn e; log = g.kept; known_high_watermark = min x.known_high_watermark m }) (up_of_end content g.kept m g.cuts.end_is) (joined_not e))

  -- a write failed, whatever that makes of the log
  broken_sound : (n : ℕ) (h : PartitionState D) (b : ℕ) (x : Node D) (B : LogState D → LogState D → Type 0) (h' : PartitionState D) → SoundPartition n h → BreaksBy content control h b x B h' → SoundPartition n h'
  broken_sound n h b x B h' s k = put_is n h b (record (stopped x) { log = k.kept }) h' k.after s (stopped_sound x k.kept)

  join_sound : (n : ℕ) (h : PartitionState D) (b : ℕ) (x : Node D) (turned : Turned) (h' : PartitionState D) → SoundPartition n h → JoinRow content control h b x turned h' → SoundPartition n h'
  join_sound n h b x (Answers Down) h' s w = same n h h' w.1 s
  join_sound n h b x (Answers NotFollower) h' s w = same n h h' w.2 s
  join_sound n h b x (Answers (StaleEpoch e)) h' s w = same n h h' w.3 s
  join_sound n h b x (Answers NoLeader) h' s w = same n h h' w.3 s
  join_sound n h b x (Answers (Cut m)) h' s w = let y = some_of _ (the_leader h) w.2 in cut_sound n h b x y.2.0 y.2.1 m h' s y.2.5
  join_sound n h b x (Answers (DiskFaultAt m)) h' s w = let y = some_of _ (the_leader h) w.2 in broken_sound n h b x _ h' s y.2.4.1
  join_sound n h b x (Begins g) h' s w = let y = some_of _ (the_leader h) w.2 in cut_sound n h b x y.2.0 y.2.1 g.end h' s y.2.4.cuts
  join_sound n h b x other h' s w = elim w [ ]

  join_on_sound : (n : ℕ) (h : PartitionState D) (b : ℕ) (x : Node D) (g : StartSnapshot) (answer : Answer) (h' : PartitionState D) → SoundPartition n h → JoinOnRow content control h b x g answer h' → SoundPartition n h'
  join_on_sound n h b x g Stopped h' s w = same n h h' w.1 s
  join_on_sound n h b x g (StaleEpoch e) h' s w = same n h h' w.3 s
  join_on_sound n h b x g (Passed m) h' s w = same n h h' w.3 s
  join_on_sound n h b x g (BelowStart start) h' s w = same n h h' w.5 s
  join_on_sound n h b x g (DiskFaultAt m) h' s w = broken_sound n h b x _ h' s w.2
  join_on_sound n h b x g (Rebuilt m) h' s w =
      let k = w.2 in
      put_is n h b (record x { log = k.kept }) h' k.after s
      (follows_sound (record x { log = k.kept }) (up_of_end content k.kept m k.restarts.end_is) (λ e is. joined_leads x.role e w.0.1.1 is))
  join_on_sound n h b x g other h' s w = elim w [ ]

  -- trim

  trim_sound : (n : ℕ) (h : PartitionState D) (x : Node D) (turned : Turned) (h' : PartitionState D) → SoundPartition n h → TrimRow content control h x turned h' → SoundPartition n h'
  trim_sound n h x (Answers Down) h' s w = same n h h' w.1 s
  trim_sound n h x (Begins g) h' s w = same n h h' w.2 s
  trim_sound n h x other h' s w = elim w [ ]

  trim_on_sound : (n : ℕ) (h : PartitionState D) (b : ℕ) (x : Node D) (g : StartSnapshot) (answer : Answer) (h' : PartitionState D) → slice_get h.nodes b ≡ Some x → SoundPartition n h → TrimOnRow content control h b x g answer h' → SoundPartition n h'
  trim_on_sound n h b x g Stopped h' at s w = same n h h' w.1 s
  trim_on_sound n h b x g Remains h' at s w = same n h h' w.1 s
  trim_on_sound n h b x g DiskFault h' at s w = broken_sound n h b x _ h' s w.2
  trim_on_sound n h b x g (Dropped base last) h' at s w =
      let kept = w.2.0 in
      let d = w.2.1 in
      let k = s.nodes b x at in
      put_is n h b (record x { log = kept }) h' w.2.3 s
      (line_sound x kept k (open_of x kept d.end_is w.1 ∙ w.1) (λ e is. ap (λ (o : Option (List (ℕ × ℕ))). last_epoch (unwrap_or o [])) d.line_is ∙ k.leads e is))
  trim_on_sound n h b x g other h' at s w = elim w [ ]

  follow_sound : (n : ℕ) (h : PartitionState D) (b : ℕ) (x : Node D) (limit : ℕ) (turned : Turned) (h' : PartitionState D) → SoundPartition n h → FollowRow content control h b x limit turned h' → SoundPartition n h'
  follow_sound n h b x limit (Answers Down) h' s w = same n h h' w.1 s
  follow_sound n h b x limit (Answers NotJoined) h' s w = same n h h' w.2 s
  follow_sound n h b x limit (Answers (StaleEpoch e)) h' s w = same n h h' w.3 s
  follow_sound n h b x limit (Answers NoLeader) h' s w = same n h h' w.3 s
  follow_sound n h b x limit (Answers Level) h' s w = same n h h' w.3 s
  follow_sound n h b x limit (Answers DiskFault) h' s w = let y = some_of _ (the_leader h) w.2 in fails_sound n h h.registry.leader.0 y.0 h' (leader_at h y.0 y.1) s y.2.2
  follow_sound n h b x limit (Answers (Moved m)) h' s w = same n h h' w.3 s
  follow_sound n h b x limit (Answers (Damaged (File name) from)) h' s w = let y = some_of _ (the_leader h) w.2 in stays_sound n h h.registry.leader.0 y.0 y.2.2.kept h' (leader_at h y.0 y.1) s y.2.2.misreads.stays y.2.2.after
  follow_sound n h b x limit (Begins g) h' s w =
      let y = some_of _ (the_leader h) w.2 in
      stays_sound n h h.registry.leader.0 y.0 y.2.2.kept h' (leader_at h y.0 y.1) s y.2.2.reads.stays y.2.2.after
  follow_sound n h b x limit other h' s w = elim w [ ]

  follow_on_sound : (n : ℕ) (h : PartitionState D) (b : ℕ) (x : Node D) (g : StartSnapshot) (answer : Answer) (h' : PartitionState D) → SoundPartition n h → FollowOnRow content control h b x g answer h' → SoundPartition n h'
  follow_on_sound n h b x g Stopped h' s w = same n h h' w.1 s
  follow_on_sound n h b x g (StaleEpoch e) h' s w = same n h h' w.3 s
  follow_on_sound n h b x g (Passed m) h' s w = same n h h' w.3 s
  follow_on_sound n h b x g TooManySegments h' s w = same n h h' w.3 s
  follow_on_sound n h b x g DiskFault h' s w = breaks_sound n h b x _ h' s w.3
  follow_on_sound n h b x g (Copied m) h' s w =
      let k = w.3 in
      put_is n h b (record x { log = k.kept }) h' k.after s
      (follows_sound (record x { log = k.kept }) (up_of_end content k.kept (k.span.1 + 1) k.appends.end_is) (λ e is. joined_leads x.role e w.1.joined is))
  follow_on_sound n h b x g other h' s w = elim w [ ]

  -- stop, up, clock

  stop_sound : (n : ℕ) (h : PartitionState D) (b : ℕ) (x : Node D) (answer : Answer) (h' : PartitionState D) → SoundPartition n h → StopRow content control h b x answer h' → SoundPartition n h'
  stop_sound n h b x Down h' s w = same n h h' w.1 s
  stop_sound n h b x Ok h' s w = put_is n h b _ h' w.1.3 s (stopped_sound x w.1.0)
  stop_sound n h b x other h' s w = elim w [ ]

  up_sound : (n : ℕ) (h : PartitionState D) (b : ℕ) (x : Node D) (answer : Answer) (h' : PartitionState D) → slice_get h.nodes b ≡ Some x → SoundPartition n h → UpRow content control h b x answer h' → SoundPartition n h'
  up_sound n h b x IsUp h' at s w = same n h h' w.1 s
  up_sound n h b x (IsOpen m) h' at s w =
      let kept = w.1.0 in
      let idle = ((s.nodes b x at).down w.0).0 in
      put_is n h b (record x { log = kept }) h' w.1.3 s (follows_sound (record x { log = kept }) (up_of_end content kept m w.1.1.end_is) (λ e is. idle_leads x.role e idle is))
  up_sound n h b x DiskFault h' at s w = fails_sound n h b x h' at s w.1
  up_sound n h b x (Damaged (File name) from) h' at s w = stays_sound n h b x w.1.0 h' at s w.1.1.stays w.1.3
  up_sound n h b x LastIncarnation h' at s w = stays_sound n h b x w.1.0 h' at s w.1.1.stays w.1.3
  up_sound n h b x other h' at s w = elim w [ ]

  offset_sound : (n : ℕ) (h : PartitionState D) (x : Node D) (which : Which) (answer : Answer) (h' : PartitionState D) → SoundPartition n h → OffsetRow h x which answer h' → SoundPartition n h'
  offset_sound n h x which Down h' s w = same n h h' w.1 s
  offset_sound n h x which NotLeader h' s w = same n h h' w.2 s
  offset_sound n h x which (OffsetAnswer m) h' s w = same n h h' w.3 s
  offset_sound n h x which other h' s w = elim w [ ]

  -- a row of one turn
  answer_sound : (n : ℕ) (h : PartitionState D) (b : ℕ) (x : Node D) (command : Command) (answer : Answer) (h' : PartitionState D) → slice_get h.nodes b ≡ Some x → SoundPartition n h
      → AnswerRow content control h b x command answer h' → SoundPartition n h'
  answer_sound n h b x (Append recs) answer h' at s w = append_sound n h b x (built recs) answer h' at (built_long recs) s w
  answer_sound n h b x (Raw bytes) answer h' at s w = raw_sound n h b x bytes answer h' at s w
  answer_sound n h b x Flush answer h' at s w = flush_sound n h b x answer h' at s w
  answer_sound n h b x Roll answer h' at s w = roll_sound n h b x answer h' at s w
  answer_sound n h b x Elect answer h' at s w = elect_sound n h b x answer h' s w
  answer_sound n h b x Unclean answer h' at s w = unclean_sound n h b x answer h' s w
  answer_sound n h b x Learn answer h' at s w = learn_sound n h b x answer h' at s w
  answer_sound n h b x Ack answer h' at s w = ack_sound n h b x answer h' at s w
  answer_sound n h b x Shrink answer h' at s w = shrink_sound n h b answer h' s w
  answer_sound n h b x Expand answer h' at s w = expand_sound n h b x answer h' s w
  answer_sound n h b x (Raise start) answer h' at s w = raise_sound n h b x start answer h' s w
  answer_sound n h b x (Clock ms) Ok h' at s w = subst (SoundPartition n) (sym w) (record { count = s.count; same = s.same; epoch = s.epoch; nodes = s.nodes })
  answer_sound n h b x (Clock ms) other h' at s w = elim w [ ]
  answer_sound n h b x (Pack on) Ok h' at s w = subst (SoundPartition n) (sym w) (record { count = s.count; same = s.same; epoch = s.epoch; nodes = s.nodes })
  answer_sound n h b x (Pack on) other h' at s w = elim w [ ]
  answer_sound n h b x (Copying on) Ok h' at s w = subst (SoundPartition n) (sym w) (record { count = s.count; same = s.same; epoch = s.epoch; nodes = s.nodes })
  answer_sound n h b x (Copying on) other h' at s w = elim w [ ]
  answer_sound n h b x (Offset which) answer h' at s w = offset_sound n h x which answer h' s w
  answer_sound n h b x StopCommand answer h' at s w = stop_sound n h b x answer h' s w
  answer_sound n h b x UpCommand answer h' at s w = up_sound n h b x answer h' at s w
  answer_sound n h b x other answer h' at s w = elim w [ ]

  pub first_sound : (n : ℕ) (h : PartitionState D) (b : ℕ) (x : Node D) (command : Command) (turned : Turned) (h' : PartitionState D) → slice_get h.nodes b ≡ Some x → SoundPartition n h
      → FirstRow content control h b x command turned h' → SoundPartition n h'
  first_sound n h b x (Follow limit) turned h' at s w = follow_sound n h b x limit turned h' s w
  first_sound n h b x Join turned h' at s w = join_sound n h b x turned h' s w
  first_sound n h b x Trim turned h' at s w = trim_sound n h x turned h' s w
  first_sound n h b x (Fetch offset limit) turned h' at s w = fetch_turn_sound n h b x offset limit turned h' at s w
  first_sound n h b x (Offset LatestTiered) turned h' at s w = elim w [ ]
  first_sound n h b x (Offset (At ts)) turned h' at s w = elim w [ ]
  first_sound n h b x command (Answers answer) h' at s w = answer_sound n h b x command answer h' at s w
  first_sound n h b x command (Begins g) h' at s w = elim w [ ]

  pub later_sound : (n : ℕ) (h : PartitionState D) (b : ℕ) (x : Node D) (command : Command) (g : StartSnapshot) (turned : Turned) (h' : PartitionState D) → slice_get h.nodes b ≡ Some x → SoundPartition n h
      → LaterRow content control h b x command g turned h' → SoundPartition n h'
  later_sound n h b x (Follow limit) g (Answers answer) h' at s w = follow_on_sound n h b x g answer h' s w
  later_sound n h b x Join g (Answers answer) h' at s w = join_on_sound n h b x g answer h' s w
  later_sound n h b x Trim g (Answers answer) h' at s w = trim_on_sound n h b x g answer h' at s w
  later_sound n h b x command g turned h' at s w = elim w [ ]

  pub row_sound : (n : ℕ) (h : PartitionState D) (b : ℕ) (x : Node D) (snapshot : Option StartSnapshot) (command : Command) (turned : Turned) (h' : PartitionState D) → slice_get h.nodes b ≡ Some x → SoundPartition n h
      → Row content control h b x snapshot command turned h' → SoundPartition n h'
  row_sound n h b x None command turned h' at s w = first_sound n h b x command turned h' at s w
  row_sound n h b x (Some g) command turned h' at s w = later_sound n h b x command g turned h' at s w

  pub turn_sound : (n : ℕ) (h : PartitionState D) (b : ℕ) (snapshot : Option StartSnapshot) (command : Command) (turned : Turned) (h' : PartitionState D) → SoundPartition n h
      → AtNode h b (λ x. Row content control h b x snapshot command turned h') → SoundPartition n h'
  turn_sound n h b snapshot command turned h' s w =
      let x = some_of (λ x. Row content control h b x snapshot command turned h') (slice_get h.nodes b) w in row_sound n h b x.0 snapshot command turned h' x.1 s x.2

  -- running out of memory
  pub stays_partition_sound : (n : ℕ) (h h' : PartitionState D) → SoundPartition n h → KeepsPartition content control h h' → SoundPartition n h'
  stays_partition_sound n h h' s (inl is) = same n h h' is s
  stays_partition_sound n h h' s (inr k) = let x = some_of (λ x. LogRests content control h k.0 x h') (slice_get h.nodes k.0) k.1 in rests_sound n h k.0 x.0 h' x.1 s x.2
