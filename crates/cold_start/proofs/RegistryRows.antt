-- A turn of a command on brokers' logs or the registry changes one of the two, and not both. The registry has as many replicas as before.
use Rattle.std.proofs.Common.{◌≡◌, ◌∙◌, ◌⊎◌, inl, inr, sym, ap, subst, refl, ℕ, zero, suc, List, [], ◌∷◌, slice_get, slice_set, length, Some, None, Option, Bool, true, false, Ok as Done, Err}
use Rattle.std.specs.Prelude.{min, ℤ}
use Rattle.std.specs.declared.result.Result.{Result}
use Rattle.std.proofs.lemmas.List.{length-map}
use Rattle.tier_base.specs.Device.{Control}
use Rattle.disk_model.specs.Call.{call_code}
use Rattle.disk_model.specs.Content.{Content}
use Rattle.log_terms.proofs.Lists.{length-slice_set}
use Rattle.registry.specs.Calls.{when, after_elect, after_unclean, after_ack, after_shrink, after_expand, after_raise}
use Rattle.registry.specs.Registry.{elected, elected_alone, with_ack, shrunk, expanded, started}
use Rattle.registry.specs.Replicas.{outsider, renewed, all_out}
use Rattle.registry.specs.declared.refusal.RegRefusal.{RegRefusal}
use Rattle.registry.specs.declared.refusal.RegRefusal.TheVariants as reg
use Rattle.registry.specs.declared.registry.Replica.{Replica}
use Rattle.registry.specs.declared.registry.Registry.{Registry}
use Rattle.record_batch.specs.Build.{built}
use Rattle.plain_log.specs.declared.answer.Answer.{Answer}
use Rattle.plain_log.specs.declared.answer.Answer.TheVariants.{Ok, OkAt, OkSpan, Down, NotLeader, Refused, LastOffset, TooManySegments, EmptySegment, DiskFault, DiskFaultAt, Damaged, OutOfRange, Empty, Run, LastEpoch, NotInSync, DownBroker, BehindStart, Known, Follows, NeedsElection, Leads, NotJoined, StaleEpoch, IsLeader, Behind, NotAbove, AboveMark, NotFollower, NoLeader, Cut, Level, Stopped, Passed, Copied, IsUp, LastIncarnation, Up as IsOpen, Moved, BelowStart, Rebuilt, Kept as Remains, Dropped, Offset as OffsetAnswer}
use Rattle.plain_log.specs.declared.answer.Place.TheVariants.{File}
use Rattle.plain_log.specs.declared.command.Command.{Command}
use Rattle.plain_log.specs.declared.command.Command.TheVariants.{Append, Raw, Flush, Roll, Elect, Unclean, Learn, Join, Follow, Trim, Ack, Shrink, Expand, Raise, Clock, Stop as StopCommand, Up as UpCommand, Fetch, Pack, Copying, Offset}
use Rattle.plain_log.specs.declared.command.Which.{Which}
use Rattle.plain_log.specs.declared.command.Which.TheVariants.{LatestTiered, At}
use Rattle.plain_log.specs.State.{acking}
use Rattle.broker_log.specs.Seen.{LogState}
use Rattle.laws_partition.specs.declared.start_snapshot.StartSnapshot.{StartSnapshot}
use Rattle.laws_partition.specs.declared.start_snapshot.Turned.{Turned}
use Rattle.laws_partition.specs.declared.start_snapshot.Turned.TheVariants.{Answers, Begins}
use Rattle.laws_partition.proofs.BoolTests.{some_of}
use Rattle.partition_commands.specs.declared.partition_state.Node.{Node}
use Rattle.partition_commands.specs.declared.partition_state.PartitionState.{PartitionState}
use Rattle.partition_commands.specs.Partition.{put_node, is_up, end_of, flushed_end_of, the_leader}
use Rattle.partition_commands.specs.Turns.{ClockRow, PackRow, CopyingRow, OffsetRow, StopRow, UpRow, AnswerRow, FirstRow, LaterRow, Row}
use Rattle.partition_commands.specs.TurnsOfLog.{AppendRow, RawRow, FlushRow, RollRow, TrimRow, TrimOnRow}
use Rattle.partition_commands.specs.TurnsOfFetch.{FetchRow, FetchTurn}
use Rattle.partition_commands.specs.TurnsOfElections.{Leaves, ElectRow, UncleanRow, LearnRow, AckRow, ShrinkRow, ExpandRow, RaiseRow}
use Rattle.partition_commands.specs.TurnsOfFollowers.{JoinRow, JoinOnRow, FollowRow, FollowOnRow}
use Rattle.cold_start.specs.Stepping.{logs_of}

-- as many replicas as the registry has
abbrev AsMany : Registry → Option Registry → Type 0
AsMany r None = Unit {0}
AsMany r (Some s) = length s.replicas ≡ length r.replicas

when_many : (r : Registry) (test : Bool) (s : Registry) → length s.replicas ≡ length r.replicas → AsMany r (when test s)
when_many r true s e = e
when_many r false s e = tt

elect_many : (r : Registry) (b : ℕ) (s : Replica) (up : Bool) (answer : Result ℕ RegRefusal) → AsMany r (after_elect r b s up answer)
elect_many r b s up (Err reg.LastEpoch) = when_many r _ r refl
elect_many r b s up (Err reg.NotInSync) = when_many r _ r refl
elect_many r b s up (Err reg.DownBroker) = when_many r _ r refl
elect_many r b s up (Done epoch) = when_many r _ (elected r b) (length-map r.replicas (renewed r.mark))
elect_many r b s up other = tt

unclean_many : (r : Registry) (b : ℕ) (up : Bool) (flushed_end : ℕ) (answer : Result ℕ RegRefusal) → AsMany r (after_unclean r b up flushed_end answer)
unclean_many r b up flushed_end (Err reg.LastEpoch) = when_many r _ r refl
unclean_many r b up flushed_end (Err reg.DownBroker) = when_many r _ r refl
unclean_many r b up flushed_end (Err (reg.BehindStart end start)) = when_many r _ r refl
unclean_many r b up flushed_end (Done epoch) =
    when_many r _ (elected_alone r b flushed_end) (length-slice_set (all_out r.replicas) b (record { in_sync = true; acked = flushed_end }) ∙ length-map r.replicas (λ s. outsider))
unclean_many r b up flushed_end other = tt

ack_many : (r : Registry) (b : ℕ) (s : Replica) (epoch flushed_end : ℕ) (answer : Result ℕ RegRefusal) → AsMany r (after_ack r b s epoch flushed_end answer)
ack_many r b s epoch flushed_end (Err (reg.StaleEpoch current)) = when_many r _ r refl
ack_many r b s epoch flushed_end (Done mark) = when_many r _ (with_ack r b s flushed_end) (length-slice_set r.replicas b (record s { acked = flushed_end }))
ack_many r b s epoch flushed_end other = tt

shrink_many : (r : Registry) (b : ℕ) (s : Replica) (answer : Result (Unit {0}) RegRefusal) → AsMany r (after_shrink r b s answer)
shrink_many r b s (Err reg.NotInSync) = when_many r _ r refl
shrink_many r b s (Err reg.IsLeader) = when_many r _ r refl
shrink_many r b s (Done done) = when_many r _ (shrunk r b s) (length-slice_set r.replicas b (record s { in_sync = false }))
shrink_many r b s other = tt

expand_many : (r : Registry) (b : ℕ) (s : Replica) (up : Bool) (answer : Result (Unit {0}) RegRefusal) → AsMany r (after_expand r b s up answer)
expand_many r b s up (Err reg.DownBroker) = when_many r _ r refl
expand_many r b s up (Err (reg.Behind ack mark)) = when_many r _ r refl
expand_many r b s up (Done done) = when_many r _ (expanded r b s) (length-slice_set r.replicas b (record s { in_sync = true }))
expand_many r b s up other = tt

raise_many : (r : Registry) (epoch wanted : ℕ) (answer : Result ℕ RegRefusal) → AsMany r (after_raise r epoch wanted answer)
raise_many r epoch wanted (Err (reg.StaleEpoch current)) = when_many r _ r refl
raise_many r epoch wanted (Err (reg.NotAbove start)) = when_many r _ r refl
raise_many r epoch wanted (Err (reg.AboveMark mark)) = when_many r _ r refl
raise_many r epoch wanted (Done start) = when_many r _ (started r wanted) refl
raise_many r epoch wanted other = tt

module _ {D : Type 0} where
  -- the registry is as it was, or each log is, and the registry has as many replicas
  abbrev pub ChangesOne : PartitionState D → PartitionState D → Type 0
  ChangesOne h h' = (h'.registry ≡ h.registry) ⊎ ((logs_of h'.nodes ≡ logs_of h.nodes) × (length h'.registry.replicas ≡ length h.registry.replicas))

  pub partition_state_same : (h h' : PartitionState D) → h' ≡ h → ChangesOne h h'
  partition_state_same h h' e = inl (ap (λ (k : PartitionState D). k.registry) e)

  pub partition_state_put : (h : PartitionState D) (b : ℕ) (y : Node D) (h' : PartitionState D) → h' ≡ put_node h b y → ChangesOne h h'
  partition_state_put h b y h' e = inl (ap (λ (k : PartitionState D). k.registry) e)

  partition_state_leaves : (h : PartitionState D) (after : Option Registry) (h' : PartitionState D) → AsMany h.registry after → Leaves h after h' → ChangesOne h h'
  partition_state_leaves h None h' many w = absurd w
  partition_state_leaves h (Some r) h' many w = inr (ap (λ (k : PartitionState D). logs_of k.nodes) w, ap (λ (k : PartitionState D). length k.registry.replicas) w ∙ many)

  elect_leaves : (h : PartitionState D) (b : ℕ) (s : Replica) (up : Bool) (answer : Result ℕ RegRefusal) (h' : PartitionState D) → Leaves h (after_elect h.registry b s up answer) h' → ChangesOne h h'
  elect_leaves h b s up answer h' w = partition_state_leaves h (after_elect h.registry b s up answer) h' (elect_many h.registry b s up answer) w

  unclean_leaves : (h : PartitionState D) (b : ℕ) (up : Bool) (flushed_end : ℕ) (answer : Result ℕ RegRefusal) (h' : PartitionState D) → Leaves h (after_unclean h.registry b up flushed_end answer) h' → ChangesOne h h'
  unclean_leaves h b up flushed_end answer h' w = partition_state_leaves h (after_unclean h.registry b up flushed_end answer) h' (unclean_many h.registry b up flushed_end answer) w

  ack_leaves : (h : PartitionState D) (b : ℕ) (s : Replica) (epoch flushed_end : ℕ) (answer : Result ℕ RegRefusal) (h' : PartitionState D) → Leaves h (after_ack h.registry b s epoch flushed_end answer) h' → ChangesOne h h'
  ack_leaves h b s epoch flushed_end answer h' w = partition_state_leaves h (after_ack h.registry b s epoch flushed_end answer) h' (ack_many h.registry b s epoch flushed_end answer) w

  shrink_leaves : (h : PartitionState D) (b : ℕ) (s : Replica) (answer : Result (Unit {0}) RegRefusal) (h' : PartitionState D) → Leaves h (after_shrink h.registry b s answer) h' → ChangesOne h h'
  shrink_leaves h b s answer h' w = partition_state_leaves h (after_shrink h.registry b s answer) h' (shrink_many h.registry b s answer) w

  expand_leaves : (h : PartitionState D) (b : ℕ) (s : Replica) (up : Bool) (answer : Result (Unit {0}) RegRefusal) (h' : PartitionState D) → Leaves h (after_expand h.registry b s up answer) h' → ChangesOne h h'
  expand_leaves h b s up answer h' w = partition_state_leaves h (after_expand h.registry b s up answer) h' (expand_many h.registry b s up answer) w

  pub raise_leaves : (h : PartitionState D) (epoch wanted : ℕ) (answer : Result ℕ RegRefusal) (h' : PartitionState D) → Leaves h (after_raise h.registry epoch wanted answer) h' → ChangesOne h h'
  raise_leaves h epoch wanted answer h' w = partition_state_leaves h (after_raise h.registry epoch wanted answer) h' (raise_many h.registry epoch wanted answer) w

  -- a node with another log doesn't come in the place of one
  pub logs_put : (xs : List (Node D)) (b : ℕ) (x y : Node D) → slice_get xs b ≡ Some x → y.log ≡ x.log → logs_of (slice_set xs b y) ≡ logs_of xs
  logs_put [] b x y at same = refl
  logs_put (z ∷ xs) zero x y at same =
      let one : z ≡ x = cc (at) in
      ap (λ (k : LogState D). k ∷ logs_of xs) (same ∙ ap (λ (n : Node D). n.log) (sym one))
  logs_put (z ∷ xs) (suc b) x y at same = ap (λ (l : List (LogState D)). z.log ∷ l) (logs_put xs b x y at same)

module _ {D : Type 0} (content : D → Content) (control : D → Control call_code) where
  append_one : (h : PartitionState D) (b : ℕ) (x : Node D) (batch : List ℕ) (answer : Answer) (h' : PartitionState D) → AppendRow content control h b x batch answer h' → ChangesOne h h'
  append_one h b x batch Down h' w = partition_state_same h h' w.1
  append_one h b x batch NotLeader h' w = partition_state_same h h' w.2
  append_one h b x batch LastOffset h' w = partition_state_same h h' w.3
  append_one h b x batch TooManySegments h' w = partition_state_same h h' w.4
  append_one h b x batch DiskFault h' w = partition_state_put h b _ h' w.4.after
  append_one h b x batch (OkSpan base last e) h' w = partition_state_put h b _ h' w.6.5
  append_one h b x batch other h' w = elim w [ ]

  raw_one : (h : PartitionState D) (b : ℕ) (x : Node D) (bytes : List ℕ) (answer : Answer) (h' : PartitionState D) → RawRow content control h b x bytes answer h' → ChangesOne h h'
  raw_one h b x bytes Down h' w = append_one h b x bytes Down h' w
  raw_one h b x bytes NotLeader h' w = append_one h b x bytes NotLeader h' w
  raw_one h b x bytes (Refused cause) h' w = partition_state_same h h' w.3
  raw_one h b x bytes LastOffset h' w = append_one h b x bytes LastOffset h' w.1
  raw_one h b x bytes TooManySegments h' w = append_one h b x bytes TooManySegments h' w.1
  raw_one h b x bytes DiskFault h' w = append_one h b x bytes DiskFault h' w.1
  raw_one h b x bytes (OkSpan base last e) h' w = append_one h b x bytes (OkSpan base last e) h' w.1
  raw_one h b x bytes other h' w = elim w [ ]

  flush_one : (h : PartitionState D) (b : ℕ) (x : Node D) (answer : Answer) (h' : PartitionState D) → FlushRow content control h b x answer h' → ChangesOne h h'
  flush_one h b x Down h' w = partition_state_same h h' w.1
  flush_one h b x DiskFault h' w = partition_state_put h b _ h' w.1.after
  flush_one h b x (OkAt n) h' w = partition_state_put h b _ h' w.1.3
  flush_one h b x other h' w = elim w [ ]

  roll_one : (h : PartitionState D) (b : ℕ) (x : Node D) (answer : Answer) (h' : PartitionState D) → RollRow content control h b x answer h' → ChangesOne h h'
  roll_one h b x Down h' w = partition_state_same h h' w.1
  roll_one h b x EmptySegment h' w = partition_state_same h h' w.2
  roll_one h b x TooManySegments h' w = partition_state_same h h' w.2
  roll_one h b x DiskFault h' w = partition_state_put h b _ h' w.2.after
  roll_one h b x (OkAt n) h' w = partition_state_put h b _ h' w.3.3
  roll_one h b x other h' w = elim w [ ]

  fetch_one : (h : PartitionState D) (b : ℕ) (x : Node D) (offset limit : ℕ) (answer : Answer) (h' : PartitionState D) → FetchRow content control h b x offset limit answer h' → ChangesOne h h'
  fetch_one h b x offset limit Down h' w = partition_state_same h h' w.1
  fetch_one h b x offset limit NotLeader h' w = partition_state_same h h' w.2
  fetch_one h b x offset limit (OutOfRange start end) h' w = partition_state_same h h' w.5
  fetch_one h b x offset limit Empty h' w = partition_state_same h h' w.4
  fetch_one h b x offset limit (Run tier size stop bytes) h' w = partition_state_put h b _ h' w.4.after
  fetch_one h b x offset limit DiskFault h' w = partition_state_put h b _ h' w.4.4
  fetch_one h b x offset limit (Damaged (File name) from) h' w = partition_state_put h b _ h' w.4.after
  fetch_one h b x offset limit other h' w = elim w [ ]

  elect_one : (h : PartitionState D) (b : ℕ) (x : Node D) (answer : Answer) (h' : PartitionState D) → ElectRow h b x answer h' → ChangesOne h h'
  elect_one h b x LastEpoch h' w = let t = some_of _ (slice_get h.registry.replicas b) w in elect_leaves h b t.0 (is_up x) (Err reg.LastEpoch) h' t.2
  elect_one h b x NotInSync h' w = let t = some_of _ (slice_get h.registry.replicas b) w in elect_leaves h b t.0 (is_up x) (Err reg.NotInSync) h' t.2
  elect_one h b x DownBroker h' w = let t = some_of _ (slice_get h.registry.replicas b) w in elect_leaves h b t.0 (is_up x) (Err reg.DownBroker) h' t.2
  elect_one h b x (OkAt n) h' w = let t = some_of _ (slice_get h.registry.replicas b) w in elect_leaves h b t.0 (is_up x) (Done n) h' t.2
  elect_one h b x other h' w = elim w [ ]

  unclean_one : (h : PartitionState D) (b : ℕ) (x : Node D) (answer : Answer) (h' : PartitionState D) → UncleanRow h b x answer h' → ChangesOne h h'
  unclean_one h b x LastEpoch h' w = unclean_leaves h b (is_up x) (flushed_end_of x) (Err reg.LastEpoch) h' w
  unclean_one h b x DownBroker h' w = unclean_leaves h b (is_up x) (flushed_end_of x) (Err reg.DownBroker) h' w
  unclean_one h b x (BehindStart end start) h' w = unclean_leaves h b (is_up x) (flushed_end_of x) (Err (reg.BehindStart end start)) h' w
  unclean_one h b x (OkAt n) h' w = unclean_leaves h b (is_up x) (flushed_end_of x) (Done n) h' w
  unclean_one h b x other h' w = elim w [ ]

  learn_one : (h : PartitionState D) (b : ℕ) (x : Node D) (answer : Answer) (h' : PartitionState D) → LearnRow content control h b x answer h' → ChangesOne h h'
  learn_one h b x Down h' w = partition_state_same h h' w.1
  learn_one h b x Known h' w = partition_state_same h h' w.2
  learn_one h b x (Follows n) h' w = partition_state_put h b _ h' w.4
  learn_one h b x (NeedsElection n) h' w = partition_state_same h h' w.5
  learn_one h b x (Leads n) h' w = partition_state_put h b _ h' w.4.1.after
  learn_one h b x DiskFault h' w = partition_state_put h b _ h' w.4.after
  learn_one h b x other h' w = elim w [ ]

  ack_one : (h : PartitionState D) (b : ℕ) (x : Node D) (answer : Answer) (h' : PartitionState D) → slice_get h.nodes b ≡ Some x → AckRow h b x answer h' → ChangesOne h h'
  ack_one h b x Down h' at w = partition_state_same h h' w.1
  ack_one h b x NotJoined h' at w = partition_state_same h h' w.2
  ack_one h b x (StaleEpoch e) h' at w =
      let o = some_of _ (acking x.role) w.1 in
      let t = some_of _ (slice_get h.registry.replicas b) o.2 in
      ack_leaves h b t.0 o.0 (flushed_end_of x) (Err (reg.StaleEpoch e)) h' t.2
  ack_one h b x (OkAt mark) h' at w =
      let o = some_of _ (acking x.role) w.1 in
      let t = some_of _ (slice_get h.registry.replicas b) o.2 in
      let r = some_of _ (after_ack h.registry b t.0 o.0 (flushed_end_of x) (Done mark)) t.2 in
      let y = record x { known_high_watermark = min r.0.mark (end_of x) } in
      let many = subst (AsMany h.registry) r.1 (ack_many h.registry b t.0 o.0 (flushed_end_of x) (Done mark)) in
      inr (ap (λ (k : PartitionState D). logs_of k.nodes) r.2 ∙ logs_put h.nodes b x y at refl, ap (λ (k : PartitionState D). length k.registry.replicas) r.2 ∙ many)
  ack_one h b x other h' at w = elim w [ ]

  shrink_one : (h : PartitionState D) (b : ℕ) (answer : Answer) (h' : PartitionState D) → ShrinkRow h b answer h' → ChangesOne h h'
  shrink_one h b NotInSync h' w = let t = some_of _ (slice_get h.registry.replicas b) w in shrink_leaves h b t.0 (Err reg.NotInSync) h' t.2
  shrink_one h b IsLeader h' w = let t = some_of _ (slice_get h.registry.replicas b) w in shrink_leaves h b t.0 (Err reg.IsLeader) h' t.2
  shrink_one h b Ok h' w = let t = some_of _ (slice_get h.registry.replicas b) w in shrink_leaves h b t.0 (Done tt) h' t.2
  shrink_one h b other h' w = elim w [ ]

  expand_one : (h : PartitionState D) (b : ℕ) (x : Node D) (answer : Answer) (h' : PartitionState D) → ExpandRow h b x answer h' → ChangesOne h h'
  expand_one h b x DownBroker h' w = let t = some_of _ (slice_get h.registry.replicas b) w in expand_leaves h b t.0 (is_up x) (Err reg.DownBroker) h' t.2
  expand_one h b x (Behind ack mark) h' w = let t = some_of _ (slice_get h.registry.replicas b) w in expand_leaves h b t.0 (is_up x) (Err (reg.Behind ack mark)) h' t.2
  expand_one h b x Ok h' w = let t = some_of _ (slice_get h.registry.replicas b) w in expand_leaves h b t.0 (is_up x) (Done tt) h' t.2
  expand_one h b x other h' w = elim w [ ]

  raise_one : (h : PartitionState D) (b : ℕ) (x : Node D) (wanted : ℕ) (answer : Answer) (h' : PartitionState D) → RaiseRow h b x wanted answer h' → ChangesOne h h'
  raise_one h b x wanted Down h' w = partition_state_same h h' w.1
  raise_one h b x wanted NotLeader h' w = partition_state_same h h' w.2
  raise_one h b x wanted (StaleEpoch e) h' w = raise_leaves h w.1.0 wanted (Err (reg.StaleEpoch e)) h' w.1.2
  raise_one h b x wanted (NotAbove start) h' w = raise_leaves h w.1.0 wanted (Err (reg.NotAbove start)) h' w.1.2
  raise_one h b x wanted (AboveMark mark) h' w = raise_leaves h w.1.0 wanted (Err (reg.AboveMark mark)) h' w.1.2
  raise_one h b x wanted (OkAt start) h' w = raise_leaves h w.1.0 wanted (Done start) h' w.1.2
  raise_one h b x wanted other h' w = elim w [ ]

  stop_one : (h : PartitionState D) (b : ℕ) (x : Node D) (answer : Answer) (h' : PartitionState D) → StopRow content control h b x answer h' → ChangesOne h h'
  stop_one h b x Down h' w = partition_state_same h h' w.1
  stop_one h b x Ok h' w = partition_state_put h b _ h' w.1.3
  stop_one h b x other h' w = elim w [ ]

  up_one : (h : PartitionState D) (b : ℕ) (x : Node D) (answer : Answer) (h' : PartitionState D) → UpRow content control h b x answer h' → ChangesOne h h'
  up_one h b x IsUp h' w = partition_state_same h h' w.1
  up_one h b x (IsOpen n) h' w = partition_state_put h b _ h' w.1.3
  up_one h b x DiskFault h' w = partition_state_put h b _ h' w.1.4
  up_one h b x (Damaged (File name) from) h' w = partition_state_put h b _ h' w.1.3
  up_one h b x LastIncarnation h' w = partition_state_put h b _ h' w.1.3
  up_one h b x other h' w = elim w [ ]

  clock_one : (h : PartitionState D) (ms : ℤ) (answer : Answer) (h' : PartitionState D) → ClockRow h ms answer h' → ChangesOne h h'
  clock_one h ms Ok h' w = inl (ap (λ (k : PartitionState D). k.registry) w)
  clock_one h ms other h' w = elim w [ ]

  pack_one : (h : PartitionState D) (on : Bool) (answer : Answer) (h' : PartitionState D) → PackRow h on answer h' → ChangesOne h h'
  pack_one h on Ok h' w = inl (ap (λ (k : PartitionState D). k.registry) w)
  pack_one h on other h' w = elim w [ ]

  copying_one : (h : PartitionState D) (on : Bool) (answer : Answer) (h' : PartitionState D) → CopyingRow h on answer h' → ChangesOne h h'
  copying_one h on Ok h' w = inl (ap (λ (k : PartitionState D). k.registry) w)
  copying_one h on other h' w = elim w [ ]

  offset_one : (h : PartitionState D) (x : Node D) (which : Which) (answer : Answer) (h' : PartitionState D) → OffsetRow h x which answer h' → ChangesOne h h'
  offset_one h x which Down h' w = partition_state_same h h' w.1
  offset_one h x which NotLeader h' w = partition_state_same h h' w.2
  offset_one h x which (OffsetAnswer n) h' w = partition_state_same h h' w.3
  offset_one h x which other h' w = elim w [ ]

  answer_one : (h : PartitionState D) (b : ℕ) (x : Node D) (command : Command) (answer : Answer) (h' : PartitionState D) → slice_get h.nodes b ≡ Some x
      → AnswerRow content control h b x command answer h' → ChangesOne h h'
  answer_one h b x (Append recs) answer h' at w = append_one h b x (built recs) answer h' w
  answer_one h b x (Raw bytes) answer h' at w = raw_one h b x bytes answer h' w
  answer_one h b x Flush answer h' at w = flush_one h b x answer h' w
  answer_one h b x Roll answer h' at w = roll_one h b x answer h' w
  answer_one h b x Elect answer h' at w = elect_one h b x answer h' w
  answer_one h b x Unclean answer h' at w = unclean_one h b x answer h' w
  answer_one h b x Learn answer h' at w = learn_one h b x answer h' w
  answer_one h b x Ack answer h' at w = ack_one h b x answer h' at w
  answer_one h b x Shrink answer h' at w = shrink_one h b answer h' w
  answer_one h b x Expand answer h' at w = expand_one h b x answer h' w
  answer_one h b x (Raise start) answer h' at w = raise_one h b x start answer h' w
  answer_one h b x (Clock ms) answer h' at w = clock_one h ms answer h' w
  answer_one h b x (Pack on) answer h' at w = pack_one h on answer h' w
  answer_one h b x (Copying on) answer h' at w = copying_one h on answer h' w
  answer_one h b x (Offset which) answer h' at w = offset_one h x which answer h' w
  answer_one h b x StopCommand answer h' at w = stop_one h b x answer h' w
  answer_one h b x UpCommand answer h' at w = up_one h b x answer h' w
  answer_one h b x other answer h' at w = elim w [ ]

  fetch_turn_one : (h : PartitionState D) (b : ℕ) (x : Node D) (offset limit : ℕ) (turned : Turned) (h' : PartitionState D) → FetchTurn content control h b x offset limit turned h' → ChangesOne h h'
  fetch_turn_one h b x offset limit (Answers answer) h' w = fetch_one h b x offset limit answer h' w
  fetch_turn_one h b x offset limit (Begins g) h' w = partition_state_same h h' w.6

  join_one : (h : PartitionState D) (b : ℕ) (x : Node D) (turned : Turned) (h' : PartitionState D) → JoinRow content control h b x turned h' → ChangesOne h h'
  join_one h b x (Answers Down) h' w = partition_state_same h h' w.1
  join_one h b x (Answers NotFollower) h' w = partition_state_same h h' w.2
  join_one h b x (Answers (StaleEpoch e)) h' w = partition_state_same h h' w.3
  join_one h b x (Answers NoLeader) h' w = partition_state_same h h' w.3
  join_one h b x (Answers (Cut n)) h' w = partition_state_put h b _ h' (some_of _ (the_leader h) w.2).2.5.after
  join_one h b x (Answers (DiskFaultAt n)) h' w = partition_state_put h b _ h' (some_of _ (the_leader h) w.2).2.4.1.after
  join_one h b x (Begins g) h' w = partition_state_put h b _ h' (some_of _ (the_leader h) w.2).2.4.cuts.after
  join_one h b x other h' w = elim w [ ]

  join_on_one : (h : PartitionState D) (b : ℕ) (x : Node D) (g : StartSnapshot) (answer : Answer) (h' : PartitionState D) → JoinOnRow content control h b x g answer h' → ChangesOne h h'
  join_on_one h b x g Stopped h' w = partition_state_same h h' w.1
  join_on_one h b x g (StaleEpoch e) h' w = partition_state_same h h' w.3
  join_on_one h b x g (Passed n) h' w = partition_state_same h h' w.3
  join_on_one h b x g (BelowStart start) h' w = partition_state_same h h' w.5
  join_on_one h b x g (DiskFaultAt n) h' w = partition_state_put h b _ h' w.2.after
  join_on_one h b x g (Rebuilt n) h' w = partition_state_put h b _ h' w.2.after
  join_on_one h b x g other h' w = elim w [ ]

  trim_one : (h : PartitionState D) (x : Node D) (turned : Turned) (h' : PartitionState D) → TrimRow content control h x turned h' → ChangesOne h h'
  trim_one h x (Answers Down) h' w = partition_state_same h h' w.1
  trim_one h x (Begins g) h' w = partition_state_same h h' w.2
  trim_one h x other h' w = elim w [ ]

  pub trim_on_one : (h : PartitionState D) (b : ℕ) (x : Node D) (g : StartSnapshot) (answer : Answer) (h' : PartitionState D) → TrimOnRow content control h b x g answer h' → ChangesOne h h'
  trim_on_one h b x g Stopped h' w = partition_state_same h h' w.1
  trim_on_one h b x g Remains h' w = partition_state_same h h' w.1
  trim_on_one h b x g DiskFault h' w = partition_state_put h b _ h' w.2.after
  trim_on_one h b x g (Dropped base last) h' w = partition_state_put h b _ h' w.2.3
  trim_on_one h b x g other h' w = elim w [ ]

  follow_one : (h : PartitionState D) (b : ℕ) (x : Node D) (limit : ℕ) (turned : Turned) (h' : PartitionState D) → FollowRow content control h b x limit turned h' → ChangesOne h h'
  follow_one h b x limit (Answers Down) h' w = partition_state_same h h' w.1
  follow_one h b x limit (Answers NotJoined) h' w = partition_state_same h h' w.2
  follow_one h b x limit (Answers (StaleEpoch e)) h' w = partition_state_same h h' w.3
  follow_one h b x limit (Answers NoLeader) h' w = partition_state_same h h' w.3
  follow_one h b x limit (Answers Level) h' w = partition_state_same h h' w.3
  follow_one h b x limit (Answers DiskFault) h' w = let y = some_of _ (the_leader h) w.2 in partition_state_put h h.registry.leader.0 _ h' y.2.2.4
  follow_one h b x limit (Answers (Moved n)) h' w = partition_state_same h h' w.3
  follow_one h b x limit (Answers (Damaged (File name) from)) h' w = let y = some_of _ (the_leader h) w.2 in partition_state_put h h.registry.leader.0 _ h' y.2.2.after
  follow_one h b x limit (Begins g) h' w = let y = some_of _ (the_leader h) w.2 in partition_state_put h h.registry.leader.0 _ h' y.2.2.after
  follow_one h b x limit other h' w = elim w [ ]

  follow_on_one : (h : PartitionState D) (b : ℕ) (x : Node D) (g : StartSnapshot) (answer : Answer) (h' : PartitionState D) → FollowOnRow content control h b x g answer h' → ChangesOne h h'
  follow_on_one h b x g Stopped h' w = partition_state_same h h' w.1
  follow_on_one h b x g (StaleEpoch e) h' w = partition_state_same h h' w.3
  follow_on_one h b x g (Passed n) h' w = partition_state_same h h' w.3
  follow_on_one h b x g TooManySegments h' w = partition_state_same h h' w.3
  follow_on_one h b x g DiskFault h' w = partition_state_put h b _ h' w.3.after
  follow_on_one h b x g (Copied n) h' w = partition_state_put h b _ h' w.3.after
  follow_on_one h b x g other h' w = elim w [ ]

  first_one : (h : PartitionState D) (b : ℕ) (x : Node D) (command : Command) (turned : Turned) (h' : PartitionState D) → slice_get h.nodes b ≡ Some x → FirstRow content control h b x command turned h' → ChangesOne h h'
  first_one h b x (Follow limit) turned h' at w = follow_one h b x limit turned h' w
  first_one h b x Join turned h' at w = join_one h b x turned h' w
  first_one h b x Trim turned h' at w = trim_one h x turned h' w
  first_one h b x (Fetch offset limit) turned h' at w = fetch_turn_one h b x offset limit turned h' w
  first_one h b x (Offset LatestTiered) turned h' at w = elim w [ ]
  first_one h b x (Offset (At ts)) turned h' at w = elim w [ ]
  first_one h b x command (Answers answer) h' at w = answer_one h b x command answer h' at w
  first_one h b x command (Begins g) h' at w = elim w [ ]

  later_one : (h : PartitionState D) (b : ℕ) (x : Node D) (command : Command) (g : StartSnapshot) (turned : Turned) (h' : PartitionState D) → LaterRow content control h b x command g turned h' → ChangesOne h h'
  later_one h b x (Follow limit) g (Answers answer) h' w = follow_on_one h b x g answer h' w
  later_one h b x Join g (Answers answer) h' w = join_on_one h b x g answer h' w
  later_one h b x Trim g (Answers answer) h' w = trim_on_one h b x g answer h' w
  later_one h b x command g turned h' w = elim w [ ]

  pub row_one : (h : PartitionState D) (b : ℕ) (x : Node D) (snapshot : Option StartSnapshot) (command : Command) (turned : Turned) (h' : PartitionState D) → slice_get h.nodes b ≡ Some x → Row content control h b x snapshot command turned h' → ChangesOne h h'
  row_one h b x None command turned h' at w = first_one h b x command turned h' at w
  row_one h b x (Some g) command turned h' at w = later_one h b x command g turned h' w
