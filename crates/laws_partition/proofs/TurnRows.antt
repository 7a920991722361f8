-- A turn of any command is one that the plain log allows.
use Rattle.std.proofs.Common.{◌≡◌, ◌∙◌, sym, ap, subst, refl, ℕ, ℤ, List, slice_set, Option, Some, None, Bool, true, ◌&&◌, arith}
use Rattle.std.specs.Prelude.{map, int_le}
use Rattle.std.proofs.lemmas.Int.{ints}
use Rattle.record_batch.specs.Build.{built}
use Rattle.record_batch.proofs.BuildLaws.{built_long}
use Rattle.registry.specs.declared.registry.Replica.{Replica}
use Rattle.plain_log.specs.declared.answer.Answer.{Answer}
use Rattle.plain_log.specs.declared.answer.Answer.TheVariants.{Ok}
use Rattle.plain_log.specs.declared.command.Command.{Command}
use Rattle.plain_log.specs.declared.command.Command.TheVariants.{Append, Raw, Flush, Roll, Elect, Unclean, Learn, Join, Follow, Copy, Trim, Expire, Ack, Shrink, Expand, Raise, Clock, Stop as StopCommand, Up as UpCommand, Fetch, Pack, Copying, Offset}
use Rattle.plain_log.specs.declared.command.Which.TheVariants.{LatestTiered, At}
use Rattle.plain_log.specs.declared.command.Order.{Order}
use Rattle.plain_log.specs.declared.journal.Event.TheVariants.{Begins as Began}
use Rattle.plain_log.specs.declared.state.Broker.{Broker}
use Rattle.plain_log.specs.declared.state.Role.TheVariants.{Leads}
use Rattle.plain_log.specs.declared.state.State.{State}
use Rattle.plain_log.specs.State.{put_broker}
use Rattle.plain_log.specs.Safe.{is_leaders, is_followers, HasJoined}
use Rattle.plain_log.specs.Rows.{refusal_at}
use Rattle.plain_log.specs.Step.{begins, same_command}
use Rattle.registry.specs.declared.registry.Registry.{Registry}
use Rattle.log_terms.specs.Log.{end_of}
use Rattle.log_terms.proofs.Lists.{set-same}
use Rattle.laws_partition.specs.Turn.{event_of}
use Rattle.laws_partition.specs.declared.start_snapshot.StartSnapshot.{StartSnapshot}
use Rattle.laws_partition.specs.declared.start_snapshot.Turned.{Turned}
use Rattle.laws_partition.specs.declared.start_snapshot.Turned.TheVariants.{Answers, Begins}
use Rattle.laws_partition.specs.Seen.{Node, SeenPartition}
use Rattle.laws_partition.specs.Partition.{broker_of, recorded_of}
use Rattle.laws_partition.specs.Central.{LinesStand, SnapshotMatches}
use Rattle.laws_partition.specs.RowsOfLog.{Notes}
use Rattle.laws_partition.specs.Rows.{ClockRow, SwitchRow, AnswerRow, FirstRow, LaterRow}
use Rattle.laws_partition.proofs.BoolTests.{and_true, eq_same}
use Rattle.laws_partition.proofs.Standing.{Standing, Allowed, silent, LogsSafe, Steady, steady_self, steady_set, put_steady, put_lines, map_set, broker_at, wider_self}
use Rattle.laws_partition.proofs.OwnRows.{append_allowed, raw_allowed, flush_allowed, roll_allowed, stop_allowed, up_allowed, may_fetch, fetch_allowed}
use Rattle.laws_partition.proofs.ElectionRows.{elect_allowed, unclean_allowed, shrink_allowed, expand_allowed, raise_allowed}
use Rattle.laws_partition.proofs.LearnRows.{ack_allowed, learn_allowed}
use Rattle.laws_partition.proofs.FollowRows.{join_allowed, join_starts, follow_allowed, follow_starts}
use Rattle.laws_partition.proofs.RebuildRows.{join_on_allowed}
use Rattle.laws_partition.proofs.TrimRows.{trim_allowed, trim_on_allowed}
use Rattle.laws_partition.proofs.TierRows.{copy_allowed, copy_on_allowed, expire_allowed, expire_on_allowed, fetch_on_allowed}
use Rattle.laws_partition.proofs.OffsetRows.{offset_allowed, long_allowed, tiered_on_allowed, dated_allowed}
use Rattle.laws_partition.proofs.FollowOnRows.{follow_on_allowed}

-- the clock is no part of the plain log
clock_allowed : (h : SeenPartition) (p : State) (b : ℕ) (x : Node) (s : Replica) (ms : ℤ) (answer : Answer) (h' : SeenPartition) → Standing h p b x s → ClockRow h ms answer h'
    → Allowed p b x s None (Clock ms) answer h'
clock_allowed h p b x s ms Ok h' st w = record {
  state = p;
  is = refl;
  registry = st.partition_state.registry ∙ ap (λ (k : SeenPartition). k.registry) (sym w);
  brokers = st.partition_state.brokers ∙ ap (λ (k : SeenPartition). map broker_of k.nodes) (sym w);
  actors = refl;
  paths = wider_self p.paths;
  lines = λ safe. subst (λ (k : SeenPartition). LinesStand k p.paths p.broken) (sym w) (record { each = st.lines.each; leader = st.lines.leader; followers = st.lines.followers });
  steady = steady_self p;
}
clock_allowed h p b x s ms other h' st w = elim w [ ]

-- nor is in which form segments are copied
pack_allowed : (h : SeenPartition) (p : State) (b : ℕ) (x : Node) (s : Replica) (on : Bool) (answer : Answer) (h' : SeenPartition) → Standing h p b x s → SwitchRow h answer h'
    → Allowed p b x s None (Pack on) answer h'
pack_allowed h p b x s on Ok h' st w = silent h p b x s None (Pack on) Ok h' st refl w
pack_allowed h p b x s on other h' st w = elim w [ ]

-- nor whether they are
copying_allowed : (h : SeenPartition) (p : State) (b : ℕ) (x : Node) (s : Replica) (on : Bool) (answer : Answer) (h' : SeenPartition) → Standing h p b x s → SwitchRow h answer h'
    → Allowed p b x s None (Copying on) answer h'
copying_allowed h p b x s on Ok h' st w = silent h p b x s None (Copying on) Ok h' st refl w
copying_allowed h p b x s on other h' st w = elim w [ ]

one_turn : (h : SeenPartition) (p : State) (b : ℕ) (x : Node) (s : Replica) (command : Command) (answer : Answer) (h' : SeenPartition) → Standing h p b x s → AnswerRow h b x command answer h'
    → Allowed p b x s None command answer h'
one_turn h p b x s (Append recs) answer h' st w = append_allowed h p b x s (Append recs) (built recs) answer h' st (built_long recs) refl (λ a. refl) w
one_turn h p b x s (Raw bytes) answer h' st w = raw_allowed h p b x s bytes answer h' st w
one_turn h p b x s Flush answer h' st w = flush_allowed h p b x s answer h' st w
one_turn h p b x s Roll answer h' st w = roll_allowed h p b x s answer h' st w
one_turn h p b x s Elect answer h' st w = elect_allowed h p b x s answer h' st w
one_turn h p b x s Unclean answer h' st w = unclean_allowed h p b x s answer h' st w
one_turn h p b x s Learn answer h' st w = learn_allowed h p b x s answer h' st w
one_turn h p b x s Ack answer h' st w = ack_allowed h p b x s answer h' st w
one_turn h p b x s Shrink answer h' st w = shrink_allowed h p b x s answer h' st w
one_turn h p b x s Expand answer h' st w = expand_allowed h p b x s answer h' st w
one_turn h p b x s (Raise start) answer h' st w = raise_allowed h p b x s start answer h' st w
one_turn h p b x s (Clock ms) answer h' st w = clock_allowed h p b x s ms answer h' st w
one_turn h p b x s (Pack on) answer h' st w = pack_allowed h p b x s on answer h' st w
one_turn h p b x s (Copying on) answer h' st w = copying_allowed h p b x s on answer h' st w
one_turn h p b x s StopCommand answer h' st w = stop_allowed h p b x s answer h' st w
one_turn h p b x s UpCommand answer h' st w = up_allowed h p b x s answer h' st w
one_turn h p b x s (Fetch offset limit) answer h' st w = fetch_allowed h p b x s offset limit answer h' st w
one_turn h p b x s (Offset which) answer h' st w = offset_allowed h p b x s which answer h' st w
one_turn h p b x s other answer h' st w = elim w [ ]

-- an answer at the first turn
pub first_allowed : (h : SeenPartition) (p : State) (b : ℕ) (x : Node) (s : Replica) (command : Command) (answer : Answer) (h' : SeenPartition) → Standing h p b x s
    → FirstRow h b x command (Answers answer) h' → Allowed p b x s None command answer h'
first_allowed h p b x s (Follow limit) answer h' st w = follow_allowed h p b x s limit answer h' st w
first_allowed h p b x s Join answer h' st w = join_allowed h p b x s answer h' st w
first_allowed h p b x s Trim answer h' st w = trim_allowed h p b x s answer h' st w
first_allowed h p b x s Copy answer h' st w = copy_allowed h p b x s answer h' st w
first_allowed h p b x s Expire answer h' st w = expire_allowed h p b x s answer h' st w
first_allowed h p b x s (Offset LatestTiered) answer h' st w = long_allowed h p b x s LatestTiered answer h' refl st w
first_allowed h p b x s (Offset (At ts)) answer h' st w = long_allowed h p b x s (At ts) answer h' refl st w
first_allowed h p b x s command answer h' st w = one_turn h p b x s command answer h' st w

-- a beginning, as the plain log's
pub record Starting (h : SeenPartition) (p : State) (b : ℕ) (x : Node) (command : Command) (g : StartSnapshot) (h' : SeenPartition) : Type 0 where
  pub cut : Option ℕ
  pub event : event_of (Begins g) command ≡ Began cut
  pub broker : Broker
  pub free : refusal_at p b (broker_of x) None command ≡ None
  pub is : begins p (broker_of x) command cut ≡ Some broker
  pub stops : g.stops ≡ broker.stops
  pub role : g.role ≡ broker.role
  pub end : g.end ≡ end_of broker.log
  pub start : g.start ≡ p.registry.start
  pub registry : p.registry ≡ h'.registry
  pub brokers : slice_set p.brokers b broker ≡ map broker_of h'.nodes
  pub lines : LogsSafe (put_broker p b broker) → LinesStand h' p.paths p.broken
  pub steady : Steady p (put_broker p b broker)
  pub actor_state : SnapshotMatches (put_broker p b broker) command g

-- one that changes nothing
quiet : (h : SeenPartition) (p : State) (b : ℕ) (x : Node) (s : Replica) (command : Command) (g : StartSnapshot) (h' : SeenPartition) → Standing h p b x s → event_of (Begins g) command ≡ Began None
    → refusal_at p b (broker_of x) None command ≡ None → begins p (broker_of x) command None ≡ Some (broker_of x) → g.stops ≡ x.stops → g.role ≡ x.role → g.end ≡ end_of x.log.batches → g.start ≡ p.registry.start → h' ≡ h
    → SnapshotMatches (put_broker p b (broker_of x)) command g → Starting h p b x command g h'
quiet h p b x s command g h' st event free is stops role end start same actor_state =
    let bx = broker_at h p b x st.partition_state st.at in
    record {
      cut = None;
      event = event;
      broker = broker_of x;
      free = free;
      is = is;
      stops = stops;
      role = role;
      end = end;
      start = start;
      registry = st.partition_state.registry ∙ ap (λ (k : SeenPartition). k.registry) (sym same);
      brokers = set-same p.brokers b (broker_of x) bx ∙ (st.partition_state.brokers ∙ ap (λ (k : SeenPartition). map broker_of k.nodes) (sym same));
      lines = λ safe. subst (λ (k : SeenPartition). LinesStand k p.paths p.broken) (sym same) st.lines;
      steady = steady_set p (put_broker p b (broker_of x)) b (broker_of x) (broker_of x) bx refl refl refl (λ it. omega arith);
      actor_state = actor_state;
    }

-- one that keeps what was recorded of its broker
notes : (h : SeenPartition) (p : State) (b : ℕ) (x : Node) (s : Replica) (command : Command) (g : StartSnapshot) (h' : SeenPartition) → Standing h p b x s → event_of (Begins g) command ≡ Began None
    → refusal_at p b (broker_of x) None command ≡ None → begins p (broker_of x) command None ≡ Some (broker_of x) → Notes h x g → h' ≡ h → SnapshotMatches (put_broker p b (broker_of x)) command g → Starting h p b x command g h'
notes h p b x s command g h' st event free is n same actor_state =
    quiet h p b x s command g h' st event free is n.stops n.role n.end (n.start ∙ ap (λ (r : Registry). r.start) (sym st.partition_state.registry)) same actor_state

pub first_starts : (h : SeenPartition) (p : State) (b : ℕ) (x : Node) (s : Replica) (command : Command) (g : StartSnapshot) (h' : SeenPartition) → Standing h p b x s → FirstRow h b x command (Begins g) h'
    → Starting h p b x command g h'
first_starts h p b x s (Follow limit) g h' st w =
    let k = follow_starts h p b x s limit g h' st w in
    quiet h p b x s (Follow limit) g h' st refl k.free refl k.stops k.role k.end k.start k.same k.run
first_starts h p b x s Join g h' st w =
    let k = join_starts h p b x s g h' st w in
    record {
      cut = Some g.end;
      event = refl;
      broker = k.broker;
      free = k.free;
      is = k.is;
      stops = k.stops;
      role = k.role;
      end = k.end;
      start = k.start;
      registry = st.partition_state.registry ∙ ap (λ (n : SeenPartition). n.registry) (sym k.after);
      brokers = k.puts.brokers ∙ (ap (λ (ys : List Broker). slice_set ys b (broker_of k.node)) st.partition_state.brokers
          ∙ (sym (map_set broker_of h.nodes b k.node) ∙ ap (λ (n : SeenPartition). map broker_of n.nodes) (sym k.after)));
      lines = λ safe. subst (λ (n : SeenPartition). LinesStand n p.paths p.broken) (sym k.after) (put_lines h p (put_broker p b k.broker) b x k.node st.lines k.puts safe);
      steady = put_steady h p (put_broker p b k.broker) b x k.node s st k.puts;
      actor_state = k.rebuild;
    }
first_starts h p b x s Trim g h' st w = notes h p b x s Trim g h' st refl (rw w.0 refl) refl w.1 w.2 tt
first_starts h p b x s Copy g h' st w = notes h p b x s Copy g h' st refl (rw (w.0, w.1) refl) refl w.2 w.3 tt
first_starts h p b x s Expire g h' st w = notes h p b x s Expire g h' st refl (rw (w.0, w.1) refl) refl w.2 w.3 tt
first_starts h p b x s (Offset LatestTiered) g h' st w = notes h p b x s (Offset LatestTiered) g h' st refl (rw (w.0, w.1) refl) refl w.2 w.3 tt
first_starts h p b x s (Offset (At ts)) g h' st w = notes h p b x s (Offset (At ts)) g h' st refl (rw (w.0, w.1) refl) refl w.2 w.3 tt
first_starts h p b x s (Fetch offset limit) g h' st w =
    notes h p b x s (Fetch offset limit) g h' st refl (may_fetch h p b x offset limit st.partition_state w.0 w.1 w.2 w.3) refl w.5 w.6 tt
first_starts h p b x s command g h' st w = elim w [ ]

-- what holds of a command that has begun
pub record GoingOn (p : State) (x : Node) (order : Order) (command : Command) (g : StartSnapshot) : Type 0 where
  pub stands : SnapshotMatches p command g
  pub joined : is_followers command ≡ true → HasJoined p.registry.epoch (recorded_of order g) (broker_of x)
  pub up : g.stops ≡ x.stops → x.up ≡ true
  pub leads : is_leaders command ≡ true → (e : ℕ) × (g.role ≡ Leads e)

-- a timestamp is itself
moment_same : (ts : ℤ) → int_le ts ts && int_le ts ts ≡ true
moment_same ts = let itself : int_le ts ts ≡ true = grind (arith, ints) in and_true _ _ itself itself

-- a command that continues is one of several turns
pub later_same : (h : SeenPartition) (b : ℕ) (x : Node) (command : Command) (g : StartSnapshot) (turned : Turned) (h' : SeenPartition) → LaterRow h b x command g turned h' → same_command command command ≡ true
later_same h b x (Follow limit) g turned h' w = eq_same limit limit refl
later_same h b x Join g turned h' w = refl
later_same h b x Trim g turned h' w = refl
later_same h b x Copy g turned h' w = refl
later_same h b x Expire g turned h' w = refl
later_same h b x (Offset LatestTiered) g turned h' w = refl
later_same h b x (Offset (At ts)) g turned h' w = moment_same ts
later_same h b x (Fetch offset limit) g turned h' w = and_true _ _ (eq_same offset offset refl) (eq_same limit limit refl)
later_same h b x command g turned h' w = elim w [ ]

pub later_allowed : (h : SeenPartition) (p : State) (b : ℕ) (x : Node) (s : Replica) (order : Order) (command : Command) (g : StartSnapshot) (answer : Answer) (h' : SeenPartition) → Standing h p b x s
    → GoingOn p x order command g → LaterRow h b x command g (Answers answer) h' → Allowed p b x s (Some (recorded_of order g)) command answer h'
later_allowed h p b x s order (Follow limit) g answer h' st k w = follow_on_allowed h p b x s limit order g answer h' st (record { run = k.stands; recorded = k.joined refl; up = k.up }) w
later_allowed h p b x s order Join g answer h' st k w = join_on_allowed h p b x s order g answer h' st (record { run = k.stands; recorded = k.joined refl; up = k.up }) w
later_allowed h p b x s order Trim g answer h' st k w = trim_on_allowed h p b x s order g answer h' st k.up w
later_allowed h p b x s order Copy g answer h' st k w = copy_on_allowed h p b x s order g answer h' st w
later_allowed h p b x s order Expire g answer h' st k w = expire_on_allowed h p b x s order g answer h' st w
later_allowed h p b x s order (Offset LatestTiered) g answer h' st k w = tiered_on_allowed h p b x s order g answer h' st w
later_allowed h p b x s order (Offset (At ts)) g answer h' st k w = dated_allowed h p b x s order ts g answer h' st w
later_allowed h p b x s order (Fetch offset limit) g answer h' st k w = fetch_on_allowed h p b x s offset limit order g answer h' st w
later_allowed h p b x s order command g answer h' st k w = elim w [ ]

-- it doesn't begin again
pub no_later : (h : SeenPartition) (b : ℕ) (x : Node) (command : Command) (g f : StartSnapshot) (h' : SeenPartition) → LaterRow h b x command g (Begins f) h' → ⊥
no_later h b x (Follow limit) g f h' w = w
no_later h b x Join g f h' w = w
no_later h b x Trim g f h' w = w
no_later h b x Copy g f h' w = w
no_later h b x Expire g f h' w = w
no_later h b x (Fetch offset limit) g f h' w = w
no_later h b x (Offset LatestTiered) g f h' w = w
no_later h b x (Offset (At ts)) g f h' w = w
no_later h b x command g f h' w = w
