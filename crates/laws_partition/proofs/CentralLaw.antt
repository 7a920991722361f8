-- Each turn keeps the central fact.
use Rattle.std.proofs.Common.{◌≡◌, ◌∙◌, sym, ap, subst, refl, ℕ, ◌+◌, List, [], ◌∷◌, ◌++◌, length, slice_get, Some, None, Option, true, arith}
use Rattle.log_terms.proofs.Lists.{length-slice_set, look, within}
use Rattle.registry.specs.declared.registry.Replica.{Replica}
use Rattle.plain_log.specs.declared.answer.Answer.{Answer}
use Rattle.plain_log.specs.declared.command.ActorList.{ActorList}
use Rattle.plain_log.specs.declared.command.Order.{Order}
use Rattle.plain_log.specs.declared.journal.Event.TheVariants.{Answers as Answered}
use Rattle.plain_log.specs.declared.journal.JournalEntry.{JournalEntry}
use Rattle.plain_log.specs.declared.state.Actor.{Actor}
use Rattle.plain_log.specs.declared.state.Broker.{Broker}
use Rattle.log_terms.specs.Log.{end_of}
use Rattle.plain_log.specs.declared.state.PlainSnapshot.{PlainSnapshot}
use Rattle.plain_log.specs.declared.state.State.{State}
use Rattle.plain_log.specs.State.{actor_at, put_actor, with_actor, put_broker}
use Rattle.plain_log.specs.Orders.{AreRising}
use Rattle.plain_log.specs.Rows.{row}
use Rattle.plain_log.specs.Runs.{order_of, entry_step, replay}
use Rattle.plain_log.specs.Safe.{PlainSafe}
use Rattle.plain_log.specs.Step.{is_recorded, recorded_of as recorded_by, step}
use Rattle.plain_log.proofs.Replays.{replay_more}
use Rattle.plain_log.proofs.StepLaw.{actor_put, step_safe}
use Rattle.plain_log.proofs.Wider.{Wider}
use Rattle.laws_partition.specs.declared.start_snapshot.StartSnapshot.{StartSnapshot}
use Rattle.laws_partition.specs.declared.start_snapshot.Turned.{Turned}
use Rattle.laws_partition.specs.declared.start_snapshot.Turned.TheVariants.{Answers, Begins}
use Rattle.laws_partition.specs.Seen.{Node}
use Rattle.laws_partition.specs.declared.actor_progress.ActorProgress.{ActorProgress}
use Rattle.laws_partition.specs.declared.actor_progress.Stepped.{Stepped}
use Rattle.laws_partition.specs.declared.actor_progress.Stepped.TheVariants.{Ran, Done, Nothing, NoMemory}
use Rattle.laws_partition.specs.Partition.{broker_of, recorded_of}
use Rattle.laws_partition.specs.Central.{PartitionMatches, LinesStand, ProgressMatches, WorldMatches, IsCentral, KeepsCentral}
use Rattle.laws_partition.specs.Rows.{FirstRow, Row}
use Rattle.laws_partition.specs.Turn.{IsTurn, actor_state_after, event_of, Steps}
use Rattle.laws_partition.specs.Whole.{Whole}
use Rattle.laws_partition.proofs.Lists.{orders_at}
use Rattle.laws_partition.proofs.BoolTests.{some_of}
use Rattle.laws_partition.proofs.Standing.{Standing, Allowed, Steady, steady_self, broker_at, wider_self}
use Rattle.laws_partition.proofs.TurnRows.{first_allowed, first_starts, later_same, later_allowed, no_later}
use Rattle.laws_partition.proofs.ProgressLaw.{recorded_none, recorded_some, answer_steps, begin_steps, recorded_its, going, begun_goes, answered_actor_state, begun_actor_state, desk_goes}

-- the step of the plain log that a turn is
record StepsTo (w : Whole) (a : ℕ) (turned : Turned) (w' : Whole) (p : State) (t : IsTurn w a turned w') : Type 0 where
  state : State
  actor : Actor
  step_is : step p t.order (record { actor = t.list.actor; number = t.actor_state.number; event = event_of turned t.order.command }) ≡ Some state
  partition_state : PartitionMatches w'.partition_state state
  lines : PlainSafe state → LinesStand w'.partition_state state.paths state.broken
  actors : state.actors ≡ put_actor p.actors t.list.actor.0 actor
  wide : Wider p.paths state.paths
  steady : Steady p state
  actor_state : ProgressMatches state t.list (actor_state_after t.actor_state turned)

-- what a turn starts from
standing : (w : Whole) (a : ℕ) (turned : Turned) (w' : Whole) (p : State) (t : IsTurn w a turned w') → PlainSafe p → WorldMatches w p
    → (x : Node) → slice_get w.partition_state.nodes t.order.broker.0 ≡ Some x → (s : Replica) × Standing w.partition_state p t.order.broker.0 x s
standing w a turned w' p t safe st x at =
    let b = t.order.broker.0 in
    let bx = broker_at w.partition_state p b x st.partition_state at in
    let s = look p.registry.replicas b (omega (arith, safe.same_count, within p.brokers b (broker_of x) bx)) in
    (s.0, record { safe = safe; partition_state = st.partition_state; lines = st.lines; at = at; replica = s.1 })

-- an answer
answer_to : (w : Whole) (a : ℕ) (answer : Answer) (w' : Whole) (p : State) (t : IsTurn w a (Answers answer) w') (x : Node) (s : Replica) (recorded : Option PlainSnapshot)
    → Standing w.partition_state p t.order.broker.0 x s → actor_at p.actors t.list.actor.0 ≡ record { number = t.actor_state.number; snapshot = recorded } → is_recorded recorded t.order ≡ true
    → Allowed p t.order.broker.0 x s recorded t.order.command answer w'.partition_state → StepsTo w a (Answers answer) w' p t
answer_to w a answer w' p t x s recorded st at its k =
    let b = t.order.broker.0 in
    let y : Actor = record { number = t.actor_state.number + 1; snapshot = None } in
    let n = t.list.actor.0 in
    record {
      state = with_actor n y k.state;
      actor = y;
      step_is = answer_steps p t.order n t.actor_state.number (broker_of x) s recorded (record { actor = t.list.actor; number = t.actor_state.number; event = Answered answer }) answer k.state
          (broker_at w.partition_state p b x st.partition_state st.at) st.replica at its refl refl refl k.is;
      partition_state = record { registry = k.registry; brokers = k.brokers };
      lines = λ safe. k.lines (λ c z is. (safe.brokers c z is).log);
      actors = ap (λ (ys : List Actor). put_actor ys n y) k.actors;
      wide = k.paths;
      steady = k.steady;
      actor_state = answered_actor_state (with_actor n y k.state) t.list t.actor_state answer (actor_put k.state.actors n y);
    }

-- what is recorded of an order
recorded_same : (p : State) (order : Order) (z : Broker) (g : StartSnapshot) → g.stops ≡ z.stops → g.role ≡ z.role → g.end ≡ end_of z.log → g.start ≡ p.registry.start → recorded_by p order z ≡ recorded_of order g
recorded_same p order z g stops role end start = rw (stops, role, end, start) refl

-- a beginning
begin_to : (w : Whole) (a : ℕ) (g : StartSnapshot) (w' : Whole) (p : State) (t : IsTurn w a (Begins g) w') (x : Node) (s : Replica)
    → Standing w.partition_state p t.order.broker.0 x s → actor_at p.actors t.list.actor.0 ≡ record { number = t.actor_state.number; snapshot = None }
    → FirstRow w.partition_state t.order.broker.0 x t.order.command (Begins g) w'.partition_state → StepsTo w a (Begins g) w' p t
begin_to w a g w' p t x s st at row =
    let b = t.order.broker.0 in
    let k = first_starts w.partition_state p b x s t.order.command g w'.partition_state st row in
    let n = t.list.actor.0 in
    let recorded = recorded_same p t.order k.broker g k.stops k.role k.end k.start in
    let y : Actor = record { number = t.actor_state.number; snapshot = Some (recorded_of t.order g) } in
    let q = put_broker p b k.broker in
    record {
      state = with_actor n y q;
      actor = y;
      step_is = begin_steps p t.order n t.actor_state.number (broker_of x) k.broker s (record { actor = t.list.actor; number = t.actor_state.number; event = event_of (Begins g) t.order.command }) k.cut
          (broker_at w.partition_state p b x st.partition_state st.at) st.replica at refl refl k.event k.free k.is
          ∙ ap (λ (m : PlainSnapshot). Some (with_actor n (record { number = t.actor_state.number; snapshot = Some m }) q)) recorded;
      partition_state = record { registry = k.registry; brokers = k.brokers };
      lines = λ safe. k.lines (λ c z is. (safe.brokers c z is).log);
      actors = refl;
      wide = wider_self p.paths;
      steady = k.steady;
      actor_state = begun_actor_state (with_actor n y q) t.list t.actor_state t.order g (actor_put p.actors n y) t.next (begun_goes q (with_actor n y q) t.order.command g (wider_self p.paths) (steady_self q) (λ e log is. (st.safe.paths e log is).log_safe.consecutive) k.actor_state);
    }

-- a turn, whether its command has begun or not
steps_to : (w : Whole) (a : ℕ) (turned : Turned) (w' : Whole) (p : State) (t : IsTurn w a turned w') (x : Node) (s : Replica) (snapshot : Option StartSnapshot)
    → Standing w.partition_state p t.order.broker.0 x s → ProgressMatches p t.list t.actor_state → t.actor_state.snapshot ≡ snapshot → Row w.partition_state t.order.broker.0 x snapshot t.order.command turned w'.partition_state
    → StepsTo w a turned w' p t
steps_to w a (Answers answer) w' p t x s None st at is row =
    let recorded = at.actor ∙ ap (λ (o : Option PlainSnapshot). record { number = t.actor_state.number; snapshot = o }) (recorded_none t.list.orders t.actor_state is) in
    answer_to w a answer w' p t x s None st recorded refl (first_allowed w.partition_state p t.order.broker.0 x s t.order.command answer w'.partition_state st row)
steps_to w a (Begins g) w' p t x s None st at is row =
    let recorded = at.actor ∙ ap (λ (o : Option PlainSnapshot). record { number = t.actor_state.number; snapshot = o }) (recorded_none t.list.orders t.actor_state is) in
    begin_to w a g w' p t x s st recorded row
steps_to w a (Answers answer) w' p t x s (Some g) st at is row =
    let recorded = at.actor ∙ ap (λ (o : Option PlainSnapshot). record { number = t.actor_state.number; snapshot = o }) (recorded_some t.list.orders t.actor_state t.order g t.next is) in
    let k = going p x t.order t.list t.actor_state g st.safe at t.next is (broker_at w.partition_state p t.order.broker.0 x st.partition_state st.at) in
    answer_to w a answer w' p t x s (Some (recorded_of t.order g)) st recorded (recorded_its t.order g (later_same w.partition_state t.order.broker.0 x t.order.command g (Answers answer) w'.partition_state row))
    (later_allowed w.partition_state p t.order.broker.0 x s t.order t.order.command g answer w'.partition_state st k row)
steps_to w a (Begins h) w' p t x s (Some g) st at is row =
    absurd (no_later w.partition_state t.order.broker.0 x t.order.command g h w'.partition_state row)

-- the same lists and the same journal
replays_on : (lists after : List ActorList) (opening r : State) (journal more : List JournalEntry) → after ≡ lists → more ≡ journal → replay lists opening journal ≡ Some r
    → replay after opening more ≡ Some r
replays_on lists after opening r journal more is same h = rw (is, same) h

-- a turn keeps the central fact, and what it enters leads from the one state of the plain log to the other
pub record Went (opening : State) (w : Whole) (a : ℕ) (turned : Turned) (w' : Whole) (t : IsTurn w a turned w') (c : IsCentral opening w) : Type 0 where
  pub central : IsCentral opening w'
  pub step_is : step c.plain t.order (record { actor = t.list.actor; number = t.actor_state.number; event = event_of turned t.order.command }) ≡ Some central.plain

pub turn_went : (opening : State) (w : Whole) (a : ℕ) (turned : Turned) (w' : Whole) (t : IsTurn w a turned w') (c : IsCentral opening w) → Went opening w a turned w' t c
turn_went opening w a turned w' t c =
    let p = c.plain in
    let x = some_of _ (slice_get w.partition_state.nodes t.order.broker.0) t.row in
    let s = standing w a turned w' p t c.safe c.stands x.0 x.1 in
    let k = steps_to w a turned w' p t x.0 s.0 t.actor_state.snapshot s.1 (c.stands.desk t.place t.list t.actor_state t.at.list t.at.actor_state_is) refl x.2 in
    let entry : JournalEntry = record { actor = t.list.actor; number = t.actor_state.number; event = event_of turned t.order.command } in
    let order : order_of w.lists entry ≡ Some t.order = ap (λ (l : List Order). slice_get l t.actor_state.number) (orders_at w.lists t.place t.list c.stands.rising t.at.list) ∙ t.next in
    let taken : entry_step w.lists p entry ≡ Some k.state = rw order k.step_is in
    let safe = step_safe p t.order entry k.state k.step_is c.safe in
    record {
      central = record {
        plain = k.state;
        replays = replays_on w.lists w'.lists opening k.state (w.journal.items ++ entry ∷ []) w'.journal.items t.lists t.entered (replay_more w.lists opening w.journal.items p entry k.state c.replays taken);
        safe = safe;
        stands = record {
          partition_state = k.partition_state;
          lines = k.lines safe;
          desk = desk_goes w a turned w' p k.state k.actor t c.stands k.actors k.wide k.steady (λ e log is. (safe.paths e log is).log_safe.consecutive) k.actor_state;
          rising = subst AreRising (sym t.lists) c.stands.rising;
          actor_states = ap (λ (l : List ActorProgress). length l) t.desk
              ∙ (length-slice_set w.desk t.place (actor_state_after t.actor_state turned) ∙ (c.stands.actor_states ∙ ap (λ (l : List ActorList). length l) (sym t.lists)));
        };
      };
      step_is = k.step_is;
    }

pub turn_central : (opening : State) (w : Whole) (a : ℕ) (turned : Turned) (w' : Whole) → IsTurn w a turned w' → IsCentral opening w → IsCentral opening w'
turn_central opening w a turned w' t c = (turn_went opening w a turned w' t c).central

pub step_central : (w : Whole) (a : ℕ) (stepped : Stepped) (w' : Whole) → Steps w a stepped w' → KeepsCentral w w'
step_central w a Ran w' s = λ opening c. turn_central opening w a (Begins s.0) w' s.1 c
step_central w a Done w' s = λ opening c. turn_central opening w a (Answers s.0) w' s.1 c
step_central w a Nothing w' s = λ opening c. subst (IsCentral opening) (sym s.1) c
step_central w a NoMemory w' s = λ opening c. subst (IsCentral opening) (sym s) c
