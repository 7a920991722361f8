-- The actors' states, the steps of the plain log that their turns are, and how the desk is after a turn.
use Rattle.std.proofs.Common.{◌≡◌, ◌≢◌, inl, inr, ◌∙◌, sym, ap, subst, refl, ℕ, ◌+◌, List, slice_get, slice_set, Some, None, Option, true, arith}
use Rattle.std.specs.Prelude.{option_map}
use Rattle.std.specs.Option.{option_and_then}
use Rattle.log_terms.proofs.Lists.{get-set, prefix_trans}
use Rattle.log_terms.proofs.Logs.{ends_more, consecutive_prefix, up_to_is}
use Rattle.log_terms.specs.Line.{line_of}
use Rattle.log_terms.specs.Log.{EndsAt, IsConsecutive, up_to}
use mathlib.Core.List.{IsPrefix}
use Rattle.plain_log.specs.State.{path_of}
use Rattle.registry.specs.declared.registry.Replica.{Replica}
use Rattle.plain_log.specs.declared.answer.Answer.{Answer}
use Rattle.plain_log.specs.declared.command.ActorList.{ActorList}
use Rattle.plain_log.specs.declared.command.Command.{Command}
use Rattle.plain_log.specs.declared.command.Command.TheVariants.{Follow, Join, Copy, Trim, Expire, Fetch, Offset}
use Rattle.plain_log.specs.declared.command.Order.{Order}
use Rattle.plain_log.specs.declared.journal.Event.TheVariants.{Answers as Answered, Begins as Began}
use Rattle.plain_log.specs.declared.journal.JournalEntry.{JournalEntry}
use Rattle.plain_log.specs.declared.state.Actor.{Actor}
use Rattle.plain_log.specs.declared.state.Broker.{Broker}
use Rattle.plain_log.specs.declared.state.PlainSnapshot.{PlainSnapshot}
use Rattle.plain_log.specs.declared.state.Path.{Path}
use Rattle.plain_log.specs.declared.state.State.{State}
use Rattle.plain_log.specs.State.{actor_at, put_actor, with_actor, put_broker}
use Rattle.plain_log.specs.Rows.{row, refusal_at}
use Rattle.plain_log.specs.Safe.{SnapshotIsSafe, PlainSafe}
use Rattle.plain_log.specs.Step.{begins, is_recorded, same_command, recorded_of as recorded_by, step}
use Rattle.plain_log.proofs.StepLaw.{actor_kept}
use Rattle.plain_log.proofs.Wider.{Wider}
use Rattle.laws_partition.specs.declared.start_snapshot.StartSnapshot.{StartSnapshot}
use Rattle.laws_partition.specs.declared.start_snapshot.Turned.{Turned}
use Rattle.laws_partition.specs.declared.start_snapshot.Turned.TheVariants.{Answers, Begins}
use Rattle.laws_partition.specs.Seen.{Node}
use Rattle.laws_partition.specs.declared.actor_progress.ActorProgress.{ActorProgress}
use Rattle.laws_partition.specs.Partition.{broker_of, recorded_of}
use Rattle.laws_partition.specs.Central.{recorded_at, RunStands, RebuildMatches, SnapshotMatches, ProgressMatches, WorldMatches}
use Rattle.laws_partition.specs.Turn.{IsTurn, actor_state_after}
use Rattle.laws_partition.specs.Whole.{Whole}
use Rattle.laws_partition.proofs.Lists.{one_list}
use Rattle.laws_partition.proofs.BoolTests.{and_true, eq_same}
use Rattle.laws_partition.proofs.Standing.{Steady}
use Rattle.laws_partition.proofs.TurnRows.{GoingOn}

-- a run continues with longer paths
pub run_wide : (ps qs : List Path) (limit : ℕ) (g : StartSnapshot) → Wider ps qs → RunStands ps limit g → RunStands qs limit g
run_wide ps qs limit g w r =
    let k = w r.epoch r.path r.path_is in
    record {
      epoch = r.epoch;
      role = r.role;
      path = k.0;
      path_is = k.1;
      front = r.front;
      ends = r.ends;
      begins = prefix_trans _ r.path k.0 r.begins k.2;
      are = r.are;
      within = r.within;
      epochs = r.epochs;
      small = r.small;
    }

-- each path's batches are consecutive
abbrev pub ArePaths : State → Type 0
ArePaths q = (e : ℕ) (log : List (List ℕ)) → path_of q.paths e ≡ Some log → IsConsecutive 0 log

-- what is up to an end of a path is so of a longer one
up_to_longer : (n : ℕ) (log whole : List (List ℕ)) → IsConsecutive 0 whole → EndsAt n log → IsPrefix log whole → up_to n whole ≡ up_to n log
up_to_longer n log whole c ends p =
    up_to_is 0 n ends.0 whole c (prefix_trans ends.0 log whole ends.1 p) ends.2
    ∙ sym (up_to_is 0 n ends.0 log (consecutive_prefix 0 log whole p c) ends.1 ends.2)

-- and a rebuild
rebuild_goes : (p q : State) (g : StartSnapshot) → Wider p.paths q.paths → Steady p q → ArePaths q → RebuildMatches p g → RebuildMatches q g
rebuild_goes p q g w steady safe r =
    let k = w r.epoch r.path r.path_is in
    record {
      epoch = r.epoch;
      role = r.role;
      path = k.0;
      path_is = k.1;
      ends = ends_more g.wanted r.path k.0 r.ends k.2;
      line = r.line ∙ ap line_of (sym (up_to_longer g.wanted r.path k.0 (safe r.epoch k.0 k.1) r.ends k.2));
      above = r.above;
      leader = λ is z at.
          let s = steady r.epoch (rw r.path_is refl) is in
          let y = s.1 z at in
          let low = r.leader s.0 y.0 y.1 in
          omega (arith, low, y.2);
    }

-- what is kept of a command continues
pub begun_goes : (p q : State) (command : Command) (g : StartSnapshot) → Wider p.paths q.paths → Steady p q → ArePaths q → SnapshotMatches p command g → SnapshotMatches q command g
begun_goes p q (Follow limit) g w steady safe r = run_wide p.paths q.paths limit g w r
begun_goes p q Join g w steady safe r = rebuild_goes p q g w steady safe r
begun_goes p q Trim g w steady safe r = tt
begun_goes p q Copy g w steady safe r = tt
begun_goes p q Expire g w steady safe r = tt
begun_goes p q (Fetch offset limit) g w steady safe r = tt
begun_goes p q (Offset which) g w steady safe r = tt
begun_goes p q command g w steady safe r = elim r [ ]

-- what is recorded at an actor's state

pub recorded_none : (orders : List Order) (actor_state : ActorProgress) → actor_state.snapshot ≡ None → recorded_at orders actor_state ≡ None
recorded_none orders actor_state none = rw none (go (slice_get orders actor_state.number))
  where
    go : (o : Option Order) → option_and_then (λ (order : Order). option_map (recorded_of order) None) o ≡ None
    go None = refl
    go (Some order) = refl

pub recorded_some : (orders : List Order) (actor_state : ActorProgress) (order : Order) (g : StartSnapshot) → slice_get orders actor_state.number ≡ Some order → actor_state.snapshot ≡ Some g → recorded_at orders actor_state ≡ Some (recorded_of order g)
recorded_some orders actor_state order g at snapshot = rw (at, snapshot) refl

-- the plain log takes an answer
pub answer_steps : (p : State) (order : Order) (a n : ℕ) (x : Broker) (s : Replica) (recorded : Option PlainSnapshot) (entry : JournalEntry) (answer : Answer) (q : State)
    → slice_get p.brokers order.broker.0 ≡ Some x → slice_get p.registry.replicas order.broker.0 ≡ Some s → actor_at p.actors a ≡ record { number = n; snapshot = recorded }
    → is_recorded recorded order ≡ true → entry.actor.0 ≡ a → entry.number ≡ n → entry.event ≡ Answered answer → row p order.broker.0 x s recorded order.command answer ≡ Some q
    → step p order entry ≡ Some (with_actor a (record { number = n + 1; snapshot = None }) q)
answer_steps p order a n x s recorded entry answer q bx br at is_its actor number event is =
    rw (bx, br, actor, event, at, number, eq_same n n refl, is_its, is) refl

-- and a beginning
pub begin_steps : (p : State) (order : Order) (a n : ℕ) (x z : Broker) (s : Replica) (entry : JournalEntry) (cut : Option ℕ)
    → slice_get p.brokers order.broker.0 ≡ Some x → slice_get p.registry.replicas order.broker.0 ≡ Some s → actor_at p.actors a ≡ record { number = n; snapshot = None }
    → entry.actor.0 ≡ a → entry.number ≡ n → entry.event ≡ Began cut → refusal_at p order.broker.0 x None order.command ≡ None → begins p x order.command cut ≡ Some z
    → step p order entry ≡ Some (with_actor a (record { number = n; snapshot = Some (recorded_by p order z) }) (put_broker p order.broker.0 z))
begin_steps p order a n x z s entry cut bx br at actor number event free is =
    rw (bx, br, actor, event, at, number, eq_same n n refl, free, is) refl

-- a command that has begun is the actor's state's
pub recorded_its : (order : Order) (g : StartSnapshot) → same_command order.command order.command ≡ true → is_recorded (Some (recorded_of order g)) order ≡ true
recorded_its order g is = and_true _ _ (eq_same order.broker.0 order.broker.0 refl) is

-- what holds of a command that has begun
pub going : (p : State) (x : Node) (order : Order) (l : ActorList) (actor_state : ActorProgress) (g : StartSnapshot) → PlainSafe p → ProgressMatches p l actor_state
    → slice_get l.orders actor_state.number ≡ Some order → actor_state.snapshot ≡ Some g → slice_get p.brokers order.broker.0 ≡ Some (broker_of x) → GoingOn p x order order.command g
going p x order l actor_state g safe st at snapshot bx =
    let f = st.snapshot g snapshot in
    let same : f.0 ≡ order = cc (f.1, at) in
    let recorded : (actor_at p.actors l.actor.0).snapshot ≡ Some (recorded_of order g) = ap (λ (y : Actor). y.snapshot) st.actor ∙ recorded_some l.orders actor_state order g at snapshot in
    let k : SnapshotIsSafe p.paths p.registry.epoch (recorded_of order g) (broker_of x) = safe.recorded l.actor.0 (recorded_of order g) (broker_of x) recorded bx in
    record {
      stands = subst (λ (o : Order). SnapshotMatches p o.command g) same f.2;
      joined = k.joined;
      up = k.up;
      leads = λ t. (let f = k.leads t in (f.0, f.2));
    }

-- an actor's state after an answer
pub answered_actor_state : (q : State) (l : ActorList) (actor_state : ActorProgress) (answer : Answer) → actor_at q.actors l.actor.0 ≡ record { number = actor_state.number + 1; snapshot = None }
    → ProgressMatches q l (actor_state_after actor_state (Answers answer))
answered_actor_state q l actor_state answer at = record {
  actor = at ∙ ap (λ (o : Option PlainSnapshot). record { number = actor_state.number + 1; snapshot = o }) (sym (recorded_none l.orders (record { number = actor_state.number + 1; snapshot = None }) refl));
  snapshot = λ g e. absurd cc;
}

-- and after a beginning
pub begun_actor_state : (q : State) (l : ActorList) (actor_state : ActorProgress) (order : Order) (g : StartSnapshot) → actor_at q.actors l.actor.0 ≡ record { number = actor_state.number; snapshot = Some (recorded_of order g) }
    → slice_get l.orders actor_state.number ≡ Some order → SnapshotMatches q order.command g → ProgressMatches q l (actor_state_after actor_state (Begins g))
begun_actor_state q l actor_state order g at next stands = record {
  actor = at ∙ ap (λ (o : Option PlainSnapshot). record { number = actor_state.number; snapshot = o }) (sym (recorded_some l.orders (record { number = actor_state.number; snapshot = Some g }) order g next refl));
  snapshot = λ f e. (order, next, subst (λ (k : StartSnapshot). SnapshotMatches q order.command k) (some_is g f e) stands);
}
  where
    some_is : (g f : StartSnapshot) → Some g ≡ Some f → g ≡ f
    some_is g f e = cc (e)

-- the other actors' states are as they did
pub desk_goes : (w : Whole) (a : ℕ) (turned : Turned) (w' : Whole) (p q : State) (y : Actor) → (t : IsTurn w a turned w') → WorldMatches w p → q.actors ≡ put_actor p.actors t.list.actor.0 y
    → Wider p.paths q.paths → Steady p q → ArePaths q → ProgressMatches q t.list (actor_state_after t.actor_state turned)
    → (place : ℕ) (l : ActorList) (actor_state : ActorProgress) → slice_get w'.lists place ≡ Some l → slice_get w'.desk place ≡ Some actor_state → ProgressMatches q l actor_state
desk_goes w a turned w' p q y t st actors wide steady safe mine place l actor_state ll ss =
    let old : slice_get w.lists place ≡ Some l = ap (λ (k : List ActorList). slice_get k place) (sym t.lists) ∙ ll in
    let new : slice_get (slice_set w.desk t.place (actor_state_after t.actor_state turned)) place ≡ Some actor_state = ap (λ (k : List ActorProgress). slice_get k place) (sym t.desk) ∙ ss in
    elim (get-set w.desk t.place (actor_state_after t.actor_state turned) place actor_state new) [
      | inl one ↦
          let same : l ≡ t.list = cc (old, t.at.list, ap (λ (k : ℕ). slice_get w.lists k) one.0) in
          subst (λ (k : ActorList). ProgressMatches q k actor_state) (sym same) (subst (λ (k : ActorProgress). ProgressMatches q t.list k) (sym one.1) mine)
      | inr other ↦
          let differs : l.actor.0 ≢ t.list.actor.0 = λ e. other.0 (one_list w.lists place t.place l t.list st.rising old t.at.list e) in
          let k = st.desk place l actor_state old other.1 in
          record {
            actor = ap (λ (ys : List Actor). actor_at ys l.actor.0) actors ∙ (actor_kept p.actors t.list.actor.0 y l.actor.0 differs ∙ k.actor);
            snapshot = λ g e. (let f = k.snapshot g e in (f.0, f.1, begun_goes p q f.0.command g wide steady safe f.2));
          }
    ]
