-- Rows of the plain log by their tests: of a command that is refused, and of one that isn't.
use Rattle.std.proofs.Common.{◌≡◌, ◌≢◌, ap, refl, inl, inr, ℕ, ◌≤◌, ◌==◌, List, [], ◌∷◌, Some, None, Option, Bool, true, false, ◌&&◌, arith}
use Rattle.std.proofs.lemmas.Bool.{cases_lt}
use Rattle.log_terms.specs.Batch.{last_offset_delta_of}
use Rattle.registry.specs.declared.registry.Registry.{Registry}
use Rattle.registry.specs.declared.registry.Replica.{Replica}
use Rattle.plain_log.specs.declared.answer.Answer.{Answer}
use Rattle.plain_log.specs.declared.answer.Answer.TheVariants.{StaleEpoch, Stopped}
use Rattle.plain_log.specs.declared.command.Command.{Command}
use Rattle.plain_log.specs.declared.state.Broker.{Broker}
use Rattle.plain_log.specs.declared.state.PlainSnapshot.{PlainSnapshot}
use Rattle.plain_log.specs.declared.state.State.{State}
use Rattle.plain_log.specs.State.{leads, followed, facts_of, since_of}
use Rattle.plain_log.specs.Refusals.{down, not_leader, last_offset, stale, has_stopped, first_of, same_refusal}
use Rattle.plain_log.specs.RowsOfLog.{offset_limit}
use Rattle.plain_log.specs.Rows.{refusal_at, effect, row}
use Rattle.plain_log.specs.declared.command.Order.{Order}
use Rattle.laws_partition.specs.declared.start_snapshot.StartSnapshot.{StartSnapshot}
use Rattle.laws_partition.specs.Seen.{Node, SeenPartition}
use Rattle.laws_partition.specs.Partition.{broker_of, recorded_of}
use Rattle.laws_partition.specs.Central.{PartitionMatches}
use Rattle.laws_partition.specs.RowsOfFollowers.{IsStale, IsCurrent, GoesOn}
use Rattle.laws_partition.specs.RowsOfLog.{end_with}
use Rattle.laws_partition.proofs.BoolTests.{some_of, lt_true, lt_false, eq_same, eq_differs}

-- a command that is refused changes nothing
pub refuses : (p : State) (b : ℕ) (y : Broker) (s : Replica) (recorded : Option PlainSnapshot) (command : Command) (answer why : Answer) → refusal_at p b y recorded command ≡ Some why
    → same_refusal answer why ≡ true → row p b y s recorded command answer ≡ Some p
refuses p b y s recorded command answer why is same = rw (is, same) refl

-- one that isn't does what its row says
pub does : (p : State) (b : ℕ) (y : Broker) (s : Replica) (recorded : Option PlainSnapshot) (command : Command) (answer : Answer) (q : State) → refusal_at p b y recorded command ≡ None
    → effect p b y s recorded command answer ≡ Some q → row p b y s recorded command answer ≡ Some q
does p b y s recorded command answer q none is = rw none is

-- a test that fails is the answer
pub fails : (test : Option Answer) (tests : List (Option Answer)) (why : Answer) → test ≡ Some why → first_of (test ∷ tests) ≡ Some why
fails test tests why is = rw is refl

-- one that passes is followed by the others
pub skips : (test : Option Answer) (tests : List (Option Answer)) (why : Option Answer) → test ≡ None → first_of tests ≡ why → first_of (test ∷ tests) ≡ why
skips test tests why none is = rw none is

-- an append isn't refused
pub may_append : (b : ℕ) (x : Node) (batch : List ℕ) → x.up ≡ true → leads x.role ≡ true → end_with x batch ≤ offset_limit
    → first_of (down (facts_of b (broker_of x)) ∷ not_leader (facts_of b (broker_of x)) ∷ last_offset (facts_of b (broker_of x)) (last_offset_delta_of batch) ∷ []) ≡ None
may_append b x batch up lead fits = rw (up, lead, lt_false offset_limit (end_with x batch) fits) refl

-- an epoch that is stale, and one that isn't
pub stale_some : (h : SeenPartition) (p : State) (o : Option ℕ) (n : ℕ) → PartitionMatches h p → IsStale h o → n ≡ h.registry.epoch
    → (why : Answer) × (stale p.registry o ≡ Some why) × (same_refusal (StaleEpoch n) why ≡ true)
stale_some h p o n st w is =
    let e = some_of _ o w in
    let reg = ap (λ (r : Registry). r.epoch) st.registry in
    (StaleEpoch p.registry.epoch, rw (e.1, lt_true e.0 p.registry.epoch (omega (arith, e.2, reg))) refl, eq_same n p.registry.epoch (omega (arith, is, reg)))

pub stale_none : (h : SeenPartition) (p : State) (o : Option ℕ) → PartitionMatches h p → IsCurrent h o → stale p.registry o ≡ None
stale_none h p o st w =
    let e = some_of _ o w in
    rw (e.1, lt_false e.0 p.registry.epoch (omega (arith, e.2, ap (λ (r : Registry). r.epoch) st.registry))) refl

pub stale_off : (h : SeenPartition) (p : State) (o : Option ℕ) → PartitionMatches h p → (IsStale h o → ⊥) → stale p.registry o ≡ None
stale_off h p None st new = refl
stale_off h p (Some e) st new = elim (cases_lt e h.registry.epoch) [
  | inl less ↦ absurd (new less)
  | inr more ↦ stale_none h p (Some e) st more
]

-- a later turn: the broker has stopped since the command began, or it hasn't

pub and_false : (a b : Bool) → b ≡ false → a && b ≡ false
and_false true b is = is
and_false false b is = refl

pub runs : (b : ℕ) (x : Node) (order : Order) (g : StartSnapshot) → x.up ≡ true → g.stops ≡ x.stops → has_stopped (facts_of b (broker_of x)) (since_of (recorded_of order g)) ≡ None
runs b x order g up is = rw (up, eq_same g.stops x.stops is) refl

pub halted : (b : ℕ) (x : Node) (order : Order) (g : StartSnapshot) → g.stops ≢ x.stops → has_stopped (facts_of b (broker_of x)) (since_of (recorded_of order g)) ≡ Some Stopped
halted b x order g differs = rw (and_false x.up (g.stops == x.stops) (eq_differs g.stops x.stops differs)) refl

-- a later turn of a follower's command goes on, or its epoch is stale

pub follows_on : (h : SeenPartition) (p : State) (b : ℕ) (x : Node) (order : Order) (g : StartSnapshot) → PartitionMatches h p → x.up ≡ true → GoesOn h x g
    → first_of (has_stopped (facts_of b (broker_of x)) (since_of (recorded_of order g)) ∷ stale p.registry (followed g.role) ∷ []) ≡ None
follows_on h p b x order g st up on =
    skips (has_stopped (facts_of b (broker_of x)) (since_of (recorded_of order g))) (stale p.registry (followed g.role) ∷ []) None (runs b x order g up on.0)
    (skips (stale p.registry (followed g.role)) [] None (stale_off h p (followed g.role) st on.1) refl)

pub follows_stale : (h : SeenPartition) (p : State) (b : ℕ) (x : Node) (order : Order) (g : StartSnapshot) (why : Answer) → x.up ≡ true → g.stops ≡ x.stops → stale p.registry (followed g.role) ≡ Some why
    → first_of (has_stopped (facts_of b (broker_of x)) (since_of (recorded_of order g)) ∷ stale p.registry (followed g.role) ∷ []) ≡ Some why
follows_stale h p b x order g why up same is =
    skips (has_stopped (facts_of b (broker_of x)) (since_of (recorded_of order g))) (stale p.registry (followed g.role) ∷ []) (Some why) (runs b x order g up same)
    (fails (stale p.registry (followed g.role)) [] why is)

pub follows_halted : (p : State) (b : ℕ) (x : Node) (order : Order) (g : StartSnapshot) → g.stops ≢ x.stops
    → first_of (has_stopped (facts_of b (broker_of x)) (since_of (recorded_of order g)) ∷ stale p.registry (followed g.role) ∷ []) ≡ Some Stopped
follows_halted p b x order g differs =
    fails (has_stopped (facts_of b (broker_of x)) (since_of (recorded_of order g))) (stale p.registry (followed g.role) ∷ []) Stopped (halted b x order g differs)
