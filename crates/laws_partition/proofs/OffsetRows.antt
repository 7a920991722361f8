-- The rows of questions for offsets are the plain log's.
use Rattle.std.proofs.Common.{◌≡◌, ◌∙◌, ap, subst, refl, ℕ, ℤ, [], ◌∷◌, Option, Some, None, true}
use Rattle.std.specs.Prelude.{unwrap_or}
use Rattle.log_terms.specs.Log.{up_to, from_offset}
use Rattle.registry.specs.declared.registry.Replica.{Replica}
use Rattle.registry.specs.declared.registry.Registry.{Registry}
use Rattle.plain_log.specs.declared.answer.Answer.{Answer}
use Rattle.plain_log.specs.declared.answer.Answer.TheVariants.{Down, NotLeader, MetaFault, StoreFault, DiskFault, Damaged, Stopped, Offset as OffsetAnswer, NoOffset}
use Rattle.plain_log.specs.declared.command.Command.TheVariants.{Offset}
use Rattle.plain_log.specs.declared.command.Order.{Order}
use Rattle.plain_log.specs.declared.command.Which.{Which}
use Rattle.plain_log.specs.declared.command.Which.TheVariants.{Earliest, Latest, EarliestLocal, LatestTiered, At}
use Rattle.plain_log.specs.declared.state.State.{State}
use Rattle.plain_log.specs.State.{facts_of, since_of}
use Rattle.plain_log.specs.Refusals.{other_role}
use Rattle.plain_log.specs.Rows.{effect}
use Rattle.plain_log.specs.RowsOfReads.{is_long, first_at, offset_at, same_offset, is_offset_of}
use Rattle.laws_partition.specs.declared.start_snapshot.StartSnapshot.{StartSnapshot}
use Rattle.laws_partition.specs.declared.start_snapshot.Turned.TheVariants.{Answers}
use Rattle.laws_partition.specs.Seen.{Node, SeenPartition}
use Rattle.laws_partition.specs.Partition.{broker_of, recorded_of}
use Rattle.laws_partition.specs.RowsOfTiers.{GoesLeading, LeadersRow}
use Rattle.laws_partition.specs.RowsOfOffsets.{OffsetRow, OffsetOnRow, dated_offset, OffsetAtRow}
use Rattle.laws_partition.proofs.BoolTests.{when_true, eq_same}
use Rattle.laws_partition.proofs.Refusing.{refuses, does}
use Rattle.laws_partition.proofs.Standing.{Standing, Allowed, silent}
use Rattle.laws_partition.proofs.TierRows.{served, halts, deposes}

some_is : (n m : ℕ) → Some n ≡ Some m → n ≡ m
some_is n m e = ap (λ (o : Option ℕ). unwrap_or o 0) e

-- an offset that is known at once
offset_given : (h : SeenPartition) (p : State) (b : ℕ) (x : Node) (s : Replica) (which : Which) (n : ℕ) (h' : SeenPartition) → Standing h p b x s → OffsetRow h x which (OffsetAnswer n) h'
    → Allowed p b x s None (Offset which) (OffsetAnswer n) h'
offset_given h p b x s Earliest n h' st w =
    let same : p.registry.start ≡ n = ap (λ (k : Registry). k.start) st.partition_state.registry ∙ some_is h.registry.start n w.2 in
    silent h p b x s None (Offset Earliest) (OffsetAnswer n) h' st (rw (w.0, w.1) (when_true _ p (eq_same _ _ same))) w.3
offset_given h p b x s Latest n h' st w =
    silent h p b x s None (Offset Latest) (OffsetAnswer n) h' st (rw (w.0, w.1) (when_true _ p (eq_same x.known_high_watermark n (some_is x.known_high_watermark n w.2)))) w.3
offset_given h p b x s EarliestLocal n h' st w = silent h p b x s None (Offset EarliestLocal) (OffsetAnswer n) h' st (rw (w.0, w.1) refl) w.3
offset_given h p b x s LatestTiered n h' st w = absurd (cc w.2)
offset_given h p b x s (At ts) n h' st w = absurd (cc w.2)

pub offset_allowed : (h : SeenPartition) (p : State) (b : ℕ) (x : Node) (s : Replica) (which : Which) (answer : Answer) (h' : SeenPartition) → Standing h p b x s → OffsetRow h x which answer h'
    → Allowed p b x s None (Offset which) answer h'
offset_allowed h p b x s which Down h' st w = silent h p b x s None (Offset which) Down h' st (rw w.0 refl) w.1
offset_allowed h p b x s which NotLeader h' st w = silent h p b x s None (Offset which) NotLeader h' st (rw (w.0, w.1) refl) w.2
offset_allowed h p b x s which (OffsetAnswer n) h' st w = offset_given h p b x s which n h' st w
offset_allowed h p b x s which other h' st w = elim w [ ]

-- the offset of the remote tier or of a timestamp, first turn
pub long_allowed : (h : SeenPartition) (p : State) (b : ℕ) (x : Node) (s : Replica) (which : Which) (answer : Answer) (h' : SeenPartition)
    → is_long which ≡ true → Standing h p b x s → LeadersRow h x (Answers answer) h' → Allowed p b x s None (Offset which) answer h'
long_allowed h p b x s which Down h' long st w = silent h p b x s None (Offset which) Down h' st (rw w.0 refl) w.1
long_allowed h p b x s which NotLeader h' long st w = silent h p b x s None (Offset which) NotLeader h' st (rw (w.0, w.1) refl) w.2
long_allowed h p b x s which MetaFault h' long st w = silent h p b x s None (Offset which) MetaFault h' st (rw (w.0, w.1) (when_true _ p long)) w.2
long_allowed h p b x s which other h' long st w = elim w [ ]

-- later turns: the broker has stopped, or has another role

stopped_on : (h : SeenPartition) (p : State) (b : ℕ) (x : Node) (s : Replica) (order : Order) (which : Which) (g : StartSnapshot) (h' : SeenPartition) → Standing h p b x s
    → ((g.stops ≡ x.stops) × (x.up ≡ true) → ⊥) × (h' ≡ h) → Allowed p b x s (Some (recorded_of order g)) (Offset which) Stopped h'
stopped_on h p b x s order which g h' st w =
    let tests = other_role (facts_of b (broker_of x)) (since_of (recorded_of order g)) ∷ [] in
    silent h p b x s (Some (recorded_of order g)) (Offset which) Stopped h' st
    (refuses p b (broker_of x) s (Some (recorded_of order g)) (Offset which) Stopped Stopped (halts b x order g tests w.0) refl) w.1

deposed_on : (h : SeenPartition) (p : State) (b : ℕ) (x : Node) (s : Replica) (order : Order) (which : Which) (g : StartSnapshot) (h' : SeenPartition) → Standing h p b x s
    → (g.stops ≡ x.stops) × (x.up ≡ true) × (g.role ≡ x.role → ⊥) × (h' ≡ h) → Allowed p b x s (Some (recorded_of order g)) (Offset which) NotLeader h'
deposed_on h p b x s order which g h' st w =
    silent h p b x s (Some (recorded_of order g)) (Offset which) NotLeader h' st
    (refuses p b (broker_of x) s (Some (recorded_of order g)) (Offset which) NotLeader NotLeader (deposes b x order g [] w.0 w.1 w.2) refl) w.3

-- or it leads as it did
given_on : (h : SeenPartition) (p : State) (b : ℕ) (x : Node) (s : Replica) (order : Order) (which : Which) (g : StartSnapshot) (answer : Answer) (h' : SeenPartition) → Standing h p b x s
    → effect p b (broker_of x) s (Some (recorded_of order g)) (Offset which) answer ≡ Some p → GoesLeading h x g h' → Allowed p b x s (Some (recorded_of order g)) (Offset which) answer h'
given_on h p b x s order which g answer h' st to w =
    silent h p b x s (Some (recorded_of order g)) (Offset which) answer h' st
    (does p b (broker_of x) s (Some (recorded_of order g)) (Offset which) answer p (served b x order g [] None w.0 refl) to) w.1

-- the offset of the remote tier, second turn
pub tiered_on_allowed : (h : SeenPartition) (p : State) (b : ℕ) (x : Node) (s : Replica) (order : Order) (g : StartSnapshot) (answer : Answer) (h' : SeenPartition) → Standing h p b x s
    → OffsetOnRow h x g answer h' → Allowed p b x s (Some (recorded_of order g)) (Offset LatestTiered) answer h'
tiered_on_allowed h p b x s order g Stopped h' st w = stopped_on h p b x s order LatestTiered g h' st w
tiered_on_allowed h p b x s order g NotLeader h' st w = deposed_on h p b x s order LatestTiered g h' st w
tiered_on_allowed h p b x s order g (OffsetAnswer n) h' st w = given_on h p b x s order LatestTiered g (OffsetAnswer n) h' st refl w
tiered_on_allowed h p b x s order g NoOffset h' st w = given_on h p b x s order LatestTiered g NoOffset h' st refl w
tiered_on_allowed h p b x s order g other h' st w = elim w [ ]

-- the offset that the plain log gives a timestamp is the leader's
dated_same : (h : SeenPartition) (p : State) (x : Node) (ts : ℤ) → p.registry ≡ h.registry → offset_at p (broker_of x) ts ≡ dated_offset h x ts
dated_same h p x ts registry = ap (λ (k : Registry). first_at ts k.start (from_offset k.start (up_to x.known_high_watermark x.log.batches))) registry

-- what is given is the offset
same_given : (o answer : Option ℕ) → o ≡ answer → same_offset o answer ≡ true
same_given o answer is = subst (λ (k : Option ℕ). same_offset o k ≡ true) is (itself o)
  where
    itself : (o : Option ℕ) → same_offset o o ≡ true
    itself None = refl
    itself (Some n) = eq_same n n refl

-- so the plain log reports it
told : (h : SeenPartition) (p : State) (b : ℕ) (x : Node) (s : Replica) (ts : ℤ) (answer : Option ℕ) → Standing h p b x s
    → dated_offset h x ts ≡ answer → is_offset_of p (broker_of x) (At ts) answer ≡ true
told h p b x s ts answer st is = same_given (offset_at p (broker_of x) ts) answer (dated_same h p x ts st.partition_state.registry ∙ is)

-- the offset of a timestamp, the turn that is answered
pub dated_allowed : (h : SeenPartition) (p : State) (b : ℕ) (x : Node) (s : Replica) (order : Order) (ts : ℤ) (g : StartSnapshot) (answer : Answer) (h' : SeenPartition)
    → Standing h p b x s → OffsetAtRow h x ts g answer h' → Allowed p b x s (Some (recorded_of order g)) (Offset (At ts)) answer h'
dated_allowed h p b x s order ts g Stopped h' st w = stopped_on h p b x s order (At ts) g h' st w
dated_allowed h p b x s order ts g NotLeader h' st w = deposed_on h p b x s order (At ts) g h' st w
dated_allowed h p b x s order ts g MetaFault h' st w = given_on h p b x s order (At ts) g MetaFault h' st refl w
dated_allowed h p b x s order ts g StoreFault h' st w = given_on h p b x s order (At ts) g StoreFault h' st refl w
dated_allowed h p b x s order ts g DiskFault h' st w = given_on h p b x s order (At ts) g DiskFault h' st refl w
dated_allowed h p b x s order ts g (Damaged place at) h' st w = given_on h p b x s order (At ts) g (Damaged place at) h' st refl w
dated_allowed h p b x s order ts g (OffsetAnswer n) h' st w =
    given_on h p b x s order (At ts) g (OffsetAnswer n) h' st (when_true _ p (told h p b x s ts (Some n) st w.0)) w.1
dated_allowed h p b x s order ts g NoOffset h' st w = given_on h p b x s order (At ts) g NoOffset h' st (when_true _ p (told h p b x s ts None st w.0)) w.1
dated_allowed h p b x s order ts g other h' st w = elim w [ ]
