-- Turns of commands to the registry, of one that learns of it, and of those on the remote tier: no local start rises.
use Rattle.std.proofs.Common.{◌≡◌, ap, refl, ℕ, ℤ, Some, Option, slice_get, min, Ok as Done, arith}
use Rattle.log_terms.specs.Log.{end_of}
use Rattle.log_terms.proofs.Lists.{prefix_self}
use Rattle.epoch_line.specs.Line.{assign}
use Rattle.registry.specs.declared.registry.Registry.{Registry}
use Rattle.registry.specs.declared.registry.Replica.{Replica}
use Rattle.registry.specs.Replicas.{AtReplica}
use Rattle.registry.specs.Calls.{after_ack}
use Rattle.plain_log.specs.State.{acking}
use Rattle.plain_log.specs.declared.answer.Answer.{Answer}
use Rattle.plain_log.specs.declared.answer.Answer.TheVariants.{Ok, OkAt, Down, NotLeader, LastEpoch, NotInSync, DownBroker, BehindStart, Known, Follows, NeedsElection, DiskFault, Leads, NotJoined, StaleEpoch, IsLeader, Behind, NotAbove, AboveMark, MetaFault, StoreFault, Damaged, LostLead, Level, Overtaken, CopiedSegment, CopyOff, Kept, Raised, Deleted, Stopped, OutOfRange, Empty, Run, Offset, NoOffset}
use Rattle.plain_log.specs.declared.command.Which.{Which}
use Rattle.plain_log.specs.declared.state.Role.TheVariants.{Follows as FollowsIn}
use Rattle.laws_partition.specs.declared.start_snapshot.StartSnapshot.{StartSnapshot}
use Rattle.laws_partition.specs.declared.start_snapshot.Turned.{Turned}
use Rattle.laws_partition.specs.declared.start_snapshot.Turned.TheVariants.{Answers, Begins}
use Rattle.laws_partition.specs.Seen.{Back, Node, SeenPartition}
use Rattle.laws_partition.specs.Partition.{broken}
use Rattle.laws_partition.specs.RowsOfElections.{Leaves, ElectRow, UncleanRow, led, LearnRow, AckRow, ShrinkRow, ExpandRow, RaiseRow}
use Rattle.laws_partition.specs.RowsOfOffsets.{OffsetRow, OffsetOnRow, OffsetAtRow}
use Rattle.laws_partition.specs.RowsOfTiers.{LeadersRow, CopyRow, CopyOnRow, ExpireOnRow, FetchOnRow}
use Rattle.laws_partition.specs.Sound.{NodeSound}
use Rattle.laws_partition.proofs.BoolTests.{some_of}
use Rattle.laws_tier_turns.proofs.Nodes.{Goes, goes_on, node_breaks, nodes_stay, stays, puts}

-- the registry alone changes
left : (h : SeenPartition) (b : ℕ) (x : Node) (after : Option Registry) (h' : SeenPartition) → slice_get h.nodes b ≡ Some x → NodeSound x → Leaves h after h' → Goes h b x h'
left h b x after h' at s w = (let k = some_of _ after w in nodes_stay h b x h' at s (ap (λ (m : SeenPartition). m.nodes) k.2))

-- for a replica
left_at : (h : SeenPartition) (b : ℕ) (x : Node) (after : Replica → Option Registry) (h' : SeenPartition) → slice_get h.nodes b ≡ Some x → NodeSound x
    → AtReplica h.registry b (λ r. Leaves h (after r) h') → Goes h b x h'
left_at h b x after h' at s w = (let k = some_of _ (slice_get h.registry.replicas b) w in left h b x (after k.0) h' at s k.2)

pub elect_goes : (h : SeenPartition) (b : ℕ) (x : Node) (answer : Answer) (h' : SeenPartition) → slice_get h.nodes b ≡ Some x → NodeSound x → ElectRow h b x answer h' → Goes h b x h'
elect_goes h b x LastEpoch h' at s w = left_at h b x _ h' at s w
elect_goes h b x NotInSync h' at s w = left_at h b x _ h' at s w
elect_goes h b x DownBroker h' at s w = left_at h b x _ h' at s w
elect_goes h b x (OkAt n) h' at s w = left_at h b x _ h' at s w
elect_goes h b x other h' at s w = elim w [ ]

pub unclean_goes : (h : SeenPartition) (b : ℕ) (x : Node) (answer : Answer) (h' : SeenPartition) → slice_get h.nodes b ≡ Some x → NodeSound x → UncleanRow h b x answer h' → Goes h b x h'
unclean_goes h b x LastEpoch h' at s w = left h b x _ h' at s w
unclean_goes h b x DownBroker h' at s w = left h b x _ h' at s w
unclean_goes h b x (BehindStart end start) h' at s w = left h b x _ h' at s w
unclean_goes h b x (OkAt n) h' at s w = left h b x _ h' at s w
unclean_goes h b x other h' at s w = elim w [ ]

pub learn_goes : (h : SeenPartition) (b : ℕ) (x : Node) (answer : Answer) (h' : SeenPartition) → slice_get h.nodes b ≡ Some x → NodeSound x → LearnRow h b x answer h' → Goes h b x h'
learn_goes h b x Down h' at s w = stays h b x h' at s w.1
learn_goes h b x Known h' at s w = stays h b x h' at s w.2
learn_goes h b x (Follows n) h' at s w =
    let y : Node = record x { role = FollowsIn n } in
    puts h b x y h' (goes_on x y s refl (prefix_self x.log.batches) refl (λ u. u)) w.4
learn_goes h b x (NeedsElection n) h' at s w = stays h b x h' at s w.5
learn_goes h b x (Leads n) h' at s w = puts h b x (led h x n) h' (goes_on x (led h x n) s refl (prefix_self x.log.batches) refl (λ u. u)) w.5
learn_goes h b x DiskFault h' at s w =
    let back : Back = (end_of x.log.batches, assign x.log.line h.registry.epoch (end_of x.log.batches), x.local) in
    puts h b x (broken x back) h' (node_breaks x back s w.0 (omega arith)) w.4
learn_goes h b x other h' at s w = elim w [ ]

pub ack_goes : (h : SeenPartition) (b : ℕ) (x : Node) (answer : Answer) (h' : SeenPartition) → slice_get h.nodes b ≡ Some x → NodeSound x → AckRow h b x answer h' → Goes h b x h'
ack_goes h b x Down h' at s w = stays h b x h' at s w.1
ack_goes h b x NotJoined h' at s w = stays h b x h' at s w.2
ack_goes h b x (StaleEpoch n) h' at s w = (let e = some_of _ (acking x.role) w.1 in left_at h b x _ h' at s e.2)
ack_goes h b x (OkAt mark) h' at s w =
    let e = some_of _ (acking x.role) w.1 in
    let k = some_of _ (slice_get h.registry.replicas b) e.2 in
    let r = some_of _ (after_ack h.registry b k.0 e.0 x.flushed_end (Done mark)) k.2 in
    let y : Node = record x { known_high_watermark = min r.0.mark (end_of x.log.batches) } in
    record { node = y; are = ap (λ (m : SeenPartition). m.nodes) r.2; goes = goes_on x y s refl (prefix_self x.log.batches) refl (λ u. u) }
ack_goes h b x other h' at s w = elim w [ ]

pub shrink_goes : (h : SeenPartition) (b : ℕ) (x : Node) (answer : Answer) (h' : SeenPartition) → slice_get h.nodes b ≡ Some x → NodeSound x → ShrinkRow h b answer h' → Goes h b x h'
shrink_goes h b x NotInSync h' at s w = left_at h b x _ h' at s w
shrink_goes h b x IsLeader h' at s w = left_at h b x _ h' at s w
shrink_goes h b x Ok h' at s w = left_at h b x _ h' at s w
shrink_goes h b x other h' at s w = elim w [ ]

pub expand_goes : (h : SeenPartition) (b : ℕ) (x : Node) (answer : Answer) (h' : SeenPartition) → slice_get h.nodes b ≡ Some x → NodeSound x → ExpandRow h b x answer h' → Goes h b x h'
expand_goes h b x DownBroker h' at s w = left_at h b x _ h' at s w
expand_goes h b x (Behind ack mark) h' at s w = left_at h b x _ h' at s w
expand_goes h b x Ok h' at s w = left_at h b x _ h' at s w
expand_goes h b x other h' at s w = elim w [ ]

pub raise_goes : (h : SeenPartition) (b : ℕ) (x : Node) (start : ℕ) (answer : Answer) (h' : SeenPartition) → slice_get h.nodes b ≡ Some x → NodeSound x → RaiseRow h b x start answer h' → Goes h b x h'
raise_goes h b x start Down h' at s w = stays h b x h' at s w.1
raise_goes h b x start NotLeader h' at s w = stays h b x h' at s w.2
raise_goes h b x start (StaleEpoch n) h' at s w = left h b x _ h' at s w.1.2
raise_goes h b x start (NotAbove n) h' at s w = left h b x _ h' at s w.1.2
raise_goes h b x start (AboveMark n) h' at s w = left h b x _ h' at s w.1.2
raise_goes h b x start (OkAt n) h' at s w = left h b x _ h' at s w.1.2
raise_goes h b x start other h' at s w = elim w [ ]

-- the remote tier

pub leaders_goes : (h : SeenPartition) (b : ℕ) (x : Node) (turned : Turned) (h' : SeenPartition) → slice_get h.nodes b ≡ Some x → NodeSound x → LeadersRow h x turned h' → Goes h b x h'
leaders_goes h b x (Answers Down) h' at s w = stays h b x h' at s w.1
leaders_goes h b x (Answers NotLeader) h' at s w = stays h b x h' at s w.2
leaders_goes h b x (Answers MetaFault) h' at s w = stays h b x h' at s w.2
leaders_goes h b x (Begins g) h' at s w = stays h b x h' at s w.3
leaders_goes h b x other h' at s w = elim w [ ]

pub copy_goes : (h : SeenPartition) (b : ℕ) (x : Node) (turned : Turned) (h' : SeenPartition) → slice_get h.nodes b ≡ Some x → NodeSound x → CopyRow h x turned h' → Goes h b x h'
copy_goes h b x (Answers CopyOff) h' at s w = stays h b x h' at s w.2
copy_goes h b x turned h' at s w = leaders_goes h b x turned h' at s w

pub copy_on_goes : (h : SeenPartition) (b : ℕ) (x : Node) (g : StartSnapshot) (answer : Answer) (h' : SeenPartition) → slice_get h.nodes b ≡ Some x → NodeSound x → CopyOnRow h x g answer h' → Goes h b x h'
copy_on_goes h b x g LostLead h' at s w = stays h b x h' at s w.1
copy_on_goes h b x g Level h' at s w = stays h b x h' at s w.1
copy_on_goes h b x g DiskFault h' at s w = stays h b x h' at s w.1
copy_on_goes h b x g (Damaged place n) h' at s w = stays h b x h' at s w.1
copy_on_goes h b x g MetaFault h' at s w = stays h b x h' at s w.1
copy_on_goes h b x g StoreFault h' at s w = stays h b x h' at s w.1
copy_on_goes h b x g (Overtaken state) h' at s w = stays h b x h' at s w.1
copy_on_goes h b x g (CopiedSegment id start last) h' at s w = stays h b x h' at s w.1
copy_on_goes h b x g other h' at s w = elim w [ ]

pub expire_on_goes : (h : SeenPartition) (b : ℕ) (x : Node) (g : StartSnapshot) (answer : Answer) (h' : SeenPartition) → slice_get h.nodes b ≡ Some x → NodeSound x → ExpireOnRow h x g answer h' → Goes h b x h'
expire_on_goes h b x g LostLead h' at s w = stays h b x h' at s w.1
expire_on_goes h b x g Kept h' at s w = stays h b x h' at s w.1
expire_on_goes h b x g (StaleEpoch n) h' at s w = stays h b x h' at s w.2.1
expire_on_goes h b x g (Raised start) h' at s w = left h b x _ h' at s w.1.after
expire_on_goes h b x g MetaFault h' at s w = stays h b x h' at s w.1
expire_on_goes h b x g StoreFault h' at s w = stays h b x h' at s w.1
expire_on_goes h b x g (Deleted id) h' at s w = stays h b x h' at s w.1
expire_on_goes h b x g other h' at s w = elim w [ ]

pub fetch_on_goes : (h : SeenPartition) (b : ℕ) (x : Node) (offset limit : ℕ) (g : StartSnapshot) (answer : Answer) (h' : SeenPartition) → slice_get h.nodes b ≡ Some x → NodeSound x
    → FetchOnRow h x offset limit g answer h' → Goes h b x h'
fetch_on_goes h b x offset limit g Stopped h' at s w = stays h b x h' at s w.1
fetch_on_goes h b x offset limit g NotLeader h' at s w = stays h b x h' at s w.3
fetch_on_goes h b x offset limit g (OutOfRange start end) h' at s w = stays h b x h' at s w.4
fetch_on_goes h b x offset limit g Empty h' at s w = stays h b x h' at s w.3
fetch_on_goes h b x offset limit g (Run tier size stop bytes) h' at s w = stays h b x h' at s w.2
fetch_on_goes h b x offset limit g MetaFault h' at s w = stays h b x h' at s w.1
fetch_on_goes h b x offset limit g StoreFault h' at s w = stays h b x h' at s w.1
fetch_on_goes h b x offset limit g (Damaged place n) h' at s w = stays h b x h' at s w.1
fetch_on_goes h b x offset limit g other h' at s w = elim w [ ]

pub offset_goes : (h : SeenPartition) (b : ℕ) (x : Node) (which : Which) (answer : Answer) (h' : SeenPartition) → slice_get h.nodes b ≡ Some x → NodeSound x → OffsetRow h x which answer h' → Goes h b x h'
offset_goes h b x which Down h' at s w = stays h b x h' at s w.1
offset_goes h b x which NotLeader h' at s w = stays h b x h' at s w.2
offset_goes h b x which (Offset n) h' at s w = stays h b x h' at s w.3
offset_goes h b x which other h' at s w = elim w [ ]

pub offset_on_goes : (h : SeenPartition) (b : ℕ) (x : Node) (g : StartSnapshot) (answer : Answer) (h' : SeenPartition) → slice_get h.nodes b ≡ Some x → NodeSound x → OffsetOnRow h x g answer h' → Goes h b x h'
offset_on_goes h b x g Stopped h' at s w = stays h b x h' at s w.1
offset_on_goes h b x g NotLeader h' at s w = stays h b x h' at s w.3
offset_on_goes h b x g (Offset n) h' at s w = stays h b x h' at s w.1
offset_on_goes h b x g NoOffset h' at s w = stays h b x h' at s w.1
offset_on_goes h b x g other h' at s w = elim w [ ]

pub offset_at_goes : (h : SeenPartition) (b : ℕ) (x : Node) (ts : ℤ) (g : StartSnapshot) (answer : Answer) (h' : SeenPartition)
    → slice_get h.nodes b ≡ Some x → NodeSound x → OffsetAtRow h x ts g answer h' → Goes h b x h'
offset_at_goes h b x ts g Stopped h' at s w = stays h b x h' at s w.1
offset_at_goes h b x ts g NotLeader h' at s w = stays h b x h' at s w.3
offset_at_goes h b x ts g MetaFault h' at s w = stays h b x h' at s w.1
offset_at_goes h b x ts g StoreFault h' at s w = stays h b x h' at s w.1
offset_at_goes h b x ts g DiskFault h' at s w = stays h b x h' at s w.1
offset_at_goes h b x ts g (Damaged place n) h' at s w = stays h b x h' at s w.1
offset_at_goes h b x ts g (Offset n) h' at s w = stays h b x h' at s w.1.1
offset_at_goes h b x ts g NoOffset h' at s w = stays h b x h' at s w.1.1
offset_at_goes h b x ts g other h' at s w = elim w [ ]
