-- Turns of a follower's commands: no local start rises, but where a rebuild restarts a log.
use Rattle.std.proofs.Common.{◌≡◌, refl, ℕ, Some, false, slice_get, arith}
use Rattle.plain_log.specs.declared.answer.Answer.{Answer}
use Rattle.plain_log.specs.declared.answer.Answer.TheVariants.{Down, NotFollower, NotJoined, StaleEpoch, NoLeader, Cut, DiskFaultAt, Stopped, Passed, BelowStart, MetaFault, StoreFault, Damaged, Rebuilt, Level, Moved, DiskFault, TooManySegments, Copied, Kept, Dropped}
use Rattle.plain_log.specs.declared.command.Command.TheVariants.{Join, Trim}
use Rattle.laws_partition.specs.declared.start_snapshot.StartSnapshot.{StartSnapshot}
use Rattle.laws_partition.specs.declared.start_snapshot.Turned.{Turned}
use Rattle.laws_partition.specs.declared.start_snapshot.Turned.TheVariants.{Answers, Begins}
use Rattle.laws_partition.specs.Seen.{Node, SeenPartition}
use Rattle.laws_partition.specs.Partition.{back_of, broken, torn, the_leader}
use Rattle.laws_partition.specs.Log.{epoch_in}
use Rattle.laws_partition.specs.RowsOfLog.{TrimOnRow}
use Rattle.laws_partition.specs.RowsOfFollowers.{cut_node, cut_back, extended, JoinRow, JoinOnRow, FollowRow, FollowOnRow}
use Rattle.laws_partition.specs.Sound.{NodeSound}
use Rattle.laws_partition.proofs.BoolTests.{some_of}
use Rattle.laws_tier_turns.specs.Turns.{may_raise}
use Rattle.laws_tier_turns.proofs.Nodes.{Goes, goes_on, node_breaks, node_tears, node_cuts, stays, puts, joined_up}

pub join_goes : (h : SeenPartition) (b : ℕ) (x : Node) (turned : Turned) (h' : SeenPartition) → slice_get h.nodes b ≡ Some x → NodeSound x → JoinRow h b x turned h' → Goes h b x h'
join_goes h b x (Answers Down) h' at s w = stays h b x h' at s w.1
join_goes h b x (Answers NotFollower) h' at s w = stays h b x h' at s w.2
join_goes h b x (Answers (StaleEpoch n)) h' at s w = stays h b x h' at s w.3
join_goes h b x (Answers NoLeader) h' at s w = stays h b x h' at s w.3
join_goes h b x (Answers (Cut n)) h' at s w =
    let k = (some_of _ (the_leader h) w.2).2 in
    puts h b x (cut_node x k.0 k.1) h' (node_cuts x k.0 k.1 s w.0) k.6
join_goes h b x (Answers (DiskFaultAt n)) h' at s w =
    let k = (some_of _ (the_leader h) w.2).2 in
    puts h b x (torn x (cut_back x k.1)) h' (node_tears x k.1 s w.0) k.5
join_goes h b x (Begins g) h' at s w =
    let k = (some_of _ (the_leader h) w.2).2 in
    puts h b x (cut_node x k.0 k.1) h' (node_cuts x k.0 k.1 s w.0) k.5
join_goes h b x other h' at s w = elim w [ ]

pub join_on_goes : (h : SeenPartition) (b : ℕ) (x : Node) (g : StartSnapshot) (answer : Answer) (h' : SeenPartition) → slice_get h.nodes b ≡ Some x → NodeSound x → JoinOnRow h b x g answer h'
    → may_raise (Some g) Join (Answers answer) ≡ false → Goes h b x h'
join_on_goes h b x g Stopped h' at s w low = stays h b x h' at s w.1
join_on_goes h b x g (StaleEpoch n) h' at s w low = stays h b x h' at s w.3
join_on_goes h b x g (Passed n) h' at s w low = stays h b x h' at s w.3
join_on_goes h b x g (BelowStart start) h' at s w low = stays h b x h' at s w.5
join_on_goes h b x g MetaFault h' at s w low = stays h b x h' at s w.2
join_on_goes h b x g StoreFault h' at s w low = stays h b x h' at s w.2
join_on_goes h b x g (Damaged place n) h' at s w low = stays h b x h' at s w.2
join_on_goes h b x g (DiskFaultAt n) h' at s w low = absurd (cc (low))
join_on_goes h b x g (Rebuilt n) h' at s w low = absurd (cc (low))
join_on_goes h b x g other h' at s w low = elim w [ ]

pub follow_goes : (h : SeenPartition) (b : ℕ) (x : Node) (limit : ℕ) (turned : Turned) (h' : SeenPartition) → slice_get h.nodes b ≡ Some x → NodeSound x → FollowRow h b x limit turned h' → Goes h b x h'
follow_goes h b x limit (Answers Down) h' at s w = stays h b x h' at s w.1
follow_goes h b x limit (Answers NotJoined) h' at s w = stays h b x h' at s w.2
follow_goes h b x limit (Answers (StaleEpoch n)) h' at s w = stays h b x h' at s w.3
follow_goes h b x limit (Answers NoLeader) h' at s w = stays h b x h' at s w.3
follow_goes h b x limit (Answers Level) h' at s w = stays h b x h' at s w.3
follow_goes h b x limit (Answers (Moved n)) h' at s w = stays h b x h' at s w.3
follow_goes h b x limit (Answers DiskFault) h' at s w = stays h b x h' at s w.3
follow_goes h b x limit (Begins g) h' at s w = stays h b x h' at s w.3
follow_goes h b x limit other h' at s w = elim w [ ]

pub follow_on_goes : (h : SeenPartition) (b : ℕ) (x : Node) (g : StartSnapshot) (answer : Answer) (h' : SeenPartition) → slice_get h.nodes b ≡ Some x → NodeSound x → FollowOnRow h b x g answer h' → Goes h b x h'
follow_on_goes h b x g Stopped h' at s w = stays h b x h' at s w.1
follow_on_goes h b x g (StaleEpoch n) h' at s w = stays h b x h' at s w.3
follow_on_goes h b x g (Passed n) h' at s w = stays h b x h' at s w.3
follow_on_goes h b x g TooManySegments h' at s w = stays h b x h' at s w.2
follow_on_goes h b x g DiskFault h' at s w =
    puts h b x (broken x (back_of x)) h' (node_breaks x (back_of x) s (joined_up x s w.1.joined) (omega arith)) w.2
follow_on_goes h b x g (Copied n) h' at s w =
    let e = some_of _ (epoch_in g.batches) w.2 in
    let k = e.2 in
    let y = extended x k.front e.0 in
    puts h b x y h' (goes_on x y s refl (k.front, refl) refl (λ u. u)) k.after
follow_on_goes h b x g other h' at s w = elim w [ ]

pub trim_on_goes : (h : SeenPartition) (b : ℕ) (x : Node) (g : StartSnapshot) (answer : Answer) (h' : SeenPartition) → slice_get h.nodes b ≡ Some x → NodeSound x → TrimOnRow h b x g answer h'
    → may_raise (Some g) Trim (Answers answer) ≡ false → Goes h b x h'
trim_on_goes h b x g Stopped h' at s w low = stays h b x h' at s w.1
trim_on_goes h b x g Kept h' at s w low = stays h b x h' at s w.1
trim_on_goes h b x g DiskFault h' at s w low = absurd (cc (low))
trim_on_goes h b x g (Dropped base last) h' at s w low = absurd (cc (low))
trim_on_goes h b x g other h' at s w low = elim w [ ]
