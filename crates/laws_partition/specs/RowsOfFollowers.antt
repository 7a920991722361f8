-- What a turn of a follower's command comes to: join, follow.
--
-- A follower's log meets the leader's where their leader epochs still agree. Where that lies below the leader's local
-- log, a join continues after the cut, and its last turn restarts the follower's log, empty, where the leader's local
-- log began. It is seen as the leader's log up to there then, of which there is nothing on the follower's disk. The
-- leader may be down by then: while its epoch is the registry's its log has what was flushed when the join began.
--
-- A follow takes a run of the leader's local log at its first turn, which an actor's state has, and puts as much of it
-- at the end of its own at the second as fits one segment.
use Rattle.std.specs.Prelude.{◌≡◌, ◌≢◌, ℕ, ◌^◌, ◌<◌, ◌≤◌, true, false, min, List, ◌++◌}
use Rattle.std.specs.Prelude.{length, Option, None, Some, IsSome, IsSomeAnd, IsOk, All}
use Rattle.tier_base.specs.declared.plain.Stop.{Stop}
use Rattle.log_terms.specs.Batch.{epoch_of}
use Rattle.log_terms.specs.Line.{line_of}
use Rattle.log_terms.specs.Log.{IsConsecutive, end_of, end_from, up_to}
use Rattle.epoch_line.specs.Line.{cut_end}
use Rattle.epoch_line.specs.Meet.{IsMeetBelow}
use Rattle.record_batch.specs.Check.{checked}
use Rattle.plain_log.specs.declared.answer.Answer.{Answer}
use Rattle.plain_log.specs.declared.answer.Answer.TheVariants.{Down, NotFollower, StaleEpoch, NoLeader, Cut, DiskFault}
use Rattle.plain_log.specs.declared.answer.Answer.TheVariants.{DiskFaultAt, NotJoined, Level, Moved, Stopped, Passed}
use Rattle.plain_log.specs.declared.answer.Answer.TheVariants.{BelowStart, MetaFault, StoreFault, Damaged, Rebuilt}
use Rattle.plain_log.specs.declared.answer.Answer.TheVariants.{TooManySegments, Copied}
use Rattle.plain_log.specs.declared.state.Role.TheVariants.{Joined}
use Rattle.plain_log.specs.State.{followed, joined}
use Rattle.laws_partition.specs.declared.start_snapshot.StartSnapshot.{StartSnapshot}
use Rattle.laws_partition.specs.Seen.{Back, Node, SeenPartition}
use Rattle.laws_partition.specs.Partition.{AtNode, put_node, the_leader, back_of, broken, torn}
use Rattle.laws_partition.specs.Log.{IsRunOf, MayTakeEpoch, cut_at, with_batches, epoch_in}
use Rattle.laws_partition.specs.declared.start_snapshot.Turned.{Turned}
use Rattle.laws_partition.specs.declared.start_snapshot.Turned.TheVariants.{Answers, Begins}

-- the registry's epoch is above this one
abbrev pub IsStale : SeenPartition → Option ℕ → Type 0
IsStale h e = IsSomeAnd e (λ e. e < h.registry.epoch)

-- it isn't
abbrev pub IsCurrent : SeenPartition → Option ℕ → Type 0
IsCurrent h e = IsSomeAnd e (λ e. h.registry.epoch ≤ e)

-- where the logs of two nodes meet: the greatest offset up to both ends to which their leader epochs agree
abbrev pub IsMeet : Node → Node → ℕ → Type 0
IsMeet x y n = IsMeetBelow x.log.line y.log.line (min (end_of x.log.batches) (end_of y.log.batches)) n

-- a node of this epoch whose log is cut to where it meets another's
abbrev pub cut_node : Node → ℕ → ℕ → Node
cut_node x e n = record x {
  role = Joined e;
  log = cut_at x.log n;
  flushed_end = end_of (up_to n x.log.batches);
  known_high_watermark = min x.known_high_watermark (end_of (up_to n x.log.batches));
  saved = (cut_at x.log n).line;
  local = min x.local (end_of (up_to n x.log.batches));
}

-- what was to come back of it where the cut failed
abbrev pub cut_back : Node → ℕ → Back
cut_back x n = (end_of (up_to n x.log.batches), (cut_at x.log n).line, min x.local (end_of (up_to n x.log.batches)))

-- what a join's actor's state has after its first turn, where the logs meet below the leader's local log: what was
-- recorded of the log that was cut, and where the leader's local log begins
pub record Wants (h : SeenPartition) (x y : Node) (g : StartSnapshot) : Type 0 where
  pub stops : g.stops ≡ x.stops
  pub role : g.role ≡ x.role
  pub end : g.end ≡ end_of x.log.batches
  pub start : g.start ≡ h.registry.start
  pub wanted : g.wanted ≡ y.local
  pub line : g.line ≡ cut_end y.log.line g.wanted
  pub above : g.end < g.wanted

-- join, first turn: the log is cut to where it meets the leader's, durably
abbrev pub JoinRow : SeenPartition → ℕ → Node → Turned → SeenPartition → Type 0
JoinRow h b x (Answers Down) h' = (x.up ≡ false) × (h' ≡ h)
JoinRow h b x (Answers NotFollower) h' = (x.up ≡ true) × (followed x.role ≡ None) × (h' ≡ h)
JoinRow h b x (Answers (StaleEpoch n)) h' =
    (x.up ≡ true) × IsStale h (followed x.role) × (n ≡ h.registry.epoch) × (h' ≡ h)
JoinRow h b x (Answers NoLeader) h' = (x.up ≡ true) × IsCurrent h (followed x.role) × (the_leader h ≡ None) × (h' ≡ h)
JoinRow h b x (Answers (Cut n)) h' = (x.up ≡ true) × IsCurrent h (followed x.role) × IsSomeAnd (the_leader h) (λ y.
    (e m : ℕ) × (followed x.role ≡ Some e) × IsMeet x y m × (n ≡ end_of (up_to m x.log.batches)) × (y.local ≤ n)
    × (h' ≡ put_node h b (cut_node x e m)))
JoinRow h b x (Answers (DiskFaultAt n)) h' =
    (x.up ≡ true) × IsCurrent h (followed x.role) × IsSomeAnd (the_leader h) (λ y.
    (e m : ℕ) × (followed x.role ≡ Some e) × IsMeet x y m × (n ≡ end_of (up_to m x.log.batches))
    × (h' ≡ put_node h b (torn x (cut_back x m))))
JoinRow h b x (Begins g) h' = (x.up ≡ true) × IsCurrent h (followed x.role) × IsSomeAnd (the_leader h) (λ y.
    (e m : ℕ) × (followed x.role ≡ Some e) × IsMeet x y m × Wants h (cut_node x e m) y g
    × (h' ≡ put_node h b (cut_node x e m)))
JoinRow h b x other h' = ⊥

-- what a follow's actor's state has after its first turn: what was recorded, and a run of the leader's log from the
-- follower's end on
pub record Takes (h : SeenPartition) (x y : Node) (limit : ℕ) (g : StartSnapshot) : Type 0 where
  pub stops : g.stops ≡ x.stops
  pub role : g.role ≡ x.role
  pub end : g.end ≡ end_of x.log.batches
  pub start : g.start ≡ h.registry.start
  pub are : All (λ batch. IsOk (checked batch)) g.batches
  pub stop : Stop
  pub run : IsRunOf y.log.batches g.end limit (end_of y.log.batches) stop g.batches

-- what was taken are batches, at least one and all of one epoch, that can be put at the end of a follower's log
pub record CanExtend (x : Node) (g : StartSnapshot) : Type 0 where
  pub end : g.end ≡ end_of x.log.batches
  pub joined : IsSome (joined x.role)
  pub are : All (λ batch. IsOk (checked batch)) g.batches
  pub epoch : ℕ
  pub first : epoch_in g.batches ≡ Some epoch
  pub may : MayTakeEpoch x.log.line epoch
  pub follow : IsConsecutive g.end g.batches
  pub same : All (λ batch. Some (epoch_of batch) ≡ epoch_in g.batches) g.batches
  pub fits : epoch < 2 ^ 31
  pub small : end_from g.end g.batches ≤ 4611686018427387904

-- a later turn continues: no stop, and no newer epoch
abbrev pub GoesOn : SeenPartition → Node → StartSnapshot → Type 0
GoesOn h x g = (g.stops ≡ x.stops) × ¬ IsStale h (followed g.role)

-- the follower's log with batches of this epoch at its end
abbrev pub extended : Node → List (List ℕ) → ℕ → Node
extended x front e = record x { log = with_batches x.log e front }

-- the first of the batches that were taken, at least one, are at the end of the log, which ends at n then
pub record Extends (h : SeenPartition) (b : ℕ) (x : Node) (g : StartSnapshot) (n e : ℕ)
    (h' : SeenPartition) : Type 0 where
  pub front : List (List ℕ)
  pub rest : List (List ℕ)
  pub parts : g.batches ≡ front ++ rest
  pub some : 0 < length front
  pub end : n ≡ end_from g.end front
  pub after : h' ≡ put_node h b (extended x front e)

-- the follower has joined, and its log ends as it was cut
abbrev pub IsAsCut : Node → StartSnapshot → Type 0
IsAsCut x g = (g.end ≡ end_of x.log.batches) × IsSome (joined x.role)

-- a rebuild may end: nothing has come between, and the log start offset hasn't reached the wanted point since it began
abbrev pub MayRebuild : SeenPartition → Node → StartSnapshot → Type 0
MayRebuild h x g = GoesOn h x g × IsAsCut x g × ((g.start < g.wanted) × (g.wanted ≤ h.registry.start) → ⊥)

-- the node's log is these batches, which end at n, and nothing of it is in its local log
abbrev pub rebuilt : Node → List (List ℕ) → ℕ → Node
rebuilt x whole n = record x {
  log = record { batches = whole; line = line_of whole };
  flushed_end = n;
  saved = line_of whole;
  local = n;
}

-- the node after a rebuild that failed: what was flushed comes back, or all of these batches
abbrev pub unbuilt : Node → List (List ℕ) → ℕ → Node
unbuilt x whole n = record (broken x (n, line_of whole, n)) { log = record { batches = whole; line = line_of whole } }

-- the log of the registry's leader up to an offset, whether it is up or not
abbrev pub FromLeader : SeenPartition → ℕ → (List (List ℕ) → Type 0) → Type 0
FromLeader h n P = AtNode h h.registry.leader.0 (λ y. P (up_to n y.log.batches))

-- join, later turns: of the remote tier nothing is seen but that it failed, which comes as it is
abbrev pub JoinOnRow : SeenPartition → ℕ → Node → StartSnapshot → Answer → SeenPartition → Type 0
JoinOnRow h b x g Stopped h' = (g.stops ≢ x.stops) × (h' ≡ h)
JoinOnRow h b x g (StaleEpoch n) h' =
    (g.stops ≡ x.stops) × IsStale h (followed g.role) × (n ≡ h.registry.epoch) × (h' ≡ h)
JoinOnRow h b x g (Passed n) h' = GoesOn h x g × (n ≡ end_of x.log.batches) × (IsAsCut x g → ⊥) × (h' ≡ h)
JoinOnRow h b x g (BelowStart start) h' = GoesOn h x g × IsAsCut x g × (start ≡ h.registry.start)
    × (g.start < g.wanted) × (g.wanted ≤ start) × (h' ≡ h)
JoinOnRow h b x g MetaFault h' = GoesOn h x g × IsAsCut x g × (h' ≡ h)
JoinOnRow h b x g StoreFault h' = GoesOn h x g × IsAsCut x g × (h' ≡ h)
JoinOnRow h b x g (Damaged place at) h' = GoesOn h x g × IsAsCut x g × (h' ≡ h)
JoinOnRow h b x g (DiskFaultAt n) h' = MayRebuild h x g × (n ≡ g.wanted)
    × FromLeader h n (λ whole. h' ≡ put_node h b (unbuilt x whole n))
JoinOnRow h b x g (Rebuilt n) h' = MayRebuild h x g × (n ≡ g.wanted)
    × FromLeader h n (λ whole. h' ≡ put_node h b (rebuilt x whole n))
JoinOnRow h b x g other h' = ⊥

-- follow, first turn
abbrev pub FollowRow : SeenPartition → ℕ → Node → ℕ → Turned → SeenPartition → Type 0
FollowRow h b x limit (Answers Down) h' = (x.up ≡ false) × (h' ≡ h)
FollowRow h b x limit (Answers NotJoined) h' = (x.up ≡ true) × (joined x.role ≡ None) × (h' ≡ h)
FollowRow h b x limit (Answers (StaleEpoch n)) h' =
    (x.up ≡ true) × IsStale h (joined x.role) × (n ≡ h.registry.epoch) × (h' ≡ h)
FollowRow h b x limit (Answers NoLeader) h' =
    (x.up ≡ true) × IsCurrent h (joined x.role) × (the_leader h ≡ None) × (h' ≡ h)
FollowRow h b x limit (Answers Level) h' = (x.up ≡ true) × IsCurrent h (joined x.role)
    × IsSomeAnd (the_leader h) (λ y. end_of y.log.batches ≤ end_of x.log.batches) × (h' ≡ h)
FollowRow h b x limit (Answers (Moved n)) h' = (x.up ≡ true) × IsCurrent h (joined x.role)
    × IsSomeAnd (the_leader h) (λ y. (end_of x.log.batches < end_of y.log.batches) × (end_of x.log.batches < y.local)
    × (n ≡ y.local)) × (h' ≡ h)
FollowRow h b x limit (Answers DiskFault) h' = (x.up ≡ true) × IsCurrent h (joined x.role)
    × IsSomeAnd (the_leader h) (λ y. (end_of x.log.batches < end_of y.log.batches) × (y.local ≤ end_of x.log.batches))
    × (h' ≡ h)
FollowRow h b x limit (Begins g) h' = (x.up ≡ true) × IsCurrent h (joined x.role)
    × IsSomeAnd (the_leader h) (λ y. (end_of x.log.batches < end_of y.log.batches) × (y.local ≤ end_of x.log.batches)
    × Takes h x y limit g) × (h' ≡ h)
FollowRow h b x limit other h' = ⊥

-- follow, second turn
abbrev pub FollowOnRow : SeenPartition → ℕ → Node → StartSnapshot → Answer → SeenPartition → Type 0
FollowOnRow h b x g Stopped h' = (g.stops ≢ x.stops) × (h' ≡ h)
FollowOnRow h b x g (StaleEpoch n) h' =
    (g.stops ≡ x.stops) × IsStale h (followed g.role) × (n ≡ h.registry.epoch) × (h' ≡ h)
FollowOnRow h b x g (Passed n) h' = GoesOn h x g × (n ≡ end_of x.log.batches) × (CanExtend x g → ⊥) × (h' ≡ h)
FollowOnRow h b x g TooManySegments h' = GoesOn h x g × CanExtend x g × (h' ≡ h)
FollowOnRow h b x g DiskFault h' = GoesOn h x g × CanExtend x g × (h' ≡ put_node h b (broken x (back_of x)))
FollowOnRow h b x g (Copied n) h' =
    GoesOn h x g × CanExtend x g × IsSomeAnd (epoch_in g.batches) (λ e. Extends h b x g n e h')
FollowOnRow h b x g other h' = ⊥
