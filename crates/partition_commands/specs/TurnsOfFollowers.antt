-- What a turn of a follower's command comes to over disks: join, follow.
--
-- A follower's log meets the leader's where their leader epochs still agree. A follow reads a run of the leader's log
-- at its first turn, which an actor's state has, and puts of it at the end of its own at the second what fits one
-- segment.
use Rattle.std.specs.Prelude.{◌≡◌, ◌≢◌, ◌⊎◌, ℕ, ◌+◌, ◌^◌, ◌<◌, ◌≤◌, true, false, min}
use Rattle.std.specs.Prelude.{List, Option, None, Some, IsSome, IsSomeAnd}
use Rattle.tier_base.specs.Device.{Control}
use Rattle.disk_model.specs.Call.{call_code}
use Rattle.disk_model.specs.Content.{Content}
use Rattle.log_terms.specs.Batch.{last_of}
use Rattle.log_terms.specs.Log.{joined as joined_bytes}
use Rattle.epoch_line.specs.Line.{cut_end}
use Rattle.epoch_line.specs.Meet.{IsMeetBelow}
use Rattle.local_log.specs.Run.{IsRunFor}
use Rattle.local_log.specs.declared.reading.RunOut.{RunOut}
use Rattle.plain_log.specs.declared.answer.Answer.{Answer}
use Rattle.plain_log.specs.declared.answer.Answer.TheVariants.{Down, NotFollower, StaleEpoch, NoLeader, Cut, NotJoined}
use Rattle.plain_log.specs.declared.answer.Answer.TheVariants.{Level, Moved, Stopped, Passed, BelowStart, Rebuilt}
use Rattle.plain_log.specs.declared.answer.Answer.TheVariants.{Copied, TooManySegments, DiskFault, DiskFaultAt, Damaged}
use Rattle.plain_log.specs.declared.answer.Place.TheVariants.{File}
use Rattle.plain_log.specs.declared.state.Role.TheVariants.{Joined}
use Rattle.plain_log.specs.State.{followed, joined}
use Rattle.broker_log.specs.Seen.{LogState, WhileUp, Quiet}
use Rattle.broker_log.specs.Effects.{cut_back, torn}
use Rattle.broker_log.specs.Failure.{BreaksIf, RestartBreaks}
use Rattle.broker_log.specs.Write.{Appends, CutsLog, Restarts}
use Rattle.broker_log.specs.Read.{ReadsRun, IsEndUpTo}
use Rattle.broker_log.specs.Effects as effects
use Rattle.laws_partition.specs.declared.start_snapshot.StartSnapshot.{StartSnapshot}
use Rattle.laws_partition.specs.declared.start_snapshot.Turned.{Turned}
use Rattle.laws_partition.specs.declared.start_snapshot.Turned.TheVariants.{Answers, Begins}
use Rattle.partition_commands.specs.declared.partition_state.Node.{Node}
use Rattle.partition_commands.specs.declared.partition_state.PartitionState.{PartitionState}
use Rattle.laws_partition.specs.Taken.{parts}
use Rattle.partition_commands.specs.Partition.{is_up, end_of, line_of, local_of, put_node, the_leader}
use Rattle.partition_commands.specs.Partition.{IsFull, NodeReadFails, NodeHasDamage, BreaksBy}
use Rattle.partition_commands.specs.TurnsOfLog.{BreaksUnsaved}

module _ {D : Type 0} where
  -- the registry's epoch is above this one
  abbrev pub IsStale : PartitionState D → Option ℕ → Type 0
  IsStale h e = IsSomeAnd e (λ e. e < h.registry.epoch)

  -- it isn't
  abbrev pub IsCurrent : PartitionState D → Option ℕ → Type 0
  IsCurrent h e = IsSomeAnd e (λ e. h.registry.epoch ≤ e)

  -- where the logs of two nodes meet: the greatest offset up to both ends to which their leader epochs agree
  abbrev pub IsMeet : Node D → Node D → ℕ → Type 0
  IsMeet x y n = IsMeetBelow (line_of x) (line_of y) (min (end_of x) (end_of y)) n

  -- the bytes can be put at the end of a follower's log
  pub record CanExtend (x : Node D) (g : StartSnapshot) : Type 0 where
    pub end : g.end ≡ end_of x
    pub joined : IsSome (joined x.role)
    pub run : IsRunFor (end_of x) (line_of x) (joined_bytes g.batches)
    pub low : last_of (joined_bytes g.batches) < 2 ^ 62

  -- the broker is up, its log ends at the bound, and past the end of a follower's, which lies in its local log
  abbrev pub MayTake : Node D → ℕ → ℕ → Type 0
  MayTake y end bound = (is_up y ≡ true) × (bound ≡ end_of y) × (end < bound) × (local_of y ≤ end)

  -- the broker is up, and its log may be cut there
  abbrev pub MayCutNode : Node D → ℕ → Type 0
  MayCutNode x met = WhileUp x.log (λ log. met ≤ log.end)

  -- the broker is up, and the run may be at the end of its log
  abbrev pub MayExtend : Node D → List ℕ → Type 0
  MayExtend x run = WhileUp x.log (λ log. IsRunFor log.end log.line run)

  -- a later turn continues: no stop, and no newer epoch
  abbrev pub GoesOn : PartitionState D → Node D → StartSnapshot → Type 0
  GoesOn h x g = (g.stops ≡ x.stops) × (is_up x ≡ true) × ¬ IsStale h (followed g.role)

  -- the follower has joined, and its log ends as it was cut
  abbrev pub IsAsCut : Node D → StartSnapshot → Type 0
  IsAsCut x g = (g.end ≡ end_of x) × IsSome (joined x.role)

  -- a rebuild may end: nothing has come between, and the log start offset hasn't reached the wanted point since it
  -- began
  abbrev pub MayRebuild : PartitionState D → Node D → StartSnapshot → Type 0
  MayRebuild h x g = GoesOn h x g × IsAsCut x g × ((g.start < g.wanted) × (g.wanted ≤ h.registry.start) → ⊥)

module _ {D : Type 0} (content : D → Content) (control : D → Control call_code) where
  -- the node's log is cut to where it meets another's, or to the last batch's end before it
  pub record CutsNode (h : PartitionState D) (b : ℕ) (x : Node D) (epoch met n : ℕ)
      (h' : PartitionState D) : Type 0 where
    pub kept : LogState D
    pub cuts : CutsLog content x.log kept met n
    pub quiet : Quiet control x.log kept
    pub after : h' ≡ put_node h b (record x {
      role =
          Joined epoch;
      log = kept;
      known_high_watermark = min x.known_high_watermark n;
    })

  -- a cut to where the logs meet
  abbrev pub CutRow : PartitionState D → ℕ → Node D → ℕ → ℕ → Answer → PartitionState D → Type 0
  CutRow h b x epoch met (Cut n) h' = CutsNode h b x epoch met n h'
  CutRow h b x epoch met (DiskFaultAt n) h' = IsEndUpTo content x.log met n
      × BreaksBy content control h b x (λ old new. BreaksIf content old new (effects.MayCutLog met)
      (λ s. torn s (cut_back s met))) h'
  CutRow h b x epoch met other h' = ⊥

  -- what a join's actor's state has after its first turn, where the logs meet below the leader's local log
  pub record Wants (h : PartitionState D) (b : ℕ) (x y : Node D) (epoch met : ℕ) (g : StartSnapshot)
      (h' : PartitionState D) : Type 0 where
    pub cuts : CutsNode h b x epoch met g.end h'
    pub stops : g.stops ≡ x.stops
    pub role : g.role ≡ Joined epoch
    pub start : g.start ≡ h.registry.start
    pub wanted : g.wanted ≡ local_of y
    pub line : g.line ≡ cut_end (line_of y) g.wanted
    pub above : g.end < g.wanted

  -- join, first turn: the log is cut to where it meets the leader's, durably
  abbrev pub JoinRow : PartitionState D → ℕ → Node D → Turned → PartitionState D → Type 0
  JoinRow h b x (Answers Down) h' = (is_up x ≡ false) × (h' ≡ h)
  JoinRow h b x (Answers NotFollower) h' = (is_up x ≡ true) × (followed x.role ≡ None) × (h' ≡ h)
  JoinRow h b x (Answers (StaleEpoch n)) h' =
      (is_up x ≡ true) × IsStale h (followed x.role) × (n ≡ h.registry.epoch) × (h' ≡ h)
  JoinRow h b x (Answers NoLeader) h' =
      (is_up x ≡ true) × IsCurrent h (followed x.role) × (the_leader h ≡ None) × (h' ≡ h)
  JoinRow h b x (Answers (Cut n)) h' = (is_up x ≡ true) × IsCurrent h (followed x.role) × IsSomeAnd (the_leader h) (λ y.
      (e m : ℕ) × (followed x.role ≡ Some e) × IsMeet x y m × (local_of y ≤ n) × CutRow h b x e m (Cut n) h')
  JoinRow h b x (Answers (DiskFaultAt n)) h' =
      (is_up x ≡ true) × IsCurrent h (followed x.role) × IsSomeAnd (the_leader h) (λ y.
      (e m : ℕ) × (followed x.role ≡ Some e) × IsMeet x y m × CutRow h b x e m (DiskFaultAt n) h')
  JoinRow h b x (Begins g) h' = (is_up x ≡ true) × IsCurrent h (followed x.role) × IsSomeAnd (the_leader h) (λ y.
      (e m : ℕ) × (followed x.role ≡ Some e) × IsMeet x y m × Wants h b x y e m g h')
  JoinRow h b x other h' = ⊥

  -- the local log is restarted at the wanted point
  pub record RestartsNode (h : PartitionState D) (b : ℕ) (x : Node D) (n : ℕ) (line : List (ℕ × ℕ))
      (h' : PartitionState D) : Type 0 where
    pub kept : LogState D
    pub restarts : Restarts content x.log kept n line
    pub quiet : Quiet control x.log kept
    pub after : h' ≡ put_node h b (record x { log = kept })

  -- join, later turns
  abbrev pub JoinOnRow : PartitionState D → ℕ → Node D → StartSnapshot → Answer → PartitionState D → Type 0
  JoinOnRow h b x g Stopped h' = ((g.stops ≢ x.stops) ⊎ (is_up x ≡ false)) × (h' ≡ h)
  JoinOnRow h b x g (StaleEpoch n) h' =
      (g.stops ≡ x.stops) × IsStale h (followed g.role) × (n ≡ h.registry.epoch) × (h' ≡ h)
  JoinOnRow h b x g (Passed n) h' = GoesOn h x g × (n ≡ end_of x) × (IsAsCut x g → ⊥) × (h' ≡ h)
  JoinOnRow h b x g (BelowStart start) h' = GoesOn h x g × IsAsCut x g × (start ≡ h.registry.start)
      × (g.start < g.wanted) × (g.wanted ≤ start) × (h' ≡ h)
  JoinOnRow h b x g (DiskFaultAt n) h' = MayRebuild h x g × (n ≡ g.wanted)
      × BreaksBy content control h b x (λ old new. RestartBreaks content old new n (cut_end g.line (n + 1))) h'
  JoinOnRow h b x g (Rebuilt n) h' =
      MayRebuild h x g × (n ≡ g.wanted) × RestartsNode h b x n (cut_end g.line (n + 1)) h'
  JoinOnRow h b x g other h' = ⊥

  -- what a follow's actor's state has after its first turn: what was recorded, and a run of the leader's log from the
  -- follower's end on
  pub record Takes (h : PartitionState D) (x y : Node D) (limit : ℕ) (g : StartSnapshot)
      (h' : PartitionState D) : Type 0 where
    pub stops : g.stops ≡ x.stops
    pub role : g.role ≡ x.role
    pub end : g.end ≡ end_of x
    pub start : g.start ≡ h.registry.start
    pub kept : LogState D
    pub out : RunOut
    pub reads : ReadsRun content control y.log kept g.end limit (end_of y) out
    pub quiet : Quiet control y.log kept
    pub batches : g.batches ≡ parts out.bytes
    pub after : h' ≡ put_node h h.registry.leader.0 (record y { log = kept })

  -- a run of the leader's log beside what was recorded
  pub record TakesRun (h : PartitionState D) (l : ℕ) (y : Node D) (recorded : StartSnapshot) (limit : ℕ)
      (g : StartSnapshot) (h' : PartitionState D) : Type 0 where
    pub kept : LogState D
    pub out : RunOut
    pub reads : ReadsRun content control y.log kept recorded.end limit (end_of y) out
    pub quiet : Quiet control y.log kept
    pub is : g ≡ record recorded { batches = parts out.bytes }
    pub after : h' ≡ put_node h l (record y { log = kept })

  -- a read of a run of the leader's log
  abbrev pub TakeRow : PartitionState D → ℕ → Node D → StartSnapshot → ℕ → Turned → PartitionState D → Type 0
  TakeRow h l y recorded limit (Begins g) h' = TakesRun h l y recorded limit g h'
  TakeRow h l y recorded limit (Answers DiskFault) h' = NodeReadFails content control h l y h'
  TakeRow h l y recorded limit (Answers (Damaged (File name) at)) h' =
      NodeHasDamage content control h l y recorded.end limit (end_of y) name at h'
  TakeRow h l y recorded limit other h' = ⊥

  -- follow, first turn
  abbrev pub FollowRow : PartitionState D → ℕ → Node D → ℕ → Turned → PartitionState D → Type 0
  FollowRow h b x limit (Answers Down) h' = (is_up x ≡ false) × (h' ≡ h)
  FollowRow h b x limit (Answers NotJoined) h' = (is_up x ≡ true) × (joined x.role ≡ None) × (h' ≡ h)
  FollowRow h b x limit (Answers (StaleEpoch n)) h' =
      (is_up x ≡ true) × IsStale h (joined x.role) × (n ≡ h.registry.epoch) × (h' ≡ h)
  FollowRow h b x limit (Answers NoLeader) h' =
      (is_up x ≡ true) × IsCurrent h (joined x.role) × (the_leader h ≡ None) × (h' ≡ h)
  FollowRow h b x limit (Answers Level) h' = (is_up x ≡ true) × IsCurrent h (joined x.role)
      × IsSomeAnd (the_leader h) (λ y. end_of y ≤ end_of x) × (h' ≡ h)
  FollowRow h b x limit (Answers DiskFault) h' = (is_up x ≡ true) × IsCurrent h (joined x.role)
      × IsSomeAnd (the_leader h) (λ y. (end_of x < end_of y) × (local_of y ≤ end_of x)
      × NodeReadFails content control h h.registry.leader.0 y h')
  FollowRow h b x limit (Answers (Moved n)) h' = (is_up x ≡ true) × IsCurrent h (joined x.role)
      × IsSomeAnd (the_leader h) (λ y. (end_of x < end_of y) × (end_of x < local_of y) × (n ≡ local_of y)) × (h' ≡ h)
  FollowRow h b x limit (Answers (Damaged (File name) at)) h' = (is_up x ≡ true) × IsCurrent h (joined x.role)
      × IsSomeAnd (the_leader h) (λ y. (end_of x < end_of y) × (local_of y ≤ end_of x)
      × NodeHasDamage content control h h.registry.leader.0 y (end_of x) limit (end_of y) name at h')
  FollowRow h b x limit (Begins g) h' = (is_up x ≡ true) × IsCurrent h (joined x.role)
      × IsSomeAnd (the_leader h) (λ y. (end_of x < end_of y) × (local_of y ≤ end_of x) × Takes h x y limit g h')
  FollowRow h b x limit other h' = ⊥

  -- as much of a run as fits one segment is at the end of the follower's log
  pub record Extends (h : PartitionState D) (b : ℕ) (x : Node D) (run : List ℕ) (n : ℕ)
      (h' : PartitionState D) : Type 0 where
    pub kept : LogState D
    pub span : ℕ × ℕ
    pub appends : Appends content x.log kept run span
    pub quiet : Quiet control x.log kept
    pub after : h' ≡ put_node h b (record x { log = kept })
    pub end : n ≡ span.1 + 1

  -- a run that can be put there
  abbrev pub ExtendRow : PartitionState D → ℕ → Node D → List ℕ → Answer → PartitionState D → Type 0
  ExtendRow h b x run TooManySegments h' = (last_of run < 2 ^ 62) × IsFull x run × (h' ≡ h)
  ExtendRow h b x run DiskFault h' =
      (last_of run < 2 ^ 62) × (IsFull x run → ⊥) × BreaksUnsaved content control h b x h'
  ExtendRow h b x run (Passed n) h' = (2 ^ 62 ≤ last_of run) × (n ≡ end_of x) × (h' ≡ h)
  ExtendRow h b x run (Copied n) h' = (last_of run < 2 ^ 62) × (IsFull x run → ⊥) × Extends h b x run n h'
  ExtendRow h b x run other h' = ⊥

  -- follow, second turn
  abbrev pub FollowOnRow : PartitionState D → ℕ → Node D → StartSnapshot → Answer → PartitionState D → Type 0
  FollowOnRow h b x g Stopped h' = ((g.stops ≢ x.stops) ⊎ (is_up x ≡ false)) × (h' ≡ h)
  FollowOnRow h b x g (StaleEpoch n) h' =
      (g.stops ≡ x.stops) × IsStale h (followed g.role) × (n ≡ h.registry.epoch) × (h' ≡ h)
  FollowOnRow h b x g (Passed n) h' = GoesOn h x g × (n ≡ end_of x) × (CanExtend x g → ⊥) × (h' ≡ h)
  FollowOnRow h b x g TooManySegments h' = GoesOn h x g × CanExtend x g × IsFull x (joined_bytes g.batches) × (h' ≡ h)
  FollowOnRow h b x g DiskFault h' =
      GoesOn h x g × CanExtend x g × (IsFull x (joined_bytes g.batches) → ⊥) × BreaksUnsaved content control h b x h'
  FollowOnRow h b x g (Copied n) h' =
      GoesOn h x g × CanExtend x g × (IsFull x (joined_bytes g.batches) → ⊥)
      × Extends h b x (joined_bytes g.batches) n h'
  FollowOnRow h b x g other h' = ⊥
