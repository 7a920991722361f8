-- A follow's second turn comes to what the append of its run does.
use Rattle.std.proofs.Common.{◌≡◌, ◌∙◌, ap, sym, subst, ℕ, ◌^◌, ◌<◌, ◌≤◌, Bool, true, List, Some, arith}
use Rattle.std.specs.Prelude.{IsSome, IsTrue, ◌↔◌}
use Rattle.tier_base.specs.Device.{Control}
use Rattle.disk_model.specs.Call.{call_code}
use Rattle.disk_model.specs.Content.{Content}
use Rattle.log_terms.specs.Batch.{last_of}
use Rattle.log_terms.specs.Log.{joined as joined_bytes}
use Rattle.local_log.specs.Run.{IsRunFor}
use Rattle.plain_log.specs.declared.answer.Answer.{Answer}
use Rattle.plain_log.specs.declared.answer.Answer.TheVariants.{Passed, Copied, TooManySegments, DiskFault, Damaged}
use Rattle.plain_log.specs.State.{joined}
use Rattle.broker_log.specs.Seen.{WhileUp}
use Rattle.laws_partition.specs.declared.start_snapshot.StartSnapshot.{StartSnapshot}
use Rattle.partition_commands.specs.declared.partition_state.Node.{Node}
use Rattle.partition_commands.specs.declared.partition_state.PartitionState.{PartitionState}
use Rattle.partition_commands.specs.Partition.{is_up, end_of, line_of, local_of, the_leader, IsFull, NodeHasDamage, NodeReadFails}
use Rattle.partition_commands.specs.TurnsOfLog.{Notes}
use Rattle.partition_commands.specs.TurnsOfFollowers.{IsCurrent, GoesOn, Extends, ExtendRow, FollowOnRow, Takes, TakeRow, FollowRow}
use Rattle.partition_commands.proofs.Shown.{some_at}
use Rattle.broker_log.specs.Read.{ReadsRun}
use Rattle.laws_partition.specs.declared.start_snapshot.Turned.{Turned}
use Rattle.laws_partition.specs.declared.start_snapshot.Turned.TheVariants.{Answers, Begins}
use Rattle.plain_log.specs.declared.answer.Place.TheVariants.{File}
use Rattle.partition_commands.proofs.Open.{of_while, while_map}

module _ {D : Type 0} where
  -- bytes that a log takes are a run after its end
  pub taken_run : (x : Node D) (taken : Bool) (run bytes : List ℕ) → WhileUp x.log (λ log. IsTrue taken ↔ IsRunFor log.end log.line run) → taken ≡ true → run ≡ bytes → IsRunFor (end_of x) (line_of x) bytes
  taken_run x taken run bytes says on same =
      subst (IsRunFor (end_of x) (line_of x)) same (of_while (λ end line. IsRunFor end line run) x.log
      (while_map (λ log. IsTrue taken ↔ IsRunFor log.end log.line run) (λ log. IsRunFor log.end log.line run) x.log (λ log is. is.0 on) says))

module _ {D : Type 0} where
  -- a run that finds its segment is the same run
  not_full : (x : Node D) (run bytes : List ℕ) → run ≡ bytes → (IsFull x run → ⊥) → IsFull x bytes → ⊥
  not_full x run bytes same not full = not (subst (IsFull x) (sym same) full)

module _ {D : Type 0} (content : D → Content) (control : D → Control call_code) where
  pub extend_follows : (h : PartitionState D) (b : ℕ) (x : Node D) (g : StartSnapshot) (run : List ℕ) (answer : Answer) (h' : PartitionState D) → GoesOn h x g → g.end ≡ end_of x → IsSome (joined x.role) → IsRunFor (end_of x) (line_of x) (joined_bytes g.batches)
      → run ≡ joined_bytes g.batches → ExtendRow content control h b x run answer h' → FollowOnRow content control h b x g answer h'
  extend_follows h b x g run TooManySegments h' on end some is same w = (on, record { end = end; joined = some; run = is; low = subst (λ (r : List ℕ). last_of r < 2 ^ 62) same w.0 }, subst (IsFull x) same w.1, w.2)
  extend_follows h b x g run DiskFault h' on end some is same w = (on, record { end = end; joined = some; run = is; low = subst (λ (r : List ℕ). last_of r < 2 ^ 62) same w.0 }, not_full x run (joined_bytes g.batches) same w.1, w.2)
  extend_follows h b x g run (Passed n) h' on end some is same w =
      (on, w.1, (λ can. absurd (let low = can.low in let high : 2 ^ 62 ≤ last_of (joined_bytes g.batches) = subst (λ (r : List ℕ). 2 ^ 62 ≤ last_of r) same w.0 in omega (arith, low, high))), w.2)
  extend_follows h b x g run (Copied n) h' on end some is same w =
      (on, record { end = end; joined = some; run = is; low = subst (λ (r : List ℕ). last_of r < 2 ^ 62) same w.0 }, not_full x run (joined_bytes g.batches) same w.1, subst (λ (r : List ℕ). Extends content control h b x r n h') same w.2)
  extend_follows h b x g run other h' on end some is same w = elim w [ ]

  -- a read of the leader's log is a follow's first turn
  pub take_follows : (h : PartitionState D) (b : ℕ) (x y : Node D) (recorded : StartSnapshot) (limit : ℕ) (turned : Turned) (h' : PartitionState D) → is_up x ≡ true → IsCurrent h (joined x.role) → the_leader h ≡ Some y
      → end_of x < end_of y → local_of y ≤ end_of x → Notes h x recorded → TakeRow content control h h.registry.leader.0 y recorded limit turned h' → FollowRow content control h b x limit turned h'
  take_follows h b x y recorded limit (Begins g) h' up now is lt le n w = (
    up,
    now,
    some_at (λ y. (end_of x < end_of y) × (local_of y ≤ end_of x) × Takes content control h x y limit g h') (the_leader h) y is (
      lt,
      le,
      record {
        stops = ap (λ (k : StartSnapshot). k.stops) w.is ∙ n.stops;
        role = ap (λ (k : StartSnapshot). k.role) w.is ∙ n.role;
        end = ap (λ (k : StartSnapshot). k.end) w.is ∙ n.end;
        start = ap (λ (k : StartSnapshot). k.start) w.is ∙ n.start;
        kept = w.kept;
        out = w.out;
        reads = subst (λ (m : ℕ). ReadsRun content control y.log w.kept m limit (end_of y) w.out) (ap (λ (k : StartSnapshot). k.end) (sym w.is)) w.reads;
        quiet = w.quiet;
        batches = ap (λ (k : StartSnapshot). k.batches) w.is;
        after = w.after;
      },
    ),
  )
  take_follows h b x y recorded limit (Answers DiskFault) h' up now is lt le n w =
      (up, now, some_at (λ y. (end_of x < end_of y) × (local_of y ≤ end_of x) × NodeReadFails content control h h.registry.leader.0 y h') (the_leader h) y is (lt, le, w))
  take_follows h b x y recorded limit (Answers (Damaged (File name) at)) h' up now is lt le n w = (
    up,
    now,
    some_at (λ y. (end_of x < end_of y) × (local_of y ≤ end_of x) × NodeHasDamage content control h h.registry.leader.0 y (end_of x) limit (end_of y) name at h') (the_leader h) y is
        (lt, le, subst (λ (m : ℕ). NodeHasDamage content control h h.registry.leader.0 y m limit (end_of y) name at h') n.end w),
  )
  take_follows h b x y recorded limit other h' up now is lt le n w = elim w [ ]
