-- A join that nothing hinders returns a cut or a restart.
use Rattle.std.proofs.Common.{◌≡◌, inl, inr, subst, refl, ℕ, ◌≤◌, List, Some, None, Option, slice_get, arith}
use Rattle.disk_model.specs.declared.disk.Disk.{Ghosts as DiskGhosts}
use Rattle.object_store.specs.declared.store.Store.{Ghosts as StoreGhosts}
use Rattle.meta_log.specs.declared.log.MetaLog.{Ghosts as MetaGhosts}
use Rattle.rebuild_task.specs.declared.turn.RebuildStep.TheVariants.{Epochs, Restart}
use Rattle.plain_log.specs.declared.answer.Answer.{Answer}
use Rattle.plain_log.specs.declared.answer.Answer.TheVariants.{Down, NotFollower, StaleEpoch, NoLeader, Cut, DiskFaultAt, Stopped, Passed, BelowStart, MetaFault, StoreFault, Rebuilt}
use Rattle.plain_log.specs.declared.command.ActorList.{ActorList}
use Rattle.plain_log.specs.declared.command.Command.TheVariants.{Join}
use Rattle.plain_log.specs.declared.command.Order.{Order}
use Rattle.plain_log.specs.declared.state.State.{State}
use Rattle.plain_log.specs.State.{followed}
use Rattle.laws_partition.specs.declared.start_snapshot.StartSnapshot.{StartSnapshot}
use Rattle.laws_partition.proofs.BoolTests.{some_of}
use Rattle.partition_commands.specs.declared.partition_state.Node.{Node}
use Rattle.partition_commands.specs.declared.partition_state.PartitionState.{PartitionState}
use Rattle.partition_commands.specs.TurnsOfFollowers.{IsStale, IsCurrent, MayRebuild}
use Rattle.tier_safe.proofs.Basics.{one_some}
use Rattle.partition_world.specs.declared.actor_state.Outcome.{Outcome}
use Rattle.partition_world.specs.declared.actor_state.Outcome.TheVariants.{Answers}
use Rattle.partition_world.specs.declared.actor_state.ActorState.{ActorState}
use Rattle.partition_world.specs.declared.actor_state.InProgress.{InProgress}
use Rattle.partition_world.specs.declared.actor_state.InProgress.TheVariants.{Idle, Noted, Rebuilds}
use Rattle.partition_world.specs.Infallible.{IsUnfailing}
use Rattle.partition_world.specs.Central.{IsCentral}
use Rattle.partition_world.specs.Turn.{IsNextOrder, IsTurn}
use Rattle.partition_world.specs.TurnsOfFetch.{HasStopped}
use Rattle.partition_world.specs.TurnsOfRebuild.{AnswersAtOnce}
use Rattle.partition_world.specs.Whole.{Whole}
use Rattle.partition_world.proofs.CentralLaw.{turn_central}
use Rattle.laws_answers.specs.Turns.{turns_left}
use Rattle.laws_answers.specs.Chains.{times, IsCommandAnswered, RunsTurns}
use Rattle.laws_answers.proofs.ChainsOfTurns.{run, own_turn}
use Rattle.laws_answers.proofs.Clear.{Clear, well_clear, turn_infallible, infallible_clear}
use Rattle.laws_answers.specs.CausesOfJoins.{JoinFirstCause, RestartCause, RefreshCause, EpochsCause, JoinHasCause, MayJoin, IsJoined}
use Rattle.laws_answers.specs.UnhinderedJoins.{IsFree, IsUnhindered}
use Rattle.laws_answers.proofs.JoinsHaveCauses.{have_causes}

-- an epoch isn't both above and not
stale_never : {D : Type 0} (h : PartitionState D) (e : Option ℕ) → IsStale h e → IsCurrent h e → ⊥
stale_never h None stale now = stale
stale_never h (Some e) stale now = omega (arith, stale, now)

-- who follows nobody isn't of the registry's epoch
none_never : {D : Type 0} (h : PartitionState D) (e : Option ℕ) → e ≡ None → IsCurrent h e → ⊥
none_never h e is now = subst (IsCurrent h) is now

module _ {D : Type 0} where
  stopped_never : (h : PartitionState D) (x : Node D) (g : StartSnapshot) → HasStopped x g → MayRebuild h x g → ⊥
  stopped_never h x g (inl differs) may = differs may.0.0
  stopped_never h x g (inr down) may = let up = may.0.1 in cc (down, up)

  -- a join that may continue isn't answered before it does
  once_never : (h : PartitionState D) (x : Node D) (g : StartSnapshot) (answer : Answer) → AnswersAtOnce h x g answer → MayRebuild h x g → ⊥
  once_never h x g Stopped is may = stopped_never h x g is may
  once_never h x g (StaleEpoch n) is may = may.0.2 is.1
  once_never h x g (Passed n) is may = is.2 may.1
  once_never h x g (BelowStart start) is may = may.2 (is.3, subst (λ (n : ℕ). g.wanted ≤ n) is.2 is.4)
  once_never h x g other is may = elim is [ ]

module _ {D S M : Type 0} (disk : DiskGhosts D) (store : StoreGhosts S) (meta : MetaGhosts M) where
  first_joined : (w : Whole D S M) (b : ℕ) (x : Node D) (answer : Answer) (w' : Whole D S M) → JoinFirstCause disk store meta w b x answer w' → MayJoin w x Idle → Clear disk store meta b answer w w'
      → IsJoined answer
  first_joined w b x Down w' cause may clear = let up = may.0 in absurd (cc (cause, up))
  first_joined w b x NotFollower w' cause may clear = absurd (none_never w.partition_state (followed x.role) cause may.1)
  first_joined w b x (StaleEpoch n) w' cause may clear = absurd (stale_never w.partition_state (followed x.role) cause.0 may.1)
  first_joined w b x NoLeader w' cause may clear = absurd (may.2 cause)
  first_joined w b x (Cut n) w' cause may clear = (n, inl refl)
  first_joined w b x (DiskFaultAt n) w' cause may clear = absurd (clear.end_clear n refl cause)
  first_joined w b x other w' cause may clear = elim cause [ ]

  restart_joined : (w : Whole D S M) (b : ℕ) (x : Node D) (g : StartSnapshot) (answer : Answer) (w' : Whole D S M) → RestartCause disk store meta w b x g answer w' → MayRebuild w.partition_state x g
      → Clear disk store meta b answer w w' → IsJoined answer
  restart_joined w b x g (DiskFaultAt n) w' cause may clear = absurd (clear.end_clear n refl cause)
  restart_joined w b x g (Rebuilt n) w' cause may clear = (n, inr refl)
  restart_joined w b x g other w' cause may clear = absurd (once_never w.partition_state x g other cause may)

  refresh_joined : (w : Whole D S M) (b : ℕ) (x : Node D) (g : StartSnapshot) (answer : Answer) (w' : Whole D S M) → RefreshCause disk store meta w x g answer w' → MayRebuild w.partition_state x g
      → Clear disk store meta b answer w w' → IsJoined answer
  refresh_joined w b x g MetaFault w' cause may clear = absurd (clear.meta_clear refl cause)
  refresh_joined w b x g other w' cause may clear = absurd (once_never w.partition_state x g other cause may)

  epochs_joined : (w : Whole D S M) (b : ℕ) (x : Node D) (g : StartSnapshot) (answer : Answer) (w' : Whole D S M) → EpochsCause disk store meta w x g answer w' → MayRebuild w.partition_state x g
      → Clear disk store meta b answer w w' → IsJoined answer
  epochs_joined w b x g StoreFault w' cause may clear = absurd (clear.store_clear refl cause)
  epochs_joined w b x g other w' cause may clear = absurd (once_never w.partition_state x g other cause may)

  any_joined : (w : Whole D S M) (b : ℕ) (x : Node D) (in_progress : InProgress) (answer : Answer) (w' : Whole D S M) → JoinHasCause disk store meta w b x in_progress answer w' → MayJoin w x in_progress
      → Clear disk store meta b answer w w' → IsJoined answer
  any_joined w b x Idle answer w' cause may clear = first_joined w b x answer w' cause may clear
  any_joined w b x (Noted g) answer w' (inl cause) may clear = restart_joined w b x g answer w' cause.1 may clear
  any_joined w b x (Noted g) answer w' (inr cause) may clear = refresh_joined w b x g answer w' cause.1 may clear
  any_joined w b x (Rebuilds g Epochs) answer w' cause may clear = epochs_joined w b x g answer w' cause may clear
  any_joined w b x (Rebuilds g (Restart line)) answer w' cause may clear = restart_joined w b x g answer w' cause may clear
  any_joined w b x other answer w' cause may clear = absurd cause

  ends_joined : (opening : State) (place number : ℕ) (v : Whole D S M) (b : ℕ) (answer : Answer) (u : Whole D S M) (t : IsTurn disk store meta v b (Answers answer) u) → IsCentral disk store meta opening v
      → IsFree disk store meta place number v b u → t.place ≡ place → t.actor_state.number ≡ number → t.order.command ≡ Join → Clear disk store meta t.order.broker.0 answer v u → IsJoined answer
  ends_joined opening place number v b answer u t central free same number_is joins clear =
      let c = t.order.broker.0 in
      let h = free t.list t.actor_state t.order (own_turn disk store meta place v b (Answers answer) u t same) number_is in
      let x = some_of (λ x. JoinHasCause disk store meta v c x t.actor_state.in_progress answer u) (slice_get v.partition_state.nodes c) (have_causes disk store meta opening v b answer u central t joins) in
      let y = some_of (λ x. MayJoin v x t.actor_state.in_progress) (slice_get v.partition_state.nodes c) h in
      let may : MayJoin v x.0 t.actor_state.in_progress = subst (λ (n : Node D). MayJoin v n t.actor_state.in_progress) (one_some (slice_get v.partition_state.nodes c) y.0 x.0 y.1 x.1) y.2 in
      any_joined v c x.0 t.actor_state.in_progress answer u x.2 may clear

  free_joined : (opening : State) (place number : ℕ) (v : Whole D S M) (b : ℕ) (outcome : Outcome) (answer : Answer) (u : Whole D S M) (t : IsTurn disk store meta v b outcome u) → outcome ≡ Answers answer
      → IsCentral disk store meta opening v → IsUnhindered disk store meta place number v b u → t.place ≡ place → t.actor_state.number ≡ number → t.order.command ≡ Join → IsJoined answer
  free_joined opening place number v b (Answers k) answer u t is central free same number_is joins =
      let one : k ≡ answer = cc (is) in
      let well = free.1 t.list t.actor_state t.order (own_turn disk store meta place v b (Answers k) u t same) number_is in
      subst IsJoined one (ends_joined opening place number v b k u t central free.0 same number_is joins (well_clear disk store meta t.order.broker.0 k v u well))
  free_joined opening place number v b other answer u t is central free same number_is joins = absurd (cc (is))

  pub are_joined : (opening : State) (w : Whole D S M) (a place : ℕ) (l : ActorList) (actor_state : ActorState) (order : Order) (actors : List ℕ) (w' : Whole D S M) → IsCentral disk store meta opening w
      → IsNextOrder w a place l actor_state order → order.command ≡ Join → RunsTurns disk store meta (IsUnhindered disk store meta place actor_state.number) w actors w' → turns_left Join actor_state.in_progress ≤ times a actors
      → (answer : Answer) × IsJoined answer × IsCommandAnswered w' l.actor actor_state.number answer
  are_joined opening w a place l actor_state order actors w' c next joins r le =
      run disk store meta (IsCentral disk store meta opening) (IsUnhindered disk store meta place actor_state.number) (λ in_progress. Unit {0}) IsJoined Join a place actor_state.number l
      (λ v b outcome u t central. turn_central disk store meta opening v b outcome u t central)
      (λ v b outcome answer u t is central free same number join works. free_joined opening place actor_state.number v b outcome answer u t is central free same number join) (λ v b outcome u t un works. tt) actors w w'
      (record { rising = c.central.stands.rising; actor_state = actor_state; order = order; next = next; number_is = refl; kind_is = joins; works = tt }) c r le

  -- over devices of which no call can fail

  ends_infallible : (opening : State) (place number : ℕ) (v : Whole D S M) (b : ℕ) (outcome : Outcome) (answer : Answer) (u : Whole D S M) (t : IsTurn disk store meta v b outcome u) → outcome ≡ Answers answer
      → IsCentral disk store meta opening v × IsUnfailing disk store meta v → IsFree disk store meta place number v b u → t.place ≡ place → t.actor_state.number ≡ number → t.order.command ≡ Join → IsJoined answer
  ends_infallible opening place number v b (Answers k) answer u t is known free same number_is joins =
      let one : k ≡ answer = cc (is) in
      subst IsJoined one (ends_joined opening place number v b k u t known.0 free same number_is joins (infallible_clear disk store meta v b k u t known.1))
  ends_infallible opening place number v b other answer u t is known free same number_is joins = absurd (cc (is))

  pub infallible_joined : (opening : State) (w : Whole D S M) (a place : ℕ) (l : ActorList) (actor_state : ActorState) (order : Order) (actors : List ℕ) (w' : Whole D S M) → IsCentral disk store meta opening w
      → IsUnfailing disk store meta w → IsNextOrder w a place l actor_state order → order.command ≡ Join → RunsTurns disk store meta (IsFree disk store meta place actor_state.number) w actors w' → turns_left Join actor_state.in_progress ≤ times a actors
      → (answer : Answer) × IsJoined answer × IsCommandAnswered w' l.actor actor_state.number answer
  infallible_joined opening w a place l actor_state order actors w' c infallible next joins r le =
      run disk store meta (λ v. IsCentral disk store meta opening v × IsUnfailing disk store meta v) (IsFree disk store meta place actor_state.number) (λ in_progress. Unit {0}) IsJoined Join a place actor_state.number l
      (λ v b outcome u t i. (turn_central disk store meta opening v b outcome u t i.0, turn_infallible disk store meta v b outcome u t i.1))
      (λ v b outcome answer u t is i p same number join works. ends_infallible opening place actor_state.number v b outcome answer u t is i p same number join) (λ v b outcome u t un works. tt) actors w w'
      (record { rising = c.central.stands.rising; actor_state = actor_state; order = order; next = next; number_is = refl; kind_is = joins; works = tt }) (c, infallible) r le
