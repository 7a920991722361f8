-- A copy with which nothing interferes is answered `Copied`.
use Rattle.std.proofs.Common.{◌≡◌, ap, subst, refl, ℕ, ◌≤◌, List, slice_get, arith}
use Rattle.tier_base.specs.declared.names.SegmentId.{SegmentId}
use Rattle.disk_model.specs.declared.disk.Disk.{Ghosts as DiskGhosts}
use Rattle.object_store.specs.declared.store.Store.{Ghosts as StoreGhosts}
use Rattle.meta_log.specs.declared.log.MetaLog.{Ghosts as MetaGhosts}
use Rattle.copy_task.specs.Copying.{Copied}
use Rattle.copy_task.specs.declared.turn.CopyStep.{CopyStep}
use Rattle.plain_log.specs.declared.answer.Answer.{Answer}
use Rattle.plain_log.specs.declared.answer.Answer.TheVariants.{Down, NotLeader, CopyOff, MetaFault, LostLead, Level, DiskFault, StoreFault, Overtaken, CopiedSegment}
use Rattle.plain_log.specs.declared.command.ActorList.{ActorList}
use Rattle.plain_log.specs.declared.command.Command.TheVariants.{Copy}
use Rattle.plain_log.specs.declared.command.Order.{Order}
use Rattle.plain_log.specs.declared.state.State.{State}
use Rattle.laws_partition.specs.declared.start_snapshot.StartSnapshot.{StartSnapshot}
use Rattle.laws_partition.proofs.BoolTests.{some_of}
use Rattle.partition_commands.specs.declared.partition_state.Node.{Node}
use Rattle.tier_safe.proofs.Basics.{one_some}
use Rattle.partition_world.specs.declared.tier.BrokerTierState.{BrokerTierState}
use Rattle.partition_world.specs.declared.actor_state.Outcome.{Outcome}
use Rattle.partition_world.specs.declared.actor_state.Outcome.TheVariants.{Answers, Begins, Chose, Goes, Seeks as Sought, Dates as Dated, ChoosesExpired, Deletes, Rebuilds as Rebuilding}
use Rattle.partition_world.specs.declared.actor_state.ActorState.{ActorState}
use Rattle.partition_world.specs.declared.actor_state.InProgress.{InProgress}
use Rattle.partition_world.specs.declared.actor_state.InProgress.TheVariants.{Idle, Noted, Copies, Seeks, Dates, Expires, Rebuilds}
use Rattle.partition_world.specs.Infallible.{IsUnfailing}
use Rattle.partition_world.specs.Central.{IsCentral}
use Rattle.partition_world.specs.ActorStates.{chosen, moved, sought, dated, expired_segment, deleting, rebuilding, actor_state_after, IsUnanswered}
use Rattle.partition_world.specs.Tier.{AtBrokerTier}
use Rattle.partition_world.specs.Turn.{IsNextOrder, IsTurn}
use Rattle.partition_world.specs.Whole.{Whole}
use Rattle.partition_world.proofs.Begins.{begins_idle}
use Rattle.partition_world.proofs.CentralLaw.{turn_central}
use Rattle.laws_answers.specs.CausesOfCopies.{CopyHasCause, MayCopy}
use Rattle.laws_answers.specs.DeletionsKnown.{DeletionsKnown}
use Rattle.laws_answers.specs.Turns.{turns_left}
use Rattle.laws_answers.specs.Chains.{times, IsCommandAnswered, RunsTurns}
use Rattle.laws_answers.proofs.ChainsOfTurns.{run, own_turn}
use Rattle.laws_answers.specs.UnhinderedCopies.{IsFree, IsUnhindered}
use Rattle.laws_answers.proofs.Clear.{Clear, well_clear, turn_infallible, infallible_clear}
use Rattle.laws_answers.proofs.CopiesHaveCauses.{have_causes}
use Rattle.laws_answers.proofs.KnownOfCopies.{keep_known}

module _ {D S M : Type 0} (disk : DiskGhosts D) (store : StoreGhosts S) (meta : MetaGhosts M) where
  -- such an answer
  abbrev IsCopiedAnswer : Answer → Type 0
  IsCopiedAnswer answer = (id : SegmentId) × (base : ℕ) × (last : ℕ) × (answer ≡ CopiedSegment id base last)

  -- of the copy that the actor's state has, where it keeps one
  abbrev CopiedFor : InProgress → Answer → Type 0
  CopiedFor (Copies g copy next) answer = answer ≡ CopiedSegment copy.id copy.segment.base copy.segment.last
  CopiedFor other answer = IsCopiedAnswer answer

  copied_so : (in_progress : InProgress) (answer : Answer) → CopiedFor in_progress answer → IsCopiedAnswer answer
  copied_so Idle answer is = is
  copied_so (Noted g) answer is = is
  copied_so (Copies g copy next) answer is = (copy.id, copy.segment.base, copy.segment.last, is)
  copied_so (Seeks g next) answer is = is
  copied_so (Dates g cursor next) answer is = is
  copied_so (Expires g segment next) answer is = is
  copied_so (Rebuilds g next) answer is = is

  first_copied : (w : Whole D S M) (b : ℕ) (x : Node D) (broker_tier : BrokerTierState) (answer : Answer) (w' : Whole D S M) → CopyHasCause disk store meta w b x broker_tier Idle answer w' → MayCopy w x broker_tier Idle → Clear disk store meta b answer w w'
      → IsCopiedAnswer answer
  first_copied w b x broker_tier Down w' cause may clear = let up = may.0 in absurd (cc (cause, up))
  first_copied w b x broker_tier NotLeader w' cause may clear = let leads = may.1 in absurd (cc (cause, leads))
  first_copied w b x broker_tier CopyOff w' cause may clear = let off = cause.2 in let on = may.2 in absurd (cc (off, on))
  first_copied w b x broker_tier MetaFault w' cause may clear = absurd (clear.meta_clear refl cause.1)
  first_copied w b x broker_tier other w' cause may clear = elim cause [ ]

  second_copied : (w : Whole D S M) (b : ℕ) (x : Node D) (broker_tier : BrokerTierState) (g : _) (answer : Answer) (w' : Whole D S M) → CopyHasCause disk store meta w b x broker_tier (Noted g) answer w' → MayCopy w x broker_tier (Noted g)
      → Clear disk store meta b answer w w' → IsCopiedAnswer answer
  second_copied w b x broker_tier g LostLead w' cause may clear = absurd (cause may.0)
  second_copied w b x broker_tier g Level w' cause may clear = absurd (may.1 cause)
  second_copied w b x broker_tier g DiskFault w' cause may clear = absurd (clear.disk_clear refl cause)
  second_copied w b x broker_tier g other w' cause may clear = elim cause [ ]

  later_copied : (w : Whole D S M) (b : ℕ) (x : Node D) (broker_tier : BrokerTierState) (g : _) (copy : _) (next : CopyStep) (answer : Answer) (w' : Whole D S M) → CopyHasCause disk store meta w b x broker_tier (Copies g copy next) answer w'
      → MayCopy w x broker_tier (Copies g copy next) → Clear disk store meta b answer w w' → CopiedFor (Copies g copy next) answer
  later_copied w b x broker_tier g copy next LostLead w' cause may clear = absurd (cause may.0)
  later_copied w b x broker_tier g copy next MetaFault w' cause may clear = absurd (clear.meta_clear refl cause)
  later_copied w b x broker_tier g copy next StoreFault w' cause may clear = absurd (clear.store_clear refl cause)
  later_copied w b x broker_tier g copy next (Overtaken state) w' cause may clear = absurd (let low = cause.1 in let high = may.1 in omega (arith, low, high))
  later_copied w b x broker_tier g copy next (CopiedSegment id base last) w' cause may clear = let one = cause.id_is in let two = cause.base_is in let three = cause.last_is in cc (one, two, three)
  later_copied w b x broker_tier g copy next other w' cause may clear = elim cause [ ]

  any_copied : (w : Whole D S M) (b : ℕ) (x : Node D) (broker_tier : BrokerTierState) (in_progress : InProgress) (answer : Answer) (w' : Whole D S M) → CopyHasCause disk store meta w b x broker_tier in_progress answer w' → MayCopy w x broker_tier in_progress
      → Clear disk store meta b answer w w' → CopiedFor in_progress answer
  any_copied w b x broker_tier Idle answer w' cause may clear = first_copied w b x broker_tier answer w' cause may clear
  any_copied w b x broker_tier (Noted g) answer w' cause may clear = second_copied w b x broker_tier g answer w' cause may clear
  any_copied w b x broker_tier (Copies g copy next) answer w' cause may clear = later_copied w b x broker_tier g copy next answer w' cause may clear
  any_copied w b x broker_tier (Seeks g next) answer w' cause may clear = absurd cause
  any_copied w b x broker_tier (Dates g cursor next) answer w' cause may clear = absurd cause
  any_copied w b x broker_tier (Expires g segment next) answer w' cause may clear = absurd cause
  any_copied w b x broker_tier (Rebuilds g next) answer w' cause may clear = absurd cause

  -- what is known all along
  abbrev AllKnown : State → Whole D S M → Type 0
  AllKnown opening w = IsCentral disk store meta opening w × DeletionsKnown meta w

  turn_known : (opening : State) (v : Whole D S M) (b : ℕ) (outcome : Outcome) (u : Whole D S M) → IsTurn disk store meta v b outcome u → AllKnown opening v → AllKnown opening u
  turn_known opening v b outcome u t i = (turn_central disk store meta opening v b outcome u t i.0, keep_known disk store meta opening v b outcome u i.0 i.1 t)

  ends_copied : (opening : State) (place number : ℕ) (v : Whole D S M) (b : ℕ) (answer : Answer) (u : Whole D S M) (t : IsTurn disk store meta v b (Answers answer) u) → AllKnown opening v
      → IsFree disk store meta place number v b u → t.place ≡ place → t.actor_state.number ≡ number → t.order.command ≡ Copy → Clear disk store meta t.order.broker.0 answer v u → CopiedFor t.actor_state.in_progress answer
  ends_copied opening place number v b answer u t known free same number_is copies clear =
      let c = t.order.broker.0 in
      let h = free t.list t.actor_state t.order (own_turn disk store meta place v b (Answers answer) u t same) number_is in
      let x = some_of (λ x. AtBrokerTier v.tier c (λ broker_tier. CopyHasCause disk store meta v c x broker_tier t.actor_state.in_progress answer u)) (slice_get v.partition_state.nodes c) (have_causes disk store meta opening v b answer u known.0 known.1 t copies) in
      let broker_tier = some_of (λ broker_tier. CopyHasCause disk store meta v c x.0 broker_tier t.actor_state.in_progress answer u) (slice_get v.tier.broker_tiers c) x.2 in
      let y = some_of (λ x. AtBrokerTier v.tier c (λ broker_tier. MayCopy v x broker_tier t.actor_state.in_progress)) (slice_get v.partition_state.nodes c) h in
      let z = some_of (λ broker_tier. MayCopy v y.0 broker_tier t.actor_state.in_progress) (slice_get v.tier.broker_tiers c) y.2 in
      let may : MayCopy v x.0 broker_tier.0 t.actor_state.in_progress =
      subst (λ (k : Node D). MayCopy v k broker_tier.0 t.actor_state.in_progress) (one_some (slice_get v.partition_state.nodes c) y.0 x.0 y.1 x.1)
      (subst (λ (k : BrokerTierState). MayCopy v y.0 k t.actor_state.in_progress) (one_some (slice_get v.tier.broker_tiers c) z.0 broker_tier.0 z.1 broker_tier.1) z.2) in
      any_copied v c x.0 broker_tier.0 t.actor_state.in_progress answer u broker_tier.2 may clear

  free_copied : (opening : State) (place number : ℕ) (v : Whole D S M) (b : ℕ) (outcome : Outcome) (answer : Answer) (u : Whole D S M) (t : IsTurn disk store meta v b outcome u) → outcome ≡ Answers answer
      → AllKnown opening v → IsUnhindered disk store meta place number v b u → t.place ≡ place → t.actor_state.number ≡ number → t.order.command ≡ Copy → CopiedFor t.actor_state.in_progress answer
  free_copied opening place number v b (Answers k) answer u t is known free same number_is copies =
      let one : k ≡ answer = cc (is) in
      let well = free.1 t.list t.actor_state t.order (own_turn disk store meta place v b (Answers k) u t same) number_is in
      let clear = well_clear disk store meta t.order.broker.0 k v u well in
      subst (CopiedFor t.actor_state.in_progress) one (ends_copied opening place number v b k u t known free.0 same number_is copies clear)
  free_copied opening place number v b other answer u t is known free same number_is copies = absurd (cc (is))

  pub are_copied : (opening : State) (w : Whole D S M) (a place : ℕ) (l : ActorList) (actor_state : ActorState) (order : Order) (actors : List ℕ) (w' : Whole D S M) → IsCentral disk store meta opening w
      → DeletionsKnown meta w → IsNextOrder w a place l actor_state order → order.command ≡ Copy → RunsTurns disk store meta (IsUnhindered disk store meta place actor_state.number) w actors w'
      → turns_left Copy actor_state.in_progress ≤ times a actors → (id : SegmentId) × (base : ℕ) × (last : ℕ) × IsCommandAnswered w' l.actor actor_state.number (CopiedSegment id base last)
  are_copied opening w a place l actor_state order actors w' c known next copies r le =
      let k = run disk store meta (AllKnown opening) (IsUnhindered disk store meta place actor_state.number) (λ in_progress. Unit {0}) IsCopiedAnswer Copy a place actor_state.number l (turn_known opening)
      (λ v b outcome answer u t is i p same number copy works. copied_so t.actor_state.in_progress answer (free_copied opening place actor_state.number v b outcome answer u t is i p same number copy)) (λ v b outcome u t un works. tt) actors w w'
      (record { rising = c.central.stands.rising; actor_state = actor_state; order = order; next = next; number_is = refl; kind_is = copies; works = tt }) (c, known) r le in
      let is = k.1 in
      (is.0, is.1, is.2, subst (IsCommandAnswered w' l.actor actor_state.number) is.3 k.2)

  -- a copy that has chosen its segment

  -- the actor's state has it
  abbrev IsOf : StartSnapshot → Copied → InProgress → Type 0
  IsOf g copy in_progress = (next : CopyStep) × (in_progress ≡ Copies g copy next)

  still_of : (g : StartSnapshot) (copy : Copied) (v : Whole D S M) (b : ℕ) (outcome : Outcome) (u : Whole D S M) (t : IsTurn disk store meta v b outcome u) → IsUnanswered outcome → IsOf g copy t.actor_state.in_progress
      → IsOf g copy (actor_state_after t.actor_state outcome).in_progress
  still_of g copy v b (Answers answer) u t un of = absurd un
  still_of g copy v b (Begins f) u t un of =
      let idle = begins_idle disk store meta v.partition v.config v.partition_state v.tier t.order.broker.0 t.actor_state.in_progress t.order.command f u.partition_state u.tier t.row in
      let works = of.1 in
      absurd (cc (idle, works))
  still_of g copy v b (Chose k) u t un of = (of.0, ap (λ (in_progress : InProgress). chosen in_progress k) of.1)
  still_of g copy v b (Goes next) u t un of = (next, ap (λ (in_progress : InProgress). moved in_progress next) of.1)
  still_of g copy v b (Sought next) u t un of = (of.0, ap (λ (in_progress : InProgress). sought in_progress next) of.1)
  still_of g copy v b (Dated cursor next) u t un of = (of.0, ap (λ (in_progress : InProgress). dated in_progress cursor next) of.1)
  still_of g copy v b (ChoosesExpired segment) u t un of = (of.0, ap (λ (in_progress : InProgress). expired_segment in_progress segment) of.1)
  still_of g copy v b (Deletes next) u t un of = (of.0, ap (λ (in_progress : InProgress). deleting in_progress next) of.1)
  still_of g copy v b (Rebuilding next) u t un of = (of.0, ap (λ (in_progress : InProgress). rebuilding in_progress next) of.1)

  pub chosen_copied : (opening : State) (w : Whole D S M) (a place : ℕ) (l : ActorList) (actor_state : ActorState) (order : Order) (g : StartSnapshot) (copy : Copied) (next : CopyStep) (actors : List ℕ) (w' : Whole D S M)
      → IsCentral disk store meta opening w → DeletionsKnown meta w → IsNextOrder w a place l actor_state order → order.command ≡ Copy → actor_state.in_progress ≡ Copies g copy next
      → RunsTurns disk store meta (IsUnhindered disk store meta place actor_state.number) w actors w' → turns_left Copy actor_state.in_progress ≤ times a actors
      → IsCommandAnswered w' l.actor actor_state.number (CopiedSegment copy.id copy.segment.base copy.segment.last)
  chosen_copied opening w a place l actor_state order g copy next actors w' c known at copies works r le =
      let k = run disk store meta (AllKnown opening) (IsUnhindered disk store meta place actor_state.number) (IsOf g copy) (λ answer. answer ≡ CopiedSegment copy.id copy.segment.base copy.segment.last) Copy a place actor_state.number l (turn_known opening)
      (λ v b outcome answer u t is i p same number copy of. subst (λ (in_progress : InProgress). CopiedFor in_progress answer) of.1 (free_copied opening place actor_state.number v b outcome answer u t is i p same number copy)) (still_of g copy) actors w w'
      (record { rising = c.central.stands.rising; actor_state = actor_state; order = order; next = at; number_is = refl; kind_is = copies; works = (next, works) }) (c, known) r le in
      subst (IsCommandAnswered w' l.actor actor_state.number) k.1 k.2

  -- over devices of which no call can fail

  ends_infallible : (opening : State) (place number : ℕ) (v : Whole D S M) (b : ℕ) (outcome : Outcome) (answer : Answer) (u : Whole D S M) (t : IsTurn disk store meta v b outcome u) → outcome ≡ Answers answer
      → AllKnown opening v × IsUnfailing disk store meta v → IsFree disk store meta place number v b u → t.place ≡ place → t.actor_state.number ≡ number → t.order.command ≡ Copy → Unit {0} → IsCopiedAnswer answer
  ends_infallible opening place number v b (Answers k) answer u t is known free same number_is copies works =
      let one : k ≡ answer = cc (is) in
      let clear = infallible_clear disk store meta v b k u t known.1 in
      subst IsCopiedAnswer one (copied_so t.actor_state.in_progress k (ends_copied opening place number v b k u t known.0 free same number_is copies clear))
  ends_infallible opening place number v b other answer u t is known free same number_is copies works = absurd (cc (is))

  pub infallible_copied : (opening : State) (w : Whole D S M) (a place : ℕ) (l : ActorList) (actor_state : ActorState) (order : Order) (actors : List ℕ) (w' : Whole D S M) → IsCentral disk store meta opening w
      → DeletionsKnown meta w → IsUnfailing disk store meta w → IsNextOrder w a place l actor_state order → order.command ≡ Copy → RunsTurns disk store meta (IsFree disk store meta place actor_state.number) w actors w'
      → turns_left Copy actor_state.in_progress ≤ times a actors → (id : SegmentId) × (base : ℕ) × (last : ℕ) × IsCommandAnswered w' l.actor actor_state.number (CopiedSegment id base last)
  infallible_copied opening w a place l actor_state order actors w' c known infallible next copies r le =
      let k = run disk store meta (λ v. AllKnown opening v × IsUnfailing disk store meta v) (IsFree disk store meta place actor_state.number) (λ in_progress. Unit {0}) IsCopiedAnswer Copy a place actor_state.number l
      (λ v b outcome u t i. (turn_known opening v b outcome u t i.0, turn_infallible disk store meta v b outcome u t i.1)) (ends_infallible opening place actor_state.number) (λ v b outcome u t un works. tt) actors w w'
      (record { rising = c.central.stands.rising; actor_state = actor_state; order = order; next = next; number_is = refl; kind_is = copies; works = tt }) ((c, known), infallible) r le in
      let is = k.1 in
      (is.0, is.1, is.2, subst (IsCommandAnswered w' l.actor actor_state.number) is.3 k.2)
