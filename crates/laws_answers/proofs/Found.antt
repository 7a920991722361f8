-- A timestamp lookup with which nothing interferes returns an offset, or by that there is none.
use Rattle.std.proofs.Common.{◌≡◌, subst, refl, ℕ, ◌≤◌, List, slice_get}
use Rattle.std.specs.Prelude.{ℤ}
use Rattle.disk_model.specs.declared.disk.Disk.{Ghosts as DiskGhosts}
use Rattle.object_store.specs.declared.store.Store.{Ghosts as StoreGhosts}
use Rattle.meta_log.specs.declared.log.MetaLog.{Ghosts as MetaGhosts}
use Rattle.plain_log.specs.declared.answer.Answer.{Answer}
use Rattle.plain_log.specs.declared.answer.Answer.TheVariants.{Down, NotLeader, MetaFault, StoreFault, DiskFault, Damaged, Stopped, Offset as OffsetAnswer, NoOffset}
use Rattle.plain_log.specs.declared.answer.Place.{Place}
use Rattle.plain_log.specs.declared.command.ActorList.{ActorList}
use Rattle.plain_log.specs.declared.command.Command.TheVariants.{Offset}
use Rattle.plain_log.specs.declared.command.Order.{Order}
use Rattle.plain_log.specs.declared.command.Which.TheVariants.{At}
use Rattle.plain_log.specs.declared.state.State.{State}
use Rattle.laws_partition.specs.declared.start_snapshot.StartSnapshot.{StartSnapshot}
use Rattle.laws_partition.proofs.BoolTests.{some_of}
use Rattle.partition_commands.specs.declared.partition_state.Node.{Node}
use Rattle.tier_safe.proofs.Basics.{one_some}
use Rattle.partition_world.specs.declared.actor_state.Outcome.{Outcome}
use Rattle.partition_world.specs.declared.actor_state.Outcome.TheVariants.{Answers}
use Rattle.partition_world.specs.declared.actor_state.ActorState.{ActorState}
use Rattle.partition_world.specs.declared.actor_state.InProgress.{InProgress}
use Rattle.partition_world.specs.declared.actor_state.InProgress.TheVariants.{Idle, Noted, Dates}
use Rattle.partition_world.specs.declared.tier.BrokerTierState.{BrokerTierState}
use Rattle.partition_world.specs.Infallible.{IsUnfailing}
use Rattle.partition_world.specs.Central.{IsCentral}
use Rattle.partition_world.specs.Tier.{AtBrokerTier}
use Rattle.partition_world.specs.Turn.{IsNextOrder, IsTurn}
use Rattle.partition_world.specs.TurnsOfCopy.{KeepsLead}
use Rattle.partition_world.specs.Whole.{Whole}
use Rattle.partition_world.proofs.CentralLaw.{turn_central}
use Rattle.laws_answers.specs.CausesOfOffsets.{OffsetFirstCause, SearchCause, OffsetHasCause, MaySearch}
use Rattle.laws_answers.specs.FoundByTime.{SearchesKnown}
use Rattle.laws_answers.specs.Turns.{turns_left, search_left}
use Rattle.laws_answers.specs.Chains.{times, IsCommandAnswered, KnowsUpTo, RunsTurns}
use Rattle.laws_answers.specs.UnhinderedSearches.{IsSearchAnswer, IsFree, IsUnhindered}
use Rattle.laws_answers.proofs.ChainsOfTurns.{own_turn, run, run_by}
use Rattle.laws_answers.proofs.Clear.{Clear, well_clear, infallible_clear, turn_infallible}
use Rattle.laws_answers.proofs.Marked.{search_left_some, closer}
use Rattle.laws_answers.proofs.KnownOfSearches.{keep_searches}
use Rattle.laws_answers.proofs.OffsetsHaveCauses.{have_causes}
use Rattle.laws_answers.proofs.SearchesTell.{none_damaged}
use Rattle.laws_answers.proofs.Served.{stopped_never}

-- the answer isn't damage
abbrev IsWhole : Answer → Type 0
IsWhole answer = (place : Place) (at : ℕ) → answer ≡ Damaged place at → ⊥

module _ {D S M : Type 0} (disk : DiskGhosts D) (store : StoreGhosts S) (meta : MetaGhosts M) where
  first_found : (w : Whole D S M) (b : ℕ) (x : Node D) (ts : ℤ) (answer : Answer) (w' : Whole D S M)
      → OffsetFirstCause disk store meta w x (At ts) answer w' → MaySearch x Idle → Clear disk store meta b answer w w' → IsSearchAnswer answer
  first_found w b x ts Down w' cause may clear = let up = may.0 in absurd (cc (cause, up))
  first_found w b x ts NotLeader w' cause may clear = let leads = may.1 in absurd (cc (cause, leads))
  first_found w b x ts (OffsetAnswer n) w' cause may clear = tt
  first_found w b x ts MetaFault w' cause may clear = absurd (clear.meta_clear refl cause.1)
  first_found w b x ts other w' cause may clear = elim cause [ ]

  later_found : (w : Whole D S M) (b : ℕ) (x : Node D) (g : StartSnapshot) (cursor : ℕ) (answer : Answer) (w' : Whole D S M)
      → SearchCause disk store meta w b x g cursor answer w' → KeepsLead x g → Clear disk store meta b answer w w' → IsWhole answer
      → IsSearchAnswer answer
  later_found w b x g cursor Stopped w' cause keeps clear whole = absurd (stopped_never disk store meta x g cause keeps)
  later_found w b x g cursor NotLeader w' cause keeps clear whole = absurd (cause keeps.role)
  later_found w b x g cursor MetaFault w' cause keeps clear whole = absurd (clear.meta_clear refl cause.1)
  later_found w b x g cursor StoreFault w' cause keeps clear whole = absurd (clear.store_clear refl cause.1)
  later_found w b x g cursor DiskFault w' cause keeps clear whole = absurd (clear.disk_clear refl cause.1)
  later_found w b x g cursor NoOffset w' cause keeps clear whole = tt
  later_found w b x g cursor (OffsetAnswer n) w' cause keeps clear whole = tt
  later_found w b x g cursor (Damaged place at) w' cause keeps clear whole = absurd (whole place at refl)
  later_found w b x g cursor other w' cause keeps clear whole = elim cause [ ]

  any_found : (w : Whole D S M) (b : ℕ) (x : Node D) (broker_tier : BrokerTierState) (ts : ℤ) (in_progress : InProgress) (answer : Answer) (w' : Whole D S M)
      → OffsetHasCause disk store meta w b x broker_tier in_progress (At ts) answer w' → MaySearch x in_progress → Clear disk store meta b answer w w'
      → IsWhole answer → IsSearchAnswer answer
  any_found w b x broker_tier ts Idle answer w' cause may clear whole = first_found w b x ts answer w' cause may clear
  any_found w b x broker_tier ts (Noted g) answer w' cause may clear whole = later_found w b x g 0 answer w' cause may clear whole
  any_found w b x broker_tier ts (Dates g cursor next) answer w' cause may clear whole = later_found w b x g cursor answer w' cause may clear whole
  any_found w b x broker_tier ts other answer w' cause may clear whole = absurd cause

  -- what is known all along
  abbrev AllKnown : State → Whole D S M → Type 0
  AllKnown opening w = IsCentral disk store meta opening w × SearchesKnown meta opening w

  turn_known : (opening : State) (v : Whole D S M) (b : ℕ) (outcome : Outcome) (u : Whole D S M) → IsTurn disk store meta v b outcome u
      → AllKnown opening v → AllKnown opening u
  turn_known opening v b outcome u t i =
      (turn_central disk store meta opening v b outcome u t i.0, keep_searches disk store meta opening v b outcome u i.0 i.1 t)

  undamaged : (opening : State) (v : Whole D S M) (b : ℕ) (ts : ℤ) (answer : Answer) (u : Whole D S M)
      (t : IsTurn disk store meta v b (Answers answer) u) → AllKnown opening v → t.order.command ≡ Offset (At ts) → IsWhole answer
  undamaged opening v b ts (Damaged place at) u t known asks p n e =
      none_damaged disk store meta opening v b place at u ts known.0 known.1 t asks
  undamaged opening v b ts other u t known asks p n e = cc (e)

  ends_found : (opening : State) (place number : ℕ) (ts : ℤ) (v : Whole D S M) (b : ℕ) (answer : Answer) (u : Whole D S M)
      (t : IsTurn disk store meta v b (Answers answer) u) → AllKnown opening v → IsFree disk store meta place number v b u
      → t.place ≡ place → t.actor_state.number ≡ number → t.order.command ≡ Offset (At ts)
      → Clear disk store meta t.order.broker.0 answer v u → IsSearchAnswer answer
  ends_found opening place number ts v b answer u t known free same number_is asks clear =
      let c = t.order.broker.0 in
      let h = free t.list t.actor_state t.order (own_turn disk store meta place v b (Answers answer) u t same) number_is in
      let x = some_of (λ x. AtBrokerTier v.tier c (λ broker_tier. OffsetHasCause disk store meta v c x broker_tier t.actor_state.in_progress (At ts) answer u))
      (slice_get v.partition_state.nodes c) (have_causes disk store meta v b answer u (At ts) t asks) in
      let broker_tier = some_of (λ broker_tier. OffsetHasCause disk store meta v c x.0 broker_tier t.actor_state.in_progress (At ts) answer u) (slice_get v.tier.broker_tiers c) x.2 in
      let y = some_of (λ x. MaySearch x t.actor_state.in_progress) (slice_get v.partition_state.nodes c) h in
      let may : MaySearch x.0 t.actor_state.in_progress =
      subst (λ (k : Node D). MaySearch k t.actor_state.in_progress) (one_some (slice_get v.partition_state.nodes c) y.0 x.0 y.1 x.1) y.2 in
      any_found v c x.0 broker_tier.0 ts t.actor_state.in_progress answer u broker_tier.2 may clear (undamaged opening v b ts answer u t known asks)

  free_found : (opening : State) (place number : ℕ) (ts : ℤ) (v : Whole D S M) (b : ℕ) (outcome : Outcome) (answer : Answer)
      (u : Whole D S M) (t : IsTurn disk store meta v b outcome u) → outcome ≡ Answers answer → AllKnown opening v
      → IsUnhindered disk store meta place number v b u → t.place ≡ place → t.actor_state.number ≡ number → t.order.command ≡ Offset (At ts)
      → IsSearchAnswer answer
  free_found opening place number ts v b (Answers k) answer u t is known free same number_is asks =
      let one : k ≡ answer = cc (is) in
      let well = free.1 t.list t.actor_state t.order (own_turn disk store meta place v b (Answers k) u t same) number_is in
      subst IsSearchAnswer one (ends_found opening place number ts v b k u t known free.0 same number_is asks
      (well_clear disk store meta t.order.broker.0 k v u well))
  free_found opening place number ts v b other answer u t is known free same number_is asks = absurd (cc (is))

  pub are_found : (opening : State) (w : Whole D S M) (a place : ℕ) (l : ActorList) (actor_state : ActorState) (order : Order) (ts : ℤ)
      (actors : List ℕ) (w' : Whole D S M) → IsCentral disk store meta opening w → SearchesKnown meta opening w
      → IsNextOrder w a place l actor_state order → order.command ≡ Offset (At ts)
      → RunsTurns disk store meta (IsUnhindered disk store meta place actor_state.number) w actors w'
      → turns_left (Offset (At ts)) actor_state.in_progress ≤ times a actors
      → (answer : Answer) × IsSearchAnswer answer × IsCommandAnswered w' l.actor actor_state.number answer
  are_found opening w a place l actor_state order ts actors w' c known next asks r le =
      run disk store meta (AllKnown opening) (IsUnhindered disk store meta place actor_state.number) (λ in_progress. Unit {0}) IsSearchAnswer
      (Offset (At ts)) a place actor_state.number l (turn_known opening)
      (λ v b outcome answer u t is i p same number ask works. free_found opening place actor_state.number ts v b outcome answer u t is i p same
      number ask) (λ v b outcome u t un works. tt) actors w w'
      (record {
        rising = c.central.stands.rising;
        actor_state = actor_state;
        order = order;
        next = next;
        number_is = refl;
        kind_is = asks;
        works = tt;
      }) (c, known) r le

  pub marked_found : (opening : State) (w : Whole D S M) (a place : ℕ) (l : ActorList) (actor_state : ActorState) (order : Order) (ts : ℤ) (mark : ℕ)
      (actors : List ℕ) (w' : Whole D S M) → IsCentral disk store meta opening w → SearchesKnown meta opening w
      → IsNextOrder w a place l actor_state order → order.command ≡ Offset (At ts)
      → RunsTurns disk store meta (λ v b u. IsUnhindered disk store meta place actor_state.number v b u × KnowsUpTo mark place actor_state.number v b u)
      w actors w'
      → search_left mark actor_state.in_progress ≤ times a actors
      → (answer : Answer) × IsSearchAnswer answer × IsCommandAnswered w' l.actor actor_state.number answer
  marked_found opening w a place l actor_state order ts mark actors w' c known next asks r le =
      run_by disk store meta (AllKnown opening)
      (λ v b u. IsUnhindered disk store meta place actor_state.number v b u × KnowsUpTo mark place actor_state.number v b u) (λ in_progress. Unit {0}) IsSearchAnswer
      (Offset (At ts)) a place actor_state.number l (search_left mark) (search_left_some mark)
      (λ v b outcome u t un p same number ask. closer disk store meta mark place actor_state.number ts v b outcome u t un p.1 same number ask)
      (turn_known opening)
      (λ v b outcome answer u t is i p same number ask works. free_found opening place actor_state.number ts v b outcome answer u t is i p.0 same
      number ask) (λ v b outcome u t un works. tt) actors w w'
      (record {
        rising = c.central.stands.rising;
        actor_state = actor_state;
        order = order;
        next = next;
        number_is = refl;
        kind_is = asks;
        works = tt;
      }) (c, known) r le

  -- over devices of which no call can fail

  ends_infallible : (opening : State) (place number : ℕ) (ts : ℤ) (v : Whole D S M) (b : ℕ) (outcome : Outcome) (answer : Answer)
      (u : Whole D S M) (t : IsTurn disk store meta v b outcome u) → outcome ≡ Answers answer
      → AllKnown opening v × IsUnfailing disk store meta v → IsFree disk store meta place number v b u → t.place ≡ place
      → t.actor_state.number ≡ number → t.order.command ≡ Offset (At ts) → IsSearchAnswer answer
  ends_infallible opening place number ts v b (Answers k) answer u t is known free same number_is asks =
      let one : k ≡ answer = cc (is) in
      subst IsSearchAnswer one (ends_found opening place number ts v b k u t known.0 free same number_is asks
      (infallible_clear disk store meta v b k u t known.1))
  ends_infallible opening place number ts v b other answer u t is known free same number_is asks = absurd (cc (is))

  pub infallible_found : (opening : State) (w : Whole D S M) (a place : ℕ) (l : ActorList) (actor_state : ActorState) (order : Order) (ts : ℤ)
      (actors : List ℕ) (w' : Whole D S M) → IsCentral disk store meta opening w → SearchesKnown meta opening w
      → IsUnfailing disk store meta w → IsNextOrder w a place l actor_state order → order.command ≡ Offset (At ts)
      → RunsTurns disk store meta (IsFree disk store meta place actor_state.number) w actors w'
      → turns_left (Offset (At ts)) actor_state.in_progress ≤ times a actors
      → (answer : Answer) × IsSearchAnswer answer × IsCommandAnswered w' l.actor actor_state.number answer
  infallible_found opening w a place l actor_state order ts actors w' c known infallible next asks r le =
      run disk store meta (λ v. AllKnown opening v × IsUnfailing disk store meta v) (IsFree disk store meta place actor_state.number)
      (λ in_progress. Unit {0}) IsSearchAnswer (Offset (At ts)) a place actor_state.number l
      (λ v b outcome u t i. (turn_known opening v b outcome u t i.0, turn_infallible disk store meta v b outcome u t i.1))
      (λ v b outcome answer u t is i p same number ask works. ends_infallible opening place actor_state.number ts v b outcome answer u t is i p same
      number ask) (λ v b outcome u t un works. tt) actors w w'
      (record {
        rising = c.central.stands.rising;
        actor_state = actor_state;
        order = order;
        next = next;
        number_is = refl;
        kind_is = asks;
        works = tt;
      }) ((c, known), infallible) r le
