-- A timestamp lookup whose broker knows no high watermark past a mark comes closer to that mark by each of its turns.
use Rattle.std.proofs.Common.{◌≡◌, subst, refl, ℕ, ◌<◌, ◌≤◌, List, slice_get, arith}
use Rattle.std.specs.Prelude.{ℤ}
use Rattle.tier_base.specs.declared.names.PartitionId.{PartitionId}
use Rattle.disk_model.specs.declared.disk.Disk.{Ghosts as DiskGhosts}
use Rattle.object_store.specs.declared.store.Store.{Ghosts as StoreGhosts}
use Rattle.meta_log.specs.declared.log.MetaLog.{Ghosts as MetaGhosts}
use Rattle.time_find.specs.declared.turn.SearchStep.{SearchStep}
use Rattle.time_find.specs.declared.turn.SearchStep.TheVariants.{Seek}
use Rattle.plain_log.specs.declared.answer.Answer.{Answer}
use Rattle.plain_log.specs.declared.command.ActorList.{ActorList}
use Rattle.plain_log.specs.declared.command.Command.{Command}
use Rattle.plain_log.specs.declared.command.Command.TheVariants.{Offset}
use Rattle.plain_log.specs.declared.command.Config.{Config}
use Rattle.plain_log.specs.declared.command.Order.{Order}
use Rattle.plain_log.specs.declared.command.Which.TheVariants.{At}
use Rattle.plain_log.specs.Orders.{AreRising}
use Rattle.laws_partition.specs.declared.start_snapshot.StartSnapshot.{StartSnapshot}
use Rattle.laws_partition.proofs.BoolTests.{some_of}
use Rattle.partition_commands.specs.declared.partition_state.Node.{Node}
use Rattle.partition_commands.specs.declared.partition_state.PartitionState.{PartitionState}
use Rattle.tier_safe.proofs.Basics.{one_some}
use Rattle.partition_world.specs.declared.tier.BrokerTierState.{BrokerTierState}
use Rattle.partition_world.specs.declared.tier.RemoteTier.{RemoteTier}
use Rattle.partition_world.specs.declared.actor_state.Outcome.{Outcome}
use Rattle.partition_world.specs.declared.actor_state.Outcome.TheVariants.{Answers, Begins, Dates as Dated}
use Rattle.partition_world.specs.declared.actor_state.ActorState.{ActorState}
use Rattle.partition_world.specs.declared.actor_state.InProgress.{InProgress}
use Rattle.partition_world.specs.declared.actor_state.InProgress.TheVariants.{Idle, Noted, Dates}
use Rattle.partition_world.specs.ActorStates.{dated, actor_state_after, IsUnanswered}
use Rattle.partition_world.specs.Turn.{IsNextOrder, IsTurn}
use Rattle.partition_world.specs.TurnsOfCopy.{LeadersFirstRow}
use Rattle.partition_world.specs.TurnsOfDate.{DateOnRow, resumed_at}
use Rattle.partition_world.specs.Turns.{Row}
use Rattle.partition_world.specs.Whole.{Whole}
use Rattle.partition_world.proofs.Begins.{row_of}
use Rattle.laws_answers.specs.Turns.{search_left}
use Rattle.laws_answers.specs.Chains.{times, IsCommandAnswered, KnowsUpTo, RunsTurns}
use Rattle.laws_answers.proofs.ChainsOfTurns.{own_turn, run_by}
use Rattle.laws_answers.proofs.Progress.{date_goes, first_left}

-- it takes one turn more at least
pub search_left_some : (mark : ℕ) (in_progress : InProgress) → 1 ≤ search_left mark in_progress
search_left_some mark Idle = omega arith
search_left_some mark (Noted g) = omega arith
search_left_some mark (Dates g cursor next) = omega arith
search_left_some mark other = omega arith

-- a turn leaves fewer to come
abbrev Closer : ℕ → InProgress → Outcome → Type 0
Closer mark in_progress (Answers answer) = Unit {0}
Closer mark in_progress (Begins g) = search_left mark (Noted g) < search_left mark in_progress
Closer mark in_progress (Dated cursor next) = search_left mark (dated in_progress cursor next) < search_left mark in_progress
Closer mark in_progress other = ⊥

actor_state_closer : (mark : ℕ) (actor_state : ActorState) (outcome : Outcome) → Closer mark actor_state.in_progress outcome → IsUnanswered outcome
    → search_left mark (actor_state_after actor_state outcome).in_progress < search_left mark actor_state.in_progress
actor_state_closer mark actor_state (Answers answer) less un = absurd un
actor_state_closer mark actor_state (Begins g) less un = less
actor_state_closer mark actor_state (Dated cursor next) less un = less
actor_state_closer mark actor_state other less un = absurd less

module _ {D S M : Type 0} (disk : DiskGhosts D) (store : StoreGhosts S) (meta : MetaGhosts M) where
  first_closer : (mark : ℕ) (h : PartitionState D) (t : RemoteTier S M) (b : ℕ) (x : Node D) (broker_tier : BrokerTierState) (outcome : Outcome) (t' : RemoteTier S M)
      → LeadersFirstRow meta h t b x broker_tier outcome t' → Closer mark Idle outcome
  first_closer mark h t b x broker_tier (Answers answer) t' row = tt
  first_closer mark h t b x broker_tier (Begins g) t' row = omega arith
  first_closer mark h t b x broker_tier other t' row = elim row [ ]

  -- it is resumed below the high watermark
  below_mark : (mark : ℕ) (p : PartitionId) (h : PartitionState D) (t : RemoteTier S M) (b : ℕ) (x : Node D) (broker_tier : BrokerTierState) (g : StartSnapshot) (ts : ℤ)
      (cursor : ℕ) (before : SearchStep) (at : ℕ) (later : SearchStep) (h' : PartitionState D) (t' : RemoteTier S M) → x.known_high_watermark ≤ mark
      → DateOnRow disk store meta p h t b x broker_tier g ts cursor before (Dated at later) h' t' → resumed_at h.registry.start cursor < mark
  below_mark mark p h t b x broker_tier g ts cursor before at later h' t' low w = let below = w.0.below in omega (arith, below, low)

  recorded_closer : (mark : ℕ) (p : PartitionId) (h : PartitionState D) (t : RemoteTier S M) (b : ℕ) (x : Node D) (broker_tier : BrokerTierState) (g : StartSnapshot) (ts : ℤ)
      (outcome : Outcome) (h' : PartitionState D) (t' : RemoteTier S M) → x.known_high_watermark ≤ mark
      → DateOnRow disk store meta p h t b x broker_tier g ts 0 Seek outcome h' t' → Closer mark (Noted g) outcome
  recorded_closer mark p h t b x broker_tier g ts (Answers answer) h' t' low w = tt
  recorded_closer mark p h t b x broker_tier g ts (Dated at later) h' t' low w =
      first_left mark at later (date_goes disk store meta mark p h t b x broker_tier g ts 0 Seek at later h' t' w
      (below_mark mark p h t b x broker_tier g ts 0 Seek at later h' t' low w))
  recorded_closer mark p h t b x broker_tier g ts other h' t' low w = elim w [ ]

  dates_closer : (mark : ℕ) (p : PartitionId) (h : PartitionState D) (t : RemoteTier S M) (b : ℕ) (x : Node D) (broker_tier : BrokerTierState) (g : StartSnapshot) (ts : ℤ)
      (cursor : ℕ) (before : SearchStep) (outcome : Outcome) (h' : PartitionState D) (t' : RemoteTier S M) → x.known_high_watermark ≤ mark
      → DateOnRow disk store meta p h t b x broker_tier g ts cursor before outcome h' t' → Closer mark (Dates g cursor before) outcome
  dates_closer mark p h t b x broker_tier g ts cursor before (Answers answer) h' t' low w = tt
  dates_closer mark p h t b x broker_tier g ts cursor before (Dated at later) h' t' low w =
      date_goes disk store meta mark p h t b x broker_tier g ts cursor before at later h' t' w
      (below_mark mark p h t b x broker_tier g ts cursor before at later h' t' low w)
  dates_closer mark p h t b x broker_tier g ts cursor before other h' t' low w = elim w [ ]

  row_closer : (mark : ℕ) (p : PartitionId) (config : Config) (h : PartitionState D) (t : RemoteTier S M) (b : ℕ) (x : Node D) (broker_tier : BrokerTierState) (in_progress : InProgress)
      (ts : ℤ) (outcome : Outcome) (h' : PartitionState D) (t' : RemoteTier S M) → x.known_high_watermark ≤ mark
      → Row disk store meta p config h t b x broker_tier in_progress (Offset (At ts)) outcome h' t' → Closer mark in_progress outcome
  row_closer mark p config h t b x broker_tier Idle ts outcome h' t' low row = first_closer mark h t b x broker_tier outcome t' row.0
  row_closer mark p config h t b x broker_tier (Noted g) ts outcome h' t' low row = recorded_closer mark p h t b x broker_tier g ts outcome h' t' low row
  row_closer mark p config h t b x broker_tier (Dates g cursor next) ts outcome h' t' low row =
      dates_closer mark p h t b x broker_tier g ts cursor next outcome h' t' low row
  row_closer mark p config h t b x broker_tier other ts outcome h' t' low row = elim row [ ]

  pub closer : (mark place number : ℕ) (ts : ℤ) (v : Whole D S M) (b : ℕ) (outcome : Outcome) (u : Whole D S M)
      (t : IsTurn disk store meta v b outcome u) → IsUnanswered outcome → KnowsUpTo mark place number v b u → t.place ≡ place
      → t.actor_state.number ≡ number → t.order.command ≡ Offset (At ts)
      → search_left mark (actor_state_after t.actor_state outcome).in_progress < search_left mark t.actor_state.in_progress
  closer mark place number ts v b outcome u t un knows same number_is asks =
      let c = t.order.broker.0 in
      let h = knows t.list t.actor_state t.order (own_turn disk store meta place v b outcome u t same) number_is in
      let y = some_of (λ x. x.known_high_watermark ≤ mark) (slice_get v.partition_state.nodes c) h in
      let r = row_of disk store meta v.partition v.config v.partition_state v.tier c t.actor_state.in_progress t.order.command outcome u.partition_state u.tier t.row in
      let low : r.x.known_high_watermark ≤ mark = subst (λ (k : Node D). k.known_high_watermark ≤ mark) (one_some (slice_get v.partition_state.nodes c) y.0 r.x y.1 r.at) y.2 in
      let row = subst (λ (k : Command). Row disk store meta v.partition v.config v.partition_state v.tier c r.x r.broker_tier t.actor_state.in_progress k outcome u.partition_state
      u.tier) asks r.row in
      actor_state_closer mark t.actor_state outcome
      (row_closer mark v.partition v.config v.partition_state v.tier c r.x r.broker_tier t.actor_state.in_progress ts outcome u.partition_state u.tier low row) un

  pub searches_answered : (w : Whole D S M) (a place : ℕ) (l : ActorList) (actor_state : ActorState) (order : Order) (ts : ℤ) (mark : ℕ)
      (actors : List ℕ) (w' : Whole D S M) → AreRising w.lists → IsNextOrder w a place l actor_state order → order.command ≡ Offset (At ts)
      → RunsTurns disk store meta (KnowsUpTo mark place actor_state.number) w actors w' → search_left mark actor_state.in_progress ≤ times a actors
      → (answer : Answer) × IsCommandAnswered w' l.actor actor_state.number answer
  searches_answered w a place l actor_state order ts mark actors w' rising next asks r le =
      let k = run_by disk store meta (λ v. Unit {0}) (KnowsUpTo mark place actor_state.number) (λ in_progress. Unit {0}) (λ answer. Unit {0})
      (Offset (At ts)) a place actor_state.number l (search_left mark) (search_left_some mark) (closer mark place actor_state.number ts)
      (λ v b outcome u t i. tt) (λ v b outcome answer u t is i p same number kind works. tt) (λ v b outcome u t un works. tt) actors w w'
      (record { rising = rising; actor_state = actor_state; order = order; next = next; number_is = refl; kind_is = asks; works = tt }) tt r le in
      (k.0, k.2)
