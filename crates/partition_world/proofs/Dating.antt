-- What timestamp lookups have gone through stays so from turn to turn: a leader's log grows while it still leads, and
-- the log start offset doesn't fall.
use Rattle.std.proofs.Common.{◌≡◌, ◌∙◌, inl, inr, sym, ap, subst, refl, ℕ, ◌+◌, List, [], ◌∷◌, slice_get, slice_set, Some, None, Option, arith}
use Rattle.disk_model.specs.declared.disk.Disk.{Ghosts as DiskGhosts}
use Rattle.object_store.specs.declared.store.Store.{Ghosts as StoreGhosts}
use Rattle.meta_log.specs.declared.log.MetaLog.{Ghosts as MetaGhosts}
use Rattle.tier_base.specs.declared.names.ActorId.{ActorId}
use Rattle.log_terms.proofs.Lists.{get-set, look, within}
use Rattle.copy_task.specs.Copying.{Copied}
use Rattle.copy_task.specs.declared.turn.CopyStep.{CopyStep}
use Rattle.expiry_task.specs.declared.turn.ExpiredSegment.{ExpiredSegment}
use Rattle.expiry_task.specs.declared.turn.DeletionStep.{DeletionStep as Deletion}
use Rattle.rebuild_task.specs.declared.turn.RebuildStep.{RebuildStep as Rebuild}
use Rattle.tier_fetch.specs.declared.turn.FetchStep.{FetchStep as Search}
use Rattle.time_find.specs.declared.turn.SearchStep.{SearchStep as Dating}
use Rattle.laws_time_find.proofs.Dates.{passed_is_kept}
use Rattle.plain_log.specs.declared.command.ActorList.{ActorList}
use Rattle.plain_log.specs.declared.command.Command.{Command}
use Rattle.plain_log.specs.declared.command.Command.TheVariants.{Offset}
use Rattle.plain_log.specs.declared.command.Which.TheVariants.{At}
use Rattle.plain_log.specs.declared.command.Order.{Order}
use Rattle.plain_log.specs.declared.journal.JournalEntry.{JournalEntry}
use Rattle.plain_log.specs.declared.state.Actor.{Actor}
use Rattle.plain_log.specs.declared.state.Broker.{Broker}
use Rattle.plain_log.specs.declared.state.State.{State}
use Rattle.plain_log.specs.State.{actor_at}
use Rattle.plain_log.specs.Safe.{SnapshotIsSafe, PlainSafe}
use Rattle.plain_log.specs.Grows.{BrokerGrows, Grows}
use Rattle.laws_partition.specs.declared.start_snapshot.StartSnapshot.{StartSnapshot}
use Rattle.laws_partition.specs.Partition.{recorded_of}
use Rattle.laws_partition.proofs.ProgressLaw.{recorded_some}
use Rattle.laws_partition.proofs.Standing.{map_get}
use Rattle.partition_world.specs.declared.actor_state.Outcome.{Outcome}
use Rattle.partition_world.specs.declared.actor_state.Outcome.TheVariants.{Answers, Begins, Chose, Goes, Seeks as Sought, Dates as Dated, ChoosesExpired, Deletes, Rebuilds as Rebuilding}
use Rattle.partition_world.specs.declared.actor_state.ActorState.{ActorState}
use Rattle.partition_world.specs.declared.actor_state.InProgress.{InProgress}
use Rattle.partition_world.specs.declared.actor_state.InProgress.TheVariants.{Idle, Noted, Copies, Seeks, Dates, Expires, Rebuilds}
use Rattle.partition_world.specs.Central.{HasGone, IsSearchState, AreDated, IsCentral}
use Rattle.partition_world.specs.ActorStates.{actor_state_seen, recorded_in, chosen, moved, sought, dated, expired_segment, deleting, rebuilding, actor_state_after, told_of}
use Rattle.partition_world.specs.Turn.{IsTurn}
use Rattle.partition_world.specs.Whole.{Whole}

-- what is in progress of no search

abbrev IsNoSearch : InProgress → Type 0
IsNoSearch (Dates g cursor next) = ⊥
IsNoSearch in_progress = Unit {0}

no_search : (q : State) (o : Option Order) (in_progress : InProgress) → IsNoSearch in_progress → IsSearchState q o in_progress
no_search q None in_progress k = tt
no_search q (Some order) (Dates g cursor next) k = absurd k
no_search q (Some order) other k = tt

-- what a turn makes of it

-- a search that continues has gone through its log as far as it continues from
abbrev pub GoesAsDated : State → Option Order → InProgress → Outcome → Type 0
GoesAsDated q o in_progress (Dated cursor next) = (g : StartSnapshot) → recorded_in in_progress ≡ Some g → IsSearchState q o (Dates g cursor next)
GoesAsDated q o in_progress outcome = Unit {0}

-- the turn isn't one of those
abbrev pub IsNoDate : Outcome → Type 0
IsNoDate (Dated cursor next) = ⊥
IsNoDate outcome = Unit {0}

pub undated : (q : State) (o : Option Order) (in_progress : InProgress) (outcome : Outcome) → IsNoDate outcome → GoesAsDated q o in_progress outcome
undated q o in_progress (Dated cursor next) k = absurd k
undated q o in_progress other k = tt

-- nor is one that is entered
pub told_undated : (actor : ActorId) (number : ℕ) (command : Command) (outcome : Outcome) (entry : JournalEntry) → told_of actor number command outcome ≡ entry ∷ [] → IsNoDate outcome
told_undated actor number command (Dated cursor next) entry is = absurd (cc (is))
told_undated actor number command other entry is = tt

chosen_dated : (q : State) (o : Option Order) (in_progress : InProgress) (copy : Copied) → IsSearchState q o in_progress → IsSearchState q o (chosen in_progress copy)
chosen_dated q o Idle copy k = k
chosen_dated q o (Noted g) copy k = no_search q o (chosen (Noted g) copy) tt
chosen_dated q o (Copies g c next) copy k = k
chosen_dated q o (Seeks g next) copy k = k
chosen_dated q o (Dates g cursor next) copy k = k
chosen_dated q o (Expires g segment next) copy k = k
chosen_dated q o (Rebuilds g next) copy k = k

moved_dated : (q : State) (o : Option Order) (in_progress : InProgress) (next : CopyStep) → IsSearchState q o in_progress → IsSearchState q o (moved in_progress next)
moved_dated q o Idle next k = k
moved_dated q o (Noted g) next k = k
moved_dated q o (Copies g c before) next k = no_search q o (Copies g c next) tt
moved_dated q o (Seeks g before) next k = k
moved_dated q o (Dates g cursor before) next k = k
moved_dated q o (Expires g segment before) next k = k
moved_dated q o (Rebuilds g before) next k = k

sought_dated : (q : State) (o : Option Order) (in_progress : InProgress) (next : Search) → IsSearchState q o in_progress → IsSearchState q o (sought in_progress next)
sought_dated q o Idle next k = k
sought_dated q o (Noted g) next k = no_search q o (Seeks g next) tt
sought_dated q o (Copies g c before) next k = k
sought_dated q o (Seeks g before) next k = no_search q o (Seeks g next) tt
sought_dated q o (Dates g cursor before) next k = k
sought_dated q o (Expires g segment before) next k = k
sought_dated q o (Rebuilds g before) next k = k

dated_dated : (q : State) (o : Option Order) (in_progress : InProgress) (cursor : ℕ) (next : Dating) → GoesAsDated q o in_progress (Dated cursor next) → IsSearchState q o in_progress → IsSearchState q o (dated in_progress cursor next)
dated_dated q o Idle cursor next goes k = k
dated_dated q o (Noted g) cursor next goes k = goes g refl
dated_dated q o (Copies g c before) cursor next goes k = k
dated_dated q o (Seeks g before) cursor next goes k = k
dated_dated q o (Dates g at before) cursor next goes k = goes g refl
dated_dated q o (Expires g segment before) cursor next goes k = k
dated_dated q o (Rebuilds g before) cursor next goes k = k

expired_segment_dated : (q : State) (o : Option Order) (in_progress : InProgress) (segment : ExpiredSegment) → IsSearchState q o in_progress → IsSearchState q o (expired_segment in_progress segment)
expired_segment_dated q o Idle segment k = k
expired_segment_dated q o (Noted g) segment k = no_search q o (expired_segment (Noted g) segment) tt
expired_segment_dated q o (Copies g c before) segment k = k
expired_segment_dated q o (Seeks g before) segment k = k
expired_segment_dated q o (Dates g cursor before) segment k = k
expired_segment_dated q o (Expires g before next) segment k = k
expired_segment_dated q o (Rebuilds g before) segment k = k

deleting_dated : (q : State) (o : Option Order) (in_progress : InProgress) (next : Deletion) → IsSearchState q o in_progress → IsSearchState q o (deleting in_progress next)
deleting_dated q o Idle next k = k
deleting_dated q o (Noted g) next k = k
deleting_dated q o (Copies g c before) next k = k
deleting_dated q o (Seeks g before) next k = k
deleting_dated q o (Dates g cursor before) next k = k
deleting_dated q o (Expires g segment before) next k = no_search q o (Expires g segment next) tt
deleting_dated q o (Rebuilds g before) next k = k

rebuilding_dated : (q : State) (o : Option Order) (in_progress : InProgress) (next : Rebuild) → IsSearchState q o in_progress → IsSearchState q o (rebuilding in_progress next)
rebuilding_dated q o Idle next k = k
rebuilding_dated q o (Noted g) next k = no_search q o (Rebuilds g next) tt
rebuilding_dated q o (Copies g c before) next k = k
rebuilding_dated q o (Seeks g before) next k = k
rebuilding_dated q o (Dates g cursor before) next k = k
rebuilding_dated q o (Expires g segment before) next k = k
rebuilding_dated q o (Rebuilds g before) next k = no_search q o (Rebuilds g next) tt

actor_state_dated : (q : State) (orders : List Order) (actor_state : ActorState) (outcome : Outcome) → GoesAsDated q (slice_get orders actor_state.number) actor_state.in_progress outcome → IsSearchState q (slice_get orders actor_state.number) actor_state.in_progress
    → IsSearchState q (slice_get orders (actor_state_after actor_state outcome).number) (actor_state_after actor_state outcome).in_progress
actor_state_dated q orders actor_state (Answers answer) goes k = no_search q (slice_get orders (actor_state.number + 1)) Idle tt
actor_state_dated q orders actor_state (Begins g) goes k = no_search q (slice_get orders actor_state.number) (Noted g) tt
actor_state_dated q orders actor_state (Chose copy) goes k = chosen_dated q (slice_get orders actor_state.number) actor_state.in_progress copy k
actor_state_dated q orders actor_state (Goes next) goes k = moved_dated q (slice_get orders actor_state.number) actor_state.in_progress next k
actor_state_dated q orders actor_state (Sought next) goes k = sought_dated q (slice_get orders actor_state.number) actor_state.in_progress next k
actor_state_dated q orders actor_state (Dated cursor next) goes k = dated_dated q (slice_get orders actor_state.number) actor_state.in_progress cursor next goes k
actor_state_dated q orders actor_state (ChoosesExpired segment) goes k = expired_segment_dated q (slice_get orders actor_state.number) actor_state.in_progress segment k
actor_state_dated q orders actor_state (Deletes next) goes k = deleting_dated q (slice_get orders actor_state.number) actor_state.in_progress next k
actor_state_dated q orders actor_state (Rebuilding next) goes k = rebuilding_dated q (slice_get orders actor_state.number) actor_state.in_progress next k

-- what a step of the plain log makes of it

-- a search whose broker still leads has gone through its log as far as before
gone_on : (p q : State) (b : ℕ) (order : Order) (g : StartSnapshot) (cursor : ℕ) (next : Dating) (command : Command) → Grows p q → PlainSafe q
    → ((x : Broker) → slice_get p.brokers b ≡ Some x → SnapshotIsSafe p.paths p.registry.epoch (recorded_of order g) x) → order.command ≡ command
    → HasGone p b g command cursor next → HasGone q b g command cursor next
gone_on p q b order g cursor next (Offset (At ts)) grows safe recorded is k = λ y there stops role.
    let count = grows.count in
    let x = look p.brokers b (omega (arith, count, within q.brokers b y there)) in
    let n = recorded x.0 x.1 in
    let led = n.leads (rw is refl) in
    let grown : BrokerGrows p.paths x.0 y = grows.brokers b x.0 y x.1 there in
    let low = n.stops in
    let rises = grown.stops in
    let same : y.stops ≡ x.0.stops = omega (arith, low, rises, stops) in
    elim (grown.leads led.0 same (sym role ∙ led.2)) [
      | inl before ↦
          let gone = k x.0 x.1 (stops ∙ same) (led.2 ∙ sym before.0) in
          let whole = (safe.brokers b y there).log.consecutive in
          record {
            cursor = passed_is_kept ts p.registry.start q.registry.start _ x.0.log y.log gone.cursor before.1 whole grows.start;
            read = passed_is_kept ts p.registry.start q.registry.start _ x.0.log y.log gone.read before.1 whole grows.start;
          }
      | inr none ↦ absurd (let some = led.3 in cc (none, some))
    ]
gone_on p q b order g cursor next other grows safe recorded is k = tt

module _ {D S M : Type 0} (disk : DiskGhosts D) (store : StoreGhosts S) (meta : MetaGhosts M) where
  -- at each actor's state
  pub desk_gone : (opening : State) (w : Whole D S M) (c : IsCentral disk store meta opening w) (q : State) → Grows c.central.plain q → PlainSafe q → AreDated q w.lists w.desk
  desk_gone opening w c q grows safe = λ place l actor_state list at.
      by place l actor_state list at (slice_get l.orders actor_state.number) refl actor_state.in_progress refl (c.dated place l actor_state list at)
    where
      by : (place : ℕ) (l : ActorList) (actor_state : ActorState) → slice_get w.lists place ≡ Some l → slice_get w.desk place ≡ Some actor_state → (o : Option Order) → slice_get l.orders actor_state.number ≡ o
          → (in_progress : InProgress) → actor_state.in_progress ≡ in_progress → IsSearchState c.central.plain o in_progress → IsSearchState q o in_progress
      by place l actor_state list at None is in_progress keeps k = tt
      by place l actor_state list at (Some order) is (Dates g cursor next) keeps k =
          let stands = c.central.stands.desk place l (actor_state_seen actor_state) list (map_get actor_state_seen w.desk place actor_state at) in
          let snapshot : (actor_at c.central.plain.actors l.actor.0).snapshot ≡ Some (recorded_of order g) =
          ap (λ (y : Actor). y.snapshot) stands.actor ∙ recorded_some l.orders (actor_state_seen actor_state) order g is (ap recorded_in keeps) in (
            k.0,
            gone_on c.central.plain q order.broker.0 order g cursor next order.command grows safe
                (λ x there. c.central.safe.recorded l.actor.0 (recorded_of order g) x snapshot there) refl k.1,
          )
      by place l actor_state list at (Some order) is other keeps k = tt

  -- after a turn
  pub turn_dated : (w : Whole D S M) (a : ℕ) (outcome : Outcome) (w' : Whole D S M) (t : IsTurn disk store meta w a outcome w') (q : State) → AreDated q w.lists w.desk
      → GoesAsDated q (slice_get t.list.orders t.actor_state.number) t.actor_state.in_progress outcome → AreDated q w'.lists w'.desk
  turn_dated w a outcome w' t q k goes = λ place l actor_state list at.
      let old : slice_get w.lists place ≡ Some l = ap (λ (u : List ActorList). slice_get u place) (sym t.lists) ∙ list in
      let new : slice_get (slice_set w.desk t.place (actor_state_after t.actor_state outcome)) place ≡ Some actor_state = ap (λ (u : List ActorState). slice_get u place) (sym t.desk) ∙ at in
      elim (get-set w.desk t.place (actor_state_after t.actor_state outcome) place actor_state new) [
        | inl one ↦
            let there = t.at.list in
            let same : l ≡ t.list = cc (old, there, ap (λ (n : ℕ). slice_get w.lists n) one.0) in
            subst (λ (u : ActorList). IsSearchState q (slice_get u.orders actor_state.number) actor_state.in_progress) (sym same)
            (subst (λ (u : ActorState). IsSearchState q (slice_get t.list.orders u.number) u.in_progress) (sym one.1)
            (actor_state_dated q t.list.orders t.actor_state outcome goes (k t.place t.list t.actor_state t.at.list t.at.actor_state_is)))
        | inr other ↦ k place l actor_state old other.1
      ]
