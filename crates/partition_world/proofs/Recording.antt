-- What a join's actor's state has of the leader epochs that it reads in the tier stays the leader epochs that it
-- recorded.
use Rattle.std.proofs.Common.{◌≡◌, ◌∙◌, inl, inr, sym, ap, subst, refl, ℕ, List, slice_get, slice_set, Some}
use Rattle.disk_model.specs.declared.disk.Disk.{Ghosts as DiskGhosts}
use Rattle.object_store.specs.declared.store.Store.{Ghosts as StoreGhosts}
use Rattle.meta_log.specs.declared.log.MetaLog.{Ghosts as MetaGhosts}
use Rattle.log_terms.proofs.Lists.{get-set}
use Rattle.copy_task.specs.Copying.{Copied}
use Rattle.copy_task.specs.declared.turn.CopyStep.{CopyStep}
use Rattle.expiry_task.specs.declared.turn.ExpiredSegment.{ExpiredSegment}
use Rattle.expiry_task.specs.declared.turn.DeletionStep.{DeletionStep as Deletion}
use Rattle.rebuild_task.specs.declared.turn.RebuildStep.{RebuildStep as Rebuild}
use Rattle.tier_fetch.specs.declared.turn.FetchStep.{FetchStep as Search}
use Rattle.time_find.specs.declared.turn.SearchStep.{SearchStep as Dating}
use Rattle.laws_partition.specs.declared.start_snapshot.StartSnapshot.{StartSnapshot}
use Rattle.laws_partition.specs.declared.start_snapshot.Turned.{Turned}
use Rattle.laws_partition.specs.declared.start_snapshot.Turned.TheVariants as turned
use Rattle.partition_world.specs.declared.actor_state.Outcome.{Outcome}
use Rattle.partition_world.specs.declared.actor_state.Outcome.TheVariants.{Answers, Begins, Chose, Goes, Seeks as Sought, Dates as Dated, ChoosesExpired, Deletes, Rebuilds as Rebuilding}
use Rattle.partition_world.specs.declared.actor_state.ActorState.{ActorState}
use Rattle.partition_world.specs.declared.actor_state.InProgress.{InProgress}
use Rattle.partition_world.specs.declared.actor_state.InProgress.TheVariants.{Idle, Noted, Copies, Seeks, Dates, Expires, Rebuilds}
use Rattle.partition_world.specs.Central.{IsRecorded, AreRecorded}
use Rattle.partition_world.specs.ActorStates.{recorded_in, chosen, moved, sought, dated, expired_segment, deleting, rebuilding, outcome_of, actor_state_after}
use Rattle.partition_world.specs.Turn.{IsTurn}
use Rattle.partition_world.specs.Whole.{Whole}

-- a join that continues does so with what it recorded
abbrev pub GoesAsRecorded : InProgress → Outcome → Type 0
GoesAsRecorded in_progress (Rebuilding next) = (g : StartSnapshot) → recorded_in in_progress ≡ Some g → IsRecorded (Rebuilds g next)
GoesAsRecorded in_progress outcome = Unit {0}

-- a turn on brokers' logs and the registry alone is none of those
pub own_recorded : (in_progress : InProgress) (turn : Turned) (outcome : Outcome) → outcome ≡ outcome_of turn → GoesAsRecorded in_progress outcome
own_recorded in_progress (turned.Answers answer) outcome is = subst (GoesAsRecorded in_progress) (sym is) tt
own_recorded in_progress (turned.Begins g) outcome is = subst (GoesAsRecorded in_progress) (sym is) tt

chosen_recorded : (in_progress : InProgress) (copy : Copied) → IsRecorded in_progress → IsRecorded (chosen in_progress copy)
chosen_recorded Idle copy k = tt
chosen_recorded (Noted g) copy k = tt
chosen_recorded (Copies g c next) copy k = tt
chosen_recorded (Seeks g next) copy k = tt
chosen_recorded (Dates g cursor then) copy k = tt
chosen_recorded (Expires g segment next) copy k = tt
chosen_recorded (Rebuilds g next) copy k = k

moved_recorded : (in_progress : InProgress) (next : CopyStep) → IsRecorded in_progress → IsRecorded (moved in_progress next)
moved_recorded Idle next k = tt
moved_recorded (Noted g) next k = tt
moved_recorded (Copies g c before) next k = tt
moved_recorded (Seeks g before) next k = tt
moved_recorded (Dates g cursor was) next k = tt
moved_recorded (Expires g segment before) next k = tt
moved_recorded (Rebuilds g before) next k = k

sought_recorded : (in_progress : InProgress) (next : Search) → IsRecorded in_progress → IsRecorded (sought in_progress next)
sought_recorded Idle next k = tt
sought_recorded (Noted g) next k = tt
sought_recorded (Copies g c before) next k = tt
sought_recorded (Seeks g before) next k = tt
sought_recorded (Dates g cursor was) next k = tt
sought_recorded (Expires g segment before) next k = tt
sought_recorded (Rebuilds g before) next k = k

dated_recorded : (in_progress : InProgress) (cursor : ℕ) (next : Dating) → IsRecorded in_progress → IsRecorded (dated in_progress cursor next)
dated_recorded Idle cursor next k = tt
dated_recorded (Noted g) cursor next k = tt
dated_recorded (Copies g c before) cursor next k = tt
dated_recorded (Seeks g before) cursor next k = tt
dated_recorded (Dates g at before) cursor next k = tt
dated_recorded (Expires g segment before) cursor next k = tt
dated_recorded (Rebuilds g before) cursor next k = k

expired_segment_recorded : (in_progress : InProgress) (segment : ExpiredSegment) → IsRecorded in_progress → IsRecorded (expired_segment in_progress segment)
expired_segment_recorded Idle segment k = tt
expired_segment_recorded (Noted g) segment k = tt
expired_segment_recorded (Copies g c before) segment k = tt
expired_segment_recorded (Seeks g before) segment k = tt
expired_segment_recorded (Dates g cursor was) segment k = tt
expired_segment_recorded (Expires g before next) segment k = tt
expired_segment_recorded (Rebuilds g before) segment k = k

deleting_recorded : (in_progress : InProgress) (next : Deletion) → IsRecorded in_progress → IsRecorded (deleting in_progress next)
deleting_recorded Idle next k = tt
deleting_recorded (Noted g) next k = tt
deleting_recorded (Copies g c before) next k = tt
deleting_recorded (Seeks g before) next k = tt
deleting_recorded (Dates g cursor was) next k = tt
deleting_recorded (Expires g segment before) next k = tt
deleting_recorded (Rebuilds g before) next k = k

rebuilding_recorded : (in_progress : InProgress) (next : Rebuild) → GoesAsRecorded in_progress (Rebuilding next) → IsRecorded in_progress → IsRecorded (rebuilding in_progress next)
rebuilding_recorded Idle next goes k = tt
rebuilding_recorded (Noted g) next goes k = goes g refl
rebuilding_recorded (Copies g c before) next goes k = tt
rebuilding_recorded (Seeks g before) next goes k = tt
rebuilding_recorded (Dates g cursor was) next goes k = tt
rebuilding_recorded (Expires g segment before) next goes k = tt
rebuilding_recorded (Rebuilds g before) next goes k = goes g refl

actor_state_recorded : (actor_state : ActorState) (outcome : Outcome) → GoesAsRecorded actor_state.in_progress outcome → IsRecorded actor_state.in_progress → IsRecorded (actor_state_after actor_state outcome).in_progress
actor_state_recorded actor_state (Answers answer) goes k = tt
actor_state_recorded actor_state (Begins g) goes k = tt
actor_state_recorded actor_state (Chose copy) goes k = chosen_recorded actor_state.in_progress copy k
actor_state_recorded actor_state (Goes next) goes k = moved_recorded actor_state.in_progress next k
actor_state_recorded actor_state (Sought next) goes k = sought_recorded actor_state.in_progress next k
actor_state_recorded actor_state (Dated cursor next) goes k = dated_recorded actor_state.in_progress cursor next k
actor_state_recorded actor_state (ChoosesExpired segment) goes k = expired_segment_recorded actor_state.in_progress segment k
actor_state_recorded actor_state (Deletes next) goes k = deleting_recorded actor_state.in_progress next k
actor_state_recorded actor_state (Rebuilding next) goes k = rebuilding_recorded actor_state.in_progress next goes k

module _ {D S M : Type 0} (disk : DiskGhosts D) (store : StoreGhosts S) (meta : MetaGhosts M) where
  -- after a turn
  pub turn_recorded : (w : Whole D S M) (a : ℕ) (outcome : Outcome) (w' : Whole D S M) (t : IsTurn disk store meta w a outcome w') → AreRecorded w.desk → GoesAsRecorded t.actor_state.in_progress outcome → AreRecorded w'.desk
  turn_recorded w a outcome w' t recorded goes = λ place actor_state at.
      let new : slice_get (slice_set w.desk t.place (actor_state_after t.actor_state outcome)) place ≡ Some actor_state = ap (λ (k : List ActorState). slice_get k place) (sym t.desk) ∙ at in
      elim (get-set w.desk t.place (actor_state_after t.actor_state outcome) place actor_state new) [
        | inl one ↦ subst (λ (k : ActorState). IsRecorded k.in_progress) (sym one.1) (actor_state_recorded t.actor_state outcome goes (recorded t.place t.actor_state t.at.actor_state_is))
        | inr other ↦ recorded place actor_state other.1
      ]
