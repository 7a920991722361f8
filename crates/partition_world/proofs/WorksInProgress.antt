-- What an actor's state has is for its order's next turn, also after a turn.
use Rattle.std.proofs.Common.{◌≡◌, ◌≢◌, ◌∙◌, ap, inl, inr, refl, subst, ℕ, slice_get, Some}
use Rattle.std.specs.Prelude.{IsTrue}
use Rattle.disk_model.specs.declared.disk.Disk.{Ghosts as DiskGhosts}
use Rattle.object_store.specs.declared.store.Store.{Ghosts as StoreGhosts}
use Rattle.meta_log.specs.declared.log.MetaLog.{Ghosts as MetaGhosts}
use Rattle.tier_base.specs.declared.names.PartitionId.{PartitionId}
use Rattle.copy_task.specs.Copying.{Copied}
use Rattle.copy_task.specs.declared.turn.CopyStep.{CopyStep}
use Rattle.expiry_task.specs.declared.turn.ExpiredSegment.{ExpiredSegment}
use Rattle.expiry_task.specs.declared.turn.DeletionStep.{DeletionStep as Deletion}
use Rattle.rebuild_task.specs.declared.turn.RebuildStep.{RebuildStep as Rebuild}
use Rattle.tier_fetch.specs.declared.turn.FetchStep.{FetchStep as Search}
use Rattle.time_find.specs.declared.turn.SearchStep.{SearchStep as Dating}
use Rattle.time_find.specs.declared.turn.SearchStep.TheVariants.{Seek}
use Rattle.plain_log.specs.declared.turn.Turn.TheVariants as dating
use Rattle.time_find.specs.Turns.{IsSet, SearchContinues}
use Rattle.plain_log.specs.declared.command.ActorList.{ActorList}
use Rattle.plain_log.specs.declared.command.Command.{Command}
use Rattle.plain_log.specs.declared.command.Command.TheVariants.{Join, Follow, Copy, Trim, Expire, Fetch, Offset}
use Rattle.plain_log.specs.declared.command.Which.TheVariants.{LatestTiered, At}
use Rattle.plain_log.specs.declared.command.Config.{Config}
use Rattle.plain_log.specs.declared.command.Order.{Order}
use Rattle.plain_log.specs.State.{leads}
use Rattle.laws_partition.specs.declared.start_snapshot.StartSnapshot.{StartSnapshot}
use Rattle.laws_partition.specs.declared.start_snapshot.Turned.{Turned}
use Rattle.laws_partition.specs.declared.start_snapshot.Turned.TheVariants as turned
use Rattle.partition_commands.specs.declared.partition_state.Node.{Node}
use Rattle.partition_commands.specs.declared.partition_state.PartitionState.{PartitionState}
use Rattle.partition_world.specs.declared.tier.BrokerTierState.{BrokerTierState}
use Rattle.partition_world.specs.declared.tier.RemoteTier.{RemoteTier}
use Rattle.partition_world.specs.declared.actor_state.Outcome.{Outcome}
use Rattle.partition_world.specs.declared.actor_state.Outcome.TheVariants.{Answers, Begins, Chose, Goes, Seeks as Sought, Dates as Dated, ChoosesExpired, Deletes, Rebuilds as Rebuilding}
use Rattle.partition_world.specs.declared.actor_state.ActorState.{ActorState}
use Rattle.partition_world.specs.declared.actor_state.InProgress.{InProgress}
use Rattle.partition_world.specs.declared.actor_state.InProgress.TheVariants.{Idle, Noted, Copies, Seeks, Dates, Expires, Rebuilds}
use Rattle.partition_commands.specs.Turns.{takes_memory, FirstRow}
use Rattle.partition_world.specs.ActorStates.{outcome_of, chosen, moved, sought, dated, expired_segment, deleting, rebuilding, actor_state_after}
use Rattle.partition_world.specs.Sound.{HasSecondTurn, SeeksBy, DatesBy, IsProgressOf}
use Rattle.partition_world.specs.Turns.{BeginRow, ContinuedRow, SeekingRow, DatingRow, Row, TurnRow}
use Rattle.partition_world.proofs.Begins.{row_of, begins_idle}

-- nothing is for any order
pub idle_for : (command : Command) → IsProgressOf command Idle
idle_for command = tt

-- a command that continues takes memory
recorded_takes : (command : Command) (g : StartSnapshot) → IsProgressOf command (Noted g) → IsTrue (takes_memory command)
recorded_takes Join g k = refl
recorded_takes (Follow limit) g k = refl
recorded_takes Copy g k = refl
recorded_takes Trim g k = refl
recorded_takes Expire g k = refl
recorded_takes (Fetch offset limit) g k = refl
recorded_takes (Offset LatestTiered) g k = refl
recorded_takes (Offset (At ts)) g k = refl
recorded_takes (Offset other) g k = absurd k
recorded_takes other g k = absurd k

seeks_take : (command : Command) (g : StartSnapshot) (next : Search) → IsProgressOf command (Seeks g next) → IsTrue (takes_memory command)
seeks_take (Fetch offset limit) g next k = refl
seeks_take other g next k = absurd k

dates_take : (command : Command) (g : StartSnapshot) (cursor : ℕ) (next : Dating) → IsProgressOf command (Dates g cursor next) → IsTrue (takes_memory command)
dates_take (Offset (At ts)) g cursor next k = refl
dates_take (Offset other) g cursor next k = absurd k
dates_take other g cursor next k = absurd k

pub works_take : (command : Command) (in_progress : InProgress) → in_progress ≢ Idle → IsProgressOf command in_progress → IsTrue (takes_memory command)
works_take command Idle busy k = absurd (busy refl)
works_take command (Noted g) busy k = recorded_takes command g k
works_take command (Copies g copy next) busy k = ap takes_memory k
works_take command (Seeks g next) busy k = seeks_take command g next k
works_take command (Dates g cursor next) busy k = dates_take command g cursor next k
works_take command (Expires g segment next) busy k = ap takes_memory k
works_take command (Rebuilds g next) busy k = ap takes_memory k

-- a copy, an expiry and a join continue with what is for them as before
moved_for : (command : Command) (in_progress : InProgress) (next : CopyStep) → IsProgressOf command in_progress → IsProgressOf command (moved in_progress next)
moved_for command Idle next k = k
moved_for command (Noted g) next k = k
moved_for command (Copies g c before) next k = k
moved_for command (Seeks g before) next k = k
moved_for command (Dates g cursor before) next k = k
moved_for command (Expires g segment before) next k = k
moved_for command (Rebuilds g before) next k = k

deleting_for : (command : Command) (in_progress : InProgress) (next : Deletion) → IsProgressOf command in_progress → IsProgressOf command (deleting in_progress next)
deleting_for command Idle next k = k
deleting_for command (Noted g) next k = k
deleting_for command (Copies g c before) next k = k
deleting_for command (Seeks g before) next k = k
deleting_for command (Dates g cursor before) next k = k
deleting_for command (Expires g segment before) next k = k
deleting_for command (Rebuilds g before) next k = k

-- a search that continues has such a turn next as its cursor needs
set_of : (cursor at : ℕ) (next : Dating) → SearchContinues cursor (dating.Goes (at, next)) → IsSet at next
set_of cursor at Seek goes = tt
set_of cursor at next goes = goes.1

module _ {D S M : Type 0} (disk : DiskGhosts D) (store : StoreGhosts S) (meta : MetaGhosts M) where
  own_for : (h : PartitionState D) (b : ℕ) (x : Node D) (command : Command) (turn : Turned) (g : StartSnapshot) (h' : PartitionState D) → Begins g ≡ outcome_of turn → FirstRow disk.content disk.control h b x command turn h' → HasSecondTurn command g
  own_for h b x command (turned.Answers answer) g h' is row = absurd (cc (is))
  own_for h b x Join (turned.Begins f) g h' is row = tt
  own_for h b x (Follow limit) (turned.Begins f) g h' is row = tt
  own_for h b x Trim (turned.Begins f) g h' is row = tt
  own_for h b x (Fetch offset limit) (turned.Begins f) g h' is row = tt
  own_for h b x (Offset LatestTiered) (turned.Begins f) g h' is row = absurd row
  own_for h b x (Offset (At ts)) (turned.Begins f) g h' is row = absurd row
  own_for h b x other (turned.Begins f) g h' is row = absurd row

  -- a command that begins has a second turn
  begun_for : (h : PartitionState D) (t : RemoteTier S M) (b : ℕ) (x : Node D) (broker_tier : BrokerTierState) (command : Command) (g : StartSnapshot) (h' : PartitionState D) (t' : RemoteTier S M)
      → BeginRow disk store meta h t b x broker_tier command (Begins g) h' t' → HasSecondTurn command g
  begun_for h t b x broker_tier Join g h' t' w = tt
  begun_for h t b x broker_tier (Follow limit) g h' t' w = tt
  begun_for h t b x broker_tier Copy g h' t' w = tt
  begun_for h t b x broker_tier Trim g h' t' w = tt
  begun_for h t b x broker_tier Expire g h' t' w = ap leads w.0.2.role ∙ w.0.1
  begun_for h t b x broker_tier (Fetch offset limit) g h' t' w = tt
  begun_for h t b x broker_tier (Offset LatestTiered) g h' t' w = tt
  begun_for h t b x broker_tier (Offset (At ts)) g h' t' w = tt
  begun_for h t b x broker_tier other g h' t' w = own_for h b x other w.0.0 g h' w.0.1 w.0.2

  -- a copy alone chooses a segment
  chosen_by : (p : PartitionId) (config : Config) (h : PartitionState D) (t : RemoteTier S M) (b : ℕ) (x : Node D) (broker_tier : BrokerTierState) (g : StartSnapshot) (command : Command) (copy : Copied) (h' : PartitionState D) (t' : RemoteTier S M)
      → ContinuedRow disk store meta p config h t b x broker_tier g command (Chose copy) h' t' → command ≡ Copy
  chosen_by p config h t b x broker_tier g Copy copy h' t' w = refl
  chosen_by p config h t b x broker_tier g Trim copy h' t' w = elim w.0 [ ]
  chosen_by p config h t b x broker_tier g Expire copy h' t' (inl lost, same) = let e = lost.1 in absurd (cc (e))
  chosen_by p config h t b x broker_tier g Expire copy h' t' (inr (keeps, by), same) = elim by [ ]
  chosen_by p config h t b x broker_tier g Join copy h' t' (inl (low, own)) = let e = own.0.1 in absurd (cc (e))
  chosen_by p config h t b x broker_tier g Join copy h' t' (inr (high, inl (answer, is, at, tier), same)) = absurd (cc (is))
  chosen_by p config h t b x broker_tier g Join copy h' t' (inr (high, inr (may, row), same)) = elim row [ ]
  chosen_by p config h t b x broker_tier g (Fetch offset limit) copy h' t' w = elim w.0 [ ]
  chosen_by p config h t b x broker_tier g (Offset LatestTiered) copy h' t' w = elim w.0 [ ]
  chosen_by p config h t b x broker_tier g (Offset (At ts)) copy h' t' w = elim w [ ]
  chosen_by p config h t b x broker_tier g other copy h' t' w = let e = w.0.1 in absurd (cc (e))

  chosen_for : (p : PartitionId) (config : Config) (h : PartitionState D) (t : RemoteTier S M) (b : ℕ) (x : Node D) (broker_tier : BrokerTierState) (in_progress : InProgress) (command : Command) (copy : Copied) (h' : PartitionState D) (t' : RemoteTier S M)
      → Row disk store meta p config h t b x broker_tier in_progress command (Chose copy) h' t' → IsProgressOf command in_progress → IsProgressOf command (chosen in_progress copy)
  chosen_for p config h t b x broker_tier (Noted g) command copy h' t' w k = chosen_by p config h t b x broker_tier g command copy h' t' w
  chosen_for p config h t b x broker_tier Idle command copy h' t' w k = k
  chosen_for p config h t b x broker_tier (Copies g c next) command copy h' t' w k = k
  chosen_for p config h t b x broker_tier (Seeks g next) command copy h' t' w k = k
  chosen_for p config h t b x broker_tier (Dates g cursor next) command copy h' t' w k = k
  chosen_for p config h t b x broker_tier (Expires g segment next) command copy h' t' w k = k
  chosen_for p config h t b x broker_tier (Rebuilds g next) command copy h' t' w k = k

  -- an expiry alone takes up a segment
  expired_segment_by : (p : PartitionId) (config : Config) (h : PartitionState D) (t : RemoteTier S M) (b : ℕ) (x : Node D) (broker_tier : BrokerTierState) (g : StartSnapshot) (command : Command) (segment : ExpiredSegment) (h' : PartitionState D) (t' : RemoteTier S M)
      → ContinuedRow disk store meta p config h t b x broker_tier g command (ChoosesExpired segment) h' t' → command ≡ Expire
  expired_segment_by p config h t b x broker_tier g Expire segment h' t' w = refl
  expired_segment_by p config h t b x broker_tier g Copy segment h' t' (inl lost) = let e = lost.1 in absurd (cc (e))
  expired_segment_by p config h t b x broker_tier g Copy segment h' t' (inr (keeps, inl level)) = let e = level.1 in absurd (cc (e))
  expired_segment_by p config h t b x broker_tier g Copy segment h' t' (inr (keeps, inr reads)) = elim reads.row [ ]
  expired_segment_by p config h t b x broker_tier g Trim segment h' t' w = elim w.0 [ ]
  expired_segment_by p config h t b x broker_tier g Join segment h' t' (inl (low, own)) = let e = own.0.1 in absurd (cc (e))
  expired_segment_by p config h t b x broker_tier g Join segment h' t' (inr (high, inl (answer, is, at, tier), same)) = absurd (cc (is))
  expired_segment_by p config h t b x broker_tier g Join segment h' t' (inr (high, inr (may, row), same)) = elim row [ ]
  expired_segment_by p config h t b x broker_tier g (Fetch offset limit) segment h' t' w = elim w.0 [ ]
  expired_segment_by p config h t b x broker_tier g (Offset LatestTiered) segment h' t' w = elim w.0 [ ]
  expired_segment_by p config h t b x broker_tier g (Offset (At ts)) segment h' t' w = elim w [ ]
  expired_segment_by p config h t b x broker_tier g other segment h' t' w = let e = w.0.1 in absurd (cc (e))

  expired_segment_for : (p : PartitionId) (config : Config) (h : PartitionState D) (t : RemoteTier S M) (b : ℕ) (x : Node D) (broker_tier : BrokerTierState) (in_progress : InProgress) (command : Command) (segment : ExpiredSegment) (h' : PartitionState D) (t' : RemoteTier S M)
      → Row disk store meta p config h t b x broker_tier in_progress command (ChoosesExpired segment) h' t' → IsProgressOf command in_progress → IsProgressOf command (expired_segment in_progress segment)
  expired_segment_for p config h t b x broker_tier (Noted g) command segment h' t' w k = expired_segment_by p config h t b x broker_tier g command segment h' t' w
  expired_segment_for p config h t b x broker_tier Idle command segment h' t' w k = k
  expired_segment_for p config h t b x broker_tier (Copies g c next) command segment h' t' w k = k
  expired_segment_for p config h t b x broker_tier (Seeks g next) command segment h' t' w k = k
  expired_segment_for p config h t b x broker_tier (Dates g cursor next) command segment h' t' w k = k
  expired_segment_for p config h t b x broker_tier (Expires g before next) command segment h' t' w k = k
  expired_segment_for p config h t b x broker_tier (Rebuilds g next) command segment h' t' w k = k

  -- a join alone restarts its log
  rebuilding_by : (p : PartitionId) (config : Config) (h : PartitionState D) (t : RemoteTier S M) (b : ℕ) (x : Node D) (broker_tier : BrokerTierState) (g : StartSnapshot) (command : Command) (next : Rebuild) (h' : PartitionState D) (t' : RemoteTier S M)
      → ContinuedRow disk store meta p config h t b x broker_tier g command (Rebuilding next) h' t' → command ≡ Join
  rebuilding_by p config h t b x broker_tier g Join next h' t' w = refl
  rebuilding_by p config h t b x broker_tier g Copy next h' t' (inl lost) = let e = lost.1 in absurd (cc (e))
  rebuilding_by p config h t b x broker_tier g Copy next h' t' (inr (keeps, inl level)) = let e = level.1 in absurd (cc (e))
  rebuilding_by p config h t b x broker_tier g Copy next h' t' (inr (keeps, inr reads)) = elim reads.row [ ]
  rebuilding_by p config h t b x broker_tier g Trim next h' t' w = elim w.0 [ ]
  rebuilding_by p config h t b x broker_tier g Expire next h' t' (inl lost, same) = let e = lost.1 in absurd (cc (e))
  rebuilding_by p config h t b x broker_tier g Expire next h' t' (inr (keeps, by), same) = elim by [ ]
  rebuilding_by p config h t b x broker_tier g (Fetch offset limit) next h' t' w = elim w.0 [ ]
  rebuilding_by p config h t b x broker_tier g (Offset LatestTiered) next h' t' w = elim w.0 [ ]
  rebuilding_by p config h t b x broker_tier g (Offset (At ts)) next h' t' w = elim w [ ]
  rebuilding_by p config h t b x broker_tier g other next h' t' w = let e = w.0.1 in absurd (cc (e))

  rebuilding_for : (p : PartitionId) (config : Config) (h : PartitionState D) (t : RemoteTier S M) (b : ℕ) (x : Node D) (broker_tier : BrokerTierState) (in_progress : InProgress) (command : Command) (next : Rebuild) (h' : PartitionState D) (t' : RemoteTier S M)
      → Row disk store meta p config h t b x broker_tier in_progress command (Rebuilding next) h' t' → IsProgressOf command in_progress → IsProgressOf command (rebuilding in_progress next)
  rebuilding_for p config h t b x broker_tier (Noted g) command next h' t' w k = rebuilding_by p config h t b x broker_tier g command next h' t' w
  rebuilding_for p config h t b x broker_tier Idle command next h' t' w k = k
  rebuilding_for p config h t b x broker_tier (Copies g c before) command next h' t' w k = k
  rebuilding_for p config h t b x broker_tier (Seeks g before) command next h' t' w k = k
  rebuilding_for p config h t b x broker_tier (Dates g cursor before) command next h' t' w k = k
  rebuilding_for p config h t b x broker_tier (Expires g segment before) command next h' t' w k = k
  rebuilding_for p config h t b x broker_tier (Rebuilds g before) command next h' t' w k = k

  -- a fetch alone continues in the remote tier, with what is for its offset
  sought_by : (p : PartitionId) (config : Config) (h : PartitionState D) (t : RemoteTier S M) (b : ℕ) (x : Node D) (broker_tier : BrokerTierState) (g : StartSnapshot) (command : Command) (next : Search) (h' : PartitionState D) (t' : RemoteTier S M)
      → ContinuedRow disk store meta p config h t b x broker_tier g command (Sought next) h' t' → SeeksBy command next
  sought_by p config h t b x broker_tier g (Fetch offset limit) next h' t' w = w.0.2
  sought_by p config h t b x broker_tier g Copy next h' t' (inl lost) = let e = lost.1 in absurd (cc (e))
  sought_by p config h t b x broker_tier g Copy next h' t' (inr (keeps, inl level)) = let e = level.1 in absurd (cc (e))
  sought_by p config h t b x broker_tier g Copy next h' t' (inr (keeps, inr reads)) = elim reads.row [ ]
  sought_by p config h t b x broker_tier g Trim next h' t' w = elim w.0 [ ]
  sought_by p config h t b x broker_tier g (Offset LatestTiered) next h' t' w = elim w.0 [ ]
  sought_by p config h t b x broker_tier g (Offset (At ts)) next h' t' w = elim w [ ]
  sought_by p config h t b x broker_tier g Expire next h' t' (inl lost, same) = let e = lost.1 in absurd (cc (e))
  sought_by p config h t b x broker_tier g Expire next h' t' (inr (keeps, by), same) = elim by [ ]
  sought_by p config h t b x broker_tier g Join next h' t' (inl (low, own)) = let e = own.0.1 in absurd (cc (e))
  sought_by p config h t b x broker_tier g Join next h' t' (inr (high, inl (answer, is, at, tier), same)) = absurd (cc (is))
  sought_by p config h t b x broker_tier g Join next h' t' (inr (high, inr (may, row), same)) = elim row [ ]
  sought_by p config h t b x broker_tier g other next h' t' w = let e = w.0.1 in absurd (cc (e))

  seeking_by : (p : PartitionId) (h : PartitionState D) (t : RemoteTier S M) (b : ℕ) (x : Node D) (broker_tier : BrokerTierState) (g : StartSnapshot) (before : Search) (command : Command) (next : Search) (h' : PartitionState D) (t' : RemoteTier S M)
      → SeekingRow store meta p h t b x broker_tier g before command (Sought next) h' t' → SeeksBy command next
  seeking_by p h t b x broker_tier g before (Fetch offset limit) next h' t' w = w.0.2
  seeking_by p h t b x broker_tier g before other next h' t' w = elim w [ ]

  sought_for : (p : PartitionId) (config : Config) (h : PartitionState D) (t : RemoteTier S M) (b : ℕ) (x : Node D) (broker_tier : BrokerTierState) (in_progress : InProgress) (command : Command) (next : Search) (h' : PartitionState D) (t' : RemoteTier S M)
      → Row disk store meta p config h t b x broker_tier in_progress command (Sought next) h' t' → IsProgressOf command in_progress → IsProgressOf command (sought in_progress next)
  sought_for p config h t b x broker_tier (Noted g) command next h' t' w k = sought_by p config h t b x broker_tier g command next h' t' w
  sought_for p config h t b x broker_tier (Seeks g before) command next h' t' w k = seeking_by p h t b x broker_tier g before command next h' t' w
  sought_for p config h t b x broker_tier Idle command next h' t' w k = k
  sought_for p config h t b x broker_tier (Copies g copy before) command next h' t' w k = k
  sought_for p config h t b x broker_tier (Dates g cursor before) command next h' t' w k = k
  sought_for p config h t b x broker_tier (Expires g segment before) command next h' t' w k = k
  sought_for p config h t b x broker_tier (Rebuilds g before) command next h' t' w k = k

  -- a timestamp lookup alone continues with what its cursor needs
  dated_by : (p : PartitionId) (config : Config) (h : PartitionState D) (t : RemoteTier S M) (b : ℕ) (x : Node D) (broker_tier : BrokerTierState) (g : StartSnapshot)
      (command : Command) (cursor : ℕ) (next : Dating) (h' : PartitionState D) (t' : RemoteTier S M)
      → ContinuedRow disk store meta p config h t b x broker_tier g command (Dated cursor next) h' t' → DatesBy command cursor next
  dated_by p config h t b x broker_tier g (Offset (At ts)) cursor next h' t' w = set_of _ cursor next w.1
  dated_by p config h t b x broker_tier g (Offset LatestTiered) cursor next h' t' w = elim w.0 [ ]
  dated_by p config h t b x broker_tier g (Fetch offset limit) cursor next h' t' w = elim w.0 [ ]
  dated_by p config h t b x broker_tier g Copy cursor next h' t' (inl lost) = let e = lost.1 in absurd (cc (e))
  dated_by p config h t b x broker_tier g Copy cursor next h' t' (inr (keeps, inl level)) = let e = level.1 in absurd (cc (e))
  dated_by p config h t b x broker_tier g Copy cursor next h' t' (inr (keeps, inr reads)) = elim reads.row [ ]
  dated_by p config h t b x broker_tier g Trim cursor next h' t' w = elim w.0 [ ]
  dated_by p config h t b x broker_tier g Expire cursor next h' t' (inl lost, same) = let e = lost.1 in absurd (cc (e))
  dated_by p config h t b x broker_tier g Expire cursor next h' t' (inr (keeps, by), same) = elim by [ ]
  dated_by p config h t b x broker_tier g Join cursor next h' t' (inl (low, own)) = let e = own.0.1 in absurd (cc (e))
  dated_by p config h t b x broker_tier g Join cursor next h' t' (inr (high, inl (answer, is, at, tier), same)) = absurd (cc (is))
  dated_by p config h t b x broker_tier g Join cursor next h' t' (inr (high, inr (may, row), same)) = elim row [ ]
  dated_by p config h t b x broker_tier g other cursor next h' t' w = let e = w.0.1 in absurd (cc (e))

  dating_by : (p : PartitionId) (h : PartitionState D) (t : RemoteTier S M) (b : ℕ) (x : Node D) (broker_tier : BrokerTierState) (g : StartSnapshot) (was : ℕ) (before : Dating)
      (command : Command) (cursor : ℕ) (next : Dating) (h' : PartitionState D) (t' : RemoteTier S M)
      → DatingRow disk store meta p h t b x broker_tier g was before command (Dated cursor next) h' t' → DatesBy command cursor next
  dating_by p h t b x broker_tier g was before (Offset (At ts)) cursor next h' t' w = set_of _ cursor next w.1
  dating_by p h t b x broker_tier g was before other cursor next h' t' w = elim w [ ]

  dated_for : (p : PartitionId) (config : Config) (h : PartitionState D) (t : RemoteTier S M) (b : ℕ) (x : Node D) (broker_tier : BrokerTierState) (in_progress : InProgress)
      (command : Command) (cursor : ℕ) (next : Dating) (h' : PartitionState D) (t' : RemoteTier S M)
      → Row disk store meta p config h t b x broker_tier in_progress command (Dated cursor next) h' t' → IsProgressOf command in_progress
      → IsProgressOf command (dated in_progress cursor next)
  dated_for p config h t b x broker_tier (Noted g) command cursor next h' t' w k = dated_by p config h t b x broker_tier g command cursor next h' t' w
  dated_for p config h t b x broker_tier (Dates g was before) command cursor next h' t' w k =
      dating_by p h t b x broker_tier g was before command cursor next h' t' w
  dated_for p config h t b x broker_tier Idle command cursor next h' t' w k = k
  dated_for p config h t b x broker_tier (Copies g copy before) command cursor next h' t' w k = k
  dated_for p config h t b x broker_tier (Seeks g before) command cursor next h' t' w k = k
  dated_for p config h t b x broker_tier (Expires g segment before) command cursor next h' t' w k = k
  dated_for p config h t b x broker_tier (Rebuilds g before) command cursor next h' t' w k = k

  -- the actor's state has what the next turn of its list needs
  pub in_progress_after : (p : PartitionId) (config : Config) (h : PartitionState D) (t : RemoteTier S M) (h' : PartitionState D) (t' : RemoteTier S M) (l : ActorList) (actor_state : ActorState) (order : Order) (outcome : Outcome) (later : Order)
      → slice_get l.orders actor_state.number ≡ Some order → IsProgressOf order.command actor_state.in_progress → TurnRow disk store meta p config h t order.broker.0 actor_state.in_progress order.command outcome h' t'
      → slice_get l.orders (actor_state_after actor_state outcome).number ≡ Some later → IsProgressOf later.command (actor_state_after actor_state outcome).in_progress
  in_progress_after p config h t h' t' l actor_state order (Answers answer) later at k row to = idle_for later.command
  in_progress_after p config h t h' t' l actor_state order (Begins g) later at k row to =
      let same : order ≡ later = cc (at, to) in
      let idle = begins_idle disk store meta p config h t order.broker.0 actor_state.in_progress order.command g h' t' row in
      let r = row_of disk store meta p config h t order.broker.0 actor_state.in_progress order.command (Begins g) h' t' row in
      subst (λ (o : Order). HasSecondTurn o.command g) same (begun_for h t order.broker.0 r.x r.broker_tier order.command g h' t'
      (subst (λ (w : InProgress). Row disk store meta p config h t order.broker.0 r.x r.broker_tier w order.command (Begins g) h' t') idle r.row))
  in_progress_after p config h t h' t' l actor_state order (Chose copy) later at k row to =
      let same : order ≡ later = cc (at, to) in
      let r = row_of disk store meta p config h t order.broker.0 actor_state.in_progress order.command (Chose copy) h' t' row in
      subst (λ (o : Order). IsProgressOf o.command (chosen actor_state.in_progress copy)) same
      (chosen_for p config h t order.broker.0 r.x r.broker_tier actor_state.in_progress order.command copy h' t' r.row k)
  in_progress_after p config h t h' t' l actor_state order (Goes next) later at k row to =
      let same : order ≡ later = cc (at, to) in
      subst (λ (o : Order). IsProgressOf o.command (moved actor_state.in_progress next)) same (moved_for order.command actor_state.in_progress next k)
  in_progress_after p config h t h' t' l actor_state order (ChoosesExpired segment) later at k row to =
      let same : order ≡ later = cc (at, to) in
      let r = row_of disk store meta p config h t order.broker.0 actor_state.in_progress order.command (ChoosesExpired segment) h' t' row in
      subst (λ (o : Order). IsProgressOf o.command (expired_segment actor_state.in_progress segment)) same
      (expired_segment_for p config h t order.broker.0 r.x r.broker_tier actor_state.in_progress order.command segment h' t' r.row k)
  in_progress_after p config h t h' t' l actor_state order (Deletes next) later at k row to =
      let same : order ≡ later = cc (at, to) in
      subst (λ (o : Order). IsProgressOf o.command (deleting actor_state.in_progress next)) same (deleting_for order.command actor_state.in_progress next k)
  in_progress_after p config h t h' t' l actor_state order (Rebuilding next) later at k row to =
      let same : order ≡ later = cc (at, to) in
      let r = row_of disk store meta p config h t order.broker.0 actor_state.in_progress order.command (Rebuilding next) h' t' row in
      subst (λ (o : Order). IsProgressOf o.command (rebuilding actor_state.in_progress next)) same
      (rebuilding_for p config h t order.broker.0 r.x r.broker_tier actor_state.in_progress order.command next h' t' r.row k)
  in_progress_after p config h t h' t' l actor_state order (Sought next) later at k row to =
      let same : order ≡ later = cc (at, to) in
      let r = row_of disk store meta p config h t order.broker.0 actor_state.in_progress order.command (Sought next) h' t' row in
      subst (λ (o : Order). IsProgressOf o.command (sought actor_state.in_progress next)) same
      (sought_for p config h t order.broker.0 r.x r.broker_tier actor_state.in_progress order.command next h' t' r.row k)
  in_progress_after p config h t h' t' l actor_state order (Dated cursor next) later at k row to =
      let same : order ≡ later = cc (at, to) in
      let r = row_of disk store meta p config h t order.broker.0 actor_state.in_progress order.command (Dated cursor next) h' t' row in
      subst (λ (o : Order). IsProgressOf o.command (dated actor_state.in_progress cursor next)) same
      (dated_for p config h t order.broker.0 r.x r.broker_tier actor_state.in_progress order.command cursor next h' t' r.row k)
