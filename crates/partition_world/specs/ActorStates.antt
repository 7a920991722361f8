-- What an actor's state has of a command between its turns, and what a turn makes of it.
use Rattle.std.specs.Prelude.{ℕ, ◌+◌, List, [], ◌∷◌, map, Option, Some, None}
use Rattle.tier_base.specs.declared.names.ActorId.{ActorId}
use Rattle.copy_task.specs.Copying.{Copied}
use Rattle.copy_task.specs.declared.turn.CopyStep.{CopyStep}
use Rattle.copy_task.specs.declared.turn.CopyStep.TheVariants.{Start}
use Rattle.expiry_task.specs.declared.turn.ExpiredSegment.{ExpiredSegment}
use Rattle.expiry_task.specs.declared.turn.DeletionStep.{DeletionStep as Deletion}
use Rattle.expiry_task.specs.declared.turn.DeletionStep.TheVariants as deletion
use Rattle.plain_log.specs.declared.turn.Turn.{Turn}
use Rattle.plain_log.specs.declared.turn.Turn.TheVariants.{Goes as GoesOn, Ends}
use Rattle.tier_fetch.specs.declared.turn.FetchStep.{FetchStep as Search}
use Rattle.rebuild_task.specs.declared.turn.RebuildStep.{RebuildStep as Rebuild}
use Rattle.time_find.specs.declared.turn.SearchStep.{SearchStep as Dating}
use Rattle.plain_log.specs.declared.command.Command.{Command}
use Rattle.plain_log.specs.declared.journal.Event.TheVariants as event
use Rattle.plain_log.specs.declared.journal.JournalEntry.{JournalEntry}
use Rattle.laws_partition.specs.declared.start_snapshot.StartSnapshot.{StartSnapshot}
use Rattle.laws_partition.specs.declared.start_snapshot.Turned.{Turned}
use Rattle.laws_partition.specs.declared.start_snapshot.Turned.TheVariants as turned
use Rattle.laws_partition.specs.declared.actor_progress.ActorProgress as seen_actor_state
use Rattle.laws_partition.specs.declared.actor_progress.Stepped.{Stepped}
use Rattle.laws_partition.specs.declared.actor_progress.Stepped.TheVariants.{Ran, Done}
use Rattle.laws_partition.specs.Turn.{event_of}
use Rattle.partition_world.specs.declared.actor_state.Outcome.{Outcome}
use Rattle.partition_world.specs.declared.actor_state.Outcome.TheVariants.{Answers, Begins, Chose, Goes, Seeks, Dates}
use Rattle.partition_world.specs.declared.actor_state.Outcome.TheVariants.{ChoosesExpired, Deletes, Rebuilds}
use Rattle.partition_world.specs.declared.actor_state.ActorState.{ActorState}
use Rattle.partition_world.specs.declared.actor_state.InProgress.{InProgress}
use Rattle.partition_world.specs.declared.actor_state.InProgress.TheVariants as in_progress
use Rattle.partition_world.specs.declared.actor_state.InProgress.TheVariants.{Idle, Noted, Copies, Expires}

-- what was recorded where the command began
abbrev pub recorded_in : InProgress → Option StartSnapshot
recorded_in Idle = None
recorded_in (Noted g) = Some g
recorded_in (Copies g copy next) = Some g
recorded_in (in_progress.Seeks g next) = Some g
recorded_in (in_progress.Dates g cursor next) = Some g
recorded_in (Expires g segment next) = Some g
recorded_in (in_progress.Rebuilds g next) = Some g

-- a copy that has chosen its segment starts with it next
abbrev pub chosen : InProgress → Copied → InProgress
chosen (Noted g) copy = Copies g copy Start
chosen other copy = other

-- a copy does this next
abbrev pub moved : InProgress → CopyStep → InProgress
moved (Copies g copy before) next = Copies g copy next
moved other next = other

-- a fetch continues in the remote tier with this
abbrev pub sought : InProgress → Search → InProgress
sought (Noted g) next = in_progress.Seeks g next
sought (in_progress.Seeks g before) next = in_progress.Seeks g next
sought other next = other

-- a timestamp lookup continues at this cursor with this
abbrev pub dated : InProgress → ℕ → Dating → InProgress
dated (Noted g) cursor next = in_progress.Dates g cursor next
dated (in_progress.Dates g before was) cursor next = in_progress.Dates g cursor next
dated other cursor next = other

-- an expiry that has taken up a remote segment starts its deletion next
abbrev pub expired_segment : InProgress → ExpiredSegment → InProgress
expired_segment (Noted g) segment = Expires g segment deletion.Start
expired_segment other segment = other

-- an expiry does this next
abbrev pub deleting : InProgress → Deletion → InProgress
deleting (Expires g segment before) next = Expires g segment next
deleting other next = other

-- a join continues with this to restart its log
abbrev pub rebuilding : InProgress → Rebuild → InProgress
rebuilding (Noted g) next = in_progress.Rebuilds g next
rebuilding (in_progress.Rebuilds g before) next = in_progress.Rebuilds g next
rebuilding other next = other

-- the actor's state as it is seen: what was recorded is seen, and not the segment of a copy or an expiry, nor what a
-- fetch, a timestamp lookup or a rebuild has found
abbrev pub actor_state_seen : ActorState → seen_actor_state.ActorProgress
actor_state_seen actor_state = record { number = actor_state.number; snapshot = recorded_in actor_state.in_progress }

-- the desk as it is seen
abbrev pub desk_seen : List ActorState → List seen_actor_state.ActorProgress
desk_seen desk = map actor_state_seen desk

-- what a turn came to that works on brokers' logs and the registry alone
abbrev pub outcome_of : Turned → Outcome
outcome_of (turned.Answers answer) = Answers answer
outcome_of (turned.Begins g) = Begins g

-- what a turn of a copy came to
abbrev pub copy_outcome : Turn CopyStep → Outcome
copy_outcome (GoesOn next) = Goes next
copy_outcome (Ends answer) = Answers answer

-- what a turn of a fetch from the remote tier came to
abbrev pub fetch_outcome : Turn Search → Outcome
fetch_outcome (GoesOn next) = Seeks next
fetch_outcome (Ends answer) = Answers answer

-- what a turn of a timestamp lookup came to
abbrev pub date_outcome : Turn (ℕ × Dating) → Outcome
date_outcome (GoesOn (cursor, next)) = Dates cursor next
date_outcome (Ends answer) = Answers answer

-- what a turn of an expiry came to
abbrev pub expiry_outcome : Turn Deletion → Outcome
expiry_outcome (GoesOn next) = Deletes next
expiry_outcome (Ends answer) = Answers answer

-- what a turn of a rebuild came to
abbrev pub rebuild_outcome : Turn Rebuild → Outcome
rebuild_outcome (GoesOn next) = Rebuilds next
rebuild_outcome (Ends answer) = Answers answer

-- the actor's state after a turn: at the next order after an answer, else with what the order continues with
abbrev pub actor_state_after : ActorState → Outcome → ActorState
actor_state_after actor_state (Answers answer) = record { number = actor_state.number + 1; in_progress = Idle }
actor_state_after actor_state (Begins g) = record actor_state { in_progress = Noted g }
actor_state_after actor_state (Chose copy) = record actor_state { in_progress = chosen actor_state.in_progress copy }
actor_state_after actor_state (Goes next) = record actor_state { in_progress = moved actor_state.in_progress next }
actor_state_after actor_state (Seeks next) = record actor_state { in_progress = sought actor_state.in_progress next }
actor_state_after actor_state (Dates cursor next) =
    record actor_state { in_progress = dated actor_state.in_progress cursor next }
actor_state_after actor_state (ChoosesExpired segment) =
    record actor_state { in_progress = expired_segment actor_state.in_progress segment }
actor_state_after actor_state (Deletes next) =
    record actor_state { in_progress = deleting actor_state.in_progress next }
actor_state_after actor_state (Rebuilds next) =
    record actor_state { in_progress = rebuilding actor_state.in_progress next }

-- what the journal says of a turn: nothing of one that neither begins its command nor answers it
abbrev pub told_of : ActorId → ℕ → Command → Outcome → List JournalEntry
told_of actor number command (Answers answer) =
    record { actor = actor; number = number; event = event.Answers answer } ∷ []
told_of actor number command (Begins g) =
    record { actor = actor; number = number; event = event_of (turned.Begins g) command } ∷ []
told_of actor number command other = []

-- how many entries that are
abbrev pub told_count : Outcome → ℕ
told_count (Answers answer) = 1
told_count (Begins g) = 1
told_count other = 0

-- what a step is that came to it
abbrev pub stepped_of : Outcome → Stepped
stepped_of (Answers answer) = Done
stepped_of other = Ran

-- the command continues
abbrev pub IsUnanswered : Outcome → Type 0
IsUnanswered (Answers answer) = ⊥
IsUnanswered other = Unit {0}
