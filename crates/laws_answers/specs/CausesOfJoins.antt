-- Why a join returns its answer, turn by turn.
--
--   turn      answer              its cause
--   first     Down                the broker isn't up
--             NotFollower         it follows nobody
--             StaleEpoch          the registry's epoch is above the one that it follows
--             NoLeader            the registry's leader isn't up, or doesn't lead that epoch yet
--             DiskFault           a call of the broker's disk failed in this turn
--             Cut                 the logs meet at or past the leader's local start; the log ends there
--   later     Stopped             the broker has stopped since, or isn't up
--             StaleEpoch          as at the first
--             Passed              its log doesn't end as it was cut, or the broker hasn't joined
--             BelowStart          the log start offset has reached the wanted offset since
--             MetaFault           at the refresh, a call of the metadata log failed in this turn
--             StoreFault          at the line, a call of the store did
--             DiskFault, Rebuilt  at the restart, a call of the broker's disk did; the log restarts where it should
--
-- No other answer has a cause.
use Rattle.std.specs.Prelude.{◌≡◌, ◌≢◌, ◌⊎◌, ℕ, ◌<◌, ◌≤◌, true, false, None, Some}
use Rattle.disk_model.specs.declared.disk.Disk.{Ghosts as DiskGhosts}
use Rattle.object_store.specs.declared.store.Store.{Ghosts as StoreGhosts}
use Rattle.meta_log.specs.declared.log.MetaLog.{Ghosts as MetaGhosts}
use Rattle.rebuild_task.specs.declared.turn.RebuildStep.TheVariants.{Epochs, Restart}
use Rattle.plain_log.specs.declared.answer.Answer.{Answer}
use Rattle.plain_log.specs.declared.answer.Answer.TheVariants.{Down, NotFollower, StaleEpoch, NoLeader, Cut}
use Rattle.plain_log.specs.declared.answer.Answer.TheVariants.{DiskFaultAt, MetaFault, StoreFault, Rebuilt}
use Rattle.plain_log.specs.State.{followed}
use Rattle.laws_partition.specs.declared.start_snapshot.StartSnapshot.{StartSnapshot}
use Rattle.partition_commands.specs.declared.partition_state.Node.{Node}
use Rattle.partition_commands.specs.Partition.{is_up, end_of, local_of, the_leader, AtNode}
use Rattle.partition_commands.specs.TurnsOfFollowers.{IsStale, IsCurrent, MayRebuild}
use Rattle.partition_world.specs.declared.actor_state.InProgress.{InProgress}
use Rattle.partition_world.specs.declared.actor_state.InProgress.TheVariants.{Idle, Noted, Rebuilds}
use Rattle.partition_world.specs.TurnsOfRebuild.{AnswersAtOnce}
use Rattle.partition_world.specs.Whole.{Whole}
use Rattle.laws_answers.specs.Faults.{DiskFailed, StoreFailed, MetaFailed}

module _ {D S M : Type 0} (disk : DiskGhosts D) (store : StoreGhosts S) (meta : MetaGhosts M) where
  -- the cause of an answer at a join's first turn
  abbrev pub JoinFirstCause : Whole D S M → ℕ → Node D → Answer → Whole D S M → Type 0
  JoinFirstCause w b x Down w' = is_up x ≡ false
  JoinFirstCause w b x NotFollower w' = followed x.role ≡ None
  JoinFirstCause w b x (StaleEpoch n) w' =
      IsStale w.partition_state (followed x.role) × (n ≡ w.partition_state.registry.epoch)
  JoinFirstCause w b x NoLeader w' = the_leader w.partition_state ≡ None
  JoinFirstCause w b x (DiskFaultAt n) w' = DiskFailed disk b w w'
  JoinFirstCause w b x (Cut n) w' =
      ((y : Node D) × (the_leader w.partition_state ≡ Some y) × (local_of y ≤ n))
      × AtNode w'.partition_state b (λ x. end_of x ≡ n)
  JoinFirstCause w b x other w' = ⊥

  -- where its log restarts
  abbrev pub RestartCause : Whole D S M → ℕ → Node D → StartSnapshot → Answer → Whole D S M → Type 0
  RestartCause w b x g (DiskFaultAt n) w' = DiskFailed disk b w w'
  RestartCause w b x g (Rebuilt n) w' = (n ≡ g.wanted) × AtNode w'.partition_state b (λ x. end_of x ≡ n)
  RestartCause w b x g answer w' = AnswersAtOnce w.partition_state x g answer

  -- where its view is refreshed
  abbrev pub RefreshCause : Whole D S M → Node D → StartSnapshot → Answer → Whole D S M → Type 0
  RefreshCause w x g MetaFault w' = MetaFailed meta w w'
  RefreshCause w x g answer w' = AnswersAtOnce w.partition_state x g answer

  -- where the line is read
  abbrev pub EpochsCause : Whole D S M → Node D → StartSnapshot → Answer → Whole D S M → Type 0
  EpochsCause w x g StoreFault w' = StoreFailed store w w'
  EpochsCause w x g answer w' = AnswersAtOnce w.partition_state x g answer

  -- after its first turn, where it keeps what it recorded: where the log start offset had reached the wanted offset by
  -- then, its log restarts at once
  abbrev pub JoinSecondCause : Whole D S M → ℕ → Node D → StartSnapshot → Answer → Whole D S M → Type 0
  JoinSecondCause w b x g answer w' =
      ((g.wanted ≤ g.start) × RestartCause w b x g answer w') ⊎ ((g.start < g.wanted) × RefreshCause w x g answer w')

  -- at any turn, by what the actor's state kept of the join
  abbrev pub JoinHasCause : Whole D S M → ℕ → Node D → InProgress → Answer → Whole D S M → Type 0
  JoinHasCause w b x Idle answer w' = JoinFirstCause w b x answer w'
  JoinHasCause w b x (Noted g) answer w' = JoinSecondCause w b x g answer w'
  JoinHasCause w b x (Rebuilds g Epochs) answer w' = EpochsCause w x g answer w'
  JoinHasCause w b x (Rebuilds g (Restart line)) answer w' = RestartCause w b x g answer w'
  JoinHasCause w b x other answer w' = ⊥

-- it is answered where the log ends then
abbrev pub IsJoined : Answer → Type 0
IsJoined answer = (n : ℕ) × ((answer ≡ Cut n) ⊎ (answer ≡ Rebuilt n))

module _ {D S M : Type 0} where
  -- the broker is up and follows the registry's epoch, whose leader is up and leads; later, nothing has come between,
  -- and the log start offset hasn't reached the wanted offset
  abbrev pub MayJoin : Whole D S M → Node D → InProgress → Type 0
  MayJoin w x Idle =
      (is_up x ≡ true) × IsCurrent w.partition_state (followed x.role) × (the_leader w.partition_state ≢ None)
  MayJoin w x (Noted g) = MayRebuild w.partition_state x g
  MayJoin w x (Rebuilds g next) = MayRebuild w.partition_state x g
  MayJoin w x other = ⊥
