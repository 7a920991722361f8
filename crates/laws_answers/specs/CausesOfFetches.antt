-- Why a fetch returns its answer, turn by turn.
--
--   turn      answer              its cause
--   first     Down                the broker isn't up
--             NotLeader           it doesn't lead
--             OutOfRange          the offset is below the log start offset, or past the log's end
--             Empty               it isn't below the high watermark that the broker knows
--             DiskFault           a call of the broker's disk failed in this turn
--             Run                 the bytes are a run of the log, and are in the local log
--   later     Stopped             the broker has stopped since the first turn
--             NotLeader           it has another role than then
--             OutOfRange, Empty   as at the first
--   refresh   MetaFault           a call of the metadata log failed in this turn
--   index     StoreFault          a call of the store failed in this turn
--   log       StoreFault          as for the index
--             Run                 the bytes are a run of the log, and are in the remote segment that was found
--
-- A refresh, the index and the log are the later turns, in this order. A call that failed is reported by its device's
-- count of faults, which has risen, or is at its type's greatest value. A run has one batch at least. No other answer
-- has a cause: so no fetch is answered `Damaged`, since what it reads is what was written, and its index shows as much
-- of it as a run needs.
use Rattle.std.specs.Prelude.{◌≡◌, ◌⊎◌, ℕ, ◌<◌, ◌≤◌, true, false, List}
use Rattle.tier_base.specs.declared.plain.Stop.{Stop}
use Rattle.disk_model.specs.declared.disk.Disk.{Ghosts as DiskGhosts}
use Rattle.object_store.specs.declared.store.Store.{Ghosts as StoreGhosts}
use Rattle.meta_log.specs.declared.log.MetaLog.{Ghosts as MetaGhosts}
use Rattle.tier_fetch.specs.declared.turn.FetchStep.{FetchStep}
use Rattle.tier_fetch.specs.declared.turn.FetchStep.TheVariants.{Refresh, Index, Log}
use Rattle.plain_log.specs.declared.answer.Answer.{Answer}
use Rattle.plain_log.specs.declared.answer.Answer.TheVariants.{Down, NotLeader, OutOfRange, Empty}
use Rattle.plain_log.specs.declared.answer.Answer.TheVariants.{DiskFault, MetaFault, StoreFault, Run}
use Rattle.plain_log.specs.declared.answer.Tier.TheVariants.{Local, Remote}
use Rattle.plain_log.specs.State.{leads}
use Rattle.broker_log.specs.Seen.{ShowsSeen}
use Rattle.broker_log.specs.Seen as log
use Rattle.laws_partition.specs.declared.start_snapshot.StartSnapshot.{StartSnapshot}
use Rattle.laws_partition.specs.RowsOfLog.{GivesRun}
use Rattle.partition_commands.specs.declared.partition_state.Node.{Node}
use Rattle.partition_commands.specs.Partition.{is_up, end_of, node_of}
use Rattle.partition_world.specs.declared.actor_state.InProgress.{InProgress}
use Rattle.partition_world.specs.declared.actor_state.InProgress.TheVariants.{Idle, Noted, Seeks}
use Rattle.partition_world.specs.TurnsOfCopy.{KeepsLead}
use Rattle.partition_world.specs.TurnsOfFetch.{AnswersAtOnce}
use Rattle.partition_world.specs.Whole.{Whole}
use Rattle.laws_answers.specs.Faults.{DiskFailed, StoreFailed, MetaFailed}

module _ {D : Type 0} (disk : DiskGhosts D) where
  -- the bytes are a run at the offset, of the log that the broker's disk shows
  pub record IsLogsRun (x : Node D) (offset limit size : ℕ) (stop : Stop) (bytes : List ℕ) : Type 0 where
    pub seen : log.LogSeen
    pub shows : ShowsSeen disk.content x.log seen
    pub gives : GivesRun (node_of x seen) offset limit size stop bytes

module _ {D S M : Type 0} where
  -- the offset is below the log start offset, or past the log's end
  pub record IsOutside (w : Whole D S M) (x : Node D) (offset start end : ℕ) : Type 0 where
    pub outside : (offset < start) ⊎ (end < offset)
    pub start_is : start ≡ w.partition_state.registry.start
    pub end_is : end ≡ end_of x

module _ {D S M : Type 0} (disk : DiskGhosts D) (store : StoreGhosts S) (meta : MetaGhosts M) where
  -- the cause of an answer at a fetch's first turn
  abbrev pub FetchFirstCause : Whole D S M → ℕ → Node D → ℕ → ℕ → Answer → Whole D S M → Type 0
  FetchFirstCause w b x offset limit Down w' = is_up x ≡ false
  FetchFirstCause w b x offset limit NotLeader w' = leads x.role ≡ false
  FetchFirstCause w b x offset limit (OutOfRange start end) w' = IsOutside w x offset start end
  FetchFirstCause w b x offset limit Empty w' = x.known_high_watermark ≤ offset
  FetchFirstCause w b x offset limit DiskFault w' = DiskFailed disk b w w'
  FetchFirstCause w b x offset limit (Run tier size stop bytes) w' =
      ((base : ℕ) × (tier ≡ Local base)) × IsLogsRun disk x offset limit size stop bytes
  FetchFirstCause w b x offset limit other w' = ⊥

  -- at a later one, by what is next
  abbrev pub FetchLaterCause : Whole D S M → Node D → StartSnapshot → ℕ → ℕ → FetchStep → Answer → Whole D S M → Type 0
  FetchLaterCause w x g offset limit Refresh MetaFault w' = MetaFailed meta w w'
  FetchLaterCause w x g offset limit (Index piece) StoreFault w' = StoreFailed store w w'
  FetchLaterCause w x g offset limit (Log piece span) StoreFault w' = StoreFailed store w w'
  FetchLaterCause w x g offset limit (Log piece span) (Run tier size stop bytes) w' =
      (tier ≡ Remote piece.id) × IsLogsRun disk x offset limit size stop bytes
  FetchLaterCause w x g offset limit next answer w' = AnswersAtOnce w.partition_state x g offset answer

  -- at any turn, by what the actor's state kept of the fetch
  abbrev pub FetchHasCause : Whole D S M → ℕ → Node D → InProgress → ℕ → ℕ → Answer → Whole D S M → Type 0
  FetchHasCause w b x Idle offset limit answer w' = FetchFirstCause w b x offset limit answer w'
  FetchHasCause w b x (Noted g) offset limit answer w' = FetchLaterCause w x g offset limit Refresh answer w'
  FetchHasCause w b x (Seeks g next) offset limit answer w' = FetchLaterCause w x g offset limit next answer w'
  FetchHasCause w b x other offset limit answer w' = ⊥

module _ {D S M : Type 0} where
  -- the log start offset isn't past the offset, and the high watermark that the broker knows is
  pub record IsOffsetCommitted (w : Whole D S M) (x : Node D) (offset : ℕ) : Type 0 where
    pub from : w.partition_state.registry.start ≤ offset
    pub below : offset < x.known_high_watermark

  -- the broker leads, and has led on, and may give the offset
  abbrev pub MayServe : Whole D S M → Node D → ℕ → InProgress → Type 0
  MayServe w x offset Idle = (is_up x ≡ true) × (leads x.role ≡ true) × IsOffsetCommitted w x offset
  MayServe w x offset (Noted g) = KeepsLead x g × IsOffsetCommitted w x offset
  MayServe w x offset (Seeks g next) = KeepsLead x g × IsOffsetCommitted w x offset
  MayServe w x offset other = ⊥
