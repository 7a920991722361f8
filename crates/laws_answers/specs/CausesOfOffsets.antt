-- Why a question for an offset returns its answer, turn by turn.
--
--   turn      answer              its cause
--   first     Down                the broker isn't up
--             NotLeader           it doesn't lead
--             Offset              it does, and that is the offset, where it is known without the remote tier
--             MetaFault           where it isn't, a call of the metadata log failed in this turn
--   second    Stopped             the broker has stopped since the first turn, or isn't up
--             NotLeader           it has another role than then
--             Offset              it has led on, and the remote tier has the log up to that offset
--             NoOffset            it has, and the remote tier has nothing from the log start offset on
--
-- And of a question by timestamp:
--
--   first     Down, NotLeader     as above
--             MetaFault           a call of the metadata log failed in this turn
--   later     Stopped, NotLeader  as above
--             MetaFault           as at the first
--             StoreFault          a call of the store failed in this turn
--             DiskFault           a call of the broker's disk failed in this turn
--             NoOffset            it has led on, and the search has come to the high watermark that it knows
--             Offset, Damaged     it has led on; `LawsOfSearches.antt` says more of these
--
-- A call that failed is reported by its device's count of faults, which has risen, or is at its type's greatest value.
-- No other answer has a cause.
use Rattle.std.specs.Prelude.{◌≡◌, ◌≢◌, ℕ, ◌≤◌, true, false, Some, None}
use Rattle.disk_model.specs.declared.disk.Disk.{Ghosts as DiskGhosts}
use Rattle.object_store.specs.declared.store.Store.{Ghosts as StoreGhosts}
use Rattle.meta_log.specs.declared.log.MetaLog.{Ghosts as MetaGhosts}
use Rattle.plain_log.specs.State.{leads}
use Rattle.plain_log.specs.declared.answer.Answer.{Answer}
use Rattle.plain_log.specs.declared.answer.Answer.TheVariants.{Down, NotLeader, Offset, MetaFault, StoreFault}
use Rattle.plain_log.specs.declared.answer.Answer.TheVariants.{DiskFault, Damaged, Stopped, NoOffset}
use Rattle.plain_log.specs.declared.command.Which.{Which}
use Rattle.plain_log.specs.declared.command.Which.TheVariants.{LatestTiered, At}
use Rattle.plain_log.specs.RowsOfReads.{is_long}
use Rattle.laws_partition.specs.declared.start_snapshot.StartSnapshot.{StartSnapshot}
use Rattle.partition_commands.specs.declared.partition_state.Node.{Node}
use Rattle.partition_commands.specs.Partition.{is_up}
use Rattle.partition_commands.specs.Turns.{known_offset}
use Rattle.partition_world.specs.declared.actor_state.InProgress.{InProgress}
use Rattle.partition_world.specs.declared.actor_state.InProgress.TheVariants.{Idle, Noted, Dates}
use Rattle.partition_world.specs.declared.tier.BrokerTierState.{BrokerTierState}
use Rattle.partition_world.specs.TurnsOfCopy.{KeepsLead}
use Rattle.partition_world.specs.TurnsOfDate.{resumed_at}
use Rattle.partition_world.specs.TurnsOfFetch.{HasStopped}
use Rattle.partition_world.specs.TurnsOfOffset.{tiered_offset}
use Rattle.partition_world.specs.Whole.{Whole}
use Rattle.laws_answers.specs.Faults.{DiskFailed, StoreFailed, MetaFailed}

module _ {D S M : Type 0} where
  -- the cause of an answer at a question's second turn
  abbrev pub OffsetSecondCause : Whole D S M → Node D → BrokerTierState → StartSnapshot → Answer → Type 0
  OffsetSecondCause w x broker_tier g Stopped = HasStopped x g
  OffsetSecondCause w x broker_tier g NotLeader = g.role ≢ x.role
  OffsetSecondCause w x broker_tier g (Offset n) =
      KeepsLead x g × (tiered_offset w.partition_state x broker_tier ≡ Some n)
  OffsetSecondCause w x broker_tier g NoOffset = KeepsLead x g × (tiered_offset w.partition_state x broker_tier ≡ None)
  OffsetSecondCause w x broker_tier g other = ⊥

module _ {D S M : Type 0} (disk : DiskGhosts D) (store : StoreGhosts S) (meta : MetaGhosts M) where
  -- at a later turn of a question by timestamp, whose search has come to an offset
  abbrev pub SearchCause : Whole D S M → ℕ → Node D → StartSnapshot → ℕ → Answer → Whole D S M → Type 0
  SearchCause w b x g cursor Stopped w' = HasStopped x g
  SearchCause w b x g cursor NotLeader w' = g.role ≢ x.role
  SearchCause w b x g cursor MetaFault w' = KeepsLead x g × MetaFailed meta w w'
  SearchCause w b x g cursor StoreFault w' = KeepsLead x g × StoreFailed store w w'
  SearchCause w b x g cursor DiskFault w' = KeepsLead x g × DiskFailed disk b w w'
  SearchCause w b x g cursor NoOffset w' =
      KeepsLead x g × (x.known_high_watermark ≤ resumed_at w.partition_state.registry.start cursor)
  SearchCause w b x g cursor (Offset n) w' = KeepsLead x g
  SearchCause w b x g cursor (Damaged place at) w' = KeepsLead x g
  SearchCause w b x g cursor other w' = ⊥

  -- at its first turn
  abbrev pub OffsetFirstCause : Whole D S M → Node D → Which → Answer → Whole D S M → Type 0
  OffsetFirstCause w x which Down w' = is_up x ≡ false
  OffsetFirstCause w x which NotLeader w' = leads x.role ≡ false
  OffsetFirstCause w x which (Offset n) w' =
      (is_up x ≡ true) × (leads x.role ≡ true) × (known_offset w.partition_state x which ≡ Some n)
  OffsetFirstCause w x which MetaFault w' = (is_long which ≡ true) × MetaFailed meta w w'
  OffsetFirstCause w x which other w' = ⊥

  -- at any turn, by what the actor's state kept of the question
  abbrev pub OffsetHasCause : Whole D S M → ℕ → Node D → BrokerTierState → InProgress → Which → Answer → Whole D S M
      → Type 0
  OffsetHasCause w b x broker_tier Idle which answer w' = OffsetFirstCause w x which answer w'
  OffsetHasCause w b x broker_tier (Noted g) LatestTiered answer w' = OffsetSecondCause w x broker_tier g answer
  OffsetHasCause w b x broker_tier (Noted g) (At ts) answer w' = SearchCause w b x g 0 answer w'
  OffsetHasCause w b x broker_tier (Dates g cursor next) (At ts) answer w' = SearchCause w b x g cursor answer w'
  OffsetHasCause w b x broker_tier in_progress which answer w' = ⊥

module _ {D : Type 0} where
  -- the broker of a search leads, and has led on
  abbrev pub MaySearch : Node D → InProgress → Type 0
  MaySearch x Idle = (is_up x ≡ true) × (leads x.role ≡ true)
  MaySearch x (Noted g) = KeepsLead x g
  MaySearch x (Dates g cursor next) = KeepsLead x g
  MaySearch x other = ⊥
