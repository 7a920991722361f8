-- Why a copy returns its answer, turn by turn.
--
--   turn      answer              its cause
--   first     Down                the broker isn't up
--             NotLeader           it doesn't lead
--             CopyOff             it does, and segments aren't copied
--             MetaFault           they are, and a call of the metadata log failed in this turn
--   second    LostLead            the broker has stopped since the first turn, or has another role
--             Level               no closed segment is left to copy
--             DiskFault           a call of the broker's disk failed in this turn
--   later     LostLead            as at the second
--             MetaFault           a call of the metadata log failed in this turn
--             StoreFault          a call of the store did
--             Overtaken           the deletion has started, and the segment ends below the log start offset
--             Copied              the metadata log says that the copy is whole
--
-- A call that failed is reported by its device's count of faults, which has risen, or is at its type's greatest value.
-- No other answer has a cause: so no copy is answered `Damaged`, since what it reads is what was written.
use Rattle.std.specs.Prelude.{◌≡◌, ◌≢◌, ℕ, ◌<◌, ◌≤◌, true, false, Some, None}
use Rattle.disk_model.specs.declared.disk.Disk.{Ghosts as DiskGhosts}
use Rattle.object_store.specs.declared.store.Store.{Ghosts as StoreGhosts}
use Rattle.meta_log.specs.declared.log.MetaLog.{Ghosts as MetaGhosts}
use Rattle.tier_base.specs.declared.names.SegmentId.{SegmentId}
use Rattle.tier_base.specs.declared.plain.State.TheVariants.{CopyFinished}
use Rattle.remote_view.specs.Fold.{state_of, fold}
use Rattle.copy_task.specs.Copying.{Copied}
use Rattle.plain_log.specs.State.{leads}
use Rattle.plain_log.specs.declared.answer.Answer.{Answer}
use Rattle.plain_log.specs.declared.answer.Answer.TheVariants.{Down, NotLeader, CopyOff, MetaFault, LostLead, Level}
use Rattle.plain_log.specs.declared.answer.Answer.TheVariants.{DiskFault, StoreFault, Overtaken, CopiedSegment}
use Rattle.tier_safe.specs.Copies.{is_deleted}
use Rattle.laws_partition.specs.declared.start_snapshot.StartSnapshot.{StartSnapshot}
use Rattle.partition_commands.specs.declared.partition_state.Node.{Node}
use Rattle.partition_commands.specs.Partition.{is_up}
use Rattle.partition_world.specs.declared.actor_state.InProgress.{InProgress}
use Rattle.partition_world.specs.declared.actor_state.InProgress.TheVariants.{Idle, Noted, Copies, Seeks}
use Rattle.partition_world.specs.declared.actor_state.InProgress.TheVariants.{Dates, Expires, Rebuilds}
use Rattle.partition_world.specs.declared.tier.BrokerTierState.{BrokerTierState}
use Rattle.partition_world.specs.TurnsOfCopy.{KeepsLead, next_segment}
use Rattle.partition_world.specs.Whole.{Whole}
use Rattle.laws_answers.specs.Faults.{DiskFailed, StoreFailed, MetaFailed}

module _ {D S M : Type 0} (meta : MetaGhosts M) where
  -- the copy has this id and these offsets, and is recorded as finished
  pub record IsToldWhole (copy : Copied) (id : SegmentId) (base last : ℕ) (w' : Whole D S M) : Type 0 where
    pub id_is : id ≡ copy.id
    pub base_is : base ≡ copy.segment.base
    pub last_is : last ≡ copy.segment.last
    pub finished : state_of copy.id (fold (meta.content w'.tier.meta).notes) ≡ Some CopyFinished

module _ {D S M : Type 0} (disk : DiskGhosts D) (store : StoreGhosts S) (meta : MetaGhosts M) where
  -- the cause of an answer at a copy's first turn
  abbrev pub CopyFirstCause : Whole D S M → Node D → Answer → Whole D S M → Type 0
  CopyFirstCause w x Down w' = is_up x ≡ false
  CopyFirstCause w x NotLeader w' = leads x.role ≡ false
  CopyFirstCause w x CopyOff w' = (is_up x ≡ true) × (leads x.role ≡ true) × (w.partition_state.copying ≡ false)
  CopyFirstCause w x MetaFault w' = (w.partition_state.copying ≡ true) × MetaFailed meta w w'
  CopyFirstCause w x other w' = ⊥

  -- at its second turn
  abbrev pub ChoiceCause : Whole D S M → ℕ → Node D → BrokerTierState → StartSnapshot → Answer → Whole D S M → Type 0
  ChoiceCause w b x broker_tier g LostLead w' = KeepsLead x g → ⊥
  ChoiceCause w b x broker_tier g Level w' = next_segment w.partition_state x broker_tier ≡ None
  ChoiceCause w b x broker_tier g DiskFault w' = DiskFailed disk b w w'
  ChoiceCause w b x broker_tier g other w' = ⊥

  -- at a later turn
  abbrev pub CopyLaterCause : Whole D S M → Node D → StartSnapshot → Copied → Answer → Whole D S M → Type 0
  CopyLaterCause w x g copy LostLead w' = KeepsLead x g → ⊥
  CopyLaterCause w x g copy MetaFault w' = MetaFailed meta w w'
  CopyLaterCause w x g copy StoreFault w' = StoreFailed store w w'
  CopyLaterCause w x g copy (Overtaken state) w' =
      (is_deleted state ≡ true) × (copy.segment.last < w.partition_state.registry.start)
  CopyLaterCause w x g copy (CopiedSegment id base last) w' = IsToldWhole meta copy id base last w'
  CopyLaterCause w x g copy other w' = ⊥

  -- at any turn, by what the actor's state kept of the copy
  abbrev pub CopyHasCause : Whole D S M → ℕ → Node D → BrokerTierState → InProgress → Answer → Whole D S M → Type 0
  CopyHasCause w b x broker_tier Idle answer w' = CopyFirstCause w x answer w'
  CopyHasCause w b x broker_tier (Noted g) answer w' = ChoiceCause w b x broker_tier g answer w'
  CopyHasCause w b x broker_tier (Copies g copy next) answer w' = CopyLaterCause w x g copy answer w'
  CopyHasCause w b x broker_tier (Seeks g next) answer w' = ⊥
  CopyHasCause w b x broker_tier (Dates g cursor next) answer w' = ⊥
  CopyHasCause w b x broker_tier (Expires g expired_segment next) answer w' = ⊥
  CopyHasCause w b x broker_tier (Rebuilds g next) answer w' = ⊥

module _ {D S M : Type 0} where
  -- the broker leads, and segments are copied as it begins; it has led on; there is a segment to copy, and the log
  -- start offset isn't past its end
  abbrev pub MayCopy : Whole D S M → Node D → BrokerTierState → InProgress → Type 0
  MayCopy w x broker_tier Idle = (is_up x ≡ true) × (leads x.role ≡ true) × (w.partition_state.copying ≡ true)
  MayCopy w x broker_tier (Noted g) = KeepsLead x g × (next_segment w.partition_state x broker_tier ≢ None)
  MayCopy w x broker_tier (Copies g copy next) = KeepsLead x g × (w.partition_state.registry.start ≤ copy.segment.last)
  MayCopy w x broker_tier (Seeks g next) = ⊥
  MayCopy w x broker_tier (Dates g cursor next) = ⊥
  MayCopy w x broker_tier (Expires g expired_segment next) = ⊥
  MayCopy w x broker_tier (Rebuilds g next) = ⊥
