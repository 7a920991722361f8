-- What a turn of a copy comes to over devices.
--
--   turn      does                                       answers
--   first     refreshes the leader's view                Down, NotLeader, CopyOff, MetaFault
--   second    chooses a closed segment, and reads it     LostLead, Level, DiskFault, Damaged
--   later     one call of a device, by the copy's row    LostLead, and what that row answers
--
-- A broker that has stopped, or has another role than at the first turn, has lost its lead. Of the broker's log only
-- the second turn takes notice, and reads it. Where segments aren't copied no copy begins; one that has begun
-- continues.
use Rattle.std.specs.Prelude.{◌≡◌, ◌⊎◌, ℕ, ◌-◌, ◌^◌, ◌<◌, ◌&&◌, Bool, true, false}
use Rattle.std.specs.Prelude.{max, Option, Some, None, Ok, Err, IsSomeAnd}
use Rattle.std.specs.declared.alloc.AllocError.{AllocError}
use Rattle.tier_base.specs.declared.names.PartitionId.{PartitionId}
use Rattle.tier_base.specs.declared.plain.FileName.{FileName}
use Rattle.tier_base.specs.Device.{Went, Ran}
use Rattle.disk_model.specs.declared.call.DiskCall.TheVariants.{Read}
use Rattle.disk_model.specs.declared.disk.Disk.{Ghosts as DiskGhosts}
use Rattle.object_store.specs.declared.store.Store.{Ghosts as StoreGhosts}
use Rattle.meta_log.specs.declared.log.MetaLog.{Ghosts as MetaGhosts}
use Rattle.meta_log.specs.declared.event_origin.EventOrigin.{EventOrigin}
use Rattle.segment_file.specs.Growing.{Grown}
use Rattle.segment_file.specs.Closed.{ClosedSegment}
use Rattle.local_log.specs.Reading.{IsClosedFrom, ClosedFails}
use Rattle.local_log.specs.declared.refusal.ReadRefusal.TheVariants as refusal
use Rattle.remote_find.specs.Pieces.{covered_to}
use Rattle.remote_view.specs.Fold.{EntriesSeen as View}
use Rattle.segment_bundle.specs.Parts.{can_pack}
use Rattle.copy_task.specs.Candidate.{candidate}
use Rattle.copy_task.specs.Copying.{Copied, IsCopied}
use Rattle.copy_task.specs.Turns.{Tiers, CopyTurnRow}
use Rattle.copy_task.specs.declared.turn.CopyStep.{CopyStep}
use Rattle.plain_log.specs.declared.turn.Turn.{Turn}
use Rattle.plain_log.specs.declared.answer.Answer.TheVariants.{Down, NotLeader, CopyOff, MetaFault}
use Rattle.plain_log.specs.declared.answer.Answer.TheVariants.{LostLead, Level, DiskFault, Damaged}
use Rattle.plain_log.specs.declared.answer.Place.TheVariants.{File}
use Rattle.plain_log.specs.State.{leads}
use Rattle.tier_safe.specs.Views.{IsIdOf}
use Rattle.broker_log.specs.Seen.{LogState, LogSeen, ShowsSeen, LogStays, WhileUp, OnDisk, Lasting}
use Rattle.broker_log.specs.Seen.{NoFault, OneFault, closed_in, incarnation_in}
use Rattle.broker_log.specs.Read.{IsSegmentOf}
use Rattle.laws_partition.specs.declared.start_snapshot.StartSnapshot.{StartSnapshot}
use Rattle.partition_commands.specs.declared.partition_state.Node.{Node}
use Rattle.partition_commands.specs.declared.partition_state.PartitionState.{PartitionState}
use Rattle.partition_commands.specs.Partition.{is_up, end_of, line_of, local_of, put_node}
use Rattle.partition_commands.specs.TurnsOfLog.{Notes}
use Rattle.partition_world.specs.declared.tier.BrokerTierState.{BrokerTierState}
use Rattle.partition_world.specs.declared.tier.RemoteTier.{RemoteTier}
use Rattle.partition_world.specs.declared.actor_state.Outcome.{Outcome}
use Rattle.partition_world.specs.declared.actor_state.Outcome.TheVariants.{Answers, Begins, Chose}
use Rattle.partition_world.specs.Tier.{next_of, counted, put_broker_tier, RefreshesBroker, FailsToRead}
use Rattle.partition_world.specs.ActorStates.{copy_outcome}

module _ {D : Type 0} where
  -- the broker is up, has not stopped since the command began, and has the role that it had
  pub record KeepsLead (x : Node D) (g : StartSnapshot) : Type 0 where
    pub stops : g.stops ≡ x.stops
    pub up : is_up x ≡ true
    pub role : g.role ≡ x.role

  -- the end that the remote tier has all of the log up to, from the log start or the local start on
  abbrev pub copied_to : Node D → BrokerTierState → ℕ → ℕ
  copied_to x broker_tier start = covered_to broker_tier.view.entries (line_of x) (end_of x) (max (local_of x) start)

  -- the segment that is copied next
  abbrev pub next_segment : PartitionState D → Node D → BrokerTierState → Option Grown
  next_segment h x broker_tier =
      candidate (closed_in x.log) (copied_to x broker_tier h.registry.start) x.known_high_watermark

  -- who records a copy
  abbrev pub origin_of : PartitionState D → ℕ → EventOrigin
  origin_of h b = record { broker = record { 0 = b }; now = h.clock }

  -- what the node's next copy is of: this segment, under the next id
  pub record IsNextCopy (p : PartitionId) (b : ℕ) (x : Node D) (broker_tier : BrokerTierState) (segment : ClosedSegment)
      (copy : Copied) : Type 0 where
    pub is : IsCopied copy
    pub segment_is : copy.segment ≡ segment
    pub partition_is : copy.partition ≡ p
    pub id : IsSomeAnd (incarnation_in x.log) (λ i. IsIdOf copy.id p.0 b i (next_of broker_tier i))
    pub few : IsSomeAnd (incarnation_in x.log) (λ i. next_of broker_tier i < 2 ^ 64 - 1)
    pub line_is : copy.line ≡ line_of x
    pub interval_is : WhileUp x.log (λ log. copy.interval ≡ log.settings.index_interval)

-- a segment that is chosen is packed, where the partition's form says so and its parts can be
abbrev pub IsPackedBy : Bool → Outcome → Type 0
IsPackedBy packed (Chose copy) = copy.packed ≡ (packed && can_pack copy.parts)
IsPackedBy packed other = Unit {0}

module _ {D S M : Type 0} (meta : MetaGhosts M) where
  -- the first turn of a leader's command on the remote tier: its view is refreshed
  abbrev pub LeadersFirstRow : PartitionState D → RemoteTier S M → ℕ → Node D → BrokerTierState → Outcome
      → RemoteTier S M → Type 0
  LeadersFirstRow h t b x broker_tier (Answers Down) t' = (is_up x ≡ false) × (t' ≡ t)
  LeadersFirstRow h t b x broker_tier (Answers NotLeader) t' = (is_up x ≡ true) × (leads x.role ≡ false) × (t' ≡ t)
  LeadersFirstRow h t b x broker_tier (Answers MetaFault) t' = (is_up x ≡ true) × (leads x.role ≡ true)
      × FailsToRead meta t broker_tier t'
  LeadersFirstRow h t b x broker_tier (Begins g) t' =
      (is_up x ≡ true) × (leads x.role ≡ true) × Notes h x g × RefreshesBroker meta t b broker_tier t'
  LeadersFirstRow h t b x broker_tier other t' = ⊥

  -- copy, first turn: none is begun where segments aren't copied
  abbrev pub CopyFirstRow : PartitionState D → RemoteTier S M → ℕ → Node D → BrokerTierState → Outcome → RemoteTier S M
      → Type 0
  CopyFirstRow h t b x broker_tier (Answers CopyOff) t' =
      (is_up x ≡ true) × (leads x.role ≡ true) × (h.copying ≡ false) × (t' ≡ t)
  CopyFirstRow h t b x broker_tier (Answers MetaFault) t' = LeadersFirstRow h t b x broker_tier (Answers MetaFault) t'
      × (h.copying ≡ true)
  CopyFirstRow h t b x broker_tier (Begins g) t' =
      LeadersFirstRow h t b x broker_tier (Begins g) t' × (h.copying ≡ true)
  CopyFirstRow h t b x broker_tier outcome t' = LeadersFirstRow h t b x broker_tier outcome t'

module _ {D : Type 0} (disk : DiskGhosts D) where
  -- a log was read, and is as it was
  pub record ReadsLocalLog (x x' : Node D) : Type 0 where
    pub kept : LogState D
    pub stays : LogStays disk.content x.log kept
    pub lasts : Lasting disk.control x.log kept
    pub after : x' ≡ record x { log = kept }

  -- and no call of its disk failed
  pub record ReadsQuietly (x x' : Node D) : Type 0 where
    pub reads : ReadsLocalLog x x'
    pub quiet : NoFault disk.control x.log reads.kept

  -- its disk was read once in this turn, and returned something
  abbrev pub NodeHasRead : Node D → LogState D → Type 0
  NodeHasRead x kept = OnDisk x.log (λ d. OnDisk kept (λ e. Ran Read Went (disk.control d) (disk.control e)))

  -- the segment was read, and is a segment of the log
  pub record ReadsSegment (x : Node D) (offset : ℕ) (segment : ClosedSegment) (x' : Node D) : Type 0 where
    pub reads : ReadsLocalLog x x'
    pub ran : NodeHasRead x reads.kept
    pub last_read : WhileUp x.log (λ log. OnDisk reads.kept
        (λ d. IsClosedFrom log offset (disk.control d).last_read (Some segment)))
    pub part : (s : LogSeen) → ShowsSeen disk.content x.log s → IsSegmentOf s segment
    pub quiet : NoFault disk.control x.log reads.kept

  -- the disk failed
  pub record FailsToReadLog (x x' : Node D) : Type 0 where
    pub reads : ReadsLocalLog x x'
    pub cause : OneFault disk.control x.log reads.kept

  -- what the disk returned is no segment from this place of this file on
  pub record ReadsNoSegment (x : Node D) (offset : ℕ) (name : FileName) (at : ℕ) (x' : Node D) : Type 0 where
    pub reads : ReadsLocalLog x x'
    pub ran : NodeHasRead x reads.kept
    pub bad : WhileUp x.log (λ log. OnDisk reads.kept
        (λ d. ClosedFails log offset (disk.control d).last_read (refusal.Damaged name at)))
    pub unseen : (s : LogSeen) → ShowsSeen disk.content x.log s → ⊥
    pub quiet : NoFault disk.control x.log reads.kept

  -- the first closed segment that ends past an offset is read, and is to be copied under the next id
  abbrev pub ReadSegmentRow : PartitionId → ℕ → Node D → BrokerTierState → ℕ → Outcome → Node D → BrokerTierState
      → Type 0
  ReadSegmentRow p b x broker_tier offset (Answers DiskFault) x' broker_tier' =
      FailsToReadLog x x' × (broker_tier' ≡ broker_tier)
  ReadSegmentRow p b x broker_tier offset (Answers (Damaged (File name) at)) x' broker_tier' = ReadsNoSegment x offset
      name at x' × (broker_tier' ≡ broker_tier)
  ReadSegmentRow p b x broker_tier offset (Chose copy) x' broker_tier' =
      ReadsSegment x offset copy.segment x' × IsNextCopy p b x broker_tier copy.segment copy
      × IsSomeAnd (incarnation_in x.log) (λ i. broker_tier' ≡ counted broker_tier i)
  ReadSegmentRow p b x broker_tier offset other x' broker_tier' = ⊥

module _ {D S M : Type 0} (disk : DiskGhosts D) where
  -- there is a segment to copy, and it is read
  pub record ReadsNext (p : PartitionId) (h : PartitionState D) (t : RemoteTier S M) (b : ℕ) (x : Node D)
      (broker_tier : BrokerTierState) (outcome : Outcome)
      (h' : PartitionState D) (t' : RemoteTier S M) : Type 0 where
    pub there : IsSomeAnd (next_segment h x broker_tier) (λ segment. Unit {0})
    pub node : Node D
    pub broker_tier_after : BrokerTierState
    pub row : ReadSegmentRow disk p b x broker_tier
        (copied_to x broker_tier h.registry.start) outcome node broker_tier_after
    pub form : IsPackedBy h.packed outcome
    pub partition_state : h' ≡ put_node h b node
    pub tier : t' ≡ put_broker_tier t b broker_tier_after

  -- copy, second turn: the lead is lost, or no segment is left to copy, or the next one is read
  abbrev pub ChooseRow : PartitionId → PartitionState D → RemoteTier S M → ℕ → Node D → BrokerTierState → StartSnapshot
      → Outcome → PartitionState D → RemoteTier S M → Type 0
  ChooseRow p h t b x broker_tier g outcome h' t' =
      ((KeepsLead x g → ⊥) × (outcome ≡ Answers LostLead) × (h' ≡ h) × (t' ≡ t))
      ⊎ (KeepsLead x g × (((next_segment h x broker_tier ≡ None) × (outcome ≡ Answers Level) × (h' ≡ h) × (t' ≡ t))
      ⊎ ReadsNext p h t b x broker_tier outcome h' t'))

-- what a copy's turn changes
abbrev pub tiers_of : {S M : Type 0} → View → RemoteTier S M → Tiers S M
tiers_of view t = record { view = view; store = t.store; meta = t.meta }

module _ {D S M : Type 0} (store : StoreGhosts S) (meta : MetaGhosts M) where
  -- a turn of the copy's row, and nothing else changes
  pub record GoesOnCopy (h : PartitionState D) (t : RemoteTier S M) (b : ℕ) (broker_tier : BrokerTierState)
      (copy : Copied) (next : CopyStep) (turn : Turn CopyStep) (t' : RemoteTier S M) : Type 0 where
    pub view : View
    pub row : CopyTurnRow store.content store.control meta.content meta.control copy (origin_of h b) next (Ok turn)
        (tiers_of broker_tier.view t) (tiers_of view t')
    pub after : t' ≡ put_broker_tier (record t {
      store =
          t'.store;
      meta = t'.meta;
    }) b (record broker_tier { view = view })

  -- it ran out of memory
  pub record WantsForCopy (h : PartitionState D) (t : RemoteTier S M) (b : ℕ) (broker_tier : BrokerTierState)
      (copy : Copied) (next : CopyStep) (t' : RemoteTier S M)
      : Type 0 where
    pub view : View
    pub error : AllocError
    pub row : CopyTurnRow store.content store.control meta.content meta.control copy (origin_of h b) next (Err error)
        (tiers_of broker_tier.view t) (tiers_of view t')
    pub after : t' ≡ put_broker_tier (record t {
      store =
          t'.store;
      meta = t'.meta;
    }) b (record broker_tier { view = view })

  -- copy, a later turn: the lead is lost, or it goes by the copy's row
  abbrev pub CopyOnRow : PartitionState D → RemoteTier S M → ℕ → Node D → BrokerTierState → StartSnapshot → Copied
      → CopyStep → Outcome → RemoteTier S M → Type 0
  CopyOnRow h t b x broker_tier g copy next outcome t' =
      ((KeepsLead x g → ⊥) × (outcome ≡ Answers LostLead) × (t' ≡ t))
      ⊎ (KeepsLead x g × ((turn : Turn CopyStep) × (outcome ≡ copy_outcome turn)
      × GoesOnCopy h t b broker_tier copy next turn t'))
