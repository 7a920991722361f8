-- What a turn may come to, by what its actor's state has. So a command begins once, at a turn of which its actor's state has nothing yet.
use Rattle.std.proofs.Common.{◌≡◌, inl, inr, refl, ℕ, Some, slice_get}
use Rattle.disk_model.specs.declared.disk.Disk.{Ghosts as DiskGhosts}
use Rattle.object_store.specs.declared.store.Store.{Ghosts as StoreGhosts}
use Rattle.meta_log.specs.declared.log.MetaLog.{Ghosts as MetaGhosts}
use Rattle.tier_base.specs.declared.names.PartitionId.{PartitionId}
use Rattle.copy_task.specs.Copying.{Copied}
use Rattle.plain_log.specs.declared.turn.Turn.{Turn}
use Rattle.plain_log.specs.declared.turn.Turn.TheVariants.{Goes as GoesOn, Ends}
use Rattle.copy_task.specs.declared.turn.CopyStep.{CopyStep}
use Rattle.expiry_task.specs.declared.turn.ExpiredSegment.{ExpiredSegment}
use Rattle.expiry_task.specs.declared.turn.DeletionStep.{DeletionStep as Deletion}
use Rattle.rebuild_task.specs.declared.turn.RebuildStep.{RebuildStep as Rebuild}
use Rattle.rebuild_task.specs.declared.turn.RebuildStep.TheVariants.{Epochs, Restart}
use Rattle.tier_fetch.specs.declared.turn.FetchStep.{FetchStep as Search}
use Rattle.time_find.specs.declared.turn.SearchStep.{SearchStep as Dating}
use Rattle.plain_log.specs.declared.command.Command.{Command}
use Rattle.plain_log.specs.declared.command.Command.TheVariants.{Copy, Trim, Expire, Fetch, Join, Offset}
use Rattle.plain_log.specs.declared.command.Which.TheVariants.{LatestTiered, At}
use Rattle.plain_log.specs.declared.command.Config.{Config}
use Rattle.laws_partition.specs.declared.start_snapshot.StartSnapshot.{StartSnapshot}
use Rattle.laws_partition.specs.declared.start_snapshot.Turned.{Turned}
use Rattle.laws_partition.specs.declared.start_snapshot.Turned.TheVariants as turned
use Rattle.laws_partition.proofs.BoolTests.{some_of}
use Rattle.partition_commands.specs.declared.partition_state.Node.{Node}
use Rattle.partition_commands.specs.declared.partition_state.PartitionState.{PartitionState}
use Rattle.partition_world.specs.declared.tier.BrokerTierState.{BrokerTierState}
use Rattle.partition_world.specs.declared.tier.RemoteTier.{RemoteTier}
use Rattle.partition_world.specs.declared.actor_state.Outcome.{Outcome}
use Rattle.partition_world.specs.declared.actor_state.Outcome.TheVariants.{Answers, Begins, Chose, Goes, Seeks as Sought, Dates as Dated, ChoosesExpired, Deletes, Rebuilds as Rebuilding}
use Rattle.partition_world.specs.declared.actor_state.InProgress.{InProgress}
use Rattle.partition_world.specs.declared.actor_state.InProgress.TheVariants.{Idle, Noted, Copies, Seeks, Dates, Expires, Rebuilds}
use Rattle.partition_world.specs.Tier.{AtBrokerTier}
use Rattle.partition_world.specs.ActorStates.{outcome_of, copy_outcome, expiry_outcome, rebuild_outcome}
use Rattle.partition_world.specs.Turns.{BeginRow, ContinuedRow, CopyLaterRow, SeekingRow, DatingRow, DeletingRow, RebuildingRow, Row, TurnRow}

-- what a turn may come to where its actor's state has this
abbrev pub MayComeTo : InProgress → Outcome → Type 0
MayComeTo in_progress (Answers answer) = Unit {0}
MayComeTo Idle (Begins g) = Unit {0}
MayComeTo (Noted g) (Chose copy) = Unit {0}
MayComeTo (Noted g) (Sought next) = Unit {0}
MayComeTo (Noted g) (Dated at next) = Unit {0}
MayComeTo (Noted g) (ChoosesExpired segment) = Unit {0}
MayComeTo (Noted g) (Rebuilding next) = Unit {0}
MayComeTo (Copies g copy before) (Goes next) = Unit {0}
MayComeTo (Seeks g before) (Sought next) = Unit {0}
MayComeTo (Dates g cursor before) (Dated at next) = Unit {0}
MayComeTo (Expires g segment before) (Deletes next) = Unit {0}
MayComeTo (Rebuilds g before) (Rebuilding next) = Unit {0}
MayComeTo in_progress outcome = ⊥

own_may : (turn : Turned) (outcome : Outcome) → outcome ≡ outcome_of turn → MayComeTo Idle outcome
own_may (turned.Answers answer) outcome is = rw is tt
own_may (turned.Begins g) outcome is = rw is tt

copy_may : (g : StartSnapshot) (copy : Copied) (next : CopyStep) (turn : Turn CopyStep) (outcome : Outcome) → outcome ≡ copy_outcome turn → MayComeTo (Copies g copy next) outcome
copy_may g copy next (GoesOn further) outcome is = rw is tt
copy_may g copy next (Ends answer) outcome is = rw is tt

expiry_may : (g : StartSnapshot) (segment : ExpiredSegment) (next : Deletion) (turn : Turn Deletion) (outcome : Outcome) → outcome ≡ expiry_outcome turn → MayComeTo (Expires g segment next) outcome
expiry_may g segment next (GoesOn further) outcome is = rw is tt
expiry_may g segment next (Ends answer) outcome is = rw is tt

rebuild_may : (g : StartSnapshot) (next : Rebuild) (turn : Turn Rebuild) (outcome : Outcome) → outcome ≡ rebuild_outcome turn → MayComeTo (Rebuilds g next) outcome
rebuild_may g next (GoesOn further) outcome is = rw is tt
rebuild_may g next (Ends answer) outcome is = rw is tt

module _ {D S M : Type 0} (disk : DiskGhosts D) (store : StoreGhosts S) (meta : MetaGhosts M) where
  -- there are a broker and a tier state of a turn
  pub record IsRow (p : PartitionId) (config : Config) (h : PartitionState D) (t : RemoteTier S M) (b : ℕ) (in_progress : InProgress) (command : Command) (outcome : Outcome) (h' : PartitionState D) (t' : RemoteTier S M) : Type 0 where
    pub x : Node D
    pub at : slice_get h.nodes b ≡ Some x
    pub broker_tier : BrokerTierState
    pub broker_tier_at : slice_get t.broker_tiers b ≡ Some broker_tier
    pub row : Row disk store meta p config h t b x broker_tier in_progress command outcome h' t'

  pub row_of : (p : PartitionId) (config : Config) (h : PartitionState D) (t : RemoteTier S M) (b : ℕ) (in_progress : InProgress) (command : Command) (outcome : Outcome) (h' : PartitionState D) (t' : RemoteTier S M)
      → TurnRow disk store meta p config h t b in_progress command outcome h' t' → IsRow p config h t b in_progress command outcome h' t'
  row_of p config h t b in_progress command outcome h' t' w =
      let x = some_of (λ x. AtBrokerTier t b (λ broker_tier. Row disk store meta p config h t b x broker_tier in_progress command outcome h' t')) (slice_get h.nodes b) w in
      let broker_tier = some_of (λ broker_tier. Row disk store meta p config h t b x.0 broker_tier in_progress command outcome h' t') (slice_get t.broker_tiers b) x.2 in
      record { x = x.0; at = x.1; broker_tier = broker_tier.0; broker_tier_at = broker_tier.1; row = broker_tier.2 }

  begin_may : (h : PartitionState D) (t : RemoteTier S M) (b : ℕ) (x : Node D) (broker_tier : BrokerTierState) (command : Command) (outcome : Outcome) (h' : PartitionState D) (t' : RemoteTier S M)
      → BeginRow disk store meta h t b x broker_tier command outcome h' t' → MayComeTo Idle outcome
  begin_may h t b x broker_tier command (Answers answer) h' t' w = tt
  begin_may h t b x broker_tier command (Begins g) h' t' w = tt
  begin_may h t b x broker_tier Copy outcome h' t' w = elim w.0 [ ]
  begin_may h t b x broker_tier Trim outcome h' t' w = elim w.0 [ ]
  begin_may h t b x broker_tier Expire outcome h' t' w = elim w.0 [ ]
  begin_may h t b x broker_tier (Offset LatestTiered) outcome h' t' w = elim w.0 [ ]
  begin_may h t b x broker_tier (Offset (At ts)) outcome h' t' w = elim w.0 [ ]
  begin_may h t b x broker_tier other outcome h' t' w = own_may w.0.0 outcome w.0.1

  recorded_may : (p : PartitionId) (config : Config) (h : PartitionState D) (t : RemoteTier S M) (b : ℕ) (x : Node D) (broker_tier : BrokerTierState) (g : StartSnapshot) (command : Command) (outcome : Outcome) (h' : PartitionState D) (t' : RemoteTier S M)
      → ContinuedRow disk store meta p config h t b x broker_tier g command outcome h' t' → MayComeTo (Noted g) outcome
  recorded_may p config h t b x broker_tier g command (Answers answer) h' t' w = tt
  recorded_may p config h t b x broker_tier g command (Chose copy) h' t' w = tt
  recorded_may p config h t b x broker_tier g command (Sought next) h' t' w = tt
  recorded_may p config h t b x broker_tier g command (Dated at next) h' t' w = tt
  recorded_may p config h t b x broker_tier g command (ChoosesExpired segment) h' t' w = tt
  recorded_may p config h t b x broker_tier g command (Rebuilding next) h' t' w = tt
  recorded_may p config h t b x broker_tier g Copy outcome h' t' (inl lost) = let e = lost.1 in absurd (cc (e))
  recorded_may p config h t b x broker_tier g Copy outcome h' t' (inr (keeps, inl level)) = let e = level.1 in absurd (cc (e))
  recorded_may p config h t b x broker_tier g Copy outcome h' t' (inr (keeps, inr reads)) = elim reads.row [ ]
  recorded_may p config h t b x broker_tier g Trim outcome h' t' w = elim w.0 [ ]
  recorded_may p config h t b x broker_tier g Expire outcome h' t' (inl lost, same) = let e = lost.1 in absurd (cc (e))
  recorded_may p config h t b x broker_tier g Expire outcome h' t' (inr (keeps, by), same) = elim by [ ]
  recorded_may p config h t b x broker_tier g Join outcome h' t' (inl (low, own)) = let e = own.0.1 in absurd (cc (e))
  recorded_may p config h t b x broker_tier g Join outcome h' t' (inr (high, inl (answer, is, at, tier), same)) = absurd (cc (is))
  recorded_may p config h t b x broker_tier g Join outcome h' t' (inr (high, inr (may, row), same)) = elim row [ ]
  recorded_may p config h t b x broker_tier g (Fetch offset limit) outcome h' t' w = elim w.0 [ ]
  recorded_may p config h t b x broker_tier g (Offset LatestTiered) outcome h' t' w = elim w.0 [ ]
  recorded_may p config h t b x broker_tier g (Offset (At ts)) outcome h' t' w = elim w [ ]
  recorded_may p config h t b x broker_tier g other outcome h' t' w = let e = w.0.1 in absurd (cc (e))

  copying_may : (h : PartitionState D) (t : RemoteTier S M) (b : ℕ) (x : Node D) (broker_tier : BrokerTierState) (g : StartSnapshot) (copy : Copied) (next : CopyStep) (command : Command) (outcome : Outcome) (h' : PartitionState D) (t' : RemoteTier S M)
      → CopyLaterRow store meta h t b x broker_tier g copy next command outcome h' t' → MayComeTo (Copies g copy next) outcome
  copying_may h t b x broker_tier g copy next Copy outcome h' t' (inl lost, same) = rw lost.1 tt
  copying_may h t b x broker_tier g copy next Copy outcome h' t' (inr (keeps, (turn, is, goes)), same) = copy_may g copy next turn outcome is
  copying_may h t b x broker_tier g copy next other outcome h' t' w = elim w [ ]

  seeking_may : (p : PartitionId) (h : PartitionState D) (t : RemoteTier S M) (b : ℕ) (x : Node D) (broker_tier : BrokerTierState) (g : StartSnapshot) (next : Search) (command : Command) (outcome : Outcome) (h' : PartitionState D) (t' : RemoteTier S M)
      → SeekingRow store meta p h t b x broker_tier g next command outcome h' t' → MayComeTo (Seeks g next) outcome
  seeking_may p h t b x broker_tier g next command (Answers answer) h' t' w = tt
  seeking_may p h t b x broker_tier g next command (Sought later) h' t' w = tt
  seeking_may p h t b x broker_tier g next (Fetch offset limit) outcome h' t' w = elim w.0 [ ]
  seeking_may p h t b x broker_tier g next other outcome h' t' w = elim w [ ]

  dating_may : (p : PartitionId) (h : PartitionState D) (t : RemoteTier S M) (b : ℕ) (x : Node D) (broker_tier : BrokerTierState) (g : StartSnapshot) (cursor : ℕ) (next : Dating)
      (command : Command) (outcome : Outcome) (h' : PartitionState D) (t' : RemoteTier S M)
      → DatingRow disk store meta p h t b x broker_tier g cursor next command outcome h' t' → MayComeTo (Dates g cursor next) outcome
  dating_may p h t b x broker_tier g cursor next command (Answers answer) h' t' w = tt
  dating_may p h t b x broker_tier g cursor next command (Dated at later) h' t' w = tt
  dating_may p h t b x broker_tier g cursor next (Offset (At ts)) outcome h' t' w = elim w [ ]
  dating_may p h t b x broker_tier g cursor next other outcome h' t' w = elim w [ ]

  deleting_may : (h : PartitionState D) (t : RemoteTier S M) (b : ℕ) (x : Node D) (g : StartSnapshot) (segment : ExpiredSegment) (next : Deletion) (command : Command) (outcome : Outcome) (h' : PartitionState D) (t' : RemoteTier S M)
      → DeletingRow store meta h t b x g segment next command outcome h' t' → MayComeTo (Expires g segment next) outcome
  deleting_may h t b x g segment next Expire outcome h' t' (inl lost, same) = rw lost.1 tt
  deleting_may h t b x g segment next Expire outcome h' t' (inr (keeps, (turn, is, goes)), same) = expiry_may g segment next turn outcome is
  deleting_may h t b x g segment next other outcome h' t' w = elim w [ ]

  rebuilding_may : (p : PartitionId) (h : PartitionState D) (t : RemoteTier S M) (b : ℕ) (x : Node D) (broker_tier : BrokerTierState) (g : StartSnapshot) (next : Rebuild) (command : Command) (outcome : Outcome) (h' : PartitionState D) (t' : RemoteTier S M)
      → RebuildingRow disk store p h t b x broker_tier g next command outcome h' t' → MayComeTo (Rebuilds g next) outcome
  rebuilding_may p h t b x broker_tier g next command (Answers answer) h' t' w = tt
  rebuilding_may p h t b x broker_tier g next command (Rebuilding later) h' t' w = tt
  rebuilding_may p h t b x broker_tier g Epochs Join outcome h' t' (inl (answer, is, at, tier), same) = absurd (cc (is))
  rebuilding_may p h t b x broker_tier g Epochs Join outcome h' t' (inr (may, (turn, is, goes)), same) = rebuild_may g Epochs turn outcome is
  rebuilding_may p h t b x broker_tier g (Restart line) Join outcome h' t' w = let e = w.0.1 in absurd (cc (e))
  rebuilding_may p h t b x broker_tier g next command outcome h' t' w = elim w [ ]

  pub row_may : (p : PartitionId) (config : Config) (h : PartitionState D) (t : RemoteTier S M) (b : ℕ) (x : Node D) (broker_tier : BrokerTierState) (in_progress : InProgress) (command : Command) (outcome : Outcome) (h' : PartitionState D) (t' : RemoteTier S M)
      → Row disk store meta p config h t b x broker_tier in_progress command outcome h' t' → MayComeTo in_progress outcome
  row_may p config h t b x broker_tier Idle command outcome h' t' w = begin_may h t b x broker_tier command outcome h' t' w
  row_may p config h t b x broker_tier (Noted g) command outcome h' t' w = recorded_may p config h t b x broker_tier g command outcome h' t' w
  row_may p config h t b x broker_tier (Copies g copy next) command outcome h' t' w = copying_may h t b x broker_tier g copy next command outcome h' t' w
  row_may p config h t b x broker_tier (Seeks g next) command outcome h' t' w = seeking_may p h t b x broker_tier g next command outcome h' t' w
  row_may p config h t b x broker_tier (Dates g cursor next) command outcome h' t' w =
      dating_may p h t b x broker_tier g cursor next command outcome h' t' w
  row_may p config h t b x broker_tier (Expires g segment next) command outcome h' t' w = deleting_may h t b x g segment next command outcome h' t' w
  row_may p config h t b x broker_tier (Rebuilds g next) command outcome h' t' w = rebuilding_may p h t b x broker_tier g next command outcome h' t' w

  began : (in_progress : InProgress) (f : StartSnapshot) → MayComeTo in_progress (Begins f) → in_progress ≡ Idle
  began Idle f may = refl
  began in_progress f may = elim may [ ]

  -- nothing was kept of a command that begins
  pub begins_idle : (p : PartitionId) (config : Config) (h : PartitionState D) (t : RemoteTier S M) (b : ℕ) (in_progress : InProgress) (command : Command) (f : StartSnapshot) (h' : PartitionState D) (t' : RemoteTier S M)
      → TurnRow disk store meta p config h t b in_progress command (Begins f) h' t' → in_progress ≡ Idle
  begins_idle p config h t b in_progress command f h' t' w =
      let r = row_of p config h t b in_progress command (Begins f) h' t' w in began in_progress f (row_may p config h t b r.x r.broker_tier in_progress command (Begins f) h' t' r.row)
