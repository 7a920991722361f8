-- The turns of commands of any kind: the devices last, and one of their calls failed where a fault is reported.
use Rattle.std.proofs.Common.{◌≡◌, inl, inr, sym, ap, subst, refl, ℕ, slice_get, Some, None, Bool, true, false}
use Rattle.std.specs.Prelude.{ℤ}
use Rattle.tier_base.specs.declared.names.PartitionId.{PartitionId}
use Rattle.tier_base.specs.declared.plain.Keep.{Keep}
use Rattle.disk_model.specs.declared.disk.Disk.{Ghosts as DiskGhosts}
use Rattle.object_store.specs.declared.store.Store.{Ghosts as StoreGhosts}
use Rattle.meta_log.specs.declared.log.MetaLog.{Ghosts as MetaGhosts}
use Rattle.copy_task.specs.Copying.{Copied}
use Rattle.copy_task.specs.declared.turn.CopyStep.{CopyStep}
use Rattle.plain_log.specs.declared.turn.Turn.{Turn}
use Rattle.plain_log.specs.declared.turn.Turn.TheVariants as turns
use Rattle.tier_fetch.specs.declared.turn.FetchStep.{FetchStep as Search}
use Rattle.tier_fetch.specs.declared.turn.FetchStep.TheVariants.{Refresh}
use Rattle.time_find.specs.declared.turn.Asked.{Asked}
use Rattle.time_find.specs.declared.turn.SearchStep.{SearchStep as Dating}
use Rattle.time_find.specs.declared.turn.SearchStep.TheVariants.{Seek}
use Rattle.time_find.specs.Passing.{passed_over}
use Rattle.time_find.specs.Turns.{LocalSearchRow, ReadLocalRow as RunRow}
use Rattle.expiry_task.specs.declared.turn.ExpiredSegment.{ExpiredSegment}
use Rattle.expiry_task.specs.declared.turn.DeletionStep.{DeletionStep as Deletion}
use Rattle.rebuild_task.specs.declared.turn.RebuildStep.{RebuildStep as Rebuild}
use Rattle.rebuild_task.specs.declared.turn.RebuildStep.TheVariants.{Epochs, Restart}
use Rattle.plain_log.specs.declared.answer.Answer.{Answer}
use Rattle.plain_log.specs.declared.answer.Answer.TheVariants.{Down, NotLeader, CopyOff, MetaFault, DiskFault, Damaged, Stopped, OutOfRange, Empty, Kept as Remains, StaleEpoch, Raised, OkAt, Passed, BelowStart, Offset as OffsetAnswer, NoOffset}
use Rattle.plain_log.specs.declared.answer.Place.TheVariants.{File}
use Rattle.plain_log.specs.declared.command.Command.{Command}
use Rattle.plain_log.specs.declared.command.Command.TheVariants.{Join, Copy, Trim, Expire, Fetch, Raise, Offset}
use Rattle.plain_log.specs.declared.command.Which.TheVariants.{LatestTiered, At}
use Rattle.plain_log.specs.declared.command.Config.{Config}
use Rattle.broker_log.specs.Seen.{Lasting, OneFault, closed_in}
use Rattle.laws_partition.specs.declared.start_snapshot.StartSnapshot.{StartSnapshot}
use Rattle.laws_partition.specs.declared.start_snapshot.Turned.{Turned}
use Rattle.laws_partition.specs.declared.start_snapshot.Turned.TheVariants as turned
use Rattle.partition_commands.specs.declared.partition_state.Node.{Node}
use Rattle.partition_commands.specs.declared.partition_state.PartitionState.{PartitionState}
use Rattle.partition_commands.specs.Partition.{is_up, line_of, local_of, put_node}
use Rattle.partition_world.specs.declared.tier.BrokerTierState.{BrokerTierState}
use Rattle.partition_world.specs.declared.tier.RemoteTier.{RemoteTier}
use Rattle.partition_world.specs.declared.actor_state.Outcome.{Outcome}
use Rattle.partition_world.specs.declared.actor_state.Outcome.TheVariants.{Answers, Begins, Chose, Seeks as Sought, Dates as Dated, ChoosesExpired, Rebuilds as Rebuilding}
use Rattle.partition_world.specs.declared.actor_state.InProgress.{InProgress}
use Rattle.partition_world.specs.declared.actor_state.InProgress.TheVariants.{Idle, Noted, Copies, Seeks, Dates, Expires, Rebuilds}
use Rattle.partition_world.specs.ActorStates.{outcome_of, fetch_outcome, date_outcome}
use Rattle.partition_world.specs.Tier.{RefreshesBroker, FailsToRead, put_broker_tier}
use Rattle.partition_world.specs.TurnsOfCopy.{ReadsLocalLog, ReadSegmentRow, LeadersFirstRow, CopyFirstRow, ChooseRow, tiers_of, origin_of}
use Rattle.partition_world.specs.TurnsOfFetch.{FetchOnRow, GoesOnFetch, fetch_tiers, wanted_of}
use Rattle.partition_world.specs.TurnsOfDate.{SearchesOwn, SearchRow, SearchesOn, DateOnRow, asked_of, is_own, resumed_at, resumed_with}
use Rattle.partition_world.specs.TurnsOfExpiry.{ExpiryRaiseRow, ExpireOnRow, ExpiresBy, expiry_tiers}
use Rattle.partition_world.specs.TurnsOfRebuild.{AnswersAtOnce, RefreshedRow, with_line, wanted_of as rebuilt_to}
use Rattle.partition_world.specs.TurnsOfOffset.{OffsetOnRow}
use Rattle.partition_world.specs.TurnsOfTrim.{TrimFirstRow, TrimOnRow}
use Rattle.partition_world.specs.Turns.{OwnOnRow, BeginRow, ContinuedRow, CopyLaterRow, SeekingRow, DatingRow, DeletingRow, JoinSecondRow, RebuildingRow, Row}
use Rattle.partition_commands.specs.Disks.{DiskFails}
use Rattle.partition_commands.proofs.Told.{told_map}
use Rattle.partition_commands.proofs.LastingDisks.{Keeps, FailsFor, keeps_same, keeps_put, keeps_log, fails_put, one_faulted}
use Rattle.partition_commands.proofs.LastingRows.{LeavingFor, row_lasts}
use Rattle.partition_world.proofs.TurnsTold.{TurnTold, StoreLasts, StoreRose, MetaLasts, MetaRose, store_same, meta_same, meta_ran}
use Rattle.partition_world.proofs.LastingCopies.{copy_lasts}
use Rattle.partition_world.proofs.LastingDeletions.{expiry_lasts}
use Rattle.partition_world.proofs.LastingSearches.{fetch_lasts, rebuild_lasts}
use Rattle.partition_world.proofs.LastingDates.{searched_told, time_lasts}

module _ {D S M : Type 0} (disk : DiskGhosts D) (store : StoreGhosts S) (meta : MetaGhosts M) where
  -- all devices last
  pub record AllLast (h : PartitionState D) (t : RemoteTier S M) (h' : PartitionState D) (t' : RemoteTier S M) : Type 0 where
    pub partition_state : Keeps disk.control h h'
    pub stores : StoreLasts store t.store t'.store
    pub metas : MetaLasts meta t.meta t'.meta

  -- and where a fault is reported a call of one failed; this holds where it is one of a disk
  abbrev pub Leaving : Type 0 → PartitionState D → ℕ → RemoteTier S M → Outcome → PartitionState D → RemoteTier S M → Type 0
  Leaving A h b t outcome h' t' =
      AllLast h t h' t' × TurnTold A (DiskFails disk.control b h h') (StoreRose store t.store t'.store) (MetaRose meta t.meta t'.meta) outcome

  kept_by : (h : PartitionState D) (t : RemoteTier S M) (h' : PartitionState D) (t' : RemoteTier S M) → Keeps disk.control h h' → t'.store ≡ t.store → t'.meta ≡ t.meta → AllLast h t h' t'
  kept_by h t h' t' partition_state one two = record { partition_state = partition_state; stores = store_same store t.store t'.store one; metas = meta_same meta t.meta t'.meta two }

  same_tier : (h : PartitionState D) (t : RemoteTier S M) (h' : PartitionState D) (t' : RemoteTier S M) → Keeps disk.control h h' → t' ≡ t → AllLast h t h' t'
  same_tier h t h' t' partition_state same = kept_by h t h' t' partition_state (ap (λ (k : RemoteTier S M). k.store) same) (ap (λ (k : RemoteTier S M). k.meta) same)

  all_same : (h : PartitionState D) (t : RemoteTier S M) (h' : PartitionState D) (t' : RemoteTier S M) → h' ≡ h → t' ≡ t → AllLast h t h' t'
  all_same h t h' t' one two = same_tier h t h' t' (keeps_same disk.control h h' one) two

  -- what is reported of an outcome is reported of one that is the same
  told_as : (A : Type 0) (h : PartitionState D) (b : ℕ) (t : RemoteTier S M) (h' : PartitionState D) (t' : RemoteTier S M) (outcome after : Outcome) → outcome ≡ after → Leaving A h b t after h' t' → Leaving A h b t outcome h' t'
  told_as A h b t h' t' outcome after is k = subst (λ (o : Outcome). Leaving A h b t o h' t') (sym is) k

  -- a turn that the remote tier has no part in
  own_lasts : (command : Command) (h : PartitionState D) (b : ℕ) (t : RemoteTier S M) (turn : Turned) (h' : PartitionState D) (t' : RemoteTier S M) → LeavingFor disk.content disk.control command h b h' turn → t' ≡ t
      → Leaving (FailsFor disk.control command h b h') h b t (outcome_of turn) h' t'
  own_lasts command h b t (turned.Answers answer) h' t' k same = (
    same_tier h t h' t' k.0 same,
    told_map (FailsFor disk.control command h b h') (DiskFails disk.control b h h') ⊥ ⊥ (FailsFor disk.control command h b h') (DiskFails disk.control b h h') (StoreRose store t.store t'.store) (MetaRose meta t.meta t'.meta) answer
        (λ fails. fails) (λ fails. fails) (λ no. absurd no) (λ no. absurd no) k.1,
  )
  own_lasts command h b t (turned.Begins g) h' t' k same = (same_tier h t h' t' k.0 same, tt)

  -- the metadata log is read for a view

  unread_lasts : (h : PartitionState D) (t : RemoteTier S M) (broker_tier : BrokerTierState) (h' : PartitionState D) (t' : RemoteTier S M) → h' ≡ h → FailsToRead meta t broker_tier t' → AllLast h t h' t' × MetaRose meta t.meta t'.meta
  unread_lasts h t broker_tier h' t' same w = (
    record {
      partition_state = keeps_same disk.control h h' same;
      stores = store_same store t.store t'.store (ap (λ (k : RemoteTier S M). k.store) w.after);
      metas = meta_ran meta _ _ t.meta t'.meta w.reads.control.ran;
    },
    w.reads.control.ran.cause refl,
  )

  refresh_keeps : (h : PartitionState D) (t : RemoteTier S M) (b : ℕ) (broker_tier : BrokerTierState) (h' : PartitionState D) (t' : RemoteTier S M) → h' ≡ h → RefreshesBroker meta t b broker_tier t' → AllLast h t h' t'
  refresh_keeps h t b broker_tier h' t' same w = record {
    partition_state = keeps_same disk.control h h' same;
    stores = store_same store t.store t'.store (ap (λ (k : RemoteTier S M). k.store) w.after);
    metas = meta_ran meta _ _ t.meta t'.meta w.reads.control.ran;
  }

  leaders_lasts : (A : Type 0) (h : PartitionState D) (t : RemoteTier S M) (b : ℕ) (x : Node D) (broker_tier : BrokerTierState) (outcome : Outcome) (h' : PartitionState D) (t' : RemoteTier S M) → h' ≡ h
      → LeadersFirstRow meta h t b x broker_tier outcome t' → Leaving A h b t outcome h' t'
  leaders_lasts A h t b x broker_tier (Answers Down) h' t' same w = (all_same h t h' t' same w.1, tt)
  leaders_lasts A h t b x broker_tier (Answers NotLeader) h' t' same w = (all_same h t h' t' same w.2, tt)
  leaders_lasts A h t b x broker_tier (Answers MetaFault) h' t' same w = unread_lasts h t broker_tier h' t' same w.2
  leaders_lasts A h t b x broker_tier (Begins g) h' t' same w = (refresh_keeps h t b broker_tier h' t' same w.3, tt)
  leaders_lasts A h t b x broker_tier other h' t' same w = elim w [ ]

  first_lasts : (A : Type 0) (h : PartitionState D) (t : RemoteTier S M) (b : ℕ) (x : Node D) (broker_tier : BrokerTierState) (outcome : Outcome) (h' : PartitionState D) (t' : RemoteTier S M) → h' ≡ h
      → CopyFirstRow meta h t b x broker_tier outcome t' → Leaving A h b t outcome h' t'
  first_lasts A h t b x broker_tier (Answers CopyOff) h' t' same w = (all_same h t h' t' same w.3, tt)
  first_lasts A h t b x broker_tier (Answers MetaFault) h' t' same w = leaders_lasts A h t b x broker_tier (Answers MetaFault) h' t' same w.0
  first_lasts A h t b x broker_tier (Begins g) h' t' same w = leaders_lasts A h t b x broker_tier (Begins g) h' t' same w.0
  first_lasts A h t b x broker_tier other h' t' same w = leaders_lasts A h t b x broker_tier other h' t' same w

  trim_lasts : (A : Type 0) (h : PartitionState D) (t : RemoteTier S M) (b : ℕ) (x : Node D) (broker_tier : BrokerTierState) (outcome : Outcome) (h' : PartitionState D) (t' : RemoteTier S M) → h' ≡ h
      → TrimFirstRow meta h t b x broker_tier outcome t' → Leaving A h b t outcome h' t'
  trim_lasts A h t b x broker_tier (Answers Down) h' t' same w = (all_same h t h' t' same w.1, tt)
  trim_lasts A h t b x broker_tier (Answers MetaFault) h' t' same w = unread_lasts h t broker_tier h' t' same w.1
  trim_lasts A h t b x broker_tier (Begins g) h' t' same w = (refresh_keeps h t b broker_tier h' t' same w.2, tt)
  trim_lasts A h t b x broker_tier other h' t' same w = elim w [ ]

  begin_lasts : (h : PartitionState D) (t : RemoteTier S M) (b : ℕ) (x : Node D) (broker_tier : BrokerTierState) (command : Command) (outcome : Outcome) (h' : PartitionState D) (t' : RemoteTier S M) → slice_get h.nodes b ≡ Some x
      → BeginRow disk store meta h t b x broker_tier command outcome h' t' → Leaving (FailsFor disk.control command h b h') h b t outcome h' t'
  begin_lasts h t b x broker_tier Copy outcome h' t' at w = first_lasts (DiskFails disk.control b h h') h t b x broker_tier outcome h' t' w.1 w.0
  begin_lasts h t b x broker_tier Trim outcome h' t' at w = trim_lasts (DiskFails disk.control b h h') h t b x broker_tier outcome h' t' w.1 w.0
  begin_lasts h t b x broker_tier Expire outcome h' t' at w = leaders_lasts (DiskFails disk.control b h h') h t b x broker_tier outcome h' t' w.1 w.0
  begin_lasts h t b x broker_tier (Offset LatestTiered) outcome h' t' at w = leaders_lasts (DiskFails disk.control b h h') h t b x broker_tier outcome h' t' w.1 w.0
  begin_lasts h t b x broker_tier (Offset (At ts)) outcome h' t' at w = leaders_lasts (DiskFails disk.control b h h') h t b x broker_tier outcome h' t' w.1
      w.0
  begin_lasts h t b x broker_tier other outcome h' t' at w =
      told_as (FailsFor disk.control other h b h') h b t h' t' outcome (outcome_of w.0.0) w.0.1
      (own_lasts other h b t w.0.0 h' t' (row_lasts disk.content disk.control h b x None other w.0.0 h' at w.0.2) w.1)

  -- a log is read for a copy

  next_lasts : (p : PartitionId) (h : PartitionState D) (t : RemoteTier S M) (b : ℕ) (x y : Node D) (broker_tier z : BrokerTierState) (offset : ℕ) (outcome : Outcome) (h' : PartitionState D) (t' : RemoteTier S M) → slice_get h.nodes b ≡ Some x
      → ReadSegmentRow disk p b x broker_tier offset outcome y z → h' ≡ put_node h b y → t' ≡ put_broker_tier t b z → Leaving (DiskFails disk.control b h h') h b t outcome h' t'
  next_lasts p h t b x y broker_tier z offset outcome h' t' at w partition_state tier = go outcome w
    where
      all : ReadsLocalLog disk x y → AllLast h t h' t'
      all r =
          let lasts : Lasting disk.control x.log y.log = rw r.after r.lasts in
          kept_by h t h' t' (keeps_put disk.control h b x y h' at lasts partition_state) (ap (λ (k : RemoteTier S M). k.store) tier) (ap (λ (k : RemoteTier S M). k.meta) tier)

      go : (o : Outcome) → ReadSegmentRow disk p b x broker_tier offset o y z → Leaving (DiskFails disk.control b h h') h b t o h' t'
      go (Answers DiskFault) w =
          let lasts : Lasting disk.control x.log y.log = rw w.0.reads.after w.0.reads.lasts in
          let one : OneFault disk.control x.log y.log = rw w.0.reads.after w.0.cause in
          (all w.0.reads, (fails_put disk.control h b x y h' at lasts (one_faulted disk.control x.log y.log lasts one) partition_state).1)
      go (Answers (Damaged (File name) place)) w = (all w.0.reads, tt)
      go (Chose copy) w = (all w.0.reads, tt)
      go other w = elim w [ ]

  choose_lasts : (p : PartitionId) (h : PartitionState D) (t : RemoteTier S M) (b : ℕ) (x : Node D) (broker_tier : BrokerTierState) (g : StartSnapshot) (outcome : Outcome) (h' : PartitionState D) (t' : RemoteTier S M) → slice_get h.nodes b ≡ Some x
      → ChooseRow disk p h t b x broker_tier g outcome h' t' → Leaving (DiskFails disk.control b h h') h b t outcome h' t'
  choose_lasts p h t b x broker_tier g outcome h' t' at (inl lost) = told_as (DiskFails disk.control b h h') h b t h' t' outcome _ lost.1 (all_same h t h' t' lost.2 lost.3, tt)
  choose_lasts p h t b x broker_tier g outcome h' t' at (inr (keeps, inl level)) = told_as (DiskFails disk.control b h h') h b t h' t' outcome _ level.1 (all_same h t h' t' level.2 level.3, tt)
  choose_lasts p h t b x broker_tier g outcome h' t' at (inr (keeps, inr r)) = next_lasts p h t b x r.node broker_tier r.broker_tier_after _ outcome h' t' at r.row r.partition_state r.tier

  -- a later turn of a trim, and of a fetch

  trims_lasts : (h : PartitionState D) (t : RemoteTier S M) (b : ℕ) (x : Node D) (broker_tier : BrokerTierState) (g : StartSnapshot) (keep : Keep) (outcome : Outcome) (h' : PartitionState D) (t' : RemoteTier S M) → slice_get h.nodes b ≡ Some x
      → TrimOnRow disk h b x broker_tier g keep outcome h' → t' ≡ t → Leaving (DiskFails disk.control b h h') h b t outcome h' t'
  trims_lasts h t b x broker_tier g keep (Answers answer) h' t' at w same =
      own_lasts Trim h b t (turned.Answers answer) h' t' (row_lasts disk.content disk.control h b x (Some g) Trim (turned.Answers answer) h' at w.0) same
  trims_lasts h t b x broker_tier g keep other h' t' at w same = elim w [ ]

  goes_lasts : (A : Type 0) (p : PartitionId) (h : PartitionState D) (t : RemoteTier S M) (b : ℕ) (x : Node D) (broker_tier : BrokerTierState) (offset limit : ℕ) (next : Search) (turn : Turn Search) (h' : PartitionState D) (t' : RemoteTier S M) → h' ≡ h
      → GoesOnFetch store meta p t b x broker_tier offset limit next turn t' → Leaving A h b t (fetch_outcome turn) h' t'
  goes_lasts A p h t b x broker_tier offset limit next turn h' t' same w =
      let k = fetch_lasts A (DiskFails disk.control b h h') store meta (wanted_of p x offset limit) (line_of x) next turn (fetch_tiers broker_tier.view broker_tier.cache t) (fetch_tiers w.view w.cache t') w.row in
      (record { partition_state = keeps_same disk.control h h' same; stores = k.0; metas = k.1 }, k.2)

  seek_lasts : (A : Type 0) (p : PartitionId) (h : PartitionState D) (t : RemoteTier S M) (b : ℕ) (x : Node D) (broker_tier : BrokerTierState) (g : StartSnapshot) (offset limit : ℕ) (next : Search) (outcome : Outcome) (h' : PartitionState D) (t' : RemoteTier S M)
      → h' ≡ h → FetchOnRow store meta p h t b x broker_tier g offset limit next outcome t' → Leaving A h b t outcome h' t'
  seek_lasts A p h t b x broker_tier g offset limit next (Answers Stopped) h' t' same w = (all_same h t h' t' same w.1, tt)
  seek_lasts A p h t b x broker_tier g offset limit next (Answers NotLeader) h' t' same w = (all_same h t h' t' same w.3, tt)
  seek_lasts A p h t b x broker_tier g offset limit next (Answers (OutOfRange start end)) h' t' same w = (all_same h t h' t' same w.4, tt)
  seek_lasts A p h t b x broker_tier g offset limit next (Answers Empty) h' t' same w = (all_same h t h' t' same w.3, tt)
  seek_lasts A p h t b x broker_tier g offset limit next (Answers answer) h' t' same w = goes_lasts A p h t b x broker_tier offset limit next (turns.Ends answer) h' t' same w.1
  seek_lasts A p h t b x broker_tier g offset limit next (Sought later) h' t' same w = goes_lasts A p h t b x broker_tier offset limit next (turns.Goes later) h' t' same w.1
  seek_lasts A p h t b x broker_tier g offset limit next other h' t' same w = elim w [ ]

  -- and of an expiry, which raises the log start offset as the command does

  raise_lasts : (A : Type 0) (h : PartitionState D) (t : RemoteTier S M) (b : ℕ) (x : Node D) (start : ℕ) (answer : Answer) (h' : PartitionState D) (t' : RemoteTier S M) → slice_get h.nodes b ≡ Some x → is_up x ≡ true → t' ≡ t
      → ExpiryRaiseRow h x.role start answer h' → Leaving A h b t (Answers answer) h' t'
  raise_lasts A h t b x start (StaleEpoch e) h' t' at up same w =
      (same_tier h t h' t' (row_lasts disk.content disk.control h b x None (Raise start) (turned.Answers (StaleEpoch e)) h' at (up, w)).0 same, tt)
  raise_lasts A h t b x start (Raised to) h' t' at up same w =
      (same_tier h t h' t' (row_lasts disk.content disk.control h b x None (Raise start) (turned.Answers (OkAt to)) h' at (up, w)).0 same, tt)
  raise_lasts A h t b x start other h' t' at up same w = elim w [ ]

  expires_lasts : (A : Type 0) (p : PartitionId) (h : PartitionState D) (t : RemoteTier S M) (b : ℕ) (x : Node D) (broker_tier : BrokerTierState) (keep : Keep) (outcome : Outcome) (h' : PartitionState D) (t' : RemoteTier S M) → slice_get h.nodes b ≡ Some x
      → is_up x ≡ true → t' ≡ t → ExpiresBy p h x broker_tier keep outcome h' → Leaving A h b t outcome h' t'
  expires_lasts A p h t b x broker_tier keep (ChoosesExpired segment) h' t' at up same w = (all_same h t h' t' w.stays same, tt)
  expires_lasts A p h t b x broker_tier keep (Answers Remains) h' t' at up same w = (all_same h t h' t' w.2 same, tt)
  expires_lasts A p h t b x broker_tier keep (Answers answer) h' t' at up same w = raise_lasts A h t b x w.0 answer h' t' at up same w.2
  expires_lasts A p h t b x broker_tier keep other h' t' at up same w = elim w [ ]

  expire_lasts : (A : Type 0) (p : PartitionId) (h : PartitionState D) (t : RemoteTier S M) (b : ℕ) (x : Node D) (broker_tier : BrokerTierState) (g : StartSnapshot) (keep : Keep) (outcome : Outcome) (h' : PartitionState D) (t' : RemoteTier S M)
      → slice_get h.nodes b ≡ Some x → t' ≡ t → ExpireOnRow p h x broker_tier g keep outcome h' → Leaving A h b t outcome h' t'
  expire_lasts A p h t b x broker_tier g keep outcome h' t' at same (inl lost) = told_as A h b t h' t' outcome _ lost.1 (all_same h t h' t' lost.2 same, tt)
  expire_lasts A p h t b x broker_tier g keep outcome h' t' at same (inr k) = expires_lasts A p h t b x broker_tier keep outcome h' t' at k.0.up same k.1

  -- and of a join

  at_once_lasts : (A : Type 0) (h : PartitionState D) (b : ℕ) (t : RemoteTier S M) (x : Node D) (g : StartSnapshot) (answer : Answer) (h' : PartitionState D) (t' : RemoteTier S M) → AllLast h t h' t' → AnswersAtOnce h x g answer
      → Leaving A h b t (Answers answer) h' t'
  at_once_lasts A h b t x g Stopped h' t' k w = (k, tt)
  at_once_lasts A h b t x g (StaleEpoch n) h' t' k w = (k, tt)
  at_once_lasts A h b t x g (Passed n) h' t' k w = (k, tt)
  at_once_lasts A h b t x g (BelowStart start) h' t' k w = (k, tt)
  at_once_lasts A h b t x g other h' t' k w = elim w [ ]

  refreshed_lasts : (A : Type 0) (h : PartitionState D) (t : RemoteTier S M) (b : ℕ) (broker_tier : BrokerTierState) (outcome : Outcome) (h' : PartitionState D) (t' : RemoteTier S M) → h' ≡ h → RefreshedRow meta t b broker_tier outcome t' → Leaving A h b t outcome h' t'
  refreshed_lasts A h t b broker_tier (Answers MetaFault) h' t' same w = unread_lasts h t broker_tier h' t' same w
  refreshed_lasts A h t b broker_tier (Rebuilding Epochs) h' t' same w = (refresh_keeps h t b broker_tier h' t' same w, tt)
  refreshed_lasts A h t b broker_tier other h' t' same w = elim w [ ]

  -- the last turn of a command that the remote tier has no part in
  joined_lasts : (h : PartitionState D) (t : RemoteTier S M) (b : ℕ) (x : Node D) (g : StartSnapshot) (command : Command) (outcome : Outcome) (h' : PartitionState D) (t' : RemoteTier S M) → slice_get h.nodes b ≡ Some x
      → OwnOnRow disk h t b x g command outcome h' t' → Leaving (FailsFor disk.control command h b h') h b t outcome h' t'
  joined_lasts h t b x g command outcome h' t' at w =
      told_as (FailsFor disk.control command h b h') h b t h' t' outcome _ w.0.1
      (own_lasts command h b t (turned.Answers w.0.0) h' t' (row_lasts disk.content disk.control h b x (Some g) command (turned.Answers w.0.0) h' at w.0.2) w.1)

  join_lasts : (h : PartitionState D) (t : RemoteTier S M) (b : ℕ) (x : Node D) (broker_tier : BrokerTierState) (g : StartSnapshot) (outcome : Outcome) (h' : PartitionState D) (t' : RemoteTier S M) → slice_get h.nodes b ≡ Some x
      → JoinSecondRow disk meta h t b x broker_tier g outcome h' t' → Leaving (DiskFails disk.control b h h') h b t outcome h' t'
  join_lasts h t b x broker_tier g outcome h' t' at (inl (low, own)) = joined_lasts h t b x g Join outcome h' t' at own
  join_lasts h t b x broker_tier g outcome h' t' at (inr (high, inl (answer, is, once, tier), same)) =
      told_as (DiskFails disk.control b h h') h b t h' t' outcome _ is (at_once_lasts (DiskFails disk.control b h h') h b t x g answer h' t' (all_same h t h' t' same tier) once)
  join_lasts h t b x broker_tier g outcome h' t' at (inr (high, inr (may, row), same)) = refreshed_lasts (DiskFails disk.control b h h') h t b broker_tier outcome h' t' same row

  -- and of a question for the end in the remote tier
  offset_lasts : (A : Type 0) (h : PartitionState D) (t : RemoteTier S M) (b : ℕ) (x : Node D) (broker_tier : BrokerTierState) (g : StartSnapshot) (outcome : Outcome) (h' : PartitionState D) (t' : RemoteTier S M) → h' ≡ h → t' ≡ t
      → OffsetOnRow h x broker_tier g outcome → Leaving A h b t outcome h' t'
  offset_lasts A h t b x broker_tier g (Answers Stopped) h' t' partition_state tier w = (all_same h t h' t' partition_state tier, tt)
  offset_lasts A h t b x broker_tier g (Answers NotLeader) h' t' partition_state tier w = (all_same h t h' t' partition_state tier, tt)
  offset_lasts A h t b x broker_tier g (Answers (OffsetAnswer n)) h' t' partition_state tier w = (all_same h t h' t' partition_state tier, tt)
  offset_lasts A h t b x broker_tier g (Answers NoOffset) h' t' partition_state tier w = (all_same h t h' t' partition_state tier, tt)
  offset_lasts A h t b x broker_tier g (Answers answer) h' t' partition_state tier w = elim w.1 [ ]
  offset_lasts A h t b x broker_tier g other h' t' partition_state tier w = elim w [ ]

  -- and of a timestamp lookup, which reads the broker's log, or is among the remote segments

  own_search_lasts : (h : PartitionState D) (t : RemoteTier S M) (b : ℕ) (x : Node D) (asked : Asked) (cursor : ℕ) (turn : Turn (ℕ × Dating)) (h' : PartitionState D)
      (t' : RemoteTier S M) → slice_get h.nodes b ≡ Some x → t' ≡ t
      → SearchesOwn disk h b x asked cursor turn h' → Leaving (DiskFails disk.control b h h') h b t (date_outcome turn) h' t'
  own_search_lasts h t b x asked cursor turn h' t' at tier w = by w.row
    where
      y : Node D
      y = record x { log = w.kept }

      lasting : Lasting disk.control x.log w.kept → AllLast h t h' t'
      lasting lasts = same_tier h t h' t' (keeps_put disk.control h b x y h' at lasts w.after) tier

      reads : (to : Turn (ℕ × Dating)) → RunRow disk.content disk.control x.log asked (passed_over asked.ts cursor (closed_in x.log)) to w.kept
          → Leaving (DiskFails disk.control b h h') h b t (date_outcome to) h' t'
      reads (turns.Ends DiskFault) row = (lasting row.1, (fails_put disk.control h b x y h' at row.1 (one_faulted disk.control x.log w.kept row.1 row.2) w.after).1)
      reads (turns.Ends (Damaged (File name) place)) row = (lasting row.quiet.0, tt)
      reads to row = (
        lasting row.quiet.0,
        searched_told (DiskFails disk.control b h h') (DiskFails disk.control b h h') (StoreRose store t.store t'.store)
            (MetaRose meta t.meta t'.meta) asked
            (passed_over asked.ts cursor (closed_in x.log)) row.out.bytes to row.searched,
      )

      by : LocalSearchRow disk.content disk.control x.log asked cursor turn w.kept
          → Leaving (DiskFails disk.control b h h') h b t (date_outcome turn) h' t'
      by (inl (past, is, same)) = (
        same_tier h t h' t' (keeps_log disk.control h b x y h' at same w.after) tier,
        subst (λ (u : Turn (ℕ × Dating)). TurnTold (DiskFails disk.control b h h') (DiskFails disk.control b h h') (StoreRose store t.store t'.store)
            (MetaRose meta t.meta t'.meta) (date_outcome u)) (sym is) tt,
      )
      by (inr (below, row)) = reads turn row

  search_lasts : (h : PartitionState D) (t : RemoteTier S M) (b : ℕ) (x : Node D) (broker_tier : BrokerTierState) (asked : Asked) (cursor : ℕ) (next : Dating) (own : Bool)
      (turn : Turn (ℕ × Dating)) (h' : PartitionState D) (t' : RemoteTier S M)
      → slice_get h.nodes b ≡ Some x → SearchRow disk store meta h t b x broker_tier asked cursor next own turn h' t'
      → Leaving (DiskFails disk.control b h h') h b t (date_outcome turn) h' t'
  search_lasts h t b x broker_tier asked cursor next true turn h' t' at w = own_search_lasts h t b x asked cursor turn h' t' at w.1 w.0
  search_lasts h t b x broker_tier asked cursor next false turn h' t' at w =
      let k = time_lasts (DiskFails disk.control b h h') (DiskFails disk.control b h h') store meta asked (line_of x) cursor next turn
      (fetch_tiers broker_tier.view broker_tier.cache t) (fetch_tiers w.0.view w.0.cache t') w.0.row in
      (record { partition_state = keeps_same disk.control h h' w.1; stores = k.0; metas = k.1 }, k.2)

  searches_lasts : (p : PartitionId) (h : PartitionState D) (t : RemoteTier S M) (b : ℕ) (x : Node D) (broker_tier : BrokerTierState) (g : StartSnapshot) (ts : ℤ) (cursor : ℕ)
      (next : Dating) (turn : Turn (ℕ × Dating)) (h' : PartitionState D) (t' : RemoteTier S M)
      → slice_get h.nodes b ≡ Some x → SearchesOn disk store meta p h t b x broker_tier g ts cursor next turn h' t'
      → Leaving (DiskFails disk.control b h h') h b t (date_outcome turn) h' t'
  searches_lasts p h t b x broker_tier g ts cursor next turn h' t' at w =
      let on = resumed_at h.registry.start cursor in
      let with = resumed_with h.registry.start cursor next in
      search_lasts h t b x broker_tier (asked_of p h x ts) on with (is_own (local_of x) on with) turn h' t' at w.row

  date_lasts : (p : PartitionId) (h : PartitionState D) (t : RemoteTier S M) (b : ℕ) (x : Node D) (broker_tier : BrokerTierState) (g : StartSnapshot) (ts : ℤ) (cursor : ℕ)
      (next : Dating) (outcome : Outcome) (h' : PartitionState D) (t' : RemoteTier S M)
      → slice_get h.nodes b ≡ Some x → DateOnRow disk store meta p h t b x broker_tier g ts cursor next outcome h' t'
      → Leaving (DiskFails disk.control b h h') h b t outcome h' t'
  date_lasts p h t b x broker_tier g ts cursor next (Answers Stopped) h' t' at w = (all_same h t h' t' w.1 w.2, tt)
  date_lasts p h t b x broker_tier g ts cursor next (Answers NotLeader) h' t' at w = (all_same h t h' t' w.3 w.4, tt)
  date_lasts p h t b x broker_tier g ts cursor next (Answers NoOffset) h' t' at w = (all_same h t h' t' w.2 w.3, tt)
  date_lasts p h t b x broker_tier g ts cursor next (Answers answer) h' t' at w = searches_lasts p h t b x broker_tier g ts cursor next
      (turns.Ends answer) h' t' at w
  date_lasts p h t b x broker_tier g ts cursor next (Dated to later) h' t' at w = searches_lasts p h t b x broker_tier g ts cursor next
      (turns.Goes (to, later)) h' t' at w.0
  date_lasts p h t b x broker_tier g ts cursor next other h' t' at w = elim w [ ]

  recorded_lasts : (p : PartitionId) (config : Config) (h : PartitionState D) (t : RemoteTier S M) (b : ℕ) (x : Node D) (broker_tier : BrokerTierState) (g : StartSnapshot) (command : Command) (outcome : Outcome) (h' : PartitionState D) (t' : RemoteTier S M)
      → slice_get h.nodes b ≡ Some x → ContinuedRow disk store meta p config h t b x broker_tier g command outcome h' t' → Leaving (FailsFor disk.control command h b h') h b t outcome h' t'
  recorded_lasts p config h t b x broker_tier g Copy outcome h' t' at w = choose_lasts p h t b x broker_tier g outcome h' t' at w
  recorded_lasts p config h t b x broker_tier g Trim outcome h' t' at w = trims_lasts h t b x broker_tier g config.local_keep outcome h' t' at w.0 w.1
  recorded_lasts p config h t b x broker_tier g Join outcome h' t' at w = join_lasts h t b x broker_tier g outcome h' t' at w
  recorded_lasts p config h t b x broker_tier g Expire outcome h' t' at w = expire_lasts (DiskFails disk.control b h h') p h t b x broker_tier g config.keep outcome h' t' at w.1 w.0
  recorded_lasts p config h t b x broker_tier g (Fetch offset limit) outcome h' t' at w = seek_lasts (DiskFails disk.control b h h') p h t b x broker_tier g offset limit Refresh outcome h' t' w.1 w.0
  recorded_lasts p config h t b x broker_tier g (Offset LatestTiered) outcome h' t' at w = offset_lasts (DiskFails disk.control b h h') h t b x broker_tier g outcome h' t' w.1 w.2 w.0
  recorded_lasts p config h t b x broker_tier g (Offset (At ts)) outcome h' t' at w = date_lasts p h t b x broker_tier g ts 0 Seek outcome h' t' at w
  recorded_lasts p config h t b x broker_tier g other outcome h' t' at w = joined_lasts h t b x g other outcome h' t' at w

  copying_lasts : (A : Type 0) (h : PartitionState D) (t : RemoteTier S M) (b : ℕ) (x : Node D) (broker_tier : BrokerTierState) (g : StartSnapshot) (copy : Copied) (next : CopyStep) (command : Command) (outcome : Outcome) (h' : PartitionState D) (t' : RemoteTier S M)
      → CopyLaterRow store meta h t b x broker_tier g copy next command outcome h' t' → Leaving A h b t outcome h' t'
  copying_lasts A h t b x broker_tier g copy next Copy outcome h' t' (inl lost, same) = told_as A h b t h' t' outcome _ lost.1 (all_same h t h' t' same lost.2, tt)
  copying_lasts A h t b x broker_tier g copy next Copy outcome h' t' (inr (keeps, (turn, is, goes)), same) =
      let k = copy_lasts A (DiskFails disk.control b h h') store meta copy (origin_of h b) next turn (tiers_of broker_tier.view t) (tiers_of goes.view t') goes.row in
      told_as A h b t h' t' outcome _ is (record { partition_state = keeps_same disk.control h h' same; stores = k.0; metas = k.1 }, k.2)
  copying_lasts A h t b x broker_tier g copy next other outcome h' t' w = elim w [ ]

  seeking_lasts : (A : Type 0) (p : PartitionId) (h : PartitionState D) (t : RemoteTier S M) (b : ℕ) (x : Node D) (broker_tier : BrokerTierState) (g : StartSnapshot) (next : Search) (command : Command) (outcome : Outcome) (h' : PartitionState D) (t' : RemoteTier S M)
      → SeekingRow store meta p h t b x broker_tier g next command outcome h' t' → Leaving A h b t outcome h' t'
  seeking_lasts A p h t b x broker_tier g next (Fetch offset limit) outcome h' t' w = seek_lasts A p h t b x broker_tier g offset limit next outcome h' t' w.1 w.0
  seeking_lasts A p h t b x broker_tier g next other outcome h' t' w = elim w [ ]

  dating_lasts : (p : PartitionId) (h : PartitionState D) (t : RemoteTier S M) (b : ℕ) (x : Node D) (broker_tier : BrokerTierState) (g : StartSnapshot) (cursor : ℕ) (next : Dating)
      (command : Command) (outcome : Outcome) (h' : PartitionState D) (t' : RemoteTier S M)
      → slice_get h.nodes b ≡ Some x → DatingRow disk store meta p h t b x broker_tier g cursor next command outcome h' t'
      → Leaving (FailsFor disk.control command h b h') h b t outcome h' t'
  dating_lasts p h t b x broker_tier g cursor next (Offset (At ts)) outcome h' t' at w = date_lasts p h t b x broker_tier g ts cursor next outcome h'
      t' at w
  dating_lasts p h t b x broker_tier g cursor next other outcome h' t' at w = elim w [ ]

  deleting_lasts : (A : Type 0) (h : PartitionState D) (t : RemoteTier S M) (b : ℕ) (x : Node D) (g : StartSnapshot) (segment : ExpiredSegment) (next : Deletion) (command : Command) (outcome : Outcome) (h' : PartitionState D) (t' : RemoteTier S M)
      → DeletingRow store meta h t b x g segment next command outcome h' t' → Leaving A h b t outcome h' t'
  deleting_lasts A h t b x g segment next Expire outcome h' t' (inl lost, same) = told_as A h b t h' t' outcome _ lost.1 (all_same h t h' t' same lost.2, tt)
  deleting_lasts A h t b x g segment next Expire outcome h' t' (inr (keeps, (turn, is, goes)), same) =
      let k = expiry_lasts A (DiskFails disk.control b h h') store meta segment (origin_of h b) next turn (expiry_tiers t) (expiry_tiers t') goes.row in
      told_as A h b t h' t' outcome _ is (record { partition_state = keeps_same disk.control h h' same; stores = k.0; metas = k.1 }, k.2)
  deleting_lasts A h t b x g segment next other outcome h' t' w = elim w [ ]

  rebuilding_lasts : (p : PartitionId) (h : PartitionState D) (t : RemoteTier S M) (b : ℕ) (x : Node D) (broker_tier : BrokerTierState) (g : StartSnapshot) (next : Rebuild) (command : Command) (outcome : Outcome) (h' : PartitionState D) (t' : RemoteTier S M)
      → slice_get h.nodes b ≡ Some x → RebuildingRow disk store p h t b x broker_tier g next command outcome h' t' → Leaving (FailsFor disk.control command h b h') h b t outcome h' t'
  rebuilding_lasts p h t b x broker_tier g Epochs Join outcome h' t' at (inl (answer, is, once, tier), same) =
      told_as (DiskFails disk.control b h h') h b t h' t' outcome _ is (at_once_lasts (DiskFails disk.control b h h') h b t x g answer h' t' (all_same h t h' t' same tier) once)
  rebuilding_lasts p h t b x broker_tier g Epochs Join outcome h' t' at (inr (may, (turn, is, goes)), same) =
      let k = rebuild_lasts (DiskFails disk.control b h h') (DiskFails disk.control b h h') (MetaRose meta t.meta t'.meta) store (rebuilt_to p g) g.line broker_tier.view turn t.store t'.store goes.row in
      told_as (DiskFails disk.control b h h') h b t h' t' outcome _ is
      (record { partition_state = keeps_same disk.control h h' same; stores = k.0; metas = meta_same meta t.meta t'.meta (ap (λ (u : RemoteTier S M). u.meta) goes.after) }, k.1)
  rebuilding_lasts p h t b x broker_tier g (Restart line) Join outcome h' t' at w = joined_lasts h t b x (with_line g line) Join outcome h' t' at w
  rebuilding_lasts p h t b x broker_tier g next other outcome h' t' at w = elim w [ ]

  pub turn_lasts : (p : PartitionId) (config : Config) (h : PartitionState D) (t : RemoteTier S M) (b : ℕ) (x : Node D) (broker_tier : BrokerTierState) (in_progress : InProgress) (command : Command) (outcome : Outcome) (h' : PartitionState D) (t' : RemoteTier S M)
      → slice_get h.nodes b ≡ Some x → Row disk store meta p config h t b x broker_tier in_progress command outcome h' t' → Leaving (FailsFor disk.control command h b h') h b t outcome h' t'
  turn_lasts p config h t b x broker_tier Idle command outcome h' t' at w = begin_lasts h t b x broker_tier command outcome h' t' at w
  turn_lasts p config h t b x broker_tier (Noted g) command outcome h' t' at w = recorded_lasts p config h t b x broker_tier g command outcome h' t' at w
  turn_lasts p config h t b x broker_tier (Copies g copy next) command outcome h' t' at w = copying_lasts (FailsFor disk.control command h b h') h t b x broker_tier g copy next command outcome h' t' w
  turn_lasts p config h t b x broker_tier (Seeks g next) command outcome h' t' at w = seeking_lasts (FailsFor disk.control command h b h') p h t b x broker_tier g next command outcome h' t' w
  turn_lasts p config h t b x broker_tier (Dates g cursor next) command outcome h' t' at w = dating_lasts p h t b x broker_tier g cursor next command
      outcome h' t' at w
  turn_lasts p config h t b x broker_tier (Expires g segment next) command outcome h' t' at w = deleting_lasts (FailsFor disk.control command h b h') h t b x g segment next command outcome h' t' w
  turn_lasts p config h t b x broker_tier (Rebuilds g next) command outcome h' t' at w = rebuilding_lasts p h t b x broker_tier g next command outcome h' t' at w
