-- What a turn of a command of any kind counts: one fault of a device where it is answered one, and none elsewhere.
use Rattle.std.proofs.Common.{◌≡◌, inl, inr, sym, ap, subst, refl, ◌∙◌, ℕ, slice_get, Some, None, Option, Bool, true, false}
use Rattle.std.specs.Prelude.{ℤ}
use Rattle.tier_base.specs.declared.names.PartitionId.{PartitionId}
use Rattle.tier_base.specs.declared.plain.Keep.{Keep}
use Rattle.disk_model.specs.declared.disk.Disk.{Ghosts as DiskGhosts}
use Rattle.object_store.specs.declared.store.Store.{Ghosts as StoreGhosts}
use Rattle.meta_log.specs.declared.log.MetaLog.{Ghosts as MetaGhosts}
use Rattle.copy_task.specs.Copying.{Copied}
use Rattle.copy_task.specs.declared.turn.CopyStep.{CopyStep}
use Rattle.plain_log.specs.declared.turn.Turn.{Turn}
use Rattle.plain_log.specs.declared.turn.Turn.TheVariants as turns
use Rattle.tier_fetch.specs.declared.turn.FetchStep.{FetchStep as Search}
use Rattle.tier_fetch.specs.declared.turn.FetchStep.TheVariants.{Refresh}
use Rattle.time_find.specs.declared.turn.Asked.{Asked}
use Rattle.time_find.specs.declared.turn.SearchStep.{SearchStep as Dating}
use Rattle.time_find.specs.declared.turn.SearchStep.TheVariants.{Seek}
use Rattle.time_find.specs.Passing.{passed_over}
use Rattle.time_find.specs.Turns.{LocalSearchRow, ReadLocalRow as RunRow}
use Rattle.expiry_task.specs.declared.turn.ExpiredSegment.{ExpiredSegment}
use Rattle.expiry_task.specs.declared.turn.DeletionStep.{DeletionStep as Deletion}
use Rattle.rebuild_task.specs.declared.turn.RebuildStep.{RebuildStep as Rebuild}
use Rattle.rebuild_task.specs.declared.turn.RebuildStep.TheVariants.{Epochs, Restart}
use Rattle.plain_log.specs.declared.answer.Answer.{Answer}
use Rattle.plain_log.specs.declared.answer.Answer.TheVariants.{Down, NotLeader, CopyOff, MetaFault, DiskFault, Damaged, Stopped, OutOfRange, Empty, Kept as Remains, StaleEpoch, Raised, OkAt, Passed, BelowStart, Offset as OffsetAnswer, NoOffset, LostLead, Level, StoreFault}
use Rattle.plain_log.specs.declared.answer.Place.TheVariants.{File}
use Rattle.plain_log.specs.declared.command.Command.{Command}
use Rattle.plain_log.specs.declared.command.Command.TheVariants.{Join, Copy, Trim, Expire, Fetch, Raise, Offset}
use Rattle.plain_log.specs.declared.command.Which.TheVariants.{LatestTiered, At}
use Rattle.plain_log.specs.declared.command.Config.{Config}
use Rattle.broker_log.specs.Seen.{NoFault, OneFault, closed_in}
use Rattle.laws_partition.specs.declared.start_snapshot.StartSnapshot.{StartSnapshot}
use Rattle.laws_partition.specs.declared.start_snapshot.Turned.{Turned}
use Rattle.laws_partition.specs.declared.start_snapshot.Turned.TheVariants as turned
use Rattle.partition_commands.specs.declared.partition_state.Node.{Node}
use Rattle.partition_commands.specs.declared.partition_state.PartitionState.{PartitionState}
use Rattle.partition_commands.specs.Partition.{is_up, line_of, local_of, put_node}
use Rattle.partition_commands.specs.Turns.{Row as OwnRowOf}
use Rattle.partition_world.specs.declared.tier.BrokerTierState.{BrokerTierState}
use Rattle.partition_world.specs.declared.tier.RemoteTier.{RemoteTier}
use Rattle.partition_world.specs.declared.actor_state.Outcome.{Outcome}
use Rattle.partition_world.specs.declared.actor_state.Outcome.TheVariants.{Answers, Begins, Chose, Seeks as Sought, Dates as Dated, ChoosesExpired, Rebuilds as Rebuilding}
use Rattle.partition_world.specs.declared.actor_state.InProgress.{InProgress}
use Rattle.partition_world.specs.declared.actor_state.InProgress.TheVariants.{Idle, Noted, Copies, Seeks, Dates, Expires, Rebuilds}
use Rattle.partition_world.specs.ActorStates.{outcome_of, copy_outcome, fetch_outcome, date_outcome, expiry_outcome, rebuild_outcome}
use Rattle.partition_world.specs.Tier.{RefreshesBroker, FailsToRead, put_broker_tier}
use Rattle.partition_world.specs.TurnsOfCopy.{ReadSegmentRow, LeadersFirstRow, CopyFirstRow, ChooseRow, tiers_of, origin_of}
use Rattle.partition_world.specs.TurnsOfFetch.{FetchOnRow, GoesOnFetch, fetch_tiers, wanted_of}
use Rattle.partition_world.specs.TurnsOfDate.{SearchesOwn, SearchRow, SearchesOn, DateOnRow, asked_of, is_own, resumed_at, resumed_with}
use Rattle.partition_world.specs.TurnsOfExpiry.{ExpiryRaiseRow, ExpireOnRow, ExpiresBy, expiry_tiers}
use Rattle.partition_world.specs.TurnsOfRebuild.{AnswersAtOnce, RefreshedRow, with_line, wanted_of as rebuilt_to}
use Rattle.partition_world.specs.TurnsOfOffset.{OffsetOnRow}
use Rattle.partition_world.specs.TurnsOfTrim.{TrimFirstRow, TrimOnRow}
use Rattle.partition_world.specs.Turns.{OwnOnRow, BeginRow, ContinuedRow, CopyLaterRow, SeekingRow, DatingRow, DeletingRow, JoinSecondRow, RebuildingRow, Row}
use Rattle.partition_commands.specs.Disks.{HaveDisks, DiskFails}
use Rattle.partition_commands.specs.Faults.{is_of_disk, is_of_store, is_of_meta, after_fault}
use Rattle.partition_commands.proofs.Told.{Told, OwnTold}
use Rattle.partition_commands.proofs.LastingDisks.{FailsFor}
use Rattle.partition_commands.proofs.LastingRows.{row_lasts}
use Rattle.partition_commands.proofs.CountingDisks.{ByFault, Quietly, Once, OnceFor, quiet_same, quiet_put, quiet_log, once_put, counts_by}
use Rattle.partition_commands.proofs.CountingRows.{LeavingFor, row_counts}
use Rattle.partition_world.specs.Answered.{is_answered, AnswersFaults}
use Rattle.partition_world.specs.Turn.{IsTurn}
use Rattle.partition_world.specs.Whole.{Whole}
use Rattle.partition_world.proofs.Begins.{row_of}
use Rattle.partition_world.proofs.CountingCalls.{Clear, StoreStill, MetaStill, Counted, store_still, meta_still, clear}
use Rattle.partition_world.proofs.CountingCopies.{copy_counts}
use Rattle.partition_world.proofs.CountingDeletions.{expiry_counts}
use Rattle.partition_world.proofs.CountingSearches.{fetch_counts, rebuild_counts}
use Rattle.partition_world.proofs.CountingDates.{searched_clear, time_counts}

-- an answer that the remote tier has no part in is no fault of the store or the metadata log
told_off : (A B : Type 0) (answer : Answer) → Told A B ⊥ ⊥ answer → (is_of_store answer ≡ false) × (is_of_meta answer ≡ false)
told_off A B StoreFault t = absurd t
told_off A B MetaFault t = absurd t
told_off A B other t = (refl, refl)

-- where no fault is reported
none_by : (A Z : Type 0) (fault : Bool) → fault ≡ false → Z → ByFault A Z fault
none_by A Z fault is z = subst (λ (f : Bool). ByFault A Z f) (sym is) z

-- a count that is the same, where no fault is reported
same_by : (fault : Bool) (n now : ℕ) → fault ≡ false → now ≡ n → now ≡ after_fault fault n
same_by fault n now is same = same ∙ ap (λ (f : Bool). after_fault f n) (sym is)

module _ {D S M : Type 0} (disk : DiskGhosts D) (store : StoreGhosts S) (meta : MetaGhosts M) where
  -- the counts of faults over a turn that comes to this; this holds where it returns a fault of a disk
  abbrev pub Leaving : Type 0 → PartitionState D → RemoteTier S M → Outcome → PartitionState D → RemoteTier S M → Type 0
  Leaving A h t o h' t' =
      ByFault A (Quietly disk.control h h') (is_answered is_of_disk o)
      × ((store.control t'.store).faults ≡ after_fault (is_answered is_of_store o) (store.control t.store).faults)
      × ((meta.control t'.meta).faults ≡ after_fault (is_answered is_of_meta o) (meta.control t.meta).faults)

  -- none has risen
  abbrev AllStill : PartitionState D → RemoteTier S M → PartitionState D → RemoteTier S M → Type 0
  AllStill h t h' t' = Quietly disk.control h h' × StoreStill store meta t.store t'.store × MetaStill store meta t.meta t'.meta

  tier_still : (h : PartitionState D) (t : RemoteTier S M) (h' : PartitionState D) (t' : RemoteTier S M) → Quietly disk.control h h' → t' ≡ t → AllStill h t h' t'
  tier_still h t h' t' quiet same = (
    quiet,
    store_still store meta t.store t'.store (ap (λ (k : RemoteTier S M). k.store) same),
    meta_still store meta t.meta t'.meta (ap (λ (k : RemoteTier S M). k.meta) same),
  )

  all_still : (h : PartitionState D) (t : RemoteTier S M) (h' : PartitionState D) (t' : RemoteTier S M) → h' ≡ h → t' ≡ t → AllStill h t h' t'
  all_still h t h' t' one two = tier_still h t h' t' (quiet_same disk.control h h' one) two

  -- for an outcome that is the same
  counts_as : (A : Type 0) (h : PartitionState D) (t : RemoteTier S M) (h' : PartitionState D) (t' : RemoteTier S M) (o after : Outcome) → o ≡ after → Leaving A h t after h' t' → Leaving A h t o h' t'
  counts_as A h t h' t' o after is k = subst (λ (o : Outcome). Leaving A h t o h' t') (sym is) k

  -- a turn that leaves the brokers' logs, and makes a call of the store or of the metadata log at most
  of_tier : (A : Type 0) (h : PartitionState D) (t : RemoteTier S M) (o : Outcome) (h' : PartitionState D) (t' : RemoteTier S M) → h' ≡ h → Counted store meta o t.store t'.store t.meta t'.meta → Leaving A h t o h' t'
  of_tier A h t o h' t' same c = (none_by A (Quietly disk.control h h') (is_answered is_of_disk o) c.0 (quiet_same disk.control h h' same), c.1, c.2)

  -- a turn that the remote tier has no part in
  own_counts : (command : Command) (h : PartitionState D) (b : ℕ) (t : RemoteTier S M) (turn : Turned) (h' : PartitionState D) (t' : RemoteTier S M) → LeavingFor disk.content disk.control command h b h' turn
      → (A B : Type 0) → OwnTold A B turn → t' ≡ t → Leaving (OnceFor disk.control command h b h') h t (outcome_of turn) h' t'
  own_counts command h b t (turned.Answers answer) h' t' k A B told same =
      let off = told_off A B answer told in (
        k,
        same_by (is_of_store answer) _ _ off.0 (store_still store meta t.store t'.store (ap (λ (k : RemoteTier S M). k.store) same)),
        same_by (is_of_meta answer) _ _ off.1 (meta_still store meta t.meta t'.meta (ap (λ (k : RemoteTier S M). k.meta) same)),
      )
  own_counts command h b t (turned.Begins g) h' t' k A B told same = tier_still h t h' t' k same

  -- by its row
  own_row : (command : Command) (h : PartitionState D) (b : ℕ) (x : Node D) (snapshot : Option StartSnapshot) (t : RemoteTier S M) (turn : Turned) (h' : PartitionState D) (t' : RemoteTier S M) → slice_get h.nodes b ≡ Some x
      → OwnRowOf disk.content disk.control h b x snapshot command turn h' → t' ≡ t → Leaving (OnceFor disk.control command h b h') h t (outcome_of turn) h' t'
  own_row command h b x snapshot t turn h' t' at w same =
      own_counts command h b t turn h' t' (row_counts disk.content disk.control h b x snapshot command turn h' at w) (FailsFor disk.control command h b h') (DiskFails disk.control b h h')
      (row_lasts disk.content disk.control h b x snapshot command turn h' at w).1 same

  -- the metadata log is read for a view

  unread_counts : (A : Type 0) (h : PartitionState D) (t : RemoteTier S M) (broker_tier : BrokerTierState) (h' : PartitionState D) (t' : RemoteTier S M) → h' ≡ h → FailsToRead meta t broker_tier t' → Leaving A h t (Answers MetaFault) h' t'
  unread_counts A h t broker_tier h' t' same w =
      (quiet_same disk.control h h' same, store_still store meta t.store t'.store (ap (λ (k : RemoteTier S M). k.store) w.after), w.reads.control.ran.once refl)

  refresh_still : (h : PartitionState D) (t : RemoteTier S M) (b : ℕ) (broker_tier : BrokerTierState) (h' : PartitionState D) (t' : RemoteTier S M) → h' ≡ h → RefreshesBroker meta t b broker_tier t' → AllStill h t h' t'
  refresh_still h t b broker_tier h' t' same w =
      (quiet_same disk.control h h' same, store_still store meta t.store t'.store (ap (λ (k : RemoteTier S M). k.store) w.after), w.reads.control.ran.went refl)

  leaders_counts : (A : Type 0) (h : PartitionState D) (t : RemoteTier S M) (b : ℕ) (x : Node D) (broker_tier : BrokerTierState) (o : Outcome) (h' : PartitionState D) (t' : RemoteTier S M) → h' ≡ h
      → LeadersFirstRow meta h t b x broker_tier o t' → Leaving A h t o h' t'
  leaders_counts A h t b x broker_tier (Answers Down) h' t' same w = all_still h t h' t' same w.1
  leaders_counts A h t b x broker_tier (Answers NotLeader) h' t' same w = all_still h t h' t' same w.2
  leaders_counts A h t b x broker_tier (Answers MetaFault) h' t' same w = unread_counts A h t broker_tier h' t' same w.2
  leaders_counts A h t b x broker_tier (Begins g) h' t' same w = refresh_still h t b broker_tier h' t' same w.3
  leaders_counts A h t b x broker_tier other h' t' same w = elim w [ ]

  first_counts : (A : Type 0) (h : PartitionState D) (t : RemoteTier S M) (b : ℕ) (x : Node D) (broker_tier : BrokerTierState) (o : Outcome) (h' : PartitionState D) (t' : RemoteTier S M) → h' ≡ h
      → CopyFirstRow meta h t b x broker_tier o t' → Leaving A h t o h' t'
  first_counts A h t b x broker_tier (Answers CopyOff) h' t' same w = all_still h t h' t' same w.3
  first_counts A h t b x broker_tier (Answers MetaFault) h' t' same w = leaders_counts A h t b x broker_tier (Answers MetaFault) h' t' same w.0
  first_counts A h t b x broker_tier (Begins g) h' t' same w = leaders_counts A h t b x broker_tier (Begins g) h' t' same w.0
  first_counts A h t b x broker_tier other h' t' same w = leaders_counts A h t b x broker_tier other h' t' same w

  trim_counts : (A : Type 0) (h : PartitionState D) (t : RemoteTier S M) (b : ℕ) (x : Node D) (broker_tier : BrokerTierState) (o : Outcome) (h' : PartitionState D) (t' : RemoteTier S M) → h' ≡ h
      → TrimFirstRow meta h t b x broker_tier o t' → Leaving A h t o h' t'
  trim_counts A h t b x broker_tier (Answers Down) h' t' same w = all_still h t h' t' same w.1
  trim_counts A h t b x broker_tier (Answers MetaFault) h' t' same w = unread_counts A h t broker_tier h' t' same w.1
  trim_counts A h t b x broker_tier (Begins g) h' t' same w = refresh_still h t b broker_tier h' t' same w.2
  trim_counts A h t b x broker_tier other h' t' same w = elim w [ ]

  begin_counts : (h : PartitionState D) (t : RemoteTier S M) (b : ℕ) (x : Node D) (broker_tier : BrokerTierState) (command : Command) (o : Outcome) (h' : PartitionState D) (t' : RemoteTier S M) → slice_get h.nodes b ≡ Some x
      → BeginRow disk store meta h t b x broker_tier command o h' t' → Leaving (OnceFor disk.control command h b h') h t o h' t'
  begin_counts h t b x broker_tier Copy o h' t' at w = first_counts (Once disk.control h b h') h t b x broker_tier o h' t' w.1 w.0
  begin_counts h t b x broker_tier Trim o h' t' at w = trim_counts (Once disk.control h b h') h t b x broker_tier o h' t' w.1 w.0
  begin_counts h t b x broker_tier Expire o h' t' at w = leaders_counts (Once disk.control h b h') h t b x broker_tier o h' t' w.1 w.0
  begin_counts h t b x broker_tier (Offset LatestTiered) o h' t' at w = leaders_counts (Once disk.control h b h') h t b x broker_tier o h' t' w.1 w.0
  begin_counts h t b x broker_tier (Offset (At ts)) o h' t' at w = leaders_counts (Once disk.control h b h') h t b x broker_tier o h' t' w.1 w.0
  begin_counts h t b x broker_tier other o h' t' at w =
      counts_as (OnceFor disk.control other h b h') h t h' t' o (outcome_of w.0.0) w.0.1 (own_row other h b x None t w.0.0 h' t' at w.0.2 w.1)

  -- a log is read for a copy

  next_counts : (p : PartitionId) (h : PartitionState D) (t : RemoteTier S M) (b : ℕ) (x y : Node D) (broker_tier z : BrokerTierState) (offset : ℕ) (o : Outcome) (h' : PartitionState D) (t' : RemoteTier S M) → slice_get h.nodes b ≡ Some x
      → ReadSegmentRow disk p b x broker_tier offset o y z → h' ≡ put_node h b y → t' ≡ put_broker_tier t b z → Leaving (Once disk.control h b h') h t o h' t'
  next_counts p h t b x y broker_tier z offset o h' t' at w partition_state tier = go o w
    where
      stores : StoreStill store meta t.store t'.store
      stores = store_still store meta t.store t'.store (ap (λ (k : RemoteTier S M). k.store) tier)

      metas : MetaStill store meta t.meta t'.meta
      metas = meta_still store meta t.meta t'.meta (ap (λ (k : RemoteTier S M). k.meta) tier)

      go : (o : Outcome) → ReadSegmentRow disk p b x broker_tier offset o y z → Leaving (Once disk.control h b h') h t o h' t'
      go (Answers DiskFault) w =
          let one : OneFault disk.control x.log y.log = rw w.0.reads.after w.0.cause in
          (once_put disk.control h b x y h' at one partition_state, stores, metas)
      go (Answers (Damaged (File name) place)) w =
          let quiet : NoFault disk.control x.log y.log = rw w.0.reads.after w.0.quiet in
          (quiet_put disk.control h b x y h' at quiet partition_state, stores, metas)
      go (Chose copy) w =
          let quiet : NoFault disk.control x.log y.log = rw w.0.reads.after w.0.quiet in
          (quiet_put disk.control h b x y h' at quiet partition_state, stores, metas)
      go other w = elim w [ ]

  choose_counts : (p : PartitionId) (h : PartitionState D) (t : RemoteTier S M) (b : ℕ) (x : Node D) (broker_tier : BrokerTierState) (g : StartSnapshot) (o : Outcome) (h' : PartitionState D) (t' : RemoteTier S M) → slice_get h.nodes b ≡ Some x
      → ChooseRow disk p h t b x broker_tier g o h' t' → Leaving (Once disk.control h b h') h t o h' t'
  choose_counts p h t b x broker_tier g o h' t' at (inl lost) = counts_as (Once disk.control h b h') h t h' t' o (Answers LostLead) lost.1 (all_still h t h' t' lost.2 lost.3)
  choose_counts p h t b x broker_tier g o h' t' at (inr (keeps, inl level)) = counts_as (Once disk.control h b h') h t h' t' o (Answers Level) level.1 (all_still h t h' t' level.2 level.3)
  choose_counts p h t b x broker_tier g o h' t' at (inr (keeps, inr r)) = next_counts p h t b x r.node broker_tier r.broker_tier_after _ o h' t' at r.row r.partition_state r.tier

  -- a later turn of a trim, and of a fetch

  trims_counts : (h : PartitionState D) (t : RemoteTier S M) (b : ℕ) (x : Node D) (broker_tier : BrokerTierState) (g : StartSnapshot) (keep : Keep) (o : Outcome) (h' : PartitionState D) (t' : RemoteTier S M) → slice_get h.nodes b ≡ Some x
      → TrimOnRow disk h b x broker_tier g keep o h' → t' ≡ t → Leaving (Once disk.control h b h') h t o h' t'
  trims_counts h t b x broker_tier g keep (Answers answer) h' t' at w same = own_row Trim h b x (Some g) t (turned.Answers answer) h' t' at w.0 same
  trims_counts h t b x broker_tier g keep other h' t' at w same = elim w [ ]

  goes_counts : (A : Type 0) (p : PartitionId) (h : PartitionState D) (t : RemoteTier S M) (b : ℕ) (x : Node D) (broker_tier : BrokerTierState) (offset limit : ℕ) (next : Search) (turn : Turn Search) (h' : PartitionState D) (t' : RemoteTier S M) → h' ≡ h
      → GoesOnFetch store meta p t b x broker_tier offset limit next turn t' → Leaving A h t (fetch_outcome turn) h' t'
  goes_counts A p h t b x broker_tier offset limit next turn h' t' same w =
      of_tier A h t (fetch_outcome turn) h' t' same
      (fetch_counts store meta (wanted_of p x offset limit) (line_of x) next turn (fetch_tiers broker_tier.view broker_tier.cache t) (fetch_tiers w.view w.cache t') w.row)

  seek_counts : (A : Type 0) (p : PartitionId) (h : PartitionState D) (t : RemoteTier S M) (b : ℕ) (x : Node D) (broker_tier : BrokerTierState) (g : StartSnapshot) (offset limit : ℕ) (next : Search) (o : Outcome) (h' : PartitionState D) (t' : RemoteTier S M)
      → h' ≡ h → FetchOnRow store meta p h t b x broker_tier g offset limit next o t' → Leaving A h t o h' t'
  seek_counts A p h t b x broker_tier g offset limit next (Answers Stopped) h' t' same w = all_still h t h' t' same w.1
  seek_counts A p h t b x broker_tier g offset limit next (Answers NotLeader) h' t' same w = all_still h t h' t' same w.3
  seek_counts A p h t b x broker_tier g offset limit next (Answers (OutOfRange start end)) h' t' same w = all_still h t h' t' same w.4
  seek_counts A p h t b x broker_tier g offset limit next (Answers Empty) h' t' same w = all_still h t h' t' same w.3
  seek_counts A p h t b x broker_tier g offset limit next (Answers answer) h' t' same w = goes_counts A p h t b x broker_tier offset limit next (turns.Ends answer) h' t' same w.1
  seek_counts A p h t b x broker_tier g offset limit next (Sought later) h' t' same w = goes_counts A p h t b x broker_tier offset limit next (turns.Goes later) h' t' same w.1
  seek_counts A p h t b x broker_tier g offset limit next other h' t' same w = elim w [ ]

  -- and of an expiry, which raises the log start offset as the command does

  raise_counts : (A : Type 0) (h : PartitionState D) (t : RemoteTier S M) (b : ℕ) (x : Node D) (start : ℕ) (answer : Answer) (h' : PartitionState D) (t' : RemoteTier S M) → slice_get h.nodes b ≡ Some x → is_up x ≡ true → t' ≡ t
      → ExpiryRaiseRow h x.role start answer h' → Leaving A h t (Answers answer) h' t'
  raise_counts A h t b x start (StaleEpoch e) h' t' at up same w =
      tier_still h t h' t' (row_counts disk.content disk.control h b x None (Raise start) (turned.Answers (StaleEpoch e)) h' at (up, w)) same
  raise_counts A h t b x start (Raised to) h' t' at up same w =
      tier_still h t h' t' (row_counts disk.content disk.control h b x None (Raise start) (turned.Answers (OkAt to)) h' at (up, w)) same
  raise_counts A h t b x start other h' t' at up same w = elim w [ ]

  expires_counts : (A : Type 0) (p : PartitionId) (h : PartitionState D) (t : RemoteTier S M) (b : ℕ) (x : Node D) (broker_tier : BrokerTierState) (keep : Keep) (o : Outcome) (h' : PartitionState D) (t' : RemoteTier S M) → slice_get h.nodes b ≡ Some x
      → is_up x ≡ true → t' ≡ t → ExpiresBy p h x broker_tier keep o h' → Leaving A h t o h' t'
  expires_counts A p h t b x broker_tier keep (ChoosesExpired segment) h' t' at up same w = all_still h t h' t' w.stays same
  expires_counts A p h t b x broker_tier keep (Answers Remains) h' t' at up same w = all_still h t h' t' w.2 same
  expires_counts A p h t b x broker_tier keep (Answers answer) h' t' at up same w = raise_counts A h t b x w.0 answer h' t' at up same w.2
  expires_counts A p h t b x broker_tier keep other h' t' at up same w = elim w [ ]

  expire_counts : (A : Type 0) (p : PartitionId) (h : PartitionState D) (t : RemoteTier S M) (b : ℕ) (x : Node D) (broker_tier : BrokerTierState) (g : StartSnapshot) (keep : Keep) (o : Outcome) (h' : PartitionState D) (t' : RemoteTier S M)
      → slice_get h.nodes b ≡ Some x → t' ≡ t → ExpireOnRow p h x broker_tier g keep o h' → Leaving A h t o h' t'
  expire_counts A p h t b x broker_tier g keep o h' t' at same (inl lost) = counts_as A h t h' t' o (Answers LostLead) lost.1 (all_still h t h' t' lost.2 same)
  expire_counts A p h t b x broker_tier g keep o h' t' at same (inr k) = expires_counts A p h t b x broker_tier keep o h' t' at k.0.up same k.1

  -- and of a join

  at_once_counts : (A : Type 0) (h : PartitionState D) (t : RemoteTier S M) (x : Node D) (g : StartSnapshot) (answer : Answer) (h' : PartitionState D) (t' : RemoteTier S M) → AllStill h t h' t' → AnswersAtOnce h x g answer
      → Leaving A h t (Answers answer) h' t'
  at_once_counts A h t x g Stopped h' t' k w = k
  at_once_counts A h t x g (StaleEpoch n) h' t' k w = k
  at_once_counts A h t x g (Passed n) h' t' k w = k
  at_once_counts A h t x g (BelowStart start) h' t' k w = k
  at_once_counts A h t x g other h' t' k w = elim w [ ]

  refreshed_counts : (A : Type 0) (h : PartitionState D) (t : RemoteTier S M) (b : ℕ) (broker_tier : BrokerTierState) (o : Outcome) (h' : PartitionState D) (t' : RemoteTier S M) → h' ≡ h → RefreshedRow meta t b broker_tier o t' → Leaving A h t o h' t'
  refreshed_counts A h t b broker_tier (Answers MetaFault) h' t' same w = unread_counts A h t broker_tier h' t' same w
  refreshed_counts A h t b broker_tier (Rebuilding Epochs) h' t' same w = refresh_still h t b broker_tier h' t' same w
  refreshed_counts A h t b broker_tier other h' t' same w = elim w [ ]

  -- the last turn of a command that the remote tier has no part in
  joined_counts : (h : PartitionState D) (t : RemoteTier S M) (b : ℕ) (x : Node D) (g : StartSnapshot) (command : Command) (o : Outcome) (h' : PartitionState D) (t' : RemoteTier S M) → slice_get h.nodes b ≡ Some x
      → OwnOnRow disk h t b x g command o h' t' → Leaving (OnceFor disk.control command h b h') h t o h' t'
  joined_counts h t b x g command o h' t' at w =
      counts_as (OnceFor disk.control command h b h') h t h' t' o (Answers w.0.0) w.0.1 (own_row command h b x (Some g) t (turned.Answers w.0.0) h' t' at w.0.2 w.1)

  join_counts : (h : PartitionState D) (t : RemoteTier S M) (b : ℕ) (x : Node D) (broker_tier : BrokerTierState) (g : StartSnapshot) (o : Outcome) (h' : PartitionState D) (t' : RemoteTier S M) → slice_get h.nodes b ≡ Some x
      → JoinSecondRow disk meta h t b x broker_tier g o h' t' → Leaving (Once disk.control h b h') h t o h' t'
  join_counts h t b x broker_tier g o h' t' at (inl (low, own)) = joined_counts h t b x g Join o h' t' at own
  join_counts h t b x broker_tier g o h' t' at (inr (high, inl (answer, is, once, tier), same)) =
      counts_as (Once disk.control h b h') h t h' t' o (Answers answer) is (at_once_counts (Once disk.control h b h') h t x g answer h' t' (all_still h t h' t' same tier) once)
  join_counts h t b x broker_tier g o h' t' at (inr (high, inr (may, row), same)) = refreshed_counts (Once disk.control h b h') h t b broker_tier o h' t' same row

  -- and of a question for the end in the remote tier
  offset_counts : (A : Type 0) (h : PartitionState D) (t : RemoteTier S M) (x : Node D) (broker_tier : BrokerTierState) (g : StartSnapshot) (o : Outcome) (h' : PartitionState D) (t' : RemoteTier S M) → h' ≡ h → t' ≡ t
      → OffsetOnRow h x broker_tier g o → Leaving A h t o h' t'
  offset_counts A h t x broker_tier g (Answers Stopped) h' t' partition_state tier w = all_still h t h' t' partition_state tier
  offset_counts A h t x broker_tier g (Answers NotLeader) h' t' partition_state tier w = all_still h t h' t' partition_state tier
  offset_counts A h t x broker_tier g (Answers (OffsetAnswer n)) h' t' partition_state tier w = all_still h t h' t' partition_state tier
  offset_counts A h t x broker_tier g (Answers NoOffset) h' t' partition_state tier w = all_still h t h' t' partition_state tier
  offset_counts A h t x broker_tier g (Answers answer) h' t' partition_state tier w = elim w.1 [ ]
  offset_counts A h t x broker_tier g other h' t' partition_state tier w = elim w [ ]

  -- and of a timestamp lookup, which reads the broker's log, or is among the remote segments

  own_search_counts : (h : PartitionState D) (t : RemoteTier S M) (b : ℕ) (x : Node D) (asked : Asked) (cursor : ℕ) (turn : Turn (ℕ × Dating)) (h' : PartitionState D)
      (t' : RemoteTier S M) → slice_get h.nodes b ≡ Some x → t' ≡ t
      → SearchesOwn disk h b x asked cursor turn h' → Leaving (Once disk.control h b h') h t (date_outcome turn) h' t'
  own_search_counts h t b x asked cursor turn h' t' at tier w = by w.row
    where
      y : Node D
      y = record x { log = w.kept }

      stores : StoreStill store meta t.store t'.store
      stores = store_still store meta t.store t'.store (ap (λ (k : RemoteTier S M). k.store) tier)

      metas : MetaStill store meta t.meta t'.meta
      metas = meta_still store meta t.meta t'.meta (ap (λ (k : RemoteTier S M). k.meta) tier)

      -- where no fault is reported
      quiet : (o : Outcome) → Clear o → Quietly disk.control h h' → Leaving (Once disk.control h b h') h t o h' t'
      quiet o none k =
          let c = clear store meta o t.store t'.store t.meta t'.meta none stores metas in
          (none_by (Once disk.control h b h') (Quietly disk.control h h') (is_answered is_of_disk o) c.0 k, c.1, c.2)

      reads : (to : Turn (ℕ × Dating)) → RunRow disk.content disk.control x.log asked (passed_over asked.ts cursor (closed_in x.log)) to w.kept
          → Leaving (Once disk.control h b h') h t (date_outcome to) h' t'
      reads (turns.Ends DiskFault) row = (once_put disk.control h b x y h' at row.2 w.after, stores, metas)
      reads (turns.Ends (Damaged (File name) place)) row = (quiet_put disk.control h b x y h' at row.quiet.1 w.after, stores, metas)
      reads to row =
          quiet (date_outcome to) (searched_clear asked (passed_over asked.ts cursor (closed_in x.log)) row.out.bytes to row.searched)
          (quiet_put disk.control h b x y h' at row.quiet.1 w.after)

      by : LocalSearchRow disk.content disk.control x.log asked cursor turn w.kept → Leaving (Once disk.control h b h') h t (date_outcome turn) h' t'
      by (inl (past, is, same)) =
          subst (λ (u : Turn (ℕ × Dating)). Leaving (Once disk.control h b h') h t (date_outcome u) h' t') (sym is)
          (tier_still h t h' t' (quiet_log disk.control h b x y h' at same w.after) tier)
      by (inr (below, row)) = reads turn row

  search_counts : (h : PartitionState D) (t : RemoteTier S M) (b : ℕ) (x : Node D) (broker_tier : BrokerTierState) (asked : Asked) (cursor : ℕ) (next : Dating) (own : Bool)
      (turn : Turn (ℕ × Dating)) (h' : PartitionState D) (t' : RemoteTier S M)
      → slice_get h.nodes b ≡ Some x → SearchRow disk store meta h t b x broker_tier asked cursor next own turn h' t'
      → Leaving (Once disk.control h b h') h t (date_outcome turn) h' t'
  search_counts h t b x broker_tier asked cursor next true turn h' t' at w = own_search_counts h t b x asked cursor turn h' t' at w.1 w.0
  search_counts h t b x broker_tier asked cursor next false turn h' t' at w =
      of_tier (Once disk.control h b h') h t (date_outcome turn) h' t' w.1
      (time_counts store meta asked (line_of x) cursor next turn (fetch_tiers broker_tier.view broker_tier.cache t) (fetch_tiers w.0.view w.0.cache t') w.0.row)

  searches_counts : (p : PartitionId) (h : PartitionState D) (t : RemoteTier S M) (b : ℕ) (x : Node D) (broker_tier : BrokerTierState) (g : StartSnapshot) (ts : ℤ) (cursor : ℕ)
      (next : Dating) (turn : Turn (ℕ × Dating)) (h' : PartitionState D) (t' : RemoteTier S M)
      → slice_get h.nodes b ≡ Some x → SearchesOn disk store meta p h t b x broker_tier g ts cursor next turn h' t'
      → Leaving (Once disk.control h b h') h t (date_outcome turn) h' t'
  searches_counts p h t b x broker_tier g ts cursor next turn h' t' at w =
      let on = resumed_at h.registry.start cursor in
      let with = resumed_with h.registry.start cursor next in
      search_counts h t b x broker_tier (asked_of p h x ts) on with (is_own (local_of x) on with) turn h' t' at w.row

  date_counts : (p : PartitionId) (h : PartitionState D) (t : RemoteTier S M) (b : ℕ) (x : Node D) (broker_tier : BrokerTierState) (g : StartSnapshot) (ts : ℤ) (cursor : ℕ)
      (next : Dating) (o : Outcome) (h' : PartitionState D) (t' : RemoteTier S M)
      → slice_get h.nodes b ≡ Some x → DateOnRow disk store meta p h t b x broker_tier g ts cursor next o h' t' → Leaving (Once disk.control h b h') h t o h' t'
  date_counts p h t b x broker_tier g ts cursor next (Answers Stopped) h' t' at w = all_still h t h' t' w.1 w.2
  date_counts p h t b x broker_tier g ts cursor next (Answers NotLeader) h' t' at w = all_still h t h' t' w.3 w.4
  date_counts p h t b x broker_tier g ts cursor next (Answers NoOffset) h' t' at w = all_still h t h' t' w.2 w.3
  date_counts p h t b x broker_tier g ts cursor next (Answers answer) h' t' at w = searches_counts p h t b x broker_tier g ts cursor next (turns.Ends answer) h' t' at w
  date_counts p h t b x broker_tier g ts cursor next (Dated to later) h' t' at w = searches_counts p h t b x broker_tier g ts cursor next (turns.Goes (to, later)) h' t' at w.0
  date_counts p h t b x broker_tier g ts cursor next other h' t' at w = elim w [ ]

  recorded_counts : (p : PartitionId) (config : Config) (h : PartitionState D) (t : RemoteTier S M) (b : ℕ) (x : Node D) (broker_tier : BrokerTierState) (g : StartSnapshot) (command : Command) (o : Outcome) (h' : PartitionState D) (t' : RemoteTier S M)
      → slice_get h.nodes b ≡ Some x → ContinuedRow disk store meta p config h t b x broker_tier g command o h' t' → Leaving (OnceFor disk.control command h b h') h t o h' t'
  recorded_counts p config h t b x broker_tier g Copy o h' t' at w = choose_counts p h t b x broker_tier g o h' t' at w
  recorded_counts p config h t b x broker_tier g Trim o h' t' at w = trims_counts h t b x broker_tier g config.local_keep o h' t' at w.0 w.1
  recorded_counts p config h t b x broker_tier g Join o h' t' at w = join_counts h t b x broker_tier g o h' t' at w
  recorded_counts p config h t b x broker_tier g Expire o h' t' at w = expire_counts (Once disk.control h b h') p h t b x broker_tier g config.keep o h' t' at w.1 w.0
  recorded_counts p config h t b x broker_tier g (Fetch offset limit) o h' t' at w = seek_counts (Once disk.control h b h') p h t b x broker_tier g offset limit Refresh o h' t' w.1 w.0
  recorded_counts p config h t b x broker_tier g (Offset LatestTiered) o h' t' at w = offset_counts (Once disk.control h b h') h t x broker_tier g o h' t' w.1 w.2 w.0
  recorded_counts p config h t b x broker_tier g (Offset (At ts)) o h' t' at w = date_counts p h t b x broker_tier g ts 0 Seek o h' t' at w
  recorded_counts p config h t b x broker_tier g other o h' t' at w = joined_counts h t b x g other o h' t' at w

  copying_counts : (A : Type 0) (h : PartitionState D) (t : RemoteTier S M) (b : ℕ) (x : Node D) (broker_tier : BrokerTierState) (g : StartSnapshot) (copy : Copied) (next : CopyStep) (command : Command) (o : Outcome) (h' : PartitionState D) (t' : RemoteTier S M)
      → CopyLaterRow store meta h t b x broker_tier g copy next command o h' t' → Leaving A h t o h' t'
  copying_counts A h t b x broker_tier g copy next Copy o h' t' (inl lost, same) = counts_as A h t h' t' o (Answers LostLead) lost.1 (all_still h t h' t' same lost.2)
  copying_counts A h t b x broker_tier g copy next Copy o h' t' (inr (keeps, (turn, is, goes)), same) =
      counts_as A h t h' t' o (copy_outcome turn) is
      (of_tier A h t (copy_outcome turn) h' t' same (copy_counts store meta copy (origin_of h b) next turn (tiers_of broker_tier.view t) (tiers_of goes.view t') goes.row))
  copying_counts A h t b x broker_tier g copy next other o h' t' w = elim w [ ]

  seeking_counts : (A : Type 0) (p : PartitionId) (h : PartitionState D) (t : RemoteTier S M) (b : ℕ) (x : Node D) (broker_tier : BrokerTierState) (g : StartSnapshot) (next : Search) (command : Command) (o : Outcome) (h' : PartitionState D) (t' : RemoteTier S M)
      → SeekingRow store meta p h t b x broker_tier g next command o h' t' → Leaving A h t o h' t'
  seeking_counts A p h t b x broker_tier g next (Fetch offset limit) o h' t' w = seek_counts A p h t b x broker_tier g offset limit next o h' t' w.1 w.0
  seeking_counts A p h t b x broker_tier g next other o h' t' w = elim w [ ]

  dating_counts : (p : PartitionId) (h : PartitionState D) (t : RemoteTier S M) (b : ℕ) (x : Node D) (broker_tier : BrokerTierState) (g : StartSnapshot) (cursor : ℕ) (next : Dating)
      (command : Command) (o : Outcome) (h' : PartitionState D) (t' : RemoteTier S M)
      → slice_get h.nodes b ≡ Some x → DatingRow disk store meta p h t b x broker_tier g cursor next command o h' t' → Leaving (OnceFor disk.control command h b h') h t o h' t'
  dating_counts p h t b x broker_tier g cursor next (Offset (At ts)) o h' t' at w = date_counts p h t b x broker_tier g ts cursor next o h' t' at w
  dating_counts p h t b x broker_tier g cursor next other o h' t' at w = elim w [ ]

  deleting_counts : (A : Type 0) (h : PartitionState D) (t : RemoteTier S M) (b : ℕ) (x : Node D) (g : StartSnapshot) (segment : ExpiredSegment) (next : Deletion) (command : Command) (o : Outcome) (h' : PartitionState D) (t' : RemoteTier S M)
      → DeletingRow store meta h t b x g segment next command o h' t' → Leaving A h t o h' t'
  deleting_counts A h t b x g segment next Expire o h' t' (inl lost, same) = counts_as A h t h' t' o (Answers LostLead) lost.1 (all_still h t h' t' same lost.2)
  deleting_counts A h t b x g segment next Expire o h' t' (inr (keeps, (turn, is, goes)), same) =
      counts_as A h t h' t' o (expiry_outcome turn) is
      (of_tier A h t (expiry_outcome turn) h' t' same (expiry_counts store meta segment (origin_of h b) next turn (expiry_tiers t) (expiry_tiers t') goes.row))
  deleting_counts A h t b x g segment next other o h' t' w = elim w [ ]

  rebuilding_counts : (p : PartitionId) (h : PartitionState D) (t : RemoteTier S M) (b : ℕ) (x : Node D) (broker_tier : BrokerTierState) (g : StartSnapshot) (next : Rebuild) (command : Command) (o : Outcome) (h' : PartitionState D) (t' : RemoteTier S M)
      → slice_get h.nodes b ≡ Some x → RebuildingRow disk store p h t b x broker_tier g next command o h' t' → Leaving (OnceFor disk.control command h b h') h t o h' t'
  rebuilding_counts p h t b x broker_tier g Epochs Join o h' t' at (inl (answer, is, once, tier), same) =
      counts_as (Once disk.control h b h') h t h' t' o (Answers answer) is (at_once_counts (Once disk.control h b h') h t x g answer h' t' (all_still h t h' t' same tier) once)
  rebuilding_counts p h t b x broker_tier g Epochs Join o h' t' at (inr (may, (turn, is, goes)), same) =
      counts_as (Once disk.control h b h') h t h' t' o (rebuild_outcome turn) is
      (of_tier (Once disk.control h b h') h t (rebuild_outcome turn) h' t' same
      (rebuild_counts store meta (rebuilt_to p g) g.line broker_tier.view turn t.store t'.store t.meta t'.meta (ap (λ (u : RemoteTier S M). u.meta) goes.after) goes.row))
  rebuilding_counts p h t b x broker_tier g (Restart line) Join o h' t' at w = joined_counts h t b x (with_line g line) Join o h' t' at w
  rebuilding_counts p h t b x broker_tier g next other o h' t' at w = elim w [ ]

  pub turn_counts : (p : PartitionId) (config : Config) (h : PartitionState D) (t : RemoteTier S M) (b : ℕ) (x : Node D) (broker_tier : BrokerTierState) (in_progress : InProgress) (command : Command) (o : Outcome) (h' : PartitionState D) (t' : RemoteTier S M)
      → slice_get h.nodes b ≡ Some x → Row disk store meta p config h t b x broker_tier in_progress command o h' t' → Leaving (OnceFor disk.control command h b h') h t o h' t'
  turn_counts p config h t b x broker_tier Idle command o h' t' at w = begin_counts h t b x broker_tier command o h' t' at w
  turn_counts p config h t b x broker_tier (Noted g) command o h' t' at w = recorded_counts p config h t b x broker_tier g command o h' t' at w
  turn_counts p config h t b x broker_tier (Copies g copy next) command o h' t' at w = copying_counts (OnceFor disk.control command h b h') h t b x broker_tier g copy next command o h' t' w
  turn_counts p config h t b x broker_tier (Seeks g next) command o h' t' at w = seeking_counts (OnceFor disk.control command h b h') p h t b x broker_tier g next command o h' t' w
  turn_counts p config h t b x broker_tier (Dates g cursor next) command o h' t' at w = dating_counts p h t b x broker_tier g cursor next command o h' t' at w
  turn_counts p config h t b x broker_tier (Expires g segment next) command o h' t' at w = deleting_counts (OnceFor disk.control command h b h') h t b x g segment next command o h' t' w
  turn_counts p config h t b x broker_tier (Rebuilds g next) command o h' t' at w = rebuilding_counts p h t b x broker_tier g next command o h' t' at w

  -- of a world
  pub turn_answers : (w : Whole D S M) (a : ℕ) (o : Outcome) (w' : Whole D S M) (t : IsTurn disk store meta w a o w') → HaveDisks w.partition_state.nodes → AnswersFaults disk store meta t.order o w w'
  turn_answers w a o w' t have =
      let r = row_of disk store meta w.partition w.config w.partition_state w.tier t.order.broker.0 t.actor_state.in_progress t.order.command o w'.partition_state w'.tier t.row in
      let k = turn_counts w.partition w.config w.partition_state w.tier t.order.broker.0 r.x r.broker_tier t.actor_state.in_progress t.order.command o w'.partition_state w'.tier r.at r.row in
      record {
        disks = counts_by disk.control t.order.command w.partition_state t.order.broker.0 w'.partition_state (is_answered is_of_disk o) have k.0;
        store_counts = k.1;
        meta_counts = k.2;
      }
