-- A turn of a world, and metadata events that a power cut may leave after it, give metadata events that one might have
-- left before, and the same turn of the world with its metadata log beside these.
use Rattle.std.proofs.Common.{◌≡◌, inl, inr, ap, subst, ℕ, Bool, true, false, List, slice_get}
use Rattle.std.specs.Prelude.{ℤ}
use Rattle.disk_model.specs.declared.disk.Disk.{Ghosts as DiskGhosts}
use Rattle.object_store.specs.declared.store.Store.{Ghosts as StoreGhosts}
use Rattle.meta_log.specs.declared.log.MetaLog.{Ghosts as MetaGhosts}
use Rattle.tier_base.specs.declared.names.PartitionId.{PartitionId}
use Rattle.copy_task.specs.Copying.{Copied}
use Rattle.copy_task.specs.declared.turn.CopyStep.{CopyStep}
use Rattle.expiry_task.specs.declared.turn.ExpiredSegment.{ExpiredSegment}
use Rattle.expiry_task.specs.declared.turn.DeletionStep.{DeletionStep as Deletion}
use Rattle.rebuild_task.specs.declared.turn.RebuildStep.{RebuildStep as Rebuild}
use Rattle.rebuild_task.specs.declared.turn.RebuildStep.TheVariants.{Epochs, Restart}
use Rattle.tier_fetch.specs.declared.turn.FetchStep.{FetchStep as Search}
use Rattle.tier_fetch.specs.declared.turn.FetchStep.TheVariants.{Refresh}
use Rattle.time_find.specs.declared.turn.Asked.{Asked}
use Rattle.time_find.specs.declared.turn.SearchStep.{SearchStep as Dating}
use Rattle.time_find.specs.declared.turn.SearchStep.TheVariants.{Seek}
use Rattle.plain_log.specs.declared.turn.Turn.{Turn}
use Rattle.plain_log.specs.declared.turn.Turn.TheVariants as dating
use Rattle.plain_log.specs.declared.answer.Answer.TheVariants.{Down, NotLeader, CopyOff, MetaFault, Stopped, OutOfRange, Empty, NoOffset}
use Rattle.plain_log.specs.declared.command.ActorList.{ActorList}
use Rattle.plain_log.specs.declared.command.Command.{Command}
use Rattle.plain_log.specs.declared.command.Command.TheVariants.{Copy, Trim, Expire, Fetch, Join, Offset}
use Rattle.plain_log.specs.declared.command.Which.TheVariants.{LatestTiered, At}
use Rattle.plain_log.specs.declared.command.Config.{Config}
use Rattle.laws_partition.specs.declared.start_snapshot.StartSnapshot.{StartSnapshot}
use Rattle.partition_commands.specs.declared.partition_state.Node.{Node}
use Rattle.partition_commands.specs.declared.partition_state.PartitionState.{PartitionState}
use Rattle.partition_commands.specs.Partition.{line_of, local_of}
use Rattle.partition_world.specs.declared.tier.BrokerTierState.{BrokerTierState}
use Rattle.partition_world.specs.declared.tier.RemoteTier.{RemoteTier}
use Rattle.partition_world.specs.declared.actor_state.Outcome.{Outcome}
use Rattle.partition_world.specs.declared.actor_state.Outcome.TheVariants.{Answers, Begins, Seeks as Sought, Dates as Dated, Rebuilds as Rebuilding}
use Rattle.partition_world.specs.declared.actor_state.ActorState.{ActorState}
use Rattle.partition_world.specs.declared.actor_state.InProgress.{InProgress}
use Rattle.partition_world.specs.declared.actor_state.InProgress.TheVariants.{Idle, Noted, Copies, Seeks, Dates, Expires, Rebuilds}
use Rattle.partition_world.specs.Tier.{AtBrokerTier}
use Rattle.partition_world.specs.TurnsOfCopy.{LeadersFirstRow, CopyFirstRow, ChooseRow, WantsForCopy, tiers_of, origin_of}
use Rattle.partition_world.specs.TurnsOfFetch.{FetchOnRow, GoesOnFetch, WantsForFetch, fetch_tiers, wanted_of}
use Rattle.partition_world.specs.TurnsOfDate.{SearchRow, SearchesOn, DateOnRow, asked_of, is_own, resumed_at, resumed_with}
use Rattle.partition_world.specs.TurnsOfTrim.{TrimFirstRow}
use Rattle.partition_world.specs.TurnsOfExpiry.{WantsForDeletion, expiry_tiers}
use Rattle.partition_world.specs.TurnsOfRebuild.{RefreshedRow}
use Rattle.partition_world.specs.Turns.{BeginRow, ContinuedRow, CopyLaterRow, SeekingRow, DatingRow, DeletingRow, JoinSecondRow, RebuildingRow, Row, BeginHalts, ContinuedHalts, DateHalts, HaltsTier, StaysTier}
use Rattle.partition_world.specs.Whole.{Whole}
use Rattle.segment_meta.specs.declared.note.Note.{Note}
use Rattle.meta_log.specs.Content.{Left}
use Rattle.laws_partition.specs.declared.actor_progress.Stepped.{Stepped}
use Rattle.laws_partition.specs.declared.actor_progress.Stepped.TheVariants as stepped
use Rattle.partition_world.specs.Tier.{RefreshesBroker, FailsToRead, HaltsRefresh}
use Rattle.partition_world.specs.TurnsOfCopy.{GoesOnCopy}
use Rattle.partition_world.specs.TurnsOfExpiry.{GoesOnDeletion}
use Rattle.partition_world.specs.TurnsOfDate.{SearchesRemote}
use Rattle.partition_world.specs.Turn.{IsTurn, IsActorAt, StaysWhole, Steps}
use Rattle.partition_world.specs.Turns.{TurnRow}
use Rattle.partition_world.specs.Left.{resolved, tier_with, whole_with}
use Rattle.partition_world.proofs.Resolving.{with_some, Before, Tells, refreshed_with, unread_with, halted_with}
use Rattle.partition_world.proofs.ResolvingTasks.{copy_row, expiry_row, fetch_row, time_row}

module _ {D S M : Type 0} (disk : DiskGhosts D) (store : StoreGhosts S) (meta : MetaGhosts M) where
  -- the log is as it was
  kept : (t t' : RemoteTier S M) (l : List Note) → t'.meta ≡ t.meta → Left (meta.content t'.meta) l → Left (meta.content t.meta) l
  kept t t' l same left = subst (λ (m : M). Left (meta.content m) l) same left

  tier_same : (t t' : RemoteTier S M) → t' ≡ t → (l' : List Note) → Left (meta.content t'.meta) l' → Before meta t.meta (λ l. tier_with t' l' ≡ tier_with t l)
  tier_same t t' same l' left = (l', kept t t' l' (ap (λ (k : RemoteTier S M). k.meta) same) left, ap (λ (k : RemoteTier S M). tier_with k l') same)

  -- more is known
  with_also : (m : M) (P Q : List Note → Type 0) → ((l : List Note) → P l → Q l) → Before meta m P → Before meta m Q
  with_also m P Q f a = (a.0, a.1, f a.0 a.2)

  refreshes : (t : RemoteTier S M) (b : ℕ) (broker_tier : BrokerTierState) (t' : RemoteTier S M) → RefreshesBroker meta t b broker_tier t' → Tells meta t.meta → (l' : List Note) → Left (meta.content t'.meta) l'
      → Before meta t.meta (λ l. RefreshesBroker (resolved meta) (tier_with t l) b broker_tier (tier_with t' l'))
  refreshes t b broker_tier t' k is_observable l' left =
      let a = refreshed_with meta broker_tier.view k.view t.meta t'.meta k.reads is_observable l' left in
      (a.0, a.1, record { view = k.view; reads = a.2; after = ap (λ (u : RemoteTier S M). tier_with u l') k.after })

  fails : (t : RemoteTier S M) (broker_tier : BrokerTierState) (t' : RemoteTier S M) → FailsToRead meta t broker_tier t' → (l' : List Note) → Left (meta.content t'.meta) l'
      → Before meta t.meta (λ l. FailsToRead (resolved meta) (tier_with t l) broker_tier (tier_with t' l'))
  fails t broker_tier t' k l' left =
      let a = unread_with meta broker_tier.view broker_tier.view t.meta t'.meta k.reads l' left in
      (a.0, a.1, record { reads = a.2; after = ap (λ (u : RemoteTier S M). tier_with u l') k.after })

  halts : (t : RemoteTier S M) (b : ℕ) (broker_tier : BrokerTierState) (t' : RemoteTier S M) → HaltsRefresh meta t b broker_tier t' → Tells meta t.meta → (l' : List Note) → Left (meta.content t'.meta) l'
      → Before meta t.meta (λ l. HaltsRefresh (resolved meta) (tier_with t l) b broker_tier (tier_with t' l'))
  halts t b broker_tier t' k is_observable l' left =
      let a = halted_with meta broker_tier.view k.view t.meta t'.meta k.reads is_observable l' left in
      (a.0, a.1, record { view = k.view; reads = a.2; after = ap (λ (u : RemoteTier S M). tier_with u l') k.after })

  leaders : (h : PartitionState D) (t : RemoteTier S M) (b : ℕ) (x : Node D) (broker_tier : BrokerTierState) (outcome : Outcome) (t' : RemoteTier S M) → LeadersFirstRow meta h t b x broker_tier outcome t' → Tells meta t.meta
      → (l' : List Note) → Left (meta.content t'.meta) l' → Before meta t.meta (λ l. LeadersFirstRow (resolved meta) h (tier_with t l) b x broker_tier outcome (tier_with t' l'))
  leaders h t b x broker_tier (Answers Down) t' w is_observable l' left = let a = tier_same t t' w.1 l' left in (a.0, a.1, (w.0, a.2))
  leaders h t b x broker_tier (Answers NotLeader) t' w is_observable l' left = let a = tier_same t t' w.2 l' left in (a.0, a.1, (w.0, w.1, a.2))
  leaders h t b x broker_tier (Answers MetaFault) t' w is_observable l' left = let a = fails t broker_tier t' w.2 l' left in (a.0, a.1, (w.0, w.1, a.2))
  leaders h t b x broker_tier (Begins g) t' w is_observable l' left = let a = refreshes t b broker_tier t' w.3 is_observable l' left in (a.0, a.1, (w.0, w.1, w.2, a.2))
  leaders h t b x broker_tier other t' w is_observable l' left = elim w [ ]

  copy_first : (h : PartitionState D) (t : RemoteTier S M) (b : ℕ) (x : Node D) (broker_tier : BrokerTierState) (outcome : Outcome) (t' : RemoteTier S M) → CopyFirstRow meta h t b x broker_tier outcome t' → Tells meta t.meta
      → (l' : List Note) → Left (meta.content t'.meta) l' → Before meta t.meta (λ l. CopyFirstRow (resolved meta) h (tier_with t l) b x broker_tier outcome (tier_with t' l'))
  copy_first h t b x broker_tier (Answers CopyOff) t' w is_observable l' left = let a = tier_same t t' w.3 l' left in (a.0, a.1, (w.0, w.1, w.2, a.2))
  copy_first h t b x broker_tier (Answers MetaFault) t' w is_observable l' left = let a = leaders h t b x broker_tier (Answers MetaFault) t' w.0 is_observable l' left in (a.0, a.1, (a.2, w.1))
  copy_first h t b x broker_tier (Begins g) t' w is_observable l' left = let a = leaders h t b x broker_tier (Begins g) t' w.0 is_observable l' left in (a.0, a.1, (a.2, w.1))
  copy_first h t b x broker_tier other t' w is_observable l' left = leaders h t b x broker_tier other t' w is_observable l' left

  trim_first : (h : PartitionState D) (t : RemoteTier S M) (b : ℕ) (x : Node D) (broker_tier : BrokerTierState) (outcome : Outcome) (t' : RemoteTier S M) → TrimFirstRow meta h t b x broker_tier outcome t' → Tells meta t.meta
      → (l' : List Note) → Left (meta.content t'.meta) l' → Before meta t.meta (λ l. TrimFirstRow (resolved meta) h (tier_with t l) b x broker_tier outcome (tier_with t' l'))
  trim_first h t b x broker_tier (Answers Down) t' w is_observable l' left = let a = tier_same t t' w.1 l' left in (a.0, a.1, (w.0, a.2))
  trim_first h t b x broker_tier (Answers MetaFault) t' w is_observable l' left = let a = fails t broker_tier t' w.1 l' left in (a.0, a.1, (w.0, a.2))
  trim_first h t b x broker_tier (Begins g) t' w is_observable l' left = let a = refreshes t b broker_tier t' w.2 is_observable l' left in (a.0, a.1, (w.0, w.1, a.2))
  trim_first h t b x broker_tier other t' w is_observable l' left = elim w [ ]

  begins : (h : PartitionState D) (t : RemoteTier S M) (b : ℕ) (x : Node D) (broker_tier : BrokerTierState) (command : Command) (outcome : Outcome) (h' : PartitionState D) (t' : RemoteTier S M)
      → BeginRow disk store meta h t b x broker_tier command outcome h' t' → Tells meta t.meta → (l' : List Note) → Left (meta.content t'.meta) l'
      → Before meta t.meta (λ l. BeginRow disk store (resolved meta) h (tier_with t l) b x broker_tier command outcome h' (tier_with t' l'))
  begins h t b x broker_tier Copy outcome h' t' w is_observable l' left = let a = copy_first h t b x broker_tier outcome t' w.0 is_observable l' left in (a.0, a.1, (a.2, w.1))
  begins h t b x broker_tier Trim outcome h' t' w is_observable l' left = let a = trim_first h t b x broker_tier outcome t' w.0 is_observable l' left in (a.0, a.1, (a.2, w.1))
  begins h t b x broker_tier Expire outcome h' t' w is_observable l' left = let a = leaders h t b x broker_tier outcome t' w.0 is_observable l' left in (a.0, a.1, (a.2, w.1))
  begins h t b x broker_tier (Offset LatestTiered) outcome h' t' w is_observable l' left = let a = leaders h t b x broker_tier outcome t' w.0 is_observable l' left in (a.0, a.1, (a.2, w.1))
  begins h t b x broker_tier (Offset (At ts)) outcome h' t' w is_observable l' left = let a = leaders h t b x broker_tier outcome t' w.0 is_observable l' left in (a.0, a.1, (a.2, w.1))
  begins h t b x broker_tier other outcome h' t' w is_observable l' left = let a = tier_same t t' w.1 l' left in (a.0, a.1, (w.0, a.2))

  -- a segment is chosen
  chooses : (p : PartitionId) (h : PartitionState D) (t : RemoteTier S M) (b : ℕ) (x : Node D) (broker_tier : BrokerTierState) (g : StartSnapshot) (outcome : Outcome) (h' : PartitionState D) (t' : RemoteTier S M)
      → ChooseRow disk p h t b x broker_tier g outcome h' t' → (l' : List Note) → Left (meta.content t'.meta) l'
      → Before meta t.meta (λ l. ChooseRow disk p h (tier_with t l) b x broker_tier g outcome h' (tier_with t' l'))
  chooses p h t b x broker_tier g outcome h' t' (inl (lost, is, same, tier)) l' left = let a = tier_same t t' tier l' left in (a.0, a.1, inl (lost, is, same, a.2))
  chooses p h t b x broker_tier g outcome h' t' (inr (keeps, inl (none, is, same, tier))) l' left =
      let a = tier_same t t' tier l' left in (a.0, a.1, inr (keeps, inl (none, is, same, a.2)))
  chooses p h t b x broker_tier g outcome h' t' (inr (keeps, inr k)) l' left = (
    l',
    kept t t' l' (ap (λ (u : RemoteTier S M). u.meta) k.tier) left,
    inr (
      keeps,
      inr (record { there = k.there; node = k.node; broker_tier_after = k.broker_tier_after; row = k.row; form = k.form; partition_state = k.partition_state; tier = ap (λ (u : RemoteTier S M). tier_with u l') k.tier }),
    ),
  )

  copies_on : (h : PartitionState D) (t : RemoteTier S M) (b : ℕ) (broker_tier : BrokerTierState) (copy : Copied) (next : CopyStep) (turn : _) (t' : RemoteTier S M) → GoesOnCopy store meta h t b broker_tier copy next turn t' → Tells meta t.meta
      → (l' : List Note) → Left (meta.content t'.meta) l' → Before meta t.meta (λ l. GoesOnCopy store (resolved meta) h (tier_with t l) b broker_tier copy next turn (tier_with t' l'))
  copies_on h t b broker_tier copy next turn t' k is_observable l' left =
      let a = copy_row store meta copy (origin_of h b) next _ (tiers_of broker_tier.view t) (tiers_of k.view t') k.row is_observable l' left in
      (a.0, a.1, record { view = k.view; row = a.2; after = ap (λ (u : RemoteTier S M). tier_with u l') k.after })

  copying : (h : PartitionState D) (t : RemoteTier S M) (b : ℕ) (x : Node D) (broker_tier : BrokerTierState) (g : StartSnapshot) (copy : Copied) (next : CopyStep) (command : Command) (outcome : Outcome) (h' : PartitionState D) (t' : RemoteTier S M)
      → CopyLaterRow store meta h t b x broker_tier g copy next command outcome h' t' → Tells meta t.meta → (l' : List Note) → Left (meta.content t'.meta) l'
      → Before meta t.meta (λ l. CopyLaterRow store (resolved meta) h (tier_with t l) b x broker_tier g copy next command outcome h' (tier_with t' l'))
  copying h t b x broker_tier g copy next Copy outcome h' t' (inl (lost, is, tier), same) is_observable l' left = let a = tier_same t t' tier l' left in (a.0, a.1, (inl (lost, is, a.2), same))
  copying h t b x broker_tier g copy next Copy outcome h' t' (inr (keeps, (turn, is, goes)), same) is_observable l' left =
      let a = copies_on h t b broker_tier copy next turn t' goes is_observable l' left in (a.0, a.1, (inr (keeps, (turn, is, a.2)), same))
  copying h t b x broker_tier g copy next command outcome h' t' w is_observable l' left = elim w [ ]

  fetches_on : (p : PartitionId) (t : RemoteTier S M) (b : ℕ) (x : Node D) (broker_tier : BrokerTierState) (offset limit : ℕ) (next : Search) (turn : Turn Search) (t' : RemoteTier S M)
      → GoesOnFetch store meta p t b x broker_tier offset limit next turn t' → Tells meta t.meta → (l' : List Note) → Left (meta.content t'.meta) l'
      → Before meta t.meta (λ l. GoesOnFetch store (resolved meta) p (tier_with t l) b x broker_tier offset limit next turn (tier_with t' l'))
  fetches_on p t b x broker_tier offset limit next turn t' k is_observable l' left =
      let a = fetch_row store meta (wanted_of p x offset limit) (line_of x) next _ (fetch_tiers broker_tier.view broker_tier.cache t) (fetch_tiers k.view k.cache t') k.row is_observable l' left in
      (a.0, a.1, record { view = k.view; cache = k.cache; row = a.2; after = ap (λ (u : RemoteTier S M). tier_with u l') k.after })

  fetching : (p : PartitionId) (h : PartitionState D) (t : RemoteTier S M) (b : ℕ) (x : Node D) (broker_tier : BrokerTierState) (g : StartSnapshot) (offset limit : ℕ) (next : Search) (outcome : Outcome) (t' : RemoteTier S M)
      → FetchOnRow store meta p h t b x broker_tier g offset limit next outcome t' → Tells meta t.meta → (l' : List Note) → Left (meta.content t'.meta) l'
      → Before meta t.meta (λ l. FetchOnRow store (resolved meta) p h (tier_with t l) b x broker_tier g offset limit next outcome (tier_with t' l'))
  fetching p h t b x broker_tier g offset limit next (Answers Stopped) t' w is_observable l' left = let a = tier_same t t' w.1 l' left in (a.0, a.1, (w.0, a.2))
  fetching p h t b x broker_tier g offset limit next (Answers NotLeader) t' w is_observable l' left = let a = tier_same t t' w.3 l' left in (a.0, a.1, (w.0, w.1, w.2, a.2))
  fetching p h t b x broker_tier g offset limit next (Answers (OutOfRange start end)) t' w is_observable l' left =
      let a = tier_same t t' w.4 l' left in (a.0, a.1, (w.0, w.1, w.2, w.3, a.2))
  fetching p h t b x broker_tier g offset limit next (Answers Empty) t' w is_observable l' left = let a = tier_same t t' w.3 l' left in (a.0, a.1, (w.0, w.1, w.2, a.2))
  fetching p h t b x broker_tier g offset limit next (Answers answer) t' w is_observable l' left =
      let a = fetches_on p t b x broker_tier offset limit next _ t' w.1 is_observable l' left in (a.0, a.1, (w.0, a.2))
  fetching p h t b x broker_tier g offset limit next (Sought later) t' w is_observable l' left =
      let a = fetches_on p t b x broker_tier offset limit next _ t' w.1 is_observable l' left in (a.0, a.1, (w.0, a.2, w.2))
  fetching p h t b x broker_tier g offset limit next other t' w is_observable l' left = elim w [ ]

  searches_remote : (t : RemoteTier S M) (b : ℕ) (broker_tier : BrokerTierState) (line : List (ℕ × ℕ)) (asked : Asked) (cursor : ℕ) (next : Dating) (turn : Turn (ℕ × Dating)) (t' : RemoteTier S M)
      → SearchesRemote store meta t b broker_tier line asked cursor next turn t' → Tells meta t.meta → (l' : List Note) → Left (meta.content t'.meta) l'
      → Before meta t.meta (λ l. SearchesRemote store (resolved meta) (tier_with t l) b broker_tier line asked cursor next turn (tier_with t' l'))
  searches_remote t b broker_tier line asked cursor next turn t' k is_observable l' left =
      let a = time_row store meta asked line cursor next _ (fetch_tiers broker_tier.view broker_tier.cache t) (fetch_tiers k.view k.cache t') k.row is_observable l' left in
      (a.0, a.1, record { view = k.view; cache = k.cache; row = a.2; after = ap (λ (u : RemoteTier S M). tier_with u l') k.after })

  search_row : (own : Bool) (h : PartitionState D) (t : RemoteTier S M) (b : ℕ) (x : Node D) (broker_tier : BrokerTierState) (asked : Asked) (cursor : ℕ) (next : Dating) (turn : Turn (ℕ × Dating)) (h' : PartitionState D) (t' : RemoteTier S M)
      → SearchRow disk store meta h t b x broker_tier asked cursor next own turn h' t' → Tells meta t.meta → (l' : List Note) → Left (meta.content t'.meta) l'
      → Before meta t.meta (λ l. SearchRow disk store (resolved meta) h (tier_with t l) b x broker_tier asked cursor next own turn h' (tier_with t' l'))
  search_row true h t b x broker_tier asked cursor next turn h' t' w is_observable l' left = let a = tier_same t t' w.1 l' left in (a.0, a.1, (w.0, a.2))
  search_row false h t b x broker_tier asked cursor next turn h' t' w is_observable l' left =
      let a = searches_remote t b broker_tier (line_of x) asked cursor next turn t' w.0 is_observable l' left in (a.0, a.1, (a.2, w.1))

  searching : (p : PartitionId) (h : PartitionState D) (t : RemoteTier S M) (b : ℕ) (x : Node D) (broker_tier : BrokerTierState) (g : StartSnapshot) (ts : ℤ) (cursor : ℕ) (next : Dating) (turn : Turn (ℕ × Dating)) (h' : PartitionState D) (t' : RemoteTier S M)
      → SearchesOn disk store meta p h t b x broker_tier g ts cursor next turn h' t' → Tells meta t.meta → (l' : List Note) → Left (meta.content t'.meta) l'
      → Before meta t.meta (λ l. SearchesOn disk store (resolved meta) p h (tier_with t l) b x broker_tier g ts cursor next turn h' (tier_with t' l'))
  searching p h t b x broker_tier g ts cursor next turn h' t' k is_observable l' left =
      let at = resumed_at h.registry.start cursor in
      let with_ = resumed_with h.registry.start cursor next in
      let a = search_row (is_own (local_of x) at with_) h t b x broker_tier (asked_of p h x ts) at with_ turn h' t' k.row is_observable l' left in
      (a.0, a.1, record { keeps = k.keeps; below = k.below; fits = k.fits; row = a.2 })

  dated : (p : PartitionId) (h : PartitionState D) (t : RemoteTier S M) (b : ℕ) (x : Node D) (broker_tier : BrokerTierState) (g : StartSnapshot) (ts : ℤ) (cursor : ℕ) (next : Dating) (outcome : Outcome) (h' : PartitionState D) (t' : RemoteTier S M)
      → DateOnRow disk store meta p h t b x broker_tier g ts cursor next outcome h' t' → Tells meta t.meta → (l' : List Note) → Left (meta.content t'.meta) l'
      → Before meta t.meta (λ l. DateOnRow disk store (resolved meta) p h (tier_with t l) b x broker_tier g ts cursor next outcome h' (tier_with t' l'))
  dated p h t b x broker_tier g ts cursor next (Answers Stopped) h' t' w is_observable l' left = let a = tier_same t t' w.2 l' left in (a.0, a.1, (w.0, w.1, a.2))
  dated p h t b x broker_tier g ts cursor next (Answers NotLeader) h' t' w is_observable l' left = let a = tier_same t t' w.4 l' left in (a.0, a.1, (w.0, w.1, w.2, w.3, a.2))
  dated p h t b x broker_tier g ts cursor next (Answers NoOffset) h' t' w is_observable l' left = let a = tier_same t t' w.3 l' left in (a.0, a.1, (w.0, w.1, w.2, a.2))
  dated p h t b x broker_tier g ts cursor next (Answers answer) h' t' w is_observable l' left =
      searching p h t b x broker_tier g ts cursor next (dating.Ends answer) h' t' w is_observable l' left
  dated p h t b x broker_tier g ts cursor next (Dated later after) h' t' w is_observable l' left =
      let a = searching p h t b x broker_tier g ts cursor next (dating.Goes (later, after)) h' t' w.0 is_observable l' left in (a.0, a.1, (a.2, w.1))
  dated p h t b x broker_tier g ts cursor next other h' t' w is_observable l' left = elim w [ ]

  refreshed_row : (t : RemoteTier S M) (b : ℕ) (broker_tier : BrokerTierState) (outcome : Outcome) (t' : RemoteTier S M) → RefreshedRow meta t b broker_tier outcome t' → Tells meta t.meta → (l' : List Note) → Left (meta.content t'.meta) l'
      → Before meta t.meta (λ l. RefreshedRow (resolved meta) (tier_with t l) b broker_tier outcome (tier_with t' l'))
  refreshed_row t b broker_tier (Answers MetaFault) t' w is_observable l' left = fails t broker_tier t' w l' left
  refreshed_row t b broker_tier (Rebuilding Epochs) t' w is_observable l' left = refreshes t b broker_tier t' w is_observable l' left
  refreshed_row t b broker_tier other t' w is_observable l' left = elim w [ ]

  join_second : (h : PartitionState D) (t : RemoteTier S M) (b : ℕ) (x : Node D) (broker_tier : BrokerTierState) (g : StartSnapshot) (outcome : Outcome) (h' : PartitionState D) (t' : RemoteTier S M)
      → JoinSecondRow disk meta h t b x broker_tier g outcome h' t' → Tells meta t.meta → (l' : List Note) → Left (meta.content t'.meta) l'
      → Before meta t.meta (λ l. JoinSecondRow disk (resolved meta) h (tier_with t l) b x broker_tier g outcome h' (tier_with t' l'))
  join_second h t b x broker_tier g outcome h' t' (inl (low, own)) is_observable l' left = let a = tier_same t t' own.1 l' left in (a.0, a.1, inl (low, (own.0, a.2)))
  join_second h t b x broker_tier g outcome h' t' (inr (high, inl (answer, is, at, tier), same)) is_observable l' left =
      let a = tier_same t t' tier l' left in (a.0, a.1, inr (high, inl (answer, is, at, a.2), same))
  join_second h t b x broker_tier g outcome h' t' (inr (high, inr (may, row), same)) is_observable l' left =
      let a = refreshed_row t b broker_tier outcome t' row is_observable l' left in (a.0, a.1, inr (high, inr (may, a.2), same))

  recorded : (p : PartitionId) (config : Config) (h : PartitionState D) (t : RemoteTier S M) (b : ℕ) (x : Node D) (broker_tier : BrokerTierState) (g : StartSnapshot) (command : Command) (outcome : Outcome) (h' : PartitionState D) (t' : RemoteTier S M)
      → ContinuedRow disk store meta p config h t b x broker_tier g command outcome h' t' → Tells meta t.meta → (l' : List Note) → Left (meta.content t'.meta) l'
      → Before meta t.meta (λ l. ContinuedRow disk store (resolved meta) p config h (tier_with t l) b x broker_tier g command outcome h' (tier_with t' l'))
  recorded p config h t b x broker_tier g Copy outcome h' t' w is_observable l' left = chooses p h t b x broker_tier g outcome h' t' w l' left
  recorded p config h t b x broker_tier g Trim outcome h' t' w is_observable l' left = let a = tier_same t t' w.1 l' left in (a.0, a.1, (w.0, a.2))
  recorded p config h t b x broker_tier g Join outcome h' t' w is_observable l' left = join_second h t b x broker_tier g outcome h' t' w is_observable l' left
  recorded p config h t b x broker_tier g Expire outcome h' t' w is_observable l' left = let a = tier_same t t' w.1 l' left in (a.0, a.1, (w.0, a.2))
  recorded p config h t b x broker_tier g (Fetch offset limit) outcome h' t' w is_observable l' left =
      let a = fetching p h t b x broker_tier g offset limit Refresh outcome t' w.0 is_observable l' left in (a.0, a.1, (a.2, w.1))
  recorded p config h t b x broker_tier g (Offset LatestTiered) outcome h' t' w is_observable l' left = let a = tier_same t t' w.2 l' left in (a.0, a.1, (w.0, w.1, a.2))
  recorded p config h t b x broker_tier g (Offset (At ts)) outcome h' t' w is_observable l' left = dated p h t b x broker_tier g ts 0 Seek outcome h' t' w is_observable l' left
  recorded p config h t b x broker_tier g other outcome h' t' w is_observable l' left = let a = tier_same t t' w.1 l' left in (a.0, a.1, (w.0, a.2))

  seeking : (p : PartitionId) (h : PartitionState D) (t : RemoteTier S M) (b : ℕ) (x : Node D) (broker_tier : BrokerTierState) (g : StartSnapshot) (next : Search) (command : Command) (outcome : Outcome) (h' : PartitionState D) (t' : RemoteTier S M)
      → SeekingRow store meta p h t b x broker_tier g next command outcome h' t' → Tells meta t.meta → (l' : List Note) → Left (meta.content t'.meta) l'
      → Before meta t.meta (λ l. SeekingRow store (resolved meta) p h (tier_with t l) b x broker_tier g next command outcome h' (tier_with t' l'))
  seeking p h t b x broker_tier g next (Fetch offset limit) outcome h' t' w is_observable l' left =
      let a = fetching p h t b x broker_tier g offset limit next outcome t' w.0 is_observable l' left in (a.0, a.1, (a.2, w.1))
  seeking p h t b x broker_tier g next other outcome h' t' w is_observable l' left = elim w [ ]

  dating_on : (p : PartitionId) (h : PartitionState D) (t : RemoteTier S M) (b : ℕ) (x : Node D) (broker_tier : BrokerTierState) (g : StartSnapshot) (cursor : ℕ) (next : Dating) (command : Command) (outcome : Outcome) (h' : PartitionState D) (t' : RemoteTier S M)
      → DatingRow disk store meta p h t b x broker_tier g cursor next command outcome h' t' → Tells meta t.meta → (l' : List Note) → Left (meta.content t'.meta) l'
      → Before meta t.meta (λ l. DatingRow disk store (resolved meta) p h (tier_with t l) b x broker_tier g cursor next command outcome h' (tier_with t' l'))
  dating_on p h t b x broker_tier g cursor next (Offset (At ts)) outcome h' t' w is_observable l' left = dated p h t b x broker_tier g ts cursor next outcome h' t' w is_observable l' left
  dating_on p h t b x broker_tier g cursor next other outcome h' t' w is_observable l' left = elim w [ ]

  deletes_on : (h : PartitionState D) (t : RemoteTier S M) (b : ℕ) (d : ExpiredSegment) (next : Deletion) (turn : _) (t' : RemoteTier S M) → GoesOnDeletion store meta h t b d next turn t' → Tells meta t.meta
      → (l' : List Note) → Left (meta.content t'.meta) l' → Before meta t.meta (λ l. GoesOnDeletion store (resolved meta) h (tier_with t l) b d next turn (tier_with t' l'))
  deletes_on h t b d next turn t' k is_observable l' left =
      let a = expiry_row store meta d (origin_of h b) next _ (expiry_tiers t) (expiry_tiers t') k.row is_observable l' left in
      (a.0, a.1, record { row = a.2; after = ap (λ (u : RemoteTier S M). tier_with u l') k.after })

  deleting : (h : PartitionState D) (t : RemoteTier S M) (b : ℕ) (x : Node D) (g : StartSnapshot) (d : ExpiredSegment) (next : Deletion) (command : Command) (outcome : Outcome) (h' : PartitionState D) (t' : RemoteTier S M)
      → DeletingRow store meta h t b x g d next command outcome h' t' → Tells meta t.meta → (l' : List Note) → Left (meta.content t'.meta) l'
      → Before meta t.meta (λ l. DeletingRow store (resolved meta) h (tier_with t l) b x g d next command outcome h' (tier_with t' l'))
  deleting h t b x g d next Expire outcome h' t' (inl (lost, is, tier), same) is_observable l' left = let a = tier_same t t' tier l' left in (a.0, a.1, (inl (lost, is, a.2), same))
  deleting h t b x g d next Expire outcome h' t' (inr (keeps, (turn, is, goes)), same) is_observable l' left =
      let a = deletes_on h t b d next turn t' goes is_observable l' left in (a.0, a.1, (inr (keeps, (turn, is, a.2)), same))
  deleting h t b x g d next command outcome h' t' w is_observable l' left = elim w [ ]

  rebuilding : (p : PartitionId) (h : PartitionState D) (t : RemoteTier S M) (b : ℕ) (x : Node D) (broker_tier : BrokerTierState) (g : StartSnapshot) (next : Rebuild) (command : Command) (outcome : Outcome) (h' : PartitionState D) (t' : RemoteTier S M)
      → RebuildingRow disk store p h t b x broker_tier g next command outcome h' t' → (l' : List Note) → Left (meta.content t'.meta) l'
      → Before meta t.meta (λ l. RebuildingRow disk store p h (tier_with t l) b x broker_tier g next command outcome h' (tier_with t' l'))
  rebuilding p h t b x broker_tier g Epochs Join outcome h' t' (inl (answer, is, at, tier), same) l' left =
      let a = tier_same t t' tier l' left in (a.0, a.1, (inl (answer, is, at, a.2), same))
  rebuilding p h t b x broker_tier g Epochs Join outcome h' t' (inr (may, (turn, is, goes)), same) l' left = (
    l',
    kept t t' l' (ap (λ (u : RemoteTier S M). u.meta) goes.after) left,
    (inr (may, (turn, is, record { row = goes.row; after = ap (λ (u : RemoteTier S M). tier_with u l') goes.after })), same),
  )
  rebuilding p h t b x broker_tier g (Restart line) Join outcome h' t' w l' left = let a = tier_same t t' w.1 l' left in (a.0, a.1, (w.0, a.2))
  rebuilding p h t b x broker_tier g next command outcome h' t' w l' left = elim w [ ]

  rows : (p : PartitionId) (config : Config) (h : PartitionState D) (t : RemoteTier S M) (b : ℕ) (x : Node D) (broker_tier : BrokerTierState) (in_progress : InProgress) (command : Command) (outcome : Outcome) (h' : PartitionState D) (t' : RemoteTier S M)
      → Row disk store meta p config h t b x broker_tier in_progress command outcome h' t' → Tells meta t.meta → (l' : List Note) → Left (meta.content t'.meta) l'
      → Before meta t.meta (λ l. Row disk store (resolved meta) p config h (tier_with t l) b x broker_tier in_progress command outcome h' (tier_with t' l'))
  rows p config h t b x broker_tier Idle command outcome h' t' w is_observable l' left = begins h t b x broker_tier command outcome h' t' w is_observable l' left
  rows p config h t b x broker_tier (Noted g) command outcome h' t' w is_observable l' left = recorded p config h t b x broker_tier g command outcome h' t' w is_observable l' left
  rows p config h t b x broker_tier (Copies g copy next) command outcome h' t' w is_observable l' left = copying h t b x broker_tier g copy next command outcome h' t' w is_observable l' left
  rows p config h t b x broker_tier (Seeks g next) command outcome h' t' w is_observable l' left = seeking p h t b x broker_tier g next command outcome h' t' w is_observable l' left
  rows p config h t b x broker_tier (Dates g cursor next) command outcome h' t' w is_observable l' left = dating_on p h t b x broker_tier g cursor next command outcome h' t' w is_observable l' left
  rows p config h t b x broker_tier (Expires g d next) command outcome h' t' w is_observable l' left = deleting h t b x g d next command outcome h' t' w is_observable l' left
  rows p config h t b x broker_tier (Rebuilds g next) command outcome h' t' w is_observable l' left = rebuilding p h t b x broker_tier g next command outcome h' t' w l' left

  -- a turn's row
  turn_row : (p : PartitionId) (config : Config) (h : PartitionState D) (t : RemoteTier S M) (b : ℕ) (in_progress : InProgress) (command : Command) (outcome : Outcome) (h' : PartitionState D) (t' : RemoteTier S M)
      → TurnRow disk store meta p config h t b in_progress command outcome h' t' → Tells meta t.meta → (l' : List Note) → Left (meta.content t'.meta) l'
      → Before meta t.meta (λ l. TurnRow disk store (resolved meta) p config h (tier_with t l) b in_progress command outcome h' (tier_with t' l'))
  turn_row p config h t b in_progress command outcome h' t' w is_observable l' left =
      with_some (slice_get h.nodes b) (λ x. AtBrokerTier t b (λ broker_tier. Row disk store meta p config h t b x broker_tier in_progress command outcome h' t')) (Left (meta.content t.meta))
      (λ x l. AtBrokerTier (tier_with t l) b (λ broker_tier. Row disk store (resolved meta) p config h (tier_with t l) b x broker_tier in_progress command outcome h' (tier_with t' l'))) w
      (λ x there. with_some (slice_get t.broker_tiers b) (λ broker_tier. Row disk store meta p config h t b x broker_tier in_progress command outcome h' t') (Left (meta.content t.meta))
      (λ broker_tier l. Row disk store (resolved meta) p config h (tier_with t l) b x broker_tier in_progress command outcome h' (tier_with t' l')) there
      (λ broker_tier row. rows p config h t b x broker_tier in_progress command outcome h' t' row is_observable l' left))

  -- there was no memory
  begin_halts : (t : RemoteTier S M) (b : ℕ) (broker_tier : BrokerTierState) (command : Command) (t' : RemoteTier S M) → BeginHalts meta t b broker_tier command t' → Tells meta t.meta → (l' : List Note)
      → Left (meta.content t'.meta) l' → Before meta t.meta (λ l. BeginHalts (resolved meta) (tier_with t l) b broker_tier command (tier_with t' l'))
  begin_halts t b broker_tier Copy t' k is_observable l' left = halts t b broker_tier t' k is_observable l' left
  begin_halts t b broker_tier Trim t' k is_observable l' left = halts t b broker_tier t' k is_observable l' left
  begin_halts t b broker_tier Expire t' k is_observable l' left = halts t b broker_tier t' k is_observable l' left
  begin_halts t b broker_tier (Offset LatestTiered) t' k is_observable l' left = halts t b broker_tier t' k is_observable l' left
  begin_halts t b broker_tier (Offset (At ts)) t' k is_observable l' left = halts t b broker_tier t' k is_observable l' left
  begin_halts t b broker_tier other t' k is_observable l' left = elim k [ ]

  copy_halts : (h : PartitionState D) (t : RemoteTier S M) (b : ℕ) (broker_tier : BrokerTierState) (copy : Copied) (next : CopyStep) (t' : RemoteTier S M) → WantsForCopy store meta h t b broker_tier copy next t' → Tells meta t.meta
      → (l' : List Note) → Left (meta.content t'.meta) l' → Before meta t.meta (λ l. WantsForCopy store (resolved meta) h (tier_with t l) b broker_tier copy next (tier_with t' l'))
  copy_halts h t b broker_tier copy next t' k is_observable l' left =
      let a = copy_row store meta copy (origin_of h b) next _ (tiers_of broker_tier.view t) (tiers_of k.view t') k.row is_observable l' left in
      (a.0, a.1, record { view = k.view; error = k.error; row = a.2; after = ap (λ (u : RemoteTier S M). tier_with u l') k.after })

  fetch_halts : (p : PartitionId) (t : RemoteTier S M) (b : ℕ) (x : Node D) (broker_tier : BrokerTierState) (offset limit : ℕ) (next : Search) (t' : RemoteTier S M)
      → WantsForFetch store meta p t b x broker_tier offset limit next t' → Tells meta t.meta → (l' : List Note) → Left (meta.content t'.meta) l'
      → Before meta t.meta (λ l. WantsForFetch store (resolved meta) p (tier_with t l) b x broker_tier offset limit next (tier_with t' l'))
  fetch_halts p t b x broker_tier offset limit next t' k is_observable l' left =
      let a = fetch_row store meta (wanted_of p x offset limit) (line_of x) next _ (fetch_tiers broker_tier.view broker_tier.cache t) (fetch_tiers k.view k.cache t') k.row is_observable l' left in
      (a.0, a.1, record { view = k.view; cache = k.cache; error = k.error; row = a.2; after = ap (λ (u : RemoteTier S M). tier_with u l') k.after })

  expiry_halts : (h : PartitionState D) (t : RemoteTier S M) (b : ℕ) (d : ExpiredSegment) (next : Deletion) (t' : RemoteTier S M) → WantsForDeletion store meta h t b d next t' → Tells meta t.meta
      → (l' : List Note) → Left (meta.content t'.meta) l' → Before meta t.meta (λ l. WantsForDeletion store (resolved meta) h (tier_with t l) b d next (tier_with t' l'))
  expiry_halts h t b d next t' k is_observable l' left =
      let a = expiry_row store meta d (origin_of h b) next _ (expiry_tiers t) (expiry_tiers t') k.row is_observable l' left in
      (a.0, a.1, record { error = k.error; row = a.2; after = ap (λ (u : RemoteTier S M). tier_with u l') k.after })

  date_halts : (p : PartitionId) (h : PartitionState D) (t : RemoteTier S M) (b : ℕ) (x : Node D) (broker_tier : BrokerTierState) (ts : ℤ) (cursor : ℕ) (next : Dating) (t' : RemoteTier S M)
      → DateHalts store meta p h t b x broker_tier ts cursor next t' → Tells meta t.meta → (l' : List Note) → Left (meta.content t'.meta) l'
      → Before meta t.meta (λ l. DateHalts store (resolved meta) p h (tier_with t l) b x broker_tier ts cursor next (tier_with t' l'))
  date_halts p h t b x broker_tier ts cursor next t' k is_observable l' left =
      let a = time_row store meta (asked_of p h x ts) (line_of x) (resumed_at h.registry.start cursor) (resumed_with h.registry.start cursor next) _ (fetch_tiers broker_tier.view broker_tier.cache t)
      (fetch_tiers k.view k.cache t') k.row is_observable l' left in
      (a.0, a.1, record { view = k.view; cache = k.cache; error = k.error; row = a.2; after = ap (λ (u : RemoteTier S M). tier_with u l') k.after })

  recorded_halts : (p : PartitionId) (h : PartitionState D) (t : RemoteTier S M) (b : ℕ) (x : Node D) (broker_tier : BrokerTierState) (g : StartSnapshot) (command : Command) (t' : RemoteTier S M)
      → ContinuedHalts store meta p h t b x broker_tier g command t' → Tells meta t.meta → (l' : List Note) → Left (meta.content t'.meta) l'
      → Before meta t.meta (λ l. ContinuedHalts store (resolved meta) p h (tier_with t l) b x broker_tier g command (tier_with t' l'))
  recorded_halts p h t b x broker_tier g (Fetch offset limit) t' k is_observable l' left = fetch_halts p t b x broker_tier offset limit Refresh t' k is_observable l' left
  recorded_halts p h t b x broker_tier g Join t' (high, k) is_observable l' left = let a = halts t b broker_tier t' k is_observable l' left in (a.0, a.1, (high, a.2))
  recorded_halts p h t b x broker_tier g (Offset (At ts)) t' k is_observable l' left = date_halts p h t b x broker_tier ts 0 Seek t' k is_observable l' left
  recorded_halts p h t b x broker_tier g other t' k is_observable l' left = elim k [ ]

  halts_tier : (p : PartitionId) (h : PartitionState D) (t : RemoteTier S M) (b : ℕ) (x : Node D) (broker_tier : BrokerTierState) (in_progress : InProgress) (command : Command) (t' : RemoteTier S M)
      → HaltsTier store meta p h t b x broker_tier in_progress command t' → Tells meta t.meta → (l' : List Note) → Left (meta.content t'.meta) l'
      → Before meta t.meta (λ l. HaltsTier store (resolved meta) p h (tier_with t l) b x broker_tier in_progress command (tier_with t' l'))
  halts_tier p h t b x broker_tier Idle command t' k is_observable l' left = begin_halts t b broker_tier command t' k is_observable l' left
  halts_tier p h t b x broker_tier (Noted g) command t' k is_observable l' left = recorded_halts p h t b x broker_tier g command t' k is_observable l' left
  halts_tier p h t b x broker_tier (Copies g copy next) Copy t' k is_observable l' left = copy_halts h t b broker_tier copy next t' k is_observable l' left
  halts_tier p h t b x broker_tier (Seeks g next) (Fetch offset limit) t' k is_observable l' left = fetch_halts p t b x broker_tier offset limit next t' k is_observable l' left
  halts_tier p h t b x broker_tier (Dates g cursor next) (Offset (At ts)) t' k is_observable l' left = date_halts p h t b x broker_tier ts cursor next t' k is_observable l' left
  halts_tier p h t b x broker_tier (Expires g d next) Expire t' k is_observable l' left = expiry_halts h t b d next t' k is_observable l' left
  halts_tier p h t b x broker_tier (Rebuilds g Epochs) Join t' k is_observable l' left = (
    l',
    kept t t' l' (ap (λ (u : RemoteTier S M). u.meta) k.after) left,
    record { error = k.error; row = k.row; after = ap (λ (u : RemoteTier S M). tier_with u l') k.after },
  )
  halts_tier p h t b x broker_tier in_progress command t' k is_observable l' left = elim k [ ]

  stays_tier : (p : PartitionId) (h : PartitionState D) (t : RemoteTier S M) (b : ℕ) (in_progress : InProgress) (command : Command) (h' : PartitionState D) (t' : RemoteTier S M)
      → StaysTier disk store meta p h t b in_progress command h' t' → Tells meta t.meta → (l' : List Note) → Left (meta.content t'.meta) l'
      → Before meta t.meta (λ l. StaysTier disk store (resolved meta) p h (tier_with t l) b in_progress command h' (tier_with t' l'))
  stays_tier p h t b in_progress command h' t' (inl (partition_state, tier)) is_observable l' left = let a = tier_same t t' tier l' left in (a.0, a.1, inl (partition_state, a.2))
  stays_tier p h t b in_progress command h' t' (inr (same, at)) is_observable l' left =
      let a = with_some (slice_get h.nodes b) (λ x. AtBrokerTier t b (λ broker_tier. HaltsTier store meta p h t b x broker_tier in_progress command t')) (Left (meta.content t.meta))
      (λ x l. AtBrokerTier (tier_with t l) b (λ broker_tier. HaltsTier store (resolved meta) p h (tier_with t l) b x broker_tier in_progress command (tier_with t' l'))) at
      (λ x there. with_some (slice_get t.broker_tiers b) (λ broker_tier. HaltsTier store meta p h t b x broker_tier in_progress command t') (Left (meta.content t.meta))
      (λ broker_tier l. HaltsTier store (resolved meta) p h (tier_with t l) b x broker_tier in_progress command (tier_with t' l')) there
      (λ broker_tier row. halts_tier p h t b x broker_tier in_progress command t' row is_observable l' left)) in
      (a.0, a.1, inr (same, a.2))

  actor_state_with : (w : Whole D S M) (l : List Note) (a place : ℕ) (list : ActorList) (actor_state : ActorState) → IsActorAt w a place list actor_state → IsActorAt (whole_with w l) a place list actor_state
  actor_state_with w l a place list actor_state s = record { list = s.list; actor = s.actor; actor_state_is = s.actor_state_is }

  pub turns : (w : Whole D S M) (a : ℕ) (outcome : Outcome) (w' : Whole D S M) → IsTurn disk store meta w a outcome w' → Tells meta w.tier.meta → (l' : List Note) → Left (meta.content w'.tier.meta) l'
      → Before meta w.tier.meta (λ l. IsTurn disk store (resolved meta) (whole_with w l) a outcome (whole_with w' l'))
  turns w a outcome w' k is_observable l' left =
      let r = turn_row w.partition w.config w.partition_state w.tier k.order.broker.0 k.actor_state.in_progress k.order.command outcome w'.partition_state w'.tier k.row is_observable l' left in (
        r.0,
        r.1,
        record {
          place = k.place;
          list = k.list;
          actor_state = k.actor_state;
          order = k.order;
          at = actor_state_with w r.0 a k.place k.list k.actor_state k.at;
          next = k.next;
          row = r.2;
          desk = k.desk;
          entered = k.entered;
          partition = k.partition;
          config = k.config;
          lists = k.lists;
        },
      )

  pub stays : (w : Whole D S M) (a : ℕ) (w' : Whole D S M) → StaysWhole disk store meta w a w' → Tells meta w.tier.meta → (l' : List Note) → Left (meta.content w'.tier.meta) l'
      → Before meta w.tier.meta (λ l. StaysWhole disk store (resolved meta) (whole_with w l) a (whole_with w' l'))
  stays w a w' k is_observable l' left =
      let r = stays_tier w.partition w.partition_state w.tier k.order.broker.0 k.actor_state.in_progress k.order.command w'.partition_state w'.tier k.tier is_observable l' left in (
        r.0,
        r.1,
        record {
          place = k.place;
          list = k.list;
          actor_state = k.actor_state;
          order = k.order;
          next = record { at = actor_state_with w r.0 a k.place k.list k.actor_state k.next.at; next = k.next.next };
          node = k.node;
          tier = r.2;
          wants = k.wants;
          fields = ap (λ (u : Whole D S M). whole_with u l') k.fields;
        },
      )

  -- a step of the world
  pub steps_with : (w : Whole D S M) (a : ℕ) (answer : Stepped) (w' : Whole D S M) → Steps disk store meta w a answer w' → Tells meta w.tier.meta → (l' : List Note) → Left (meta.content w'.tier.meta) l'
      → Before meta w.tier.meta (λ l. Steps disk store (resolved meta) (whole_with w l) a answer (whole_with w' l'))
  steps_with w a stepped.Ran w' k is_observable l' left = let r = turns w a k.0 w' k.2 is_observable l' left in (r.0, r.1, (k.0, k.1, r.2))
  steps_with w a stepped.Done w' k is_observable l' left = let r = turns w a (Answers k.0) w' k.1 is_observable l' left in (r.0, r.1, (k.0, r.2))
  steps_with w a stepped.Nothing w' k is_observable l' left = (
    l',
    subst (λ (u : Whole D S M). Left (meta.content u.tier.meta) l') k.1 left,
    ((λ place list actor_state at. k.0 place list actor_state (record { list = at.list; actor = at.actor; actor_state_is = at.actor_state_is })), ap (λ (u : Whole D S M). whole_with u l') k.1),
  )
  steps_with w a stepped.NoMemory w' k is_observable l' left = stays w a w' k is_observable l' left
