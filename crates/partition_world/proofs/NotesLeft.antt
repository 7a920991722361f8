-- Each turn of a command leaves room for the metadata events that are appended yet: a command appends at most two.
use Rattle.std.proofs.Common.{◌≡◌, inl, inr, ap, ℕ, zero, suc, ◌+◌, ◌-◌, ◌*◌, ◌<◌, ◌≤◌, List, [], ◌∷◌, length, slice_get, slice_set, Some, Bool, true, false, IsTrue, arith}
use Rattle.std.specs.Prelude.{ℤ}
use Rattle.disk_model.specs.declared.disk.Disk.{Ghosts as DiskGhosts}
use Rattle.object_store.specs.declared.store.Store.{Ghosts as StoreGhosts}
use Rattle.meta_log.specs.declared.log.MetaLog.{Ghosts as MetaGhosts}
use Rattle.tier_base.specs.declared.names.PartitionId.{PartitionId}
use Rattle.copy_task.specs.Copying.{Copied}
use Rattle.copy_task.specs.declared.turn.CopyStep.{CopyStep}
use Rattle.expiry_task.specs.declared.turn.ExpiredSegment.{ExpiredSegment}
use Rattle.expiry_task.specs.declared.turn.DeletionStep.{DeletionStep as Deletion}
use Rattle.rebuild_task.specs.declared.turn.RebuildStep.{RebuildStep as Rebuild}
use Rattle.rebuild_task.specs.declared.turn.RebuildStep.TheVariants.{Epochs, Restart}
use Rattle.tier_fetch.specs.declared.turn.FetchStep.{FetchStep as Search}
use Rattle.tier_fetch.specs.declared.turn.FetchStep.TheVariants.{Refresh}
use Rattle.time_find.specs.declared.turn.Asked.{Asked}
use Rattle.time_find.specs.declared.turn.SearchStep.{SearchStep as Dating}
use Rattle.time_find.specs.declared.turn.SearchStep.TheVariants.{Seek}
use Rattle.plain_log.specs.declared.turn.Turn.{Turn}
use Rattle.plain_log.specs.declared.turn.Turn.TheVariants as dating
use Rattle.plain_log.specs.declared.answer.Answer.TheVariants.{Down, NotLeader, CopyOff, MetaFault, Stopped, OutOfRange, Empty, NoOffset}
use Rattle.plain_log.specs.declared.command.ActorList.{ActorList}
use Rattle.plain_log.specs.declared.command.Command.{Command}
use Rattle.plain_log.specs.declared.command.Command.TheVariants.{Copy, Trim, Expire, Fetch, Join, Offset}
use Rattle.plain_log.specs.declared.command.Which.TheVariants.{LatestTiered, At}
use Rattle.plain_log.specs.declared.command.Config.{Config}
use Rattle.laws_partition.specs.declared.start_snapshot.StartSnapshot.{StartSnapshot}
use Rattle.laws_partition.proofs.BoolTests.{some_of}
use Rattle.partition_commands.specs.declared.partition_state.Node.{Node}
use Rattle.partition_commands.specs.declared.partition_state.PartitionState.{PartitionState}
use Rattle.partition_commands.specs.Partition.{line_of, local_of}
use Rattle.partition_world.specs.declared.tier.BrokerTierState.{BrokerTierState}
use Rattle.partition_world.specs.declared.tier.RemoteTier.{RemoteTier}
use Rattle.partition_world.specs.declared.actor_state.Outcome.{Outcome}
use Rattle.partition_world.specs.declared.actor_state.Outcome.TheVariants.{Answers, Begins, Chose, Goes, Seeks as Sought, Dates as Dated, ChoosesExpired, Deletes, Rebuilds as Rebuilding}
use Rattle.partition_world.specs.declared.actor_state.ActorState.{ActorState}
use Rattle.partition_world.specs.declared.actor_state.InProgress.{InProgress}
use Rattle.partition_world.specs.declared.actor_state.InProgress.TheVariants.{Idle, Noted, Copies, Seeks, Dates, Expires, Rebuilds}
use Rattle.partition_world.specs.Central.{told_by, notes_left}
use Rattle.partition_world.specs.ActorStates.{chosen, moved, sought, dated, expired_segment, deleting, rebuilding, actor_state_after}
use Rattle.partition_world.specs.Turn.{IsTurn, StaysWhole}
use Rattle.partition_world.specs.Tier.{AtBrokerTier}
use Rattle.partition_world.specs.TurnsOfCopy.{LeadersFirstRow, CopyFirstRow, ChooseRow, tiers_of, origin_of}
use Rattle.partition_world.specs.TurnsOfFetch.{FetchOnRow, GoesOnFetch, fetch_tiers, wanted_of}
use Rattle.partition_world.specs.TurnsOfDate.{SearchRow, SearchesOn, DateOnRow, asked_of, is_own, resumed_at, resumed_with}
use Rattle.partition_world.specs.TurnsOfTrim.{TrimFirstRow}
use Rattle.partition_world.specs.TurnsOfExpiry.{expiry_tiers}
use Rattle.partition_world.specs.TurnsOfRebuild.{RefreshedRow}
use Rattle.partition_world.specs.Turns.{BeginRow, ContinuedRow, CopyLaterRow, SeekingRow, DatingRow, DeletingRow, JoinSecondRow, RebuildingRow, Row}
use Rattle.partition_world.specs.Whole.{Whole}
use Rattle.partition_world.proofs.Begins.{row_of}
use Rattle.partition_world.proofs.NotesTold.{told_after, few_told, count, keeps_count, same_count, copy_told, copy_wants, fetch_count, fetch_wants, time_count, time_wants, expiry_told, expiry_wants, turn_told, deletes_told}
use Rattle.partition_world.proofs.Halting.{HaltsSome, StaysSome, stays_some}

module _ {D S M : Type 0} (disk : DiskGhosts D) (store : StoreGhosts S) (meta : MetaGhosts M) where
  leaders_count : (h : PartitionState D) (t : RemoteTier S M) (b : ℕ) (x : Node D) (broker_tier : BrokerTierState) (outcome : Outcome) (t' : RemoteTier S M) → LeadersFirstRow meta h t b x broker_tier outcome t' → count meta t'.meta ≤ count meta t.meta
  leaders_count h t b x broker_tier (Answers Down) t' w = same_count meta t.meta t'.meta (ap (λ (k : RemoteTier S M). k.meta) w.1)
  leaders_count h t b x broker_tier (Answers NotLeader) t' w = same_count meta t.meta t'.meta (ap (λ (k : RemoteTier S M). k.meta) w.2)
  leaders_count h t b x broker_tier (Answers MetaFault) t' w = keeps_count meta t.meta t'.meta w.2.reads.content
  leaders_count h t b x broker_tier (Begins g) t' w = keeps_count meta t.meta t'.meta w.3.reads.content
  leaders_count h t b x broker_tier other t' w = elim w [ ]

  copy_count : (h : PartitionState D) (t : RemoteTier S M) (b : ℕ) (x : Node D) (broker_tier : BrokerTierState) (outcome : Outcome) (t' : RemoteTier S M) → CopyFirstRow meta h t b x broker_tier outcome t' → count meta t'.meta ≤ count meta t.meta
  copy_count h t b x broker_tier (Answers CopyOff) t' w = same_count meta t.meta t'.meta (ap (λ (k : RemoteTier S M). k.meta) w.3)
  copy_count h t b x broker_tier (Answers MetaFault) t' w = leaders_count h t b x broker_tier (Answers MetaFault) t' w.0
  copy_count h t b x broker_tier (Begins g) t' w = leaders_count h t b x broker_tier (Begins g) t' w.0
  copy_count h t b x broker_tier other t' w = leaders_count h t b x broker_tier other t' w

  trim_count : (h : PartitionState D) (t : RemoteTier S M) (b : ℕ) (x : Node D) (broker_tier : BrokerTierState) (outcome : Outcome) (t' : RemoteTier S M) → TrimFirstRow meta h t b x broker_tier outcome t' → count meta t'.meta ≤ count meta t.meta
  trim_count h t b x broker_tier (Answers Down) t' w = same_count meta t.meta t'.meta (ap (λ (k : RemoteTier S M). k.meta) w.1)
  trim_count h t b x broker_tier (Answers MetaFault) t' w = keeps_count meta t.meta t'.meta w.1.reads.content
  trim_count h t b x broker_tier (Begins g) t' w = keeps_count meta t.meta t'.meta w.2.reads.content
  trim_count h t b x broker_tier other t' w = elim w [ ]

  begin_count : (h : PartitionState D) (t : RemoteTier S M) (b : ℕ) (x : Node D) (broker_tier : BrokerTierState) (command : Command) (outcome : Outcome) (h' : PartitionState D) (t' : RemoteTier S M)
      → BeginRow disk store meta h t b x broker_tier command outcome h' t' → count meta t'.meta ≤ count meta t.meta
  begin_count h t b x broker_tier Copy outcome h' t' w = copy_count h t b x broker_tier outcome t' w.0
  begin_count h t b x broker_tier Trim outcome h' t' w = trim_count h t b x broker_tier outcome t' w.0
  begin_count h t b x broker_tier Expire outcome h' t' w = leaders_count h t b x broker_tier outcome t' w.0
  begin_count h t b x broker_tier (Offset LatestTiered) outcome h' t' w = leaders_count h t b x broker_tier outcome t' w.0
  begin_count h t b x broker_tier (Offset (At ts)) outcome h' t' w = leaders_count h t b x broker_tier outcome t' w.0
  begin_count h t b x broker_tier other outcome h' t' w = same_count meta t.meta t'.meta (ap (λ (k : RemoteTier S M). k.meta) w.1)

  choose_count : (p : PartitionId) (h : PartitionState D) (t : RemoteTier S M) (b : ℕ) (x : Node D) (broker_tier : BrokerTierState) (g : StartSnapshot) (outcome : Outcome) (h' : PartitionState D) (t' : RemoteTier S M)
      → ChooseRow disk p h t b x broker_tier g outcome h' t' → count meta t'.meta ≤ count meta t.meta
  choose_count p h t b x broker_tier g outcome h' t' (inl lost) = same_count meta t.meta t'.meta (ap (λ (k : RemoteTier S M). k.meta) lost.3)
  choose_count p h t b x broker_tier g outcome h' t' (inr (keeps, inl level)) = same_count meta t.meta t'.meta (ap (λ (k : RemoteTier S M). k.meta) level.3)
  choose_count p h t b x broker_tier g outcome h' t' (inr (keeps, inr r)) = same_count meta t.meta t'.meta (ap (λ (k : RemoteTier S M). k.meta) r.tier)

  goes_count : (p : PartitionId) (t : RemoteTier S M) (b : ℕ) (x : Node D) (broker_tier : BrokerTierState) (offset limit : ℕ) (next : Search) (turn : Turn Search) (t' : RemoteTier S M)
      → GoesOnFetch store meta p t b x broker_tier offset limit next turn t' → count meta t'.meta ≤ count meta t.meta
  goes_count p t b x broker_tier offset limit next turn t' k =
      fetch_count store meta (wanted_of p x offset limit) (line_of x) next turn (fetch_tiers broker_tier.view broker_tier.cache t) (fetch_tiers k.view k.cache t') k.row

  seek_count : (p : PartitionId) (h : PartitionState D) (t : RemoteTier S M) (b : ℕ) (x : Node D) (broker_tier : BrokerTierState) (g : StartSnapshot) (offset limit : ℕ) (next : Search) (outcome : Outcome) (t' : RemoteTier S M)
      → FetchOnRow store meta p h t b x broker_tier g offset limit next outcome t' → count meta t'.meta ≤ count meta t.meta
  seek_count p h t b x broker_tier g offset limit next (Answers Stopped) t' w = same_count meta t.meta t'.meta (ap (λ (k : RemoteTier S M). k.meta) w.1)
  seek_count p h t b x broker_tier g offset limit next (Answers NotLeader) t' w = same_count meta t.meta t'.meta (ap (λ (k : RemoteTier S M). k.meta) w.3)
  seek_count p h t b x broker_tier g offset limit next (Answers (OutOfRange start end)) t' w = same_count meta t.meta t'.meta (ap (λ (k : RemoteTier S M). k.meta) w.4)
  seek_count p h t b x broker_tier g offset limit next (Answers Empty) t' w = same_count meta t.meta t'.meta (ap (λ (k : RemoteTier S M). k.meta) w.3)
  seek_count p h t b x broker_tier g offset limit next (Answers answer) t' w = goes_count p t b x broker_tier offset limit next _ t' w.1
  seek_count p h t b x broker_tier g offset limit next (Sought later) t' w = goes_count p t b x broker_tier offset limit next _ t' w.1
  seek_count p h t b x broker_tier g offset limit next other t' w = elim w [ ]

  search_count : (h : PartitionState D) (t : RemoteTier S M) (b : ℕ) (x : Node D) (broker_tier : BrokerTierState) (asked : Asked) (cursor : ℕ) (next : Dating) (own : Bool)
      (turn : Turn (ℕ × Dating)) (h' : PartitionState D) (t' : RemoteTier S M) → SearchRow disk store meta h t b x broker_tier asked cursor next own turn h' t'
      → count meta t'.meta ≤ count meta t.meta
  search_count h t b x broker_tier asked cursor next true turn h' t' w = same_count meta t.meta t'.meta (ap (λ (k : RemoteTier S M). k.meta) w.1)
  search_count h t b x broker_tier asked cursor next false turn h' t' w =
      let old = fetch_tiers broker_tier.view broker_tier.cache t in
      let new = fetch_tiers w.0.view w.0.cache t' in
      time_count store meta asked (line_of x) cursor next turn old new w.0.row

  searches_count : (p : PartitionId) (h : PartitionState D) (t : RemoteTier S M) (b : ℕ) (x : Node D) (broker_tier : BrokerTierState) (g : StartSnapshot) (ts : ℤ) (cursor : ℕ)
      (next : Dating) (turn : Turn (ℕ × Dating)) (h' : PartitionState D) (t' : RemoteTier S M)
      → SearchesOn disk store meta p h t b x broker_tier g ts cursor next turn h' t' → count meta t'.meta ≤ count meta t.meta
  searches_count p h t b x broker_tier g ts cursor next turn h' t' w =
      let on = resumed_at h.registry.start cursor in
      let with = resumed_with h.registry.start cursor next in
      search_count h t b x broker_tier (asked_of p h x ts) on with (is_own (local_of x) on with) turn h' t' w.row

  date_count : (p : PartitionId) (h : PartitionState D) (t : RemoteTier S M) (b : ℕ) (x : Node D) (broker_tier : BrokerTierState) (g : StartSnapshot) (ts : ℤ) (cursor : ℕ)
      (next : Dating) (outcome : Outcome) (h' : PartitionState D) (t' : RemoteTier S M)
      → DateOnRow disk store meta p h t b x broker_tier g ts cursor next outcome h' t' → count meta t'.meta ≤ count meta t.meta
  date_count p h t b x broker_tier g ts cursor next (Answers Stopped) h' t' w =
      same_count meta t.meta t'.meta (ap (λ (k : RemoteTier S M). k.meta) w.2)
  date_count p h t b x broker_tier g ts cursor next (Answers NotLeader) h' t' w =
      same_count meta t.meta t'.meta (ap (λ (k : RemoteTier S M). k.meta) w.4)
  date_count p h t b x broker_tier g ts cursor next (Answers NoOffset) h' t' w =
      same_count meta t.meta t'.meta (ap (λ (k : RemoteTier S M). k.meta) w.3)
  date_count p h t b x broker_tier g ts cursor next (Answers answer) h' t' w =
      searches_count p h t b x broker_tier g ts cursor next (dating.Ends answer) h' t' w
  date_count p h t b x broker_tier g ts cursor next (Dated later after) h' t' w =
      searches_count p h t b x broker_tier g ts cursor next (dating.Goes (later, after)) h' t' w.0
  date_count p h t b x broker_tier g ts cursor next other h' t' w = elim w [ ]

  refresh_count : (t : RemoteTier S M) (b : ℕ) (broker_tier : BrokerTierState) (outcome : Outcome) (t' : RemoteTier S M) → RefreshedRow meta t b broker_tier outcome t' → count meta t'.meta ≤ count meta t.meta
  refresh_count t b broker_tier (Answers MetaFault) t' w = keeps_count meta t.meta t'.meta w.reads.content
  refresh_count t b broker_tier (Rebuilding Epochs) t' w = keeps_count meta t.meta t'.meta w.reads.content
  refresh_count t b broker_tier other t' w = elim w [ ]

  join_count : (h : PartitionState D) (t : RemoteTier S M) (b : ℕ) (x : Node D) (broker_tier : BrokerTierState) (g : StartSnapshot) (outcome : Outcome) (h' : PartitionState D) (t' : RemoteTier S M)
      → JoinSecondRow disk meta h t b x broker_tier g outcome h' t' → count meta t'.meta ≤ count meta t.meta
  join_count h t b x broker_tier g outcome h' t' (inl (low, own)) = same_count meta t.meta t'.meta (ap (λ (k : RemoteTier S M). k.meta) own.1)
  join_count h t b x broker_tier g outcome h' t' (inr (high, inl (answer, is, at, tier), same)) = same_count meta t.meta t'.meta (ap (λ (k : RemoteTier S M). k.meta) tier)
  join_count h t b x broker_tier g outcome h' t' (inr (high, inr (may, row), same)) = refresh_count t b broker_tier outcome t' row

  recorded_count : (p : PartitionId) (config : Config) (h : PartitionState D) (t : RemoteTier S M) (b : ℕ) (x : Node D) (broker_tier : BrokerTierState) (g : StartSnapshot) (command : Command) (outcome : Outcome) (h' : PartitionState D) (t' : RemoteTier S M)
      → ContinuedRow disk store meta p config h t b x broker_tier g command outcome h' t' → count meta t'.meta ≤ count meta t.meta
  recorded_count p config h t b x broker_tier g Copy outcome h' t' w = choose_count p h t b x broker_tier g outcome h' t' w
  recorded_count p config h t b x broker_tier g Trim outcome h' t' w = same_count meta t.meta t'.meta (ap (λ (k : RemoteTier S M). k.meta) w.1)
  recorded_count p config h t b x broker_tier g Join outcome h' t' w = join_count h t b x broker_tier g outcome h' t' w
  recorded_count p config h t b x broker_tier g Expire outcome h' t' w = same_count meta t.meta t'.meta (ap (λ (k : RemoteTier S M). k.meta) w.1)
  recorded_count p config h t b x broker_tier g (Fetch offset limit) outcome h' t' w = seek_count p h t b x broker_tier g offset limit Refresh outcome t' w.0
  recorded_count p config h t b x broker_tier g (Offset LatestTiered) outcome h' t' w = same_count meta t.meta t'.meta (ap (λ (k : RemoteTier S M). k.meta) w.2)
  recorded_count p config h t b x broker_tier g (Offset (At ts)) outcome h' t' w =
      date_count p h t b x broker_tier g ts 0 Seek outcome h' t' w
  recorded_count p config h t b x broker_tier g other outcome h' t' w = same_count meta t.meta t'.meta (ap (λ (k : RemoteTier S M). k.meta) w.1)

  copying_told : (h : PartitionState D) (t : RemoteTier S M) (b : ℕ) (x : Node D) (broker_tier : BrokerTierState) (g : StartSnapshot) (copy : Copied) (next : CopyStep) (command : Command) (outcome : Outcome) (h' : PartitionState D) (t' : RemoteTier S M)
      → CopyLaterRow store meta h t b x broker_tier g copy next command outcome h' t' → IsTrue (meta.content t.meta).is_observable
      → count meta t'.meta + told_by (Copies g copy next) ≤ count meta t.meta + told_after (Copies g copy next) outcome
  copying_told h t b x broker_tier g copy next Copy outcome h' t' (inl lost, same) is_observable =
      let is = same_count meta t.meta t'.meta (ap (λ (k : RemoteTier S M). k.meta) lost.2) in
      let few = few_told (Copies g copy next) in
      let told : told_after (Copies g copy next) outcome ≡ 2 = ap (told_after (Copies g copy next)) lost.1 in
      omega (arith, is, few, told)
  copying_told h t b x broker_tier g copy next Copy outcome h' t' (inr (keeps, (turn, is, goes)), same) is_observable =
      let most = copy_told store meta g copy (origin_of h b) next turn (tiers_of broker_tier.view t) (tiers_of goes.view t') goes.row is_observable in
      let told = turn_told store meta g copy next turn outcome is in
      omega (arith, most, told)
  copying_told h t b x broker_tier g copy next command outcome h' t' w is_observable = elim w [ ]

  seeking_count : (p : PartitionId) (h : PartitionState D) (t : RemoteTier S M) (b : ℕ) (x : Node D) (broker_tier : BrokerTierState) (g : StartSnapshot) (next : Search) (command : Command) (outcome : Outcome) (h' : PartitionState D) (t' : RemoteTier S M)
      → SeekingRow store meta p h t b x broker_tier g next command outcome h' t' → count meta t'.meta ≤ count meta t.meta
  seeking_count p h t b x broker_tier g next (Fetch offset limit) outcome h' t' w = seek_count p h t b x broker_tier g offset limit next outcome t' w.0
  seeking_count p h t b x broker_tier g next other outcome h' t' w = elim w [ ]

  dating_count : (p : PartitionId) (h : PartitionState D) (t : RemoteTier S M) (b : ℕ) (x : Node D) (broker_tier : BrokerTierState) (g : StartSnapshot) (cursor : ℕ) (next : Dating)
      (command : Command) (outcome : Outcome) (h' : PartitionState D) (t' : RemoteTier S M)
      → DatingRow disk store meta p h t b x broker_tier g cursor next command outcome h' t' → count meta t'.meta ≤ count meta t.meta
  dating_count p h t b x broker_tier g cursor next (Offset (At ts)) outcome h' t' w =
      date_count p h t b x broker_tier g ts cursor next outcome h' t' w
  dating_count p h t b x broker_tier g cursor next other outcome h' t' w = elim w [ ]

  deleting_told : (h : PartitionState D) (t : RemoteTier S M) (b : ℕ) (x : Node D) (g : StartSnapshot) (segment : ExpiredSegment) (next : Deletion) (command : Command) (outcome : Outcome) (h' : PartitionState D) (t' : RemoteTier S M)
      → DeletingRow store meta h t b x g segment next command outcome h' t' → IsTrue (meta.content t.meta).is_observable
      → count meta t'.meta + told_by (Expires g segment next) ≤ count meta t.meta + told_after (Expires g segment next) outcome
  deleting_told h t b x g segment next Expire outcome h' t' (inl lost, same) is_observable =
      let is = same_count meta t.meta t'.meta (ap (λ (k : RemoteTier S M). k.meta) lost.2) in
      let few = few_told (Expires g segment next) in
      let told : told_after (Expires g segment next) outcome ≡ 2 = ap (told_after (Expires g segment next)) lost.1 in
      omega (arith, is, few, told)
  deleting_told h t b x g segment next Expire outcome h' t' (inr (keeps, (turn, is, goes)), same) is_observable =
      let most = expiry_told store meta g segment (origin_of h b) next turn (expiry_tiers t) (expiry_tiers t') goes.row is_observable in
      let told = deletes_told store meta g segment next turn outcome is in
      omega (arith, most, told)
  deleting_told h t b x g segment next command outcome h' t' w is_observable = elim w [ ]

  rebuilding_count : (p : PartitionId) (h : PartitionState D) (t : RemoteTier S M) (b : ℕ) (x : Node D) (broker_tier : BrokerTierState) (g : StartSnapshot) (next : Rebuild) (command : Command) (outcome : Outcome) (h' : PartitionState D) (t' : RemoteTier S M)
      → RebuildingRow disk store p h t b x broker_tier g next command outcome h' t' → count meta t'.meta ≤ count meta t.meta
  rebuilding_count p h t b x broker_tier g Epochs Join outcome h' t' (inl (answer, is, at, tier), same) = same_count meta t.meta t'.meta (ap (λ (k : RemoteTier S M). k.meta) tier)
  rebuilding_count p h t b x broker_tier g Epochs Join outcome h' t' (inr (may, (turn, is, goes)), same) = same_count meta t.meta t'.meta (ap (λ (k : RemoteTier S M). k.meta) goes.after)
  rebuilding_count p h t b x broker_tier g (Restart line) Join outcome h' t' w = same_count meta t.meta t'.meta (ap (λ (k : RemoteTier S M). k.meta) w.1)
  rebuilding_count p h t b x broker_tier g next command outcome h' t' w = elim w [ ]

  row_told : (p : PartitionId) (config : Config) (h : PartitionState D) (t : RemoteTier S M) (b : ℕ) (x : Node D) (broker_tier : BrokerTierState) (in_progress : InProgress) (command : Command) (outcome : Outcome) (h' : PartitionState D) (t' : RemoteTier S M)
      → Row disk store meta p config h t b x broker_tier in_progress command outcome h' t' → IsTrue (meta.content t.meta).is_observable
      → count meta t'.meta + told_by in_progress ≤ count meta t.meta + told_after in_progress outcome
  row_told p config h t b x broker_tier Idle command outcome h' t' w is_observable = let most = begin_count h t b x broker_tier command outcome h' t' w in omega (arith, most)
  row_told p config h t b x broker_tier (Noted g) command outcome h' t' w is_observable = let most = recorded_count p config h t b x broker_tier g command outcome h' t' w in omega (arith, most)
  row_told p config h t b x broker_tier (Copies g copy next) command outcome h' t' w is_observable = copying_told h t b x broker_tier g copy next command outcome h' t' w is_observable
  row_told p config h t b x broker_tier (Seeks g next) command outcome h' t' w is_observable = let most = seeking_count p h t b x broker_tier g next command outcome h' t' w in omega (arith, most)
  row_told p config h t b x broker_tier (Dates g cursor next) command outcome h' t' w is_observable =
      let most = dating_count p h t b x broker_tier g cursor next command outcome h' t' w in omega (arith, most)
  row_told p config h t b x broker_tier (Expires g segment next) command outcome h' t' w is_observable = deleting_told h t b x g segment next command outcome h' t' w is_observable
  row_told p config h t b x broker_tier (Rebuilds g next) command outcome h' t' w is_observable = let most = rebuilding_count p h t b x broker_tier g next command outcome h' t' w in omega (arith, most)

  -- memory ran out
  halts_count : (h : PartitionState D) (t : RemoteTier S M) (b : ℕ) (x : Node D) (broker_tier : BrokerTierState) (t' : RemoteTier S M) → HaltsSome disk store meta h t b x broker_tier t' → IsTrue (meta.content t.meta).is_observable → count meta t'.meta ≤ count meta t.meta
  halts_count h t b x broker_tier t' (inl halts) is_observable = keeps_count meta t.meta t'.meta halts.reads.content
  halts_count h t b x broker_tier t' (inr (inl (copy, next, wants))) is_observable =
      copy_wants store meta copy (origin_of h b) next wants.error (tiers_of broker_tier.view t) (tiers_of wants.view t') wants.row is_observable
  halts_count h t b x broker_tier t' (inr (inr (inl (p, offset, limit, next, wants)))) is_observable =
      fetch_wants store meta (wanted_of p x offset limit) (line_of x) next wants.error (fetch_tiers broker_tier.view broker_tier.cache t) (fetch_tiers wants.view wants.cache t') wants.row
  halts_count h t b x broker_tier t' (inr (inr (inr (inl (segment, next, wants))))) is_observable =
      expiry_wants store meta segment (origin_of h b) next wants.error (expiry_tiers t) (expiry_tiers t') wants.row is_observable
  halts_count h t b x broker_tier t' (inr (inr (inr (inr (inl (line, asked, cursor, next, wants)))))) is_observable =
      time_wants store meta asked line cursor next wants.error (fetch_tiers broker_tier.view broker_tier.cache t) (fetch_tiers wants.view wants.cache t')
      wants.row
  halts_count h t b x broker_tier t' (inr (inr (inr (inr (inr (p, g, wants)))))) is_observable =
      same_count meta t.meta t'.meta (ap (λ (k : RemoteTier S M). k.meta) wants.after)

  stays_count : (h : PartitionState D) (t : RemoteTier S M) (b : ℕ) (h' : PartitionState D) (t' : RemoteTier S M) → StaysSome disk store meta h t b h' t' → IsTrue (meta.content t.meta).is_observable → count meta t'.meta ≤ count meta t.meta
  stays_count h t b h' t' (inl same) is_observable = same_count meta t.meta t'.meta (ap (λ (k : RemoteTier S M). k.meta) same.1)
  stays_count h t b h' t' (inr (same, at)) is_observable =
      let x = some_of (λ x. AtBrokerTier t b (λ broker_tier. HaltsSome disk store meta h t b x broker_tier t')) (slice_get h.nodes b) at in
      let broker_tier = some_of (λ broker_tier. HaltsSome disk store meta h t b x.0 broker_tier t') (slice_get t.broker_tiers b) x.2 in
      halts_count h t b x.0 broker_tier.0 t' broker_tier.2 is_observable

-- how many metadata events the commands of a list may append yet
abbrev left_of : ActorList → ActorState → ℕ
left_of l actor_state = 2 * (length l.orders - actor_state.number) - told_by actor_state.in_progress

actor_state_told : (l : ActorList) (actor_state : ActorState) (outcome : Outcome) (old new : ℕ) → actor_state.number < length l.orders → new + told_by actor_state.in_progress ≤ old + told_after actor_state.in_progress outcome
    → new + left_of l (actor_state_after actor_state outcome) ≤ old + left_of l actor_state
actor_state_told l actor_state (Answers answer) old new lt told = let few = few_told actor_state.in_progress in omega (arith, lt, few, told)
actor_state_told l actor_state (Begins g) old new lt told = let few = few_told actor_state.in_progress in omega (arith, lt, few, told)
actor_state_told l actor_state (Chose copy) old new lt told = let few = few_told actor_state.in_progress in let after = few_told (chosen actor_state.in_progress copy) in omega (arith, lt, few, after, told)
actor_state_told l actor_state (Goes next) old new lt told = let few = few_told actor_state.in_progress in let after = few_told (moved actor_state.in_progress next) in omega (arith, lt, few, after, told)
actor_state_told l actor_state (Sought next) old new lt told = let few = few_told actor_state.in_progress in let after = few_told (sought actor_state.in_progress next) in omega (arith, lt, few, after, told)
actor_state_told l actor_state (Dated cursor next) old new lt told =
    let few = few_told actor_state.in_progress in let after = few_told (dated actor_state.in_progress cursor next) in omega (arith, lt, few, after, told)
actor_state_told l actor_state (ChoosesExpired segment) old new lt told = let few = few_told actor_state.in_progress in let after = few_told (expired_segment actor_state.in_progress segment) in omega (arith, lt, few, after, told)
actor_state_told l actor_state (Deletes next) old new lt told = let few = few_told actor_state.in_progress in let after = few_told (deleting actor_state.in_progress next) in omega (arith, lt, few, after, told)
actor_state_told l actor_state (Rebuilding next) old new lt told = let few = few_told actor_state.in_progress in let after = few_told (rebuilding actor_state.in_progress next) in omega (arith, lt, few, after, told)

desk_told : (lists : List ActorList) (desk : List ActorState) (i : ℕ) (l : ActorList) (actor_state after : ActorState) (old new : ℕ) → slice_get lists i ≡ Some l → slice_get desk i ≡ Some actor_state
    → new + left_of l after ≤ old + left_of l actor_state → new + notes_left lists (slice_set desk i after) ≤ old + notes_left lists desk
desk_told [] desk i l actor_state after old new at to told = absurd cc
desk_told (k ∷ lists) [] i l actor_state after old new at to told = absurd cc
desk_told (k ∷ lists) (s ∷ desk) zero l actor_state after old new at to told =
    let one : l ≡ k = cc in
    let two : s ≡ actor_state = cc in
    omega (arith, told, ap (λ (m : ActorList). left_of m after) one, ap (λ (m : ActorList). left_of m actor_state) one, ap (λ (t : ActorState). left_of k t) two)
desk_told (k ∷ lists) (s ∷ desk) (suc i) l actor_state after old new at to told = let h = desk_told lists desk i l actor_state after old new at to told in omega (arith, h)

got_low : {A : Type 0} (xs : List A) (i : ℕ) (x : A) → slice_get xs i ≡ Some x → i < length xs
got_low [] i x at = absurd cc
got_low (y ∷ xs) zero x at = omega arith
got_low (y ∷ xs) (suc i) x at = let h = got_low xs i x at in omega (arith, h)

module _ {D S M : Type 0} (disk : DiskGhosts D) (store : StoreGhosts S) (meta : MetaGhosts M) where
  -- a turn leaves no more metadata events to come than there were, with those that there are
  pub notes_few : (w : Whole D S M) (a : ℕ) (outcome : Outcome) (w' : Whole D S M) → IsTurn disk store meta w a outcome w' → IsTrue (meta.content w.tier.meta).is_observable
      → length (meta.content w'.tier.meta).notes + notes_left w'.lists w'.desk ≤ length (meta.content w.tier.meta).notes + notes_left w.lists w.desk
  notes_few w a outcome w' t is_observable =
      let r = row_of disk store meta w.partition w.config w.partition_state w.tier t.order.broker.0 t.actor_state.in_progress t.order.command outcome w'.partition_state w'.tier t.row in
      let told = row_told disk store meta w.partition w.config w.partition_state w.tier t.order.broker.0 r.x r.broker_tier t.actor_state.in_progress t.order.command outcome w'.partition_state w'.tier r.row is_observable in
      let low = got_low t.list.orders t.actor_state.number t.order t.next in
      let after = actor_state_after t.actor_state outcome in
      let actor_state = actor_state_told t.list t.actor_state outcome (count meta w.tier.meta) (count meta w'.tier.meta) low told in
      let desk = desk_told w.lists w.desk t.place t.list t.actor_state after (count meta w.tier.meta) (count meta w'.tier.meta) t.at.list t.at.actor_state_is actor_state in
      let lists = ap (λ (ls : List ActorList). notes_left ls w'.desk) t.lists in
      let is = ap (λ (d : List ActorState). notes_left w.lists d) t.desk in
      omega (arith, desk, lists, is)

  -- so does one that ran out of memory
  pub notes_stay : (w : Whole D S M) (a : ℕ) (w' : Whole D S M) → StaysWhole disk store meta w a w' → IsTrue (meta.content w.tier.meta).is_observable
      → length (meta.content w'.tier.meta).notes + notes_left w'.lists w'.desk ≤ length (meta.content w.tier.meta).notes + notes_left w.lists w.desk
  notes_stay w a w' t is_observable =
      let stays = stays_some disk store meta w.partition w.partition_state w.tier t.order.broker.0 t.actor_state.in_progress t.order.command w'.partition_state w'.tier t.tier in
      let most = stays_count disk store meta w.partition_state w.tier t.order.broker.0 w'.partition_state w'.tier stays is_observable in
      let lists : w'.lists ≡ w.lists = ap (λ (v : Whole D S M). v.lists) t.fields in
      let desk : w'.desk ≡ w.desk = ap (λ (v : Whole D S M). v.desk) t.fields in
      let one = ap (λ (ls : List ActorList). notes_left ls w'.desk) lists in
      let two = ap (λ (d : List ActorState). notes_left w.lists d) desk in
      omega (arith, most, one, two)
