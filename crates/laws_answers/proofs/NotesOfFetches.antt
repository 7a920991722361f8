-- A turn appends metadata events to the metadata log, or leaves it as it is.
use Rattle.std.proofs.Common.{◌≡◌, inl, inr, sym, ap, subst, ℕ, Bool, true, false, List, [], ◌∷◌, Ok}
use Rattle.std.specs.Prelude.{IsTrue, ℤ}
use mathlib.Core.List.{IsPrefix}
use Rattle.tier_base.specs.declared.names.PartitionId.{PartitionId}
use Rattle.tier_base.specs.Device.{Fate}
use Rattle.disk_model.specs.declared.disk.Disk.{Ghosts as DiskGhosts}
use Rattle.object_store.specs.declared.store.Store.{Ghosts as StoreGhosts}
use Rattle.meta_log.specs.declared.log.MetaLog.{Ghosts as MetaGhosts}
use Rattle.meta_log.specs.declared.event_origin.EventOrigin.{EventOrigin}
use Rattle.meta_log.specs.Calls.{AppendsToMetaLog}
use Rattle.meta_log.specs.Content.{appended_if}
use Rattle.log_terms.proofs.Lists.{prefix_self, prefix_more}
use Rattle.segment_meta.specs.declared.note.Note.{Note}
use Rattle.remote_view.specs.Fold.{EntriesSeen as View}
use Rattle.copy_task.specs.Copying.{Copied, start_note, finish_note}
use Rattle.copy_task.specs.Turns.{Tiers, StartRow, FinishRow, CheckRow, CopyTurnRow}
use Rattle.copy_task.specs.declared.turn.CopyStep.{CopyStep}
use Rattle.copy_task.specs.declared.turn.CopyStep.TheVariants.{Start, Put, Finish, Check, Delete}
use Rattle.expiry_task.specs.Turns as expiring
use Rattle.expiry_task.specs.declared.turn.ExpiredSegment.{ExpiredSegment}
use Rattle.expiry_task.specs.declared.turn.DeletionStep.{DeletionStep as Deletion}
use Rattle.expiry_task.specs.declared.turn.DeletionStep.TheVariants as deletion
use Rattle.rebuild_task.specs.declared.turn.RebuildStep.{RebuildStep as Rebuild}
use Rattle.rebuild_task.specs.declared.turn.RebuildStep.TheVariants.{Epochs, Restart}
use Rattle.tier_fetch.specs.Turns.{Tiers as FetchTiers, RefreshRow, RemoteFetchRow}
use Rattle.plain_log.specs.declared.turn.Turn.{Turn}
use Rattle.plain_log.specs.declared.turn.Turn.TheVariants.{Ends}
use Rattle.tier_fetch.specs.declared.turn.FetchStep.{FetchStep as Search}
use Rattle.tier_fetch.specs.declared.turn.FetchStep.TheVariants.{Refresh, Index, Log}
use Rattle.tier_fetch.specs.declared.turn.FetchRequest.{FetchRequest}
use Rattle.time_find.specs.declared.turn.Asked.{Asked}
use Rattle.time_find.specs.declared.turn.SearchStep.{SearchStep as Dating}
use Rattle.time_find.specs.declared.turn.SearchStep.TheVariants as dating
use Rattle.time_find.specs.Turns.{SeekRow, TimeRow}
use Rattle.plain_log.specs.declared.answer.Answer.TheVariants.{Down, NotLeader, CopyOff, MetaFault, Stopped, OutOfRange, Empty, NoOffset}
use Rattle.plain_log.specs.declared.command.Command.{Command}
use Rattle.plain_log.specs.declared.command.Command.TheVariants.{Copy, Trim, Expire, Fetch, Join, Offset}
use Rattle.plain_log.specs.declared.command.Which.TheVariants.{LatestTiered, At}
use Rattle.plain_log.specs.declared.command.Config.{Config}
use Rattle.laws_partition.specs.declared.start_snapshot.StartSnapshot.{StartSnapshot}
use Rattle.partition_commands.specs.declared.partition_state.Node.{Node}
use Rattle.partition_commands.specs.declared.partition_state.PartitionState.{PartitionState}
use Rattle.partition_commands.specs.Partition.{line_of, local_of}
use Rattle.partition_world.specs.declared.tier.BrokerTierState.{BrokerTierState}
use Rattle.partition_world.specs.declared.tier.RemoteTier.{RemoteTier}
use Rattle.partition_world.specs.declared.actor_state.Outcome.{Outcome}
use Rattle.partition_world.specs.declared.actor_state.Outcome.TheVariants.{Answers, Begins, Seeks as Sought, Dates as Dated, Rebuilds as Rebuilding}
use Rattle.partition_world.specs.declared.actor_state.InProgress.{InProgress}
use Rattle.partition_world.specs.declared.actor_state.InProgress.TheVariants.{Idle, Noted, Copies, Seeks, Dates, Expires, Rebuilds}
use Rattle.partition_world.specs.TurnsOfCopy.{LeadersFirstRow, CopyFirstRow, ChooseRow, tiers_of, origin_of}
use Rattle.partition_world.specs.TurnsOfDate.{SearchRow, SearchesOn, DateOnRow, asked_of, is_own, resumed_at, resumed_with}
use Rattle.partition_world.specs.TurnsOfExpiry.{expiry_tiers}
use Rattle.partition_world.specs.TurnsOfFetch.{FetchOnRow, GoesOnFetch, fetch_tiers, wanted_of}
use Rattle.partition_world.specs.TurnsOfTrim.{TrimFirstRow}
use Rattle.partition_world.specs.TurnsOfRebuild.{RefreshedRow}
use Rattle.partition_world.specs.Turns.{BeginRow, ContinuedRow, CopyLaterRow, SeekingRow, DatingRow, DeletingRow, RebuildingRow, Row}

same_notes : (old new : List Note) → new ≡ old → IsPrefix old new
same_notes old new is = subst (IsPrefix old) (sym is) (prefix_self old)

appended : (done : Bool) (note : Note) (notes : List Note) → IsPrefix notes (appended_if done note notes)
appended true note notes = prefix_more notes notes (note ∷ []) (prefix_self notes)
appended false note notes = prefix_self notes

module _ {M : Type 0} (meta : MetaGhosts M) where
  -- the first ones of its metadata events are those of another metadata log
  abbrev pub Begin : M → M → Type 0
  Begin old new = IsPrefix (meta.content old).notes (meta.content new).notes

  appends : (note : Note) (fate : Fate) (old new : M) → AppendsToMetaLog meta.content meta.control note fate old new → IsTrue (meta.content old).is_observable → Begin old new
  appends note fate old new a is_observable =
      let g = a.content.notes is_observable in subst (IsPrefix (meta.content old).notes) (sym g.2) (appended g.0 note (meta.content old).notes)

  same_log : (old new : M) → new ≡ old → Begin old new
  same_log old new is = same_notes (meta.content old).notes (meta.content new).notes (ap (λ (m : M). (meta.content m).notes) is)

  start_notes : (copy : Copied) (origin : EventOrigin) (turn : Turn CopyStep) (old new : M) → IsTrue (meta.content old).is_observable → StartRow meta.content meta.control copy origin (Ok turn) old new → Begin old new
  start_notes copy origin (Ends MetaFault) old new is_observable row = appends (start_note copy origin) _ old new row is_observable
  start_notes copy origin turn old new is_observable row = appends (start_note copy origin) _ old new row.1 is_observable

  finish_notes : (copy : Copied) (origin : EventOrigin) (turn : Turn CopyStep) (old new : M) → IsTrue (meta.content old).is_observable → FinishRow meta.content meta.control copy origin (Ok turn) old new → Begin old new
  finish_notes copy origin (Ends MetaFault) old new is_observable row = appends (finish_note copy origin) _ old new row is_observable
  finish_notes copy origin turn old new is_observable row = appends (finish_note copy origin) _ old new row.1 is_observable

  check_notes : (copy : Copied) (turn : Turn CopyStep) (before after : View) (old new : M) → CheckRow meta.content meta.control copy (Ok turn) before after old new → Begin old new
  check_notes copy (Ends MetaFault) before after old new row = same_notes _ _ row.content.notes
  check_notes copy turn before after old new row = same_notes _ _ row.1.content.notes

  refresh_notes : (wanted : FetchRequest) (line : List (ℕ × ℕ)) (turn : Turn Search) (before after : View) (old new : M) → RefreshRow meta.content meta.control wanted line (Ok turn) before after old new → Begin old new
  refresh_notes wanted line (Ends MetaFault) before after old new row = same_notes _ _ row.content.notes
  refresh_notes wanted line turn before after old new row = same_notes _ _ row.1.content.notes

  seek_notes : (asked : Asked) (line : List (ℕ × ℕ)) (cursor : ℕ) (turn : Turn (ℕ × Dating)) (before after : View) (old new : M)
      → SeekRow meta.content meta.control asked line cursor (Ok turn) before after old new
      → Begin old new
  seek_notes asked line cursor (Ends MetaFault) before after old new row = same_notes _ _ row.content.notes
  seek_notes asked line cursor turn before after old new row = same_notes _ _ row.1.content.notes

  begin_notes : (segment : ExpiredSegment) (origin : EventOrigin) (turn : Turn Deletion) (old new : M) → IsTrue (meta.content old).is_observable → expiring.StartRow meta.content meta.control segment origin (Ok turn) old new → Begin old new
  begin_notes segment origin (Ends MetaFault) old new is_observable row = appends _ _ old new row is_observable
  begin_notes segment origin turn old new is_observable row = appends _ _ old new row.1 is_observable

  end_notes : (segment : ExpiredSegment) (origin : EventOrigin) (turn : Turn Deletion) (old new : M) → IsTrue (meta.content old).is_observable → expiring.FinishRow meta.content meta.control segment origin (Ok turn) old new → Begin old new
  end_notes segment origin (Ends MetaFault) old new is_observable row = appends _ _ old new row is_observable
  end_notes segment origin turn old new is_observable row = appends _ _ old new row.1 is_observable

module _ {S M : Type 0} (store : StoreGhosts S) (meta : MetaGhosts M) where
  copy_notes : (copy : Copied) (origin : EventOrigin) (next : CopyStep) (turn : Turn CopyStep) (old new : Tiers S M) → IsTrue (meta.content old.meta).is_observable
      → CopyTurnRow store.content store.control meta.content meta.control copy origin next (Ok turn) old new → Begin meta old.meta new.meta
  copy_notes copy origin Start turn old new is_observable row = start_notes meta copy origin turn old.meta new.meta is_observable row.1
  copy_notes copy origin (Put n) turn old new is_observable row = same_log meta old.meta new.meta (ap (λ (t : Tiers S M). t.meta) row.0)
  copy_notes copy origin Finish turn old new is_observable row = finish_notes meta copy origin turn old.meta new.meta is_observable row.1
  copy_notes copy origin Check turn old new is_observable row = check_notes meta copy turn old.view new.view old.meta new.meta row.1
  copy_notes copy origin (Delete n) turn old new is_observable row = same_log meta old.meta new.meta (ap (λ (t : Tiers S M). t.meta) row.0)

  fetch_notes : (wanted : FetchRequest) (line : List (ℕ × ℕ)) (next : Search) (turn : Turn Search) (old new : FetchTiers S M)
      → RemoteFetchRow store.content store.control meta.content meta.control wanted line next (Ok turn) old new → Begin meta old.meta new.meta
  fetch_notes wanted line Refresh turn old new row = refresh_notes meta wanted line turn old.view new.view old.meta new.meta row.1
  fetch_notes wanted line (Index piece) turn old new row = same_log meta old.meta new.meta (ap (λ (t : FetchTiers S M). t.meta) row.0)
  fetch_notes wanted line (Log piece span) turn old new row = same_log meta old.meta new.meta (ap (λ (t : FetchTiers S M). t.meta) row.0)

  time_notes : (asked : Asked) (line : List (ℕ × ℕ)) (cursor : ℕ) (next : Dating) (turn : Turn (ℕ × Dating)) (old new : FetchTiers S M)
      → TimeRow store.content store.control meta.content meta.control asked line cursor next (Ok turn) old new
      → Begin meta old.meta new.meta
  time_notes asked line cursor dating.Seek turn old new row = seek_notes meta asked line cursor turn old.view new.view old.meta new.meta
      row.1
  time_notes asked line cursor (dating.Times piece) turn old new row = same_log meta old.meta new.meta
      (ap (λ (t : FetchTiers S M). t.meta) row.0)
  time_notes asked line cursor (dating.Index piece from) turn old new row = same_log meta old.meta new.meta
      (ap (λ (t : FetchTiers S M). t.meta) row.0)
  time_notes asked line cursor (dating.Log piece from span) turn old new row = same_log meta old.meta new.meta
      (ap (λ (t : FetchTiers S M). t.meta) row.0)

  expiry_notes : (segment : ExpiredSegment) (origin : EventOrigin) (next : Deletion) (turn : Turn Deletion) (old new : expiring.Tiers S M) → IsTrue (meta.content old.meta).is_observable
      → expiring.ExpiryRow store.content store.control meta.content meta.control segment origin next (Ok turn) old new → Begin meta old.meta new.meta
  expiry_notes segment origin deletion.Start turn old new is_observable row = begin_notes meta segment origin turn old.meta new.meta is_observable row.1
  expiry_notes segment origin (deletion.Delete n) turn old new is_observable row = same_log meta old.meta new.meta (ap (λ (t : expiring.Tiers S M). t.meta) row.0)
  expiry_notes segment origin deletion.Finish turn old new is_observable row = end_notes meta segment origin turn old.meta new.meta is_observable row.1

  -- rows of a world

  abbrev pub Appended : RemoteTier S M → RemoteTier S M → Type 0
  Appended t t' = Begin meta t.meta t'.meta

  same_tier : (t t' : RemoteTier S M) → t' ≡ t → Appended t t'
  same_tier t t' is = same_log meta t.meta t'.meta (ap (λ (k : RemoteTier S M). k.meta) is)

  leaders_notes : {D : Type 0} (h : PartitionState D) (t : RemoteTier S M) (b : ℕ) (x : Node D) (broker_tier : BrokerTierState) (outcome : Outcome) (t' : RemoteTier S M) → LeadersFirstRow meta h t b x broker_tier outcome t' → Appended t t'
  leaders_notes h t b x broker_tier (Answers Down) t' row = same_tier t t' row.1
  leaders_notes h t b x broker_tier (Answers NotLeader) t' row = same_tier t t' row.2
  leaders_notes h t b x broker_tier (Answers MetaFault) t' row = same_notes _ _ row.2.reads.content.notes
  leaders_notes h t b x broker_tier (Begins g) t' row = same_notes _ _ row.3.reads.content.notes
  leaders_notes h t b x broker_tier other t' row = elim row [ ]

  first_notes : {D : Type 0} (h : PartitionState D) (t : RemoteTier S M) (b : ℕ) (x : Node D) (broker_tier : BrokerTierState) (outcome : Outcome) (t' : RemoteTier S M) → CopyFirstRow meta h t b x broker_tier outcome t' → Appended t t'
  first_notes h t b x broker_tier (Answers CopyOff) t' row = same_tier t t' row.3
  first_notes h t b x broker_tier (Answers MetaFault) t' row = leaders_notes h t b x broker_tier (Answers MetaFault) t' row.0
  first_notes h t b x broker_tier (Begins g) t' row = leaders_notes h t b x broker_tier (Begins g) t' row.0
  first_notes h t b x broker_tier other t' row = leaders_notes h t b x broker_tier other t' row

  trim_notes : {D : Type 0} (h : PartitionState D) (t : RemoteTier S M) (b : ℕ) (x : Node D) (broker_tier : BrokerTierState) (outcome : Outcome) (t' : RemoteTier S M) → TrimFirstRow meta h t b x broker_tier outcome t' → Appended t t'
  trim_notes h t b x broker_tier (Answers Down) t' row = same_tier t t' row.1
  trim_notes h t b x broker_tier (Answers MetaFault) t' row = same_notes _ _ row.1.reads.content.notes
  trim_notes h t b x broker_tier (Begins g) t' row = same_notes _ _ row.2.reads.content.notes
  trim_notes h t b x broker_tier other t' row = elim row [ ]

module _ {D S M : Type 0} (disk : DiskGhosts D) (store : StoreGhosts S) (meta : MetaGhosts M) where
  abbrev Goes : RemoteTier S M → RemoteTier S M → Type 0
  Goes t t' = Appended store meta t t'

  begin_row : (h : PartitionState D) (t : RemoteTier S M) (b : ℕ) (x : Node D) (broker_tier : BrokerTierState) (command : Command) (outcome : Outcome) (h' : PartitionState D) (t' : RemoteTier S M)
      → BeginRow disk store meta h t b x broker_tier command outcome h' t' → Goes t t'
  begin_row h t b x broker_tier Copy outcome h' t' row = first_notes store meta h t b x broker_tier outcome t' row.0
  begin_row h t b x broker_tier Trim outcome h' t' row = trim_notes store meta h t b x broker_tier outcome t' row.0
  begin_row h t b x broker_tier Expire outcome h' t' row = leaders_notes store meta h t b x broker_tier outcome t' row.0
  begin_row h t b x broker_tier (Offset LatestTiered) outcome h' t' row = leaders_notes store meta h t b x broker_tier outcome t' row.0
  begin_row h t b x broker_tier (Offset (At ts)) outcome h' t' row = leaders_notes store meta h t b x broker_tier outcome t' row.0
  begin_row h t b x broker_tier other outcome h' t' row = same_tier store meta t t' row.1

  choose_row : (p : PartitionId) (h : PartitionState D) (t : RemoteTier S M) (b : ℕ) (x : Node D) (broker_tier : BrokerTierState) (g : StartSnapshot) (outcome : Outcome) (h' : PartitionState D) (t' : RemoteTier S M)
      → ChooseRow disk p h t b x broker_tier g outcome h' t' → Goes t t'
  choose_row p h t b x broker_tier g outcome h' t' (inl lost) = same_tier store meta t t' lost.3
  choose_row p h t b x broker_tier g outcome h' t' (inr (keeps, inl level)) = same_tier store meta t t' level.3
  choose_row p h t b x broker_tier g outcome h' t' (inr (keeps, inr n)) = same_log meta t.meta t'.meta (ap (λ (k : RemoteTier S M). k.meta) n.tier)

  seeks_row : (p : PartitionId) (t : RemoteTier S M) (b : ℕ) (x : Node D) (broker_tier : BrokerTierState) (offset limit : ℕ) (next : Search) (turn : Turn Search) (t' : RemoteTier S M)
      → GoesOnFetch store meta p t b x broker_tier offset limit next turn t' → Goes t t'
  seeks_row p t b x broker_tier offset limit next turn t' goes =
      fetch_notes store meta (wanted_of p x offset limit) (line_of x) next turn (fetch_tiers broker_tier.view broker_tier.cache t) (fetch_tiers goes.view goes.cache t') goes.row

  fetch_row : (p : PartitionId) (h : PartitionState D) (t : RemoteTier S M) (b : ℕ) (x : Node D) (broker_tier : BrokerTierState) (g : StartSnapshot) (offset limit : ℕ) (next : Search) (outcome : Outcome) (t' : RemoteTier S M)
      → FetchOnRow store meta p h t b x broker_tier g offset limit next outcome t' → Goes t t'
  fetch_row p h t b x broker_tier g offset limit next (Answers Stopped) t' row = same_tier store meta t t' row.1
  fetch_row p h t b x broker_tier g offset limit next (Answers NotLeader) t' row = same_tier store meta t t' row.3
  fetch_row p h t b x broker_tier g offset limit next (Answers (OutOfRange start end)) t' row = same_tier store meta t t' row.4
  fetch_row p h t b x broker_tier g offset limit next (Answers Empty) t' row = same_tier store meta t t' row.3
  fetch_row p h t b x broker_tier g offset limit next (Answers answer) t' row = seeks_row p t b x broker_tier offset limit next _ t' row.1
  fetch_row p h t b x broker_tier g offset limit next (Sought later) t' row = seeks_row p t b x broker_tier offset limit next _ t' row.1
  fetch_row p h t b x broker_tier g offset limit next other t' row = elim row [ ]

  search_row : (h : PartitionState D) (t : RemoteTier S M) (b : ℕ) (x : Node D) (broker_tier : BrokerTierState) (asked : Asked) (cursor : ℕ) (next : Dating) (own : Bool)
      (turn : Turn (ℕ × Dating)) (h' : PartitionState D) (t' : RemoteTier S M)
      → SearchRow disk store meta h t b x broker_tier asked cursor next own turn h' t' → Goes t t'
  search_row h t b x broker_tier asked cursor next true turn h' t' row = same_tier store meta t t' row.1
  search_row h t b x broker_tier asked cursor next false turn h' t' row =
      time_notes store meta asked (line_of x) cursor next turn (fetch_tiers broker_tier.view broker_tier.cache t) (fetch_tiers row.0.view row.0.cache t')
      row.0.row

  dates_row : (p : PartitionId) (h : PartitionState D) (t : RemoteTier S M) (b : ℕ) (x : Node D) (broker_tier : BrokerTierState) (g : StartSnapshot) (ts : ℤ) (cursor : ℕ)
      (next : Dating) (turn : Turn (ℕ × Dating)) (h' : PartitionState D) (t' : RemoteTier S M)
      → SearchesOn disk store meta p h t b x broker_tier g ts cursor next turn h' t' → Goes t t'
  dates_row p h t b x broker_tier g ts cursor next turn h' t' row =
      let on = resumed_at h.registry.start cursor in
      let with = resumed_with h.registry.start cursor next in
      search_row h t b x broker_tier (asked_of p h x ts) on with (is_own (local_of x) on with) turn h' t' row.row

  date_row : (p : PartitionId) (h : PartitionState D) (t : RemoteTier S M) (b : ℕ) (x : Node D) (broker_tier : BrokerTierState) (g : StartSnapshot) (ts : ℤ) (cursor : ℕ)
      (next : Dating) (outcome : Outcome) (h' : PartitionState D) (t' : RemoteTier S M)
      → DateOnRow disk store meta p h t b x broker_tier g ts cursor next outcome h' t' → Goes t t'
  date_row p h t b x broker_tier g ts cursor next (Answers Stopped) h' t' row = same_tier store meta t t' row.2
  date_row p h t b x broker_tier g ts cursor next (Answers NotLeader) h' t' row = same_tier store meta t t' row.4
  date_row p h t b x broker_tier g ts cursor next (Answers NoOffset) h' t' row = same_tier store meta t t' row.3
  date_row p h t b x broker_tier g ts cursor next (Answers answer) h' t' row = dates_row p h t b x broker_tier g ts cursor next _ h' t' row
  date_row p h t b x broker_tier g ts cursor next (Dated to later) h' t' row = dates_row p h t b x broker_tier g ts cursor next _ h' t' row.0
  date_row p h t b x broker_tier g ts cursor next other h' t' row = elim row [ ]

  refreshed_row : (t : RemoteTier S M) (b : ℕ) (broker_tier : BrokerTierState) (outcome : Outcome) (t' : RemoteTier S M) → RefreshedRow meta t b broker_tier outcome t' → Goes t t'
  refreshed_row t b broker_tier (Answers MetaFault) t' row = same_notes _ _ row.reads.content.notes
  refreshed_row t b broker_tier (Rebuilding Epochs) t' row = same_notes _ _ row.reads.content.notes
  refreshed_row t b broker_tier other t' row = elim row [ ]

  recorded_row : (p : PartitionId) (config : Config) (h : PartitionState D) (t : RemoteTier S M) (b : ℕ) (x : Node D) (broker_tier : BrokerTierState) (g : StartSnapshot) (command : Command) (outcome : Outcome) (h' : PartitionState D) (t' : RemoteTier S M)
      → ContinuedRow disk store meta p config h t b x broker_tier g command outcome h' t' → Goes t t'
  recorded_row p config h t b x broker_tier g Copy outcome h' t' row = choose_row p h t b x broker_tier g outcome h' t' row
  recorded_row p config h t b x broker_tier g Trim outcome h' t' row = same_tier store meta t t' row.1
  recorded_row p config h t b x broker_tier g Expire outcome h' t' row = same_tier store meta t t' row.1
  recorded_row p config h t b x broker_tier g (Fetch offset limit) outcome h' t' row = fetch_row p h t b x broker_tier g offset limit Refresh outcome t' row.0
  recorded_row p config h t b x broker_tier g Join outcome h' t' (inl (low, own)) = same_tier store meta t t' own.1
  recorded_row p config h t b x broker_tier g Join outcome h' t' (inr (high, inl (answer, is, once, tier), same)) = same_tier store meta t t' tier
  recorded_row p config h t b x broker_tier g Join outcome h' t' (inr (high, inr (may, row), same)) = refreshed_row t b broker_tier outcome t' row
  recorded_row p config h t b x broker_tier g (Offset LatestTiered) outcome h' t' row = same_tier store meta t t' row.2
  recorded_row p config h t b x broker_tier g (Offset (At ts)) outcome h' t' row = date_row p h t b x broker_tier g ts 0 dating.Seek outcome h' t' row
  recorded_row p config h t b x broker_tier g other outcome h' t' row = same_tier store meta t t' row.1

  copying_row : (h : PartitionState D) (t : RemoteTier S M) (b : ℕ) (x : Node D) (broker_tier : BrokerTierState) (g : StartSnapshot) (copy : Copied) (next : CopyStep) (command : Command) (outcome : Outcome) (h' : PartitionState D) (t' : RemoteTier S M)
      → IsTrue (meta.content t.meta).is_observable → CopyLaterRow store meta h t b x broker_tier g copy next command outcome h' t' → Goes t t'
  copying_row h t b x broker_tier g copy next Copy outcome h' t' is_observable (inl lost, same) = same_tier store meta t t' lost.2
  copying_row h t b x broker_tier g copy next Copy outcome h' t' is_observable (inr (keeps, (turn, is, goes)), same) =
      copy_notes store meta copy (origin_of h b) next turn (tiers_of broker_tier.view t) (tiers_of goes.view t') is_observable goes.row
  copying_row h t b x broker_tier g copy next other outcome h' t' is_observable row = elim row [ ]

  seeking_row : (p : PartitionId) (h : PartitionState D) (t : RemoteTier S M) (b : ℕ) (x : Node D) (broker_tier : BrokerTierState) (g : StartSnapshot) (next : Search) (command : Command) (outcome : Outcome) (h' : PartitionState D) (t' : RemoteTier S M)
      → SeekingRow store meta p h t b x broker_tier g next command outcome h' t' → Goes t t'
  seeking_row p h t b x broker_tier g next (Fetch offset limit) outcome h' t' row = fetch_row p h t b x broker_tier g offset limit next outcome t' row.0
  seeking_row p h t b x broker_tier g next other outcome h' t' row = elim row [ ]

  dating_row : (p : PartitionId) (h : PartitionState D) (t : RemoteTier S M) (b : ℕ) (x : Node D) (broker_tier : BrokerTierState) (g : StartSnapshot) (cursor : ℕ) (next : Dating)
      (command : Command) (outcome : Outcome) (h' : PartitionState D) (t' : RemoteTier S M)
      → DatingRow disk store meta p h t b x broker_tier g cursor next command outcome h' t' → Goes t t'
  dating_row p h t b x broker_tier g cursor next (Offset (At ts)) outcome h' t' row = date_row p h t b x broker_tier g ts cursor next outcome h' t' row
  dating_row p h t b x broker_tier g cursor next other outcome h' t' row = elim row [ ]

  deleting_row : (h : PartitionState D) (t : RemoteTier S M) (b : ℕ) (x : Node D) (g : StartSnapshot) (segment : ExpiredSegment) (next : Deletion) (command : Command) (outcome : Outcome) (h' : PartitionState D) (t' : RemoteTier S M)
      → IsTrue (meta.content t.meta).is_observable → DeletingRow store meta h t b x g segment next command outcome h' t' → Goes t t'
  deleting_row h t b x g segment next Expire outcome h' t' is_observable (inl lost, same) = same_tier store meta t t' lost.2
  deleting_row h t b x g segment next Expire outcome h' t' is_observable (inr (keeps, (turn, is, goes)), same) =
      expiry_notes store meta segment (origin_of h b) next turn (expiry_tiers t) (expiry_tiers t') is_observable goes.row
  deleting_row h t b x g segment next other outcome h' t' is_observable row = elim row [ ]

  rebuilding_row : (p : PartitionId) (h : PartitionState D) (t : RemoteTier S M) (b : ℕ) (x : Node D) (broker_tier : BrokerTierState) (g : StartSnapshot) (next : Rebuild) (command : Command) (outcome : Outcome) (h' : PartitionState D) (t' : RemoteTier S M)
      → RebuildingRow disk store p h t b x broker_tier g next command outcome h' t' → Goes t t'
  rebuilding_row p h t b x broker_tier g Epochs Join outcome h' t' (inl (answer, is, once, tier), same) = same_tier store meta t t' tier
  rebuilding_row p h t b x broker_tier g Epochs Join outcome h' t' (inr (may, (turn, is, goes)), same) = same_log meta t.meta t'.meta (ap (λ (k : RemoteTier S M). k.meta) goes.after)
  rebuilding_row p h t b x broker_tier g (Restart line) Join outcome h' t' row = same_tier store meta t t' row.1
  rebuilding_row p h t b x broker_tier g next other outcome h' t' row = elim row [ ]

  pub row_notes : (p : PartitionId) (config : Config) (h : PartitionState D) (t : RemoteTier S M) (b : ℕ) (x : Node D) (broker_tier : BrokerTierState) (in_progress : InProgress) (command : Command) (outcome : Outcome) (h' : PartitionState D) (t' : RemoteTier S M)
      → IsTrue (meta.content t.meta).is_observable → Row disk store meta p config h t b x broker_tier in_progress command outcome h' t' → IsPrefix (meta.content t.meta).notes (meta.content t'.meta).notes
  row_notes p config h t b x broker_tier Idle command outcome h' t' is_observable row = begin_row h t b x broker_tier command outcome h' t' row
  row_notes p config h t b x broker_tier (Noted g) command outcome h' t' is_observable row = recorded_row p config h t b x broker_tier g command outcome h' t' row
  row_notes p config h t b x broker_tier (Copies g copy next) command outcome h' t' is_observable row = copying_row h t b x broker_tier g copy next command outcome h' t' is_observable row
  row_notes p config h t b x broker_tier (Seeks g next) command outcome h' t' is_observable row = seeking_row p h t b x broker_tier g next command outcome h' t' row
  row_notes p config h t b x broker_tier (Dates g cursor next) command outcome h' t' is_observable row = dating_row p h t b x broker_tier g cursor next command
      outcome h' t' row
  row_notes p config h t b x broker_tier (Expires g segment next) command outcome h' t' is_observable row = deleting_row h t b x g segment next command outcome h' t' is_observable row
  row_notes p config h t b x broker_tier (Rebuilds g next) command outcome h' t' is_observable row = rebuilding_row p h t b x broker_tier g next command outcome h' t' row
