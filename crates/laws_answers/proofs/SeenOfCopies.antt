-- What a turn does to metadata events and views: it appends a metadata event that deletes nothing but what ends below
-- the log start offset, or none, and a view takes more of them.
use Rattle.std.proofs.Common.{◌≡◌, ◌∙◌, ◌⊎◌, inl, inr, sym, ap, refl, ℕ, Bool, true, false, List, [], ◌∷◌, ◌++◌, Some, Ok, slice_get, slice_set}
use Rattle.std.specs.Prelude.{IsTrue, ℤ}
use Rattle.tier_base.specs.declared.names.PartitionId.{PartitionId}
use Rattle.tier_base.specs.declared.plain.State.TheVariants.{DeleteStarted, DeleteFinished}
use Rattle.disk_model.specs.declared.disk.Disk.{Ghosts as DiskGhosts}
use Rattle.object_store.specs.declared.store.Store.{Ghosts as StoreGhosts}
use Rattle.meta_log.specs.declared.log.MetaLog.{Ghosts as MetaGhosts}
use Rattle.meta_log.specs.declared.event_origin.EventOrigin.{EventOrigin}
use Rattle.meta_log.specs.Content.{Content, AppendsNote, appended_if}
use Rattle.segment_meta.specs.declared.note.Entry.{Entry}
use Rattle.segment_meta.specs.declared.note.Note.{Note}
use Rattle.index_cache.specs.Cache.{Cache}
use Rattle.remote_view.specs.Fold.{EntriesSeen as View, fold}
use Rattle.view_refresh.specs.Refreshing.{fed_all}
use Rattle.copy_task.specs.Copying.{Copied, start_note, finish_note}
use Rattle.copy_task.specs.Turns.{Tiers, StartRow, FinishRow, CheckRow, CopyTurnRow}
use Rattle.copy_task.specs.declared.turn.CopyStep.{CopyStep}
use Rattle.copy_task.specs.declared.turn.CopyStep.TheVariants.{Start, Put, Finish, Check, Delete}
use Rattle.expiry_task.specs.Turns.{note_of, ExpiryRow}
use Rattle.expiry_task.specs.Turns as expiry
use Rattle.expiry_task.specs.declared.turn.ExpiredSegment.{ExpiredSegment}
use Rattle.expiry_task.specs.declared.turn.DeletionStep.{DeletionStep as Deletion}
use Rattle.expiry_task.specs.declared.turn.DeletionStep.TheVariants as deletion
use Rattle.plain_log.specs.declared.turn.Turn.{Turn}
use Rattle.plain_log.specs.declared.turn.Turn.TheVariants.{Ends}
use Rattle.tier_fetch.specs.declared.turn.FetchStep.{FetchStep as Search}
use Rattle.tier_fetch.specs.declared.turn.FetchStep.TheVariants.{Refresh, Index, Log}
use Rattle.tier_fetch.specs.declared.turn.FetchRequest.{FetchRequest}
use Rattle.rebuild_task.specs.declared.turn.RebuildStep.{RebuildStep as Rebuild}
use Rattle.rebuild_task.specs.declared.turn.RebuildStep.TheVariants.{Epochs, Restart}
use Rattle.tier_fetch.specs.Turns.{Tiers as FetchTiers, RefreshRow, RemoteFetchRow}
use Rattle.time_find.specs.declared.turn.Asked.{Asked}
use Rattle.time_find.specs.declared.turn.SearchStep.{SearchStep as Dating}
use Rattle.time_find.specs.declared.turn.SearchStep.TheVariants as dating
use Rattle.time_find.specs.Turns.{SeekRow, TimeRow}
use Rattle.plain_log.specs.declared.answer.Answer.TheVariants.{Down, NotLeader, CopyOff, MetaFault, DiskFault, Damaged, Stopped, OutOfRange, Empty, NoOffset}
use Rattle.plain_log.specs.declared.answer.Place.TheVariants.{File}
use Rattle.plain_log.specs.declared.command.Command.{Command}
use Rattle.plain_log.specs.declared.command.Command.TheVariants.{Copy, Trim, Expire, Fetch, Join, Offset}
use Rattle.plain_log.specs.declared.command.Which.TheVariants.{LatestTiered, At}
use Rattle.plain_log.specs.declared.command.Config.{Config}
use Rattle.laws_partition.specs.declared.start_snapshot.StartSnapshot.{StartSnapshot}
use Rattle.laws_partition.proofs.BoolTests.{some_of}
use Rattle.broker_log.specs.Seen.{incarnation_in}
use Rattle.partition_commands.specs.declared.partition_state.Node.{Node}
use Rattle.partition_commands.specs.declared.partition_state.PartitionState.{PartitionState}
use Rattle.partition_commands.specs.Partition.{line_of, local_of}
use Rattle.partition_world.specs.declared.tier.BrokerTierState.{BrokerTierState}
use Rattle.partition_world.specs.declared.tier.RemoteTier.{RemoteTier}
use Rattle.partition_world.specs.declared.actor_state.Outcome.{Outcome}
use Rattle.partition_world.specs.declared.actor_state.Outcome.TheVariants.{Answers, Begins, Chose, Seeks as Sought, Dates as Dated, Rebuilds as Rebuilding}
use Rattle.partition_world.specs.declared.actor_state.InProgress.{InProgress}
use Rattle.partition_world.specs.declared.actor_state.InProgress.TheVariants.{Idle, Noted, Copies, Seeks, Dates, Expires, Rebuilds}
use Rattle.partition_world.specs.Tier.{counted}
use Rattle.partition_world.specs.TurnsOfCopy.{LeadersFirstRow, CopyFirstRow, ReadSegmentRow, ChooseRow, CopyOnRow, copied_to, tiers_of, origin_of}
use Rattle.partition_world.specs.TurnsOfDate.{SearchRow, SearchesOn, DateOnRow, asked_of, is_own, resumed_at, resumed_with}
use Rattle.partition_world.specs.TurnsOfExpiry.{DeleteOnRow, expiry_tiers}
use Rattle.partition_world.specs.TurnsOfFetch.{FetchOnRow, GoesOnFetch, fetch_tiers, wanted_of}
use Rattle.partition_world.specs.TurnsOfTrim.{TrimFirstRow}
use Rattle.partition_world.specs.TurnsOfRebuild.{RefreshedRow}
use Rattle.partition_world.specs.Turns.{BeginRow, ContinuedRow, CopyLaterRow, SeekingRow, DatingRow, DeletingRow, RebuildingRow, Row}
use Rattle.partition_world.proofs.BrokerTierStates.{set_same}
use Rattle.laws_answers.proofs.NotesOfCopies.{EndsBelow, LeavesBe}

-- no metadata event was appended, or one that deletes nothing but what ends below the log start offset
abbrev pub GoesNotes : ℕ → List Note → List Note → Type 0
GoesNotes start old new = (new ≡ old) ⊎ ((note : Note) × (new ≡ old ++ note ∷ []) × LeavesBe (fold old) start note)

grown : (start : ℕ) (note : Note) (may : Bool → Type 0) (old new : Content) → AppendsNote note may old new → LeavesBe (fold old.notes) start note → IsTrue old.is_observable → GoesNotes start old.notes new.notes
grown start note may old new g be is_observable = by (g.notes is_observable).0 (g.notes is_observable).2
  where
    by : (done : Bool) → new.notes ≡ appended_if done note old.notes → GoesNotes start old.notes new.notes
    by true is = inr (note, is, be)
    by false is = inl is

-- what an expiry deletes ends below the log start offset
abbrev pub ChoosesExpiredBelow : List Entry → ℕ → InProgress → Type 0
ChoosesExpiredBelow es start (Expires g expired_segment next) = EndsBelow es start expired_segment.id
ChoosesExpiredBelow es start other = Unit {0}

module _ {M : Type 0} (meta : MetaGhosts M) (start : ℕ) where
  start_notes : (copy : Copied) (origin : EventOrigin) (turn : Turn CopyStep) (old new : M) → IsTrue (meta.content old).is_observable → StartRow meta.content meta.control copy origin (Ok turn) old new
      → GoesNotes start (meta.content old).notes (meta.content new).notes
  start_notes copy origin (Ends MetaFault) old new is_observable row = grown start (start_note copy origin) _ (meta.content old) (meta.content new) row.content refl is_observable
  start_notes copy origin turn old new is_observable row = grown start (start_note copy origin) _ (meta.content old) (meta.content new) row.1.content refl is_observable

  finish_notes : (copy : Copied) (origin : EventOrigin) (turn : Turn CopyStep) (old new : M) → IsTrue (meta.content old).is_observable → FinishRow meta.content meta.control copy origin (Ok turn) old new
      → GoesNotes start (meta.content old).notes (meta.content new).notes
  finish_notes copy origin (Ends MetaFault) old new is_observable row = grown start (finish_note copy origin) _ (meta.content old) (meta.content new) row.content (inl refl) is_observable
  finish_notes copy origin turn old new is_observable row = grown start (finish_note copy origin) _ (meta.content old) (meta.content new) row.1.content (inl refl) is_observable

  deletion_starts : (expired_segment : ExpiredSegment) (origin : EventOrigin) (turn : Turn Deletion) (old new : M) → IsTrue (meta.content old).is_observable → EndsBelow (fold (meta.content old).notes) start expired_segment.id
      → expiry.StartRow meta.content meta.control expired_segment origin (Ok turn) old new → GoesNotes start (meta.content old).notes (meta.content new).notes
  deletion_starts expired_segment origin (Ends MetaFault) old new is_observable low row = grown start (note_of expired_segment origin DeleteStarted) _ (meta.content old) (meta.content new) row.content (inr low) is_observable
  deletion_starts expired_segment origin turn old new is_observable low row = grown start (note_of expired_segment origin DeleteStarted) _ (meta.content old) (meta.content new) row.1.content (inr low) is_observable

  deletion_ends : (expired_segment : ExpiredSegment) (origin : EventOrigin) (turn : Turn Deletion) (old new : M) → IsTrue (meta.content old).is_observable → EndsBelow (fold (meta.content old).notes) start expired_segment.id
      → expiry.FinishRow meta.content meta.control expired_segment origin (Ok turn) old new → GoesNotes start (meta.content old).notes (meta.content new).notes
  deletion_ends expired_segment origin (Ends MetaFault) old new is_observable low row = grown start (note_of expired_segment origin DeleteFinished) _ (meta.content old) (meta.content new) row.content (inr low) is_observable
  deletion_ends expired_segment origin turn old new is_observable low row = grown start (note_of expired_segment origin DeleteFinished) _ (meta.content old) (meta.content new) row.1.content (inr low) is_observable

module _ {S M : Type 0} (meta : MetaGhosts M) (start : ℕ) where
  -- what a turn does to the metadata log, and to the tier state of its broker
  pub record TierGoes (b : ℕ) (broker_tier : BrokerTierState) (t t' : RemoteTier S M) : Type 0 where
    pub notes : GoesNotes start (meta.content t.meta).notes (meta.content t'.meta).notes
    pub after : BrokerTierState
    pub broker_tiers : t'.broker_tiers ≡ slice_set t.broker_tiers b after
    pub fed : List Note
    pub view : after.view ≡ fed_all broker_tier.view fed

  -- nothing
  same_tier : (b : ℕ) (broker_tier : BrokerTierState) (t t' : RemoteTier S M) → slice_get t.broker_tiers b ≡ Some broker_tier → t' ≡ t → TierGoes b broker_tier t t'
  same_tier b broker_tier t t' at is = record {
    notes = inl (ap (λ (k : RemoteTier S M). (meta.content k.meta).notes) is);
    after = broker_tier;
    broker_tiers = ap (λ (k : RemoteTier S M). k.broker_tiers) is ∙ sym (set_same t.broker_tiers b broker_tier at);
    fed = [];
    view = refl;
  }

  leaders_goes : {D : Type 0} (h : PartitionState D) (t : RemoteTier S M) (b : ℕ) (x : Node D) (broker_tier : BrokerTierState) (outcome : Outcome) (t' : RemoteTier S M) → slice_get t.broker_tiers b ≡ Some broker_tier → LeadersFirstRow meta h t b x broker_tier outcome t'
      → TierGoes b broker_tier t t'
  leaders_goes h t b x broker_tier (Answers Down) t' at row = same_tier b broker_tier t t' at row.1
  leaders_goes h t b x broker_tier (Answers NotLeader) t' at row = same_tier b broker_tier t t' at row.2
  leaders_goes h t b x broker_tier (Answers MetaFault) t' at row = record {
    notes = inl row.2.reads.content.notes;
    after = broker_tier;
    broker_tiers = ap (λ (k : RemoteTier S M). k.broker_tiers) row.2.after ∙ sym (set_same t.broker_tiers b broker_tier at);
    fed = [];
    view = refl;
  }
  leaders_goes h t b x broker_tier (Begins g) t' at row = record {
    notes = inl row.3.reads.content.notes;
    after = record broker_tier { view = row.3.view };
    broker_tiers = ap (λ (k : RemoteTier S M). k.broker_tiers) row.3.after;
    fed = row.3.reads.view.notes;
    view = row.3.reads.view.view;
  }
  leaders_goes h t b x broker_tier other t' at row = elim row [ ]

  first_goes : {D : Type 0} (h : PartitionState D) (t : RemoteTier S M) (b : ℕ) (x : Node D) (broker_tier : BrokerTierState) (outcome : Outcome) (t' : RemoteTier S M) → slice_get t.broker_tiers b ≡ Some broker_tier → CopyFirstRow meta h t b x broker_tier outcome t'
      → TierGoes b broker_tier t t'
  first_goes h t b x broker_tier (Answers CopyOff) t' at row = same_tier b broker_tier t t' at row.3
  first_goes h t b x broker_tier (Answers MetaFault) t' at row = leaders_goes h t b x broker_tier (Answers MetaFault) t' at row.0
  first_goes h t b x broker_tier (Begins g) t' at row = leaders_goes h t b x broker_tier (Begins g) t' at row.0
  first_goes h t b x broker_tier other t' at row = leaders_goes h t b x broker_tier other t' at row

  -- a trim's first turn is a refresh
  trim_goes : {D : Type 0} (h : PartitionState D) (t : RemoteTier S M) (b : ℕ) (x : Node D) (broker_tier : BrokerTierState) (outcome : Outcome) (t' : RemoteTier S M) → slice_get t.broker_tiers b ≡ Some broker_tier → TrimFirstRow meta h t b x broker_tier outcome t'
      → TierGoes b broker_tier t t'
  trim_goes h t b x broker_tier (Answers Down) t' at row = same_tier b broker_tier t t' at row.1
  trim_goes h t b x broker_tier (Answers MetaFault) t' at row = record {
    notes = inl row.1.reads.content.notes;
    after = broker_tier;
    broker_tiers = ap (λ (k : RemoteTier S M). k.broker_tiers) row.1.after ∙ sym (set_same t.broker_tiers b broker_tier at);
    fed = [];
    view = refl;
  }
  trim_goes h t b x broker_tier (Begins g) t' at row = record {
    notes = inl row.2.reads.content.notes;
    after = record broker_tier { view = row.2.view };
    broker_tiers = ap (λ (k : RemoteTier S M). k.broker_tiers) row.2.after;
    fed = row.2.reads.view.notes;
    view = row.2.reads.view.view;
  }
  trim_goes h t b x broker_tier other t' at row = elim row [ ]

  -- the metadata events and the view of a later turn
  pub record ViewGoes (t : RemoteTier S M) (broker_tier : BrokerTierState) (view : View) (t' : RemoteTier S M) : Type 0 where
    pub notes : GoesNotes start (meta.content t.meta).notes (meta.content t'.meta).notes
    pub fed : List Note
    pub view_is : view ≡ fed_all broker_tier.view fed

  check_goes : (copy : Copied) (turn : Turn CopyStep) (t : RemoteTier S M) (broker_tier : BrokerTierState) (view : View) (t' : RemoteTier S M) → CheckRow meta.content meta.control copy (Ok turn) broker_tier.view view t.meta t'.meta
      → ViewGoes t broker_tier view t'
  check_goes copy (Ends MetaFault) t broker_tier view t' row = record { notes = inl row.content.notes; fed = []; view_is = row.view }
  check_goes copy turn t broker_tier view t' row = record { notes = inl row.1.content.notes; fed = row.1.view.notes; view_is = row.1.view.view }

  copy_goes : (store : StoreGhosts S) (copy : Copied) (origin : EventOrigin) (next : CopyStep) (turn : Turn CopyStep) (t : RemoteTier S M) (broker_tier : BrokerTierState) (view : View) (t' : RemoteTier S M) → IsTrue (meta.content t.meta).is_observable
      → CopyTurnRow store.content store.control meta.content meta.control copy origin next (Ok turn) (tiers_of broker_tier.view t) (tiers_of view t') → ViewGoes t broker_tier view t'
  copy_goes store copy origin Start turn t broker_tier view t' is_observable row =
      record { notes = start_notes meta start copy origin turn t.meta t'.meta is_observable row.1; fed = []; view_is = ap (λ (k : Tiers S M). k.view) row.0 }
  copy_goes store copy origin (Put n) turn t broker_tier view t' is_observable row =
      record { notes = inl (ap (λ (k : Tiers S M). (meta.content k.meta).notes) row.0); fed = []; view_is = ap (λ (k : Tiers S M). k.view) row.0 }
  copy_goes store copy origin Finish turn t broker_tier view t' is_observable row =
      record { notes = finish_notes meta start copy origin turn t.meta t'.meta is_observable row.1; fed = []; view_is = ap (λ (k : Tiers S M). k.view) row.0 }
  copy_goes store copy origin Check turn t broker_tier view t' is_observable row = check_goes copy turn t broker_tier view t' row.1
  copy_goes store copy origin (Delete n) turn t broker_tier view t' is_observable row =
      record { notes = inl (ap (λ (k : Tiers S M). (meta.content k.meta).notes) row.0); fed = []; view_is = ap (λ (k : Tiers S M). k.view) row.0 }

  -- a fetch's first turn in the remote tier is a refresh; the others leave the metadata log and the view
  refresh_goes : (wanted : FetchRequest) (line : List (ℕ × ℕ)) (turn : Turn Search) (t : RemoteTier S M) (broker_tier : BrokerTierState) (view : View) (t' : RemoteTier S M)
      → RefreshRow meta.content meta.control wanted line (Ok turn) broker_tier.view view t.meta t'.meta → ViewGoes t broker_tier view t'
  refresh_goes wanted line (Ends MetaFault) t broker_tier view t' row = record { notes = inl row.content.notes; fed = []; view_is = row.view }
  refresh_goes wanted line turn t broker_tier view t' row = record { notes = inl row.1.content.notes; fed = row.1.view.notes; view_is = row.1.view.view }

  fetch_goes : (store : StoreGhosts S) (wanted : FetchRequest) (line : List (ℕ × ℕ)) (next : Search) (turn : Turn Search) (t : RemoteTier S M) (broker_tier : BrokerTierState) (view : View) (cache : Cache) (t' : RemoteTier S M)
      → RemoteFetchRow store.content store.control meta.content meta.control wanted line next (Ok turn) (fetch_tiers broker_tier.view broker_tier.cache t) (fetch_tiers view cache t') → ViewGoes t broker_tier view t'
  fetch_goes store wanted line Refresh turn t broker_tier view cache t' row = refresh_goes wanted line turn t broker_tier view t' row.1
  fetch_goes store wanted line (Index piece) turn t broker_tier view cache t' row =
      record {
        notes = inl (ap (λ (k : FetchTiers S M). (meta.content k.meta).notes) row.0);
        fed = [];
        view_is = ap
            (λ (k : FetchTiers S M). k.view) row.0;
      }
  fetch_goes store wanted line (Log piece span) turn t broker_tier view cache t' row =
      record {
        notes = inl (ap (λ (k : FetchTiers S M). (meta.content k.meta).notes) row.0);
        fed = [];
        view_is = ap
            (λ (k : FetchTiers S M). k.view) row.0;
      }

  -- a timestamp lookup refreshes it too, where it looks for a piece; its other turns leave both
  seek_goes : (asked : Asked) (line : List (ℕ × ℕ)) (cursor : ℕ) (turn : Turn (ℕ × Dating)) (t : RemoteTier S M) (broker_tier : BrokerTierState) (view : View)
      (t' : RemoteTier S M)
      → SeekRow meta.content meta.control asked line cursor (Ok turn) broker_tier.view view t.meta t'.meta → ViewGoes t broker_tier view t'
  seek_goes asked line cursor (Ends MetaFault) t broker_tier view t' row = record
      { notes = inl row.content.notes; fed = []; view_is = row.view }
  seek_goes asked line cursor turn t broker_tier view t' row = record
      { notes = inl row.1.content.notes; fed = row.1.view.notes; view_is = row.1.view.view }

  time_goes : (store : StoreGhosts S) (asked : Asked) (line : List (ℕ × ℕ)) (cursor : ℕ) (next : Dating) (turn : Turn (ℕ × Dating)) (t : RemoteTier S M)
      (broker_tier : BrokerTierState) (view : View) (cache : Cache) (t' : RemoteTier S M)
      → TimeRow store.content store.control meta.content meta.control asked line cursor next (Ok turn) (fetch_tiers broker_tier.view broker_tier.cache t)
      (fetch_tiers view cache t') → ViewGoes t broker_tier view t'
  time_goes store asked line cursor dating.Seek turn t broker_tier view cache t' row = seek_goes asked line cursor turn t broker_tier view t' row.1
  time_goes store asked line cursor (dating.Times piece) turn t broker_tier view cache t' row =
      record {
        notes = inl (ap (λ (k : FetchTiers S M). (meta.content k.meta).notes) row.0);
        fed = [];
        view_is = ap
            (λ (k : FetchTiers S M). k.view) row.0;
      }
  time_goes store asked line cursor (dating.Index piece from) turn t broker_tier view cache t' row =
      record {
        notes = inl (ap (λ (k : FetchTiers S M). (meta.content k.meta).notes) row.0);
        fed = [];
        view_is = ap
            (λ (k : FetchTiers S M). k.view) row.0;
      }
  time_goes store asked line cursor (dating.Log piece from span) turn t broker_tier view cache t' row =
      record {
        notes = inl (ap (λ (k : FetchTiers S M). (meta.content k.meta).notes) row.0);
        fed = [];
        view_is = ap
            (λ (k : FetchTiers S M). k.view) row.0;
      }

  -- an expiry's later turns leave the views
  deletion_goes : (store : StoreGhosts S) (expired_segment : ExpiredSegment) (origin : EventOrigin) (next : Deletion) (turn : Turn Deletion) (t t' : RemoteTier S M) → IsTrue (meta.content t.meta).is_observable
      → EndsBelow (fold (meta.content t.meta).notes) start expired_segment.id
      → ExpiryRow store.content store.control meta.content meta.control expired_segment origin next (Ok turn) (expiry_tiers t) (expiry_tiers t')
      → GoesNotes start (meta.content t.meta).notes (meta.content t'.meta).notes
  deletion_goes store expired_segment origin deletion.Start turn t t' is_observable low row = deletion_starts meta start expired_segment origin turn t.meta t'.meta is_observable low row.1
  deletion_goes store expired_segment origin (deletion.Delete n) turn t t' is_observable low row = inl (ap (λ (k : expiry.Tiers S M). (meta.content k.meta).notes) row.0)
  deletion_goes store expired_segment origin deletion.Finish turn t t' is_observable low row = deletion_ends meta start expired_segment origin turn t.meta t'.meta is_observable low row.1

module _ {D S M : Type 0} (disk : DiskGhosts D) (store : StoreGhosts S) (meta : MetaGhosts M) (start : ℕ) where
  -- choosing a segment leaves the view
  read_view : (p : PartitionId) (b : ℕ) (x y : Node D) (broker_tier z : BrokerTierState) (offset : ℕ) (outcome : Outcome) → ReadSegmentRow disk p b x broker_tier offset outcome y z → z.view ≡ broker_tier.view
  read_view p b x y broker_tier z offset (Answers DiskFault) row = ap (λ (k : BrokerTierState). k.view) row.1
  read_view p b x y broker_tier z offset (Answers (Damaged (File name) at)) row = ap (λ (k : BrokerTierState). k.view) row.1
  read_view p b x y broker_tier z offset (Chose copy) row =
      let i = some_of (λ i. z ≡ counted broker_tier i) (incarnation_in x.log) row.2 in ap (λ (k : BrokerTierState). k.view) i.2
  read_view p b x y broker_tier z offset other row = elim row [ ]

  choose_goes : (p : PartitionId) (h : PartitionState D) (t : RemoteTier S M) (b : ℕ) (x : Node D) (broker_tier : BrokerTierState) (g : StartSnapshot) (outcome : Outcome) (h' : PartitionState D) (t' : RemoteTier S M) → slice_get t.broker_tiers b ≡ Some broker_tier
      → ChooseRow disk p h t b x broker_tier g outcome h' t' → TierGoes meta start b broker_tier t t'
  choose_goes p h t b x broker_tier g outcome h' t' at (inl lost) = same_tier meta start b broker_tier t t' at lost.3
  choose_goes p h t b x broker_tier g outcome h' t' at (inr (keeps, inl level)) = same_tier meta start b broker_tier t t' at level.3
  choose_goes p h t b x broker_tier g outcome h' t' at (inr (keeps, inr n)) = record {
    notes = inl (ap (λ (k : RemoteTier S M). (meta.content k.meta).notes) n.tier);
    after = n.broker_tier_after;
    broker_tiers = ap (λ (k : RemoteTier S M). k.broker_tiers) n.tier;
    fed = [];
    view = read_view p b x n.node broker_tier n.broker_tier_after (copied_to x broker_tier h.registry.start) outcome n.row;
  }

  later_goes : (h : PartitionState D) (t : RemoteTier S M) (b : ℕ) (x : Node D) (broker_tier : BrokerTierState) (g : StartSnapshot) (copy : Copied) (next : CopyStep) (outcome : Outcome) (t' : RemoteTier S M) → slice_get t.broker_tiers b ≡ Some broker_tier
      → IsTrue (meta.content t.meta).is_observable → CopyOnRow store meta h t b x broker_tier g copy next outcome t' → TierGoes meta start b broker_tier t t'
  later_goes h t b x broker_tier g copy next outcome t' at is_observable (inl lost) = same_tier meta start b broker_tier t t' at lost.2
  later_goes h t b x broker_tier g copy next outcome t' at is_observable (inr (keeps, (turn, is, goes))) =
      let k = copy_goes meta start store copy (origin_of h b) next turn t broker_tier goes.view t' is_observable goes.row in
      record { notes = k.notes; after = record broker_tier { view = goes.view }; broker_tiers = ap (λ (u : RemoteTier S M). u.broker_tiers) goes.after; fed = k.fed; view = k.view_is }

  begin_goes : (h : PartitionState D) (t : RemoteTier S M) (b : ℕ) (x : Node D) (broker_tier : BrokerTierState) (command : Command) (outcome : Outcome) (h' : PartitionState D) (t' : RemoteTier S M) → slice_get t.broker_tiers b ≡ Some broker_tier
      → BeginRow disk store meta h t b x broker_tier command outcome h' t' → TierGoes meta start b broker_tier t t'
  begin_goes h t b x broker_tier Copy outcome h' t' at row = first_goes meta start h t b x broker_tier outcome t' at row.0
  begin_goes h t b x broker_tier Trim outcome h' t' at row = trim_goes meta start h t b x broker_tier outcome t' at row.0
  begin_goes h t b x broker_tier Expire outcome h' t' at row = leaders_goes meta start h t b x broker_tier outcome t' at row.0
  begin_goes h t b x broker_tier (Offset LatestTiered) outcome h' t' at row = leaders_goes meta start h t b x broker_tier outcome t' at row.0
  begin_goes h t b x broker_tier (Offset (At ts)) outcome h' t' at row = leaders_goes meta start h t b x broker_tier outcome t' at row.0
  begin_goes h t b x broker_tier other outcome h' t' at row = same_tier meta start b broker_tier t t' at row.1

  seeks_goes : (p : PartitionId) (t : RemoteTier S M) (b : ℕ) (x : Node D) (broker_tier : BrokerTierState) (offset limit : ℕ) (next : Search) (turn : Turn Search) (t' : RemoteTier S M)
      → GoesOnFetch store meta p t b x broker_tier offset limit next turn t' → TierGoes meta start b broker_tier t t'
  seeks_goes p t b x broker_tier offset limit next turn t' goes =
      let k = fetch_goes meta start store (wanted_of p x offset limit) (line_of x) next turn t broker_tier goes.view goes.cache t' goes.row in
      record { notes = k.notes; after = record broker_tier { view = goes.view; cache = goes.cache }; broker_tiers = ap (λ (u : RemoteTier S M). u.broker_tiers) goes.after; fed = k.fed; view = k.view_is }

  fetch_on_goes : (p : PartitionId) (h : PartitionState D) (t : RemoteTier S M) (b : ℕ) (x : Node D) (broker_tier : BrokerTierState) (g : StartSnapshot) (offset limit : ℕ) (next : Search) (outcome : Outcome) (t' : RemoteTier S M)
      → slice_get t.broker_tiers b ≡ Some broker_tier → FetchOnRow store meta p h t b x broker_tier g offset limit next outcome t' → TierGoes meta start b broker_tier t t'
  fetch_on_goes p h t b x broker_tier g offset limit next (Answers Stopped) t' at row = same_tier meta start b broker_tier t t' at row.1
  fetch_on_goes p h t b x broker_tier g offset limit next (Answers NotLeader) t' at row = same_tier meta start b broker_tier t t' at row.3
  fetch_on_goes p h t b x broker_tier g offset limit next (Answers (OutOfRange low high)) t' at row = same_tier meta start b broker_tier t t' at row.4
  fetch_on_goes p h t b x broker_tier g offset limit next (Answers Empty) t' at row = same_tier meta start b broker_tier t t' at row.3
  fetch_on_goes p h t b x broker_tier g offset limit next (Answers answer) t' at row = seeks_goes p t b x broker_tier offset limit next _ t' row.1
  fetch_on_goes p h t b x broker_tier g offset limit next (Sought later) t' at row = seeks_goes p t b x broker_tier offset limit next _ t' row.1
  fetch_on_goes p h t b x broker_tier g offset limit next other t' at row = elim row [ ]

  search_goes : (h : PartitionState D) (t : RemoteTier S M) (b : ℕ) (x : Node D) (broker_tier : BrokerTierState) (asked : Asked) (cursor : ℕ) (next : Dating) (own : Bool)
      (turn : Turn (ℕ × Dating)) (h' : PartitionState D) (t' : RemoteTier S M)
      → slice_get t.broker_tiers b ≡ Some broker_tier → SearchRow disk store meta h t b x broker_tier asked cursor next own turn h' t'
      → TierGoes meta start b broker_tier t t'
  search_goes h t b x broker_tier asked cursor next true turn h' t' at row = same_tier meta start b broker_tier t t' at row.1
  search_goes h t b x broker_tier asked cursor next false turn h' t' at row =
      let r = row.0 in
      let k = time_goes meta start store asked (line_of x) cursor next turn t broker_tier r.view r.cache t' r.row in
      record {
        notes = k.notes;
        after = record broker_tier { view = r.view; cache = r.cache };
        broker_tiers = ap (λ (u : RemoteTier S M). u.broker_tiers) r.after;
        fed = k.fed;
        view = k.view_is;
      }

  dates_goes : (p : PartitionId) (h : PartitionState D) (t : RemoteTier S M) (b : ℕ) (x : Node D) (broker_tier : BrokerTierState) (g : StartSnapshot) (ts : ℤ) (cursor : ℕ)
      (next : Dating) (turn : Turn (ℕ × Dating)) (h' : PartitionState D) (t' : RemoteTier S M)
      → slice_get t.broker_tiers b ≡ Some broker_tier → SearchesOn disk store meta p h t b x broker_tier g ts cursor next turn h' t'
      → TierGoes meta start b broker_tier t t'
  dates_goes p h t b x broker_tier g ts cursor next turn h' t' at row =
      let on = resumed_at h.registry.start cursor in
      let with = resumed_with h.registry.start cursor next in
      search_goes h t b x broker_tier (asked_of p h x ts) on with (is_own (local_of x) on with) turn h' t' at row.row

  date_on_goes : (p : PartitionId) (h : PartitionState D) (t : RemoteTier S M) (b : ℕ) (x : Node D) (broker_tier : BrokerTierState) (g : StartSnapshot) (ts : ℤ) (cursor : ℕ)
      (next : Dating) (outcome : Outcome) (h' : PartitionState D) (t' : RemoteTier S M)
      → slice_get t.broker_tiers b ≡ Some broker_tier → DateOnRow disk store meta p h t b x broker_tier g ts cursor next outcome h' t'
      → TierGoes meta start b broker_tier t t'
  date_on_goes p h t b x broker_tier g ts cursor next (Answers Stopped) h' t' at row = same_tier meta start b broker_tier t t' at row.2
  date_on_goes p h t b x broker_tier g ts cursor next (Answers NotLeader) h' t' at row = same_tier meta start b broker_tier t t' at row.4
  date_on_goes p h t b x broker_tier g ts cursor next (Answers NoOffset) h' t' at row = same_tier meta start b broker_tier t t' at row.3
  date_on_goes p h t b x broker_tier g ts cursor next (Answers answer) h' t' at row = dates_goes p h t b x broker_tier g ts cursor next _ h' t' at row
  date_on_goes p h t b x broker_tier g ts cursor next (Dated to later) h' t' at row = dates_goes p h t b x broker_tier g ts cursor next _ h' t' at row.0
  date_on_goes p h t b x broker_tier g ts cursor next other h' t' at row = elim row [ ]

  -- a join's view is refreshed
  refreshed_goes : (t : RemoteTier S M) (b : ℕ) (broker_tier : BrokerTierState) (outcome : Outcome) (t' : RemoteTier S M) → slice_get t.broker_tiers b ≡ Some broker_tier → RefreshedRow meta t b broker_tier outcome t' → TierGoes meta start b broker_tier t t'
  refreshed_goes t b broker_tier (Answers MetaFault) t' at row = record {
    notes = inl row.reads.content.notes;
    after = broker_tier;
    broker_tiers = ap (λ (k : RemoteTier S M). k.broker_tiers) row.after ∙ sym (set_same t.broker_tiers b broker_tier at);
    fed = [];
    view = refl;
  }
  refreshed_goes t b broker_tier (Rebuilding Epochs) t' at row = record {
    notes = inl row.reads.content.notes;
    after = record broker_tier { view = row.view };
    broker_tiers = ap (λ (k : RemoteTier S M). k.broker_tiers) row.after;
    fed = row.reads.view.notes;
    view = row.reads.view.view;
  }
  refreshed_goes t b broker_tier other t' at row = elim row [ ]

  recorded_goes : (p : PartitionId) (config : Config) (h : PartitionState D) (t : RemoteTier S M) (b : ℕ) (x : Node D) (broker_tier : BrokerTierState) (g : StartSnapshot) (command : Command) (outcome : Outcome) (h' : PartitionState D) (t' : RemoteTier S M)
      → slice_get t.broker_tiers b ≡ Some broker_tier → ContinuedRow disk store meta p config h t b x broker_tier g command outcome h' t' → TierGoes meta start b broker_tier t t'
  recorded_goes p config h t b x broker_tier g Copy outcome h' t' at row = choose_goes p h t b x broker_tier g outcome h' t' at row
  recorded_goes p config h t b x broker_tier g Trim outcome h' t' at row = same_tier meta start b broker_tier t t' at row.1
  recorded_goes p config h t b x broker_tier g (Fetch offset limit) outcome h' t' at row = fetch_on_goes p h t b x broker_tier g offset limit Refresh outcome t' at row.0
  recorded_goes p config h t b x broker_tier g Join outcome h' t' at (inl (low, own)) = same_tier meta start b broker_tier t t' at own.1
  recorded_goes p config h t b x broker_tier g Join outcome h' t' at (inr (high, inl (answer, is, once, tier), same)) = same_tier meta start b broker_tier t t' at tier
  recorded_goes p config h t b x broker_tier g Join outcome h' t' at (inr (high, inr (may, row), same)) = refreshed_goes t b broker_tier outcome t' at row
  recorded_goes p config h t b x broker_tier g (Offset LatestTiered) outcome h' t' at row = same_tier meta start b broker_tier t t' at row.2
  recorded_goes p config h t b x broker_tier g (Offset (At ts)) outcome h' t' at row = date_on_goes p h t b x broker_tier g ts 0 dating.Seek outcome h' t'
      at row
  recorded_goes p config h t b x broker_tier g other outcome h' t' at row = same_tier meta start b broker_tier t t' at row.1

  copying_goes : (h : PartitionState D) (t : RemoteTier S M) (b : ℕ) (x : Node D) (broker_tier : BrokerTierState) (g : StartSnapshot) (copy : Copied) (next : CopyStep) (command : Command) (outcome : Outcome) (h' : PartitionState D) (t' : RemoteTier S M)
      → slice_get t.broker_tiers b ≡ Some broker_tier → IsTrue (meta.content t.meta).is_observable → CopyLaterRow store meta h t b x broker_tier g copy next command outcome h' t' → TierGoes meta start b broker_tier t t'
  copying_goes h t b x broker_tier g copy next Copy outcome h' t' at is_observable row = later_goes h t b x broker_tier g copy next outcome t' at is_observable row.0
  copying_goes h t b x broker_tier g copy next other outcome h' t' at is_observable row = elim row [ ]

  seeking_goes : (p : PartitionId) (h : PartitionState D) (t : RemoteTier S M) (b : ℕ) (x : Node D) (broker_tier : BrokerTierState) (g : StartSnapshot) (next : Search) (command : Command) (outcome : Outcome) (h' : PartitionState D) (t' : RemoteTier S M)
      → slice_get t.broker_tiers b ≡ Some broker_tier → SeekingRow store meta p h t b x broker_tier g next command outcome h' t' → TierGoes meta start b broker_tier t t'
  seeking_goes p h t b x broker_tier g next (Fetch offset limit) outcome h' t' at row = fetch_on_goes p h t b x broker_tier g offset limit next outcome t' at row.0
  seeking_goes p h t b x broker_tier g next other outcome h' t' at row = elim row [ ]

  dating_goes : (p : PartitionId) (h : PartitionState D) (t : RemoteTier S M) (b : ℕ) (x : Node D) (broker_tier : BrokerTierState) (g : StartSnapshot) (cursor : ℕ) (next : Dating)
      (command : Command) (outcome : Outcome) (h' : PartitionState D) (t' : RemoteTier S M)
      → slice_get t.broker_tiers b ≡ Some broker_tier → DatingRow disk store meta p h t b x broker_tier g cursor next command outcome h' t'
      → TierGoes meta start b broker_tier t t'
  dating_goes p h t b x broker_tier g cursor next (Offset (At ts)) outcome h' t' at row = date_on_goes p h t b x broker_tier g ts cursor next outcome h'
      t' at row
  dating_goes p h t b x broker_tier g cursor next other outcome h' t' at row = elim row [ ]

  delete_on_goes : (h : PartitionState D) (t : RemoteTier S M) (b : ℕ) (x : Node D) (broker_tier : BrokerTierState) (g : StartSnapshot) (expired_segment : ExpiredSegment) (next : Deletion) (outcome : Outcome) (t' : RemoteTier S M) → slice_get t.broker_tiers b ≡ Some broker_tier
      → IsTrue (meta.content t.meta).is_observable → EndsBelow (fold (meta.content t.meta).notes) start expired_segment.id → DeleteOnRow store meta h t b x g expired_segment next outcome t' → TierGoes meta start b broker_tier t t'
  delete_on_goes h t b x broker_tier g expired_segment next outcome t' at is_observable low (inl lost) = same_tier meta start b broker_tier t t' at lost.2
  delete_on_goes h t b x broker_tier g expired_segment next outcome t' at is_observable low (inr (keeps, (turn, is, goes))) = record {
    notes = deletion_goes meta start store expired_segment (origin_of h b) next turn t t' is_observable low goes.row;
    after = broker_tier;
    broker_tiers = ap (λ (k : RemoteTier S M). k.broker_tiers) goes.after ∙ sym (set_same t.broker_tiers b broker_tier at);
    fed = [];
    view = refl;
  }

  deleting_goes : (h : PartitionState D) (t : RemoteTier S M) (b : ℕ) (x : Node D) (broker_tier : BrokerTierState) (g : StartSnapshot) (expired_segment : ExpiredSegment) (next : Deletion) (command : Command) (outcome : Outcome) (h' : PartitionState D) (t' : RemoteTier S M)
      → slice_get t.broker_tiers b ≡ Some broker_tier → IsTrue (meta.content t.meta).is_observable → EndsBelow (fold (meta.content t.meta).notes) start expired_segment.id
      → DeletingRow store meta h t b x g expired_segment next command outcome h' t' → TierGoes meta start b broker_tier t t'
  deleting_goes h t b x broker_tier g expired_segment next Expire outcome h' t' at is_observable low row = delete_on_goes h t b x broker_tier g expired_segment next outcome t' at is_observable low row.0
  deleting_goes h t b x broker_tier g expired_segment next other outcome h' t' at is_observable low row = elim row [ ]

  rebuilding_goes : (p : PartitionId) (h : PartitionState D) (t : RemoteTier S M) (b : ℕ) (x : Node D) (broker_tier : BrokerTierState) (g : StartSnapshot) (next : Rebuild) (command : Command) (outcome : Outcome) (h' : PartitionState D) (t' : RemoteTier S M)
      → slice_get t.broker_tiers b ≡ Some broker_tier → RebuildingRow disk store p h t b x broker_tier g next command outcome h' t' → TierGoes meta start b broker_tier t t'
  rebuilding_goes p h t b x broker_tier g Epochs Join outcome h' t' at (inl (answer, is, once, tier), same) = same_tier meta start b broker_tier t t' at tier
  rebuilding_goes p h t b x broker_tier g Epochs Join outcome h' t' at (inr (may, (turn, is, goes)), same) = record {
    notes = inl (ap (λ (k : RemoteTier S M). (meta.content k.meta).notes) goes.after);
    after = broker_tier;
    broker_tiers = ap (λ (k : RemoteTier S M). k.broker_tiers) goes.after ∙ sym (set_same t.broker_tiers b broker_tier at);
    fed = [];
    view = refl;
  }
  rebuilding_goes p h t b x broker_tier g (Restart line) Join outcome h' t' at row = same_tier meta start b broker_tier t t' at row.1
  rebuilding_goes p h t b x broker_tier g next other outcome h' t' at row = elim row [ ]

  pub row_goes : (p : PartitionId) (config : Config) (h : PartitionState D) (t : RemoteTier S M) (b : ℕ) (x : Node D) (broker_tier : BrokerTierState) (in_progress : InProgress) (command : Command) (outcome : Outcome) (h' : PartitionState D) (t' : RemoteTier S M)
      → slice_get t.broker_tiers b ≡ Some broker_tier → IsTrue (meta.content t.meta).is_observable → ChoosesExpiredBelow (fold (meta.content t.meta).notes) start in_progress → Row disk store meta p config h t b x broker_tier in_progress command outcome h' t' → TierGoes meta start b broker_tier t t'
  row_goes p config h t b x broker_tier Idle command outcome h' t' at is_observable low row = begin_goes h t b x broker_tier command outcome h' t' at row
  row_goes p config h t b x broker_tier (Noted g) command outcome h' t' at is_observable low row = recorded_goes p config h t b x broker_tier g command outcome h' t' at row
  row_goes p config h t b x broker_tier (Copies g copy next) command outcome h' t' at is_observable low row = copying_goes h t b x broker_tier g copy next command outcome h' t' at is_observable row
  row_goes p config h t b x broker_tier (Seeks g next) command outcome h' t' at is_observable low row = seeking_goes p h t b x broker_tier g next command outcome h' t' at row
  row_goes p config h t b x broker_tier (Dates g cursor next) command outcome h' t' at is_observable low row = dating_goes p h t b x broker_tier g cursor next
      command outcome h' t' at row
  row_goes p config h t b x broker_tier (Expires g expired_segment next) command outcome h' t' at is_observable low row = deleting_goes h t b x broker_tier g expired_segment next command outcome h' t' at is_observable low row
  row_goes p config h t b x broker_tier (Rebuilds g next) command outcome h' t' at is_observable low row = rebuilding_goes p h t b x broker_tier g next command outcome h' t' at row
