-- A turn that finds no memory counts no fault: its call of the store or of the metadata log went, or was not made.
use Rattle.std.proofs.Common.{◌≡◌, ◌⊎◌, inl, inr, ap, refl, ℕ, List, slice_get, Some, None, Option, Ok, Err}
use Rattle.std.specs.Prelude.{IsSomeAnd}
use Rattle.std.specs.declared.result.Result.{Result}
use Rattle.std.specs.declared.alloc.AllocError.{AllocError}
use Rattle.std.specs.Allocator.{alloc_error}
use Rattle.tier_base.specs.Device.{Ran, RanQuietly, Dry, Went, fate_of}
use Rattle.tier_base.specs.declared.fault.Trouble.{Trouble}
use Rattle.tier_base.specs.declared.fault.Trouble.TheVariants.{Failed, NoMemory}
use Rattle.tier_base.specs.declared.object_key.ObjectKey.{ObjectKey}
use Rattle.tier_base.specs.declared.plain.Part.TheVariants as part
use Rattle.disk_model.specs.declared.disk.Disk.{Ghosts as DiskGhosts}
use Rattle.object_store.specs.declared.store.Store.{Ghosts as StoreGhosts}
use Rattle.object_store.specs.declared.call.StoreCall.TheVariants.{Get}
use Rattle.object_store.specs.declared.placing.Spot.{Spot}
use Rattle.meta_log.specs.declared.log.MetaLog.{Ghosts as MetaGhosts}
use Rattle.meta_log.specs.declared.call.MetaCall.TheVariants.{Read}
use Rattle.meta_log.specs.declared.event_origin.EventOrigin.{EventOrigin}
use Rattle.meta_log.specs.Calls.{AppendsToMetaLog}
use Rattle.segment_meta.specs.declared.note.Note.{Note}
use Rattle.sparse_index.specs.Offsets.{OffsetTable}
use Rattle.index_cache.specs.Cache.{Cache, found}
use Rattle.remote_view.specs.Fold.{EntriesSeen as View, entry_of}
use Rattle.remote_find.specs.declared.piece.Piece.{Piece}
use Rattle.view_refresh.specs.Refreshing.{Halted}
use Rattle.copy_task.specs.Copying.{Copied, keys}
use Rattle.copy_task.specs.Turns.{Tiers, PutObjectRow, CopyTurnRow}
use Rattle.copy_task.specs.declared.turn.CopyStep.{CopyStep}
use Rattle.copy_task.specs.declared.turn.CopyStep.TheVariants.{Start, Put, Finish, Check, Delete}
use Rattle.tier_fetch.specs.declared.refusal.RemoteRefusal.{RemoteRefusal}
use Rattle.tier_fetch.specs.declared.refusal.RemoteRefusal.TheVariants as refusal
use Rattle.tier_fetch.specs.declared.reading.RemoteRun.{RemoteRun}
use Rattle.tier_fetch.specs.Turns.{Tiers as Fetched, RemoteFetchRow, IndexRow, LoadRow, LogRow, Loads, CutsRunOut, spot_in, goes_with, ends_with}
use Rattle.tier_fetch.specs.declared.turn.FetchStep.{FetchStep as Search}
use Rattle.tier_fetch.specs.declared.turn.FetchStep.TheVariants as fetching
use Rattle.tier_fetch.specs.declared.turn.Span.{Span}
use Rattle.tier_fetch.specs.declared.turn.FetchRequest.{FetchRequest}
use Rattle.time_find.specs.declared.turn.Asked.{Asked}
use Rattle.time_find.specs.declared.turn.SearchStep.{SearchStep as Dating}
use Rattle.time_find.specs.declared.turn.SearchStep.TheVariants as dating
use Rattle.time_find.specs.Turns.{Times, TimesRow, Indexes, SearchTakes, TimeRow, wanted_at}
use Rattle.time_find.specs.Turns as dates
use Rattle.expiry_task.specs.declared.turn.ExpiredSegment.{ExpiredSegment}
use Rattle.expiry_task.specs.declared.turn.DeletionStep.{DeletionStep as Deletion}
use Rattle.expiry_task.specs.declared.turn.DeletionStep.TheVariants as deletion
use Rattle.expiry_task.specs.Turns as expiring
use Rattle.rebuild_task.specs.declared.turn.RebuildRequest.{RebuildRequest as Rebuilt}
use Rattle.rebuild_task.specs.Turns.{TakesEpochs, EpochsRow, RebuildRow}
use Rattle.partition_commands.specs.declared.partition_state.Node.{Node}
use Rattle.partition_commands.specs.declared.partition_state.PartitionState.{PartitionState}
use Rattle.partition_commands.specs.Disks.{HaveDisks, NoneFails}
use Rattle.partition_commands.specs.Partition.{line_of, put_node, LogRests, KeepsPartition}
use Rattle.partition_commands.proofs.CountingDisks.{Quietly, quiet_same, quiet_put}
use Rattle.laws_partition.proofs.BoolTests.{some_of}
use Rattle.partition_world.specs.declared.tier.BrokerTierState.{BrokerTierState}
use Rattle.partition_world.specs.declared.tier.RemoteTier.{RemoteTier}
use Rattle.partition_world.specs.Answered.{MeetsNoFault}
use Rattle.partition_world.specs.Tier.{AtBrokerTier}
use Rattle.partition_world.specs.Turn.{StaysWhole}
use Rattle.partition_world.specs.TurnsOfCopy.{tiers_of, origin_of}
use Rattle.partition_world.specs.TurnsOfFetch.{fetch_tiers, wanted_of}
use Rattle.partition_world.specs.TurnsOfExpiry.{expiry_tiers}
use Rattle.partition_world.specs.TurnsOfRebuild.{wanted_of as rebuilt_to}
use Rattle.partition_world.specs.Whole.{Whole}
use Rattle.partition_world.proofs.CountingCalls.{StoreStill, MetaStill, store_still, meta_still}
use Rattle.partition_world.proofs.Halting.{HaltsSome, StaysSome, stays_some}

module _ {S M : Type 0} (store : StoreGhosts S) (meta : MetaGhosts M) where
  -- one read of the store

  reads_dry : (answer : Result (Option (List ℕ)) Trouble) (s s' : S) → (answer ≡ Err Failed → ⊥) → Ran Get (fate_of answer) (store.control s) (store.control s') → StoreStill store meta s s'
  reads_dry (Err Failed) s s' bad r = absurd (bad refl)
  reads_dry (Err NoMemory) s s' bad r = (r.dry refl).faults
  reads_dry (Ok given) s s' bad r = r.went refl

  loads_well : (wanted : FetchRequest) (piece : Piece) (base : ℕ) (spot : Spot) (answer : Result (Option (List ℕ)) Trouble) (e : AllocError) (cache cache' : Cache)
      → Loads wanted piece base spot answer (Err e) cache cache' → answer ≡ Err Failed → ⊥
  loads_well wanted piece base spot (Err Failed) e cache cache' w bad = let is = w.0 in cc (is)
  loads_well wanted piece base spot (Err NoMemory) e cache cache' w bad = cc (bad)
  loads_well wanted piece base spot (Ok given) e cache cache' w bad = cc (bad)

  load_dry : (wanted : FetchRequest) (piece : Piece) (view : View) (place : Option (ℕ × Spot)) (e : AllocError) (cache cache' : Cache) (s s' : S)
      → LoadRow store.content store.control wanted piece view place (Err e) cache cache' s s' → StoreStill store meta s s'
  load_dry wanted piece view None e cache cache' s s' w = let is = w.0 in absurd (cc (is))
  load_dry wanted piece view (Some place) e cache cache' s s' w =
      reads_dry w.answer s s' (loads_well wanted piece place.0 place.1 w.answer e cache cache' w.loads) w.gets.control

  index_dry : (wanted : FetchRequest) (piece : Piece) (view : View) (e : AllocError) (index : Option OffsetTable) (cache cache' : Cache) (s s' : S)
      → IndexRow store.content store.control wanted piece view (Err e) index cache cache' s s' → StoreStill store meta s s'
  index_dry wanted piece view e (Some index) cache cache' s s' w = let is = w.0 in absurd (cc (is))
  index_dry wanted piece view e None cache cache' s s' w =
      load_dry wanted piece view (spot_in wanted.partition piece.id part.Index (entry_of piece.id view.entries)) e cache cache' s s' w

  cuts_well : (wanted : FetchRequest) (piece : Piece) (spot : Spot) (span : Span) (answer : Result (Option (List ℕ)) Trouble) (e : AllocError)
      → CutsRunOut wanted piece spot span answer (Err e) → answer ≡ Err Failed → ⊥
  cuts_well wanted piece spot span (Err Failed) e w bad = cc (w)
  cuts_well wanted piece spot span (Err NoMemory) e w bad = cc (bad)
  cuts_well wanted piece spot span (Ok given) e w bad = cc (bad)

  log_dry : (wanted : FetchRequest) (piece : Piece) (span : Span) (view : View) (place : Option (ℕ × Spot)) (e : AllocError) (s s' : S)
      → LogRow store.content store.control wanted piece span view place (Err e) s s' → StoreStill store meta s s'
  log_dry wanted piece span view None e s s' w = let is = w.0 in absurd (cc (is))
  log_dry wanted piece span view (Some place) e s s' w =
      reads_dry w.answer s s' (cuts_well wanted piece place.1 span w.answer e w.cuts) w.gets.control

  times_well : (asked : Asked) (cursor : ℕ) (piece : Piece) (base : ℕ) (spot : Spot) (answer : Result (Option (List ℕ)) Trouble) (e : AllocError)
      → Times asked cursor piece base spot answer (Err e) → answer ≡ Err Failed → ⊥
  times_well asked cursor piece base spot (Err Failed) e w bad = cc (w)
  times_well asked cursor piece base spot (Err NoMemory) e w bad = cc (bad)
  times_well asked cursor piece base spot (Ok given) e w bad = cc (bad)

  times_dry : (asked : Asked) (cursor : ℕ) (piece : Piece) (view : View) (place : Option (ℕ × Spot)) (e : AllocError) (s s' : S)
      → TimesRow store.content store.control asked cursor piece view place (Err e) s s' → StoreStill store meta s s'
  times_dry asked cursor piece view None e s s' w = let is = w.0 in absurd (cc (is))
  times_dry asked cursor piece view (Some place) e s s' w =
      reads_dry w.answer s s' (times_well asked cursor piece place.0 place.1 w.answer e w.times) w.gets.control

  takes_well : (wanted : ℕ) (spot : Spot) (answer : Result (Option (List ℕ)) Trouble) (e : AllocError) → TakesEpochs wanted spot answer (Err e) → answer ≡ Err Failed → ⊥
  takes_well wanted spot (Err Failed) e w bad = cc (w)
  takes_well wanted spot (Err NoMemory) e w bad = cc (bad)
  takes_well wanted spot (Ok given) e w bad = cc (bad)

  epochs_dry : (wanted : ℕ) (view : View) (spot : Option Spot) (e : AllocError) (s s' : S) → EpochsRow store.content store.control wanted view spot (Err e) s s' → StoreStill store meta s s'
  epochs_dry wanted view None e s s' w = let is = w.0 in absurd (cc (is))
  epochs_dry wanted view (Some spot) e s s' w = reads_dry w.answer s s' (takes_well wanted spot w.answer e w.takes) w.gets.control

  puts_dry : (copy : Copied) (n : ℕ) (key : Option ObjectKey) (e : AllocError) (s s' : S) → PutObjectRow store.content store.control copy n key (Err e) s s' → StoreStill store meta s s'
  puts_dry copy n None e s s' w = let is = w.0 in absurd (cc (is))
  puts_dry copy n (Some key) e s s' (inl same) = store_still store meta s s' same
  puts_dry copy n (Some key) e s s' (inr w) = (w.puts.control.ran.dry refl).faults

  -- one call of the metadata log

  appends_dry : (note : Note) (m m' : M) → AppendsToMetaLog meta.content meta.control note Dry m m' → MetaStill store meta m m'
  appends_dry note m m' a = (a.control.ran.dry refl).faults

  halted_dry : (before after : View) (m m' : M) → Halted meta.content meta.control before after m m' → MetaStill store meta m m'
  halted_dry before after m m' k = by k.once
    where
      by : RanQuietly Read Dry (meta.control m) (meta.control m') ⊎ RanQuietly Read Went (meta.control m) (meta.control m') → MetaStill store meta m m'
      by (inl r) = (r.ran.dry refl).faults
      by (inr r) = r.ran.went refl

  -- what a turn of a task counts that ran out of memory

  copy_store : (copy : Copied) (origin : EventOrigin) (next : CopyStep) (e : AllocError) (old new : Tiers S M)
      → CopyTurnRow store.content store.control meta.content meta.control copy origin next (Err e) old new → StoreStill store meta old.store new.store
  copy_store copy origin Start e old new w = store_still store meta old.store new.store (ap (λ (t : Tiers S M). t.store) w.0)
  copy_store copy origin (Put n) e old new w = puts_dry copy n (slice_get (keys copy) n) e old.store new.store w.1
  copy_store copy origin Finish e old new w = store_still store meta old.store new.store (ap (λ (t : Tiers S M). t.store) w.0)
  copy_store copy origin Check e old new w = store_still store meta old.store new.store w.0
  copy_store copy origin (Delete n) e old new w = absurd w

  copy_meta : (copy : Copied) (origin : EventOrigin) (next : CopyStep) (e : AllocError) (old new : Tiers S M)
      → CopyTurnRow store.content store.control meta.content meta.control copy origin next (Err e) old new → MetaStill store meta old.meta new.meta
  copy_meta copy origin Start e old new (same, inl is) = meta_still store meta old.meta new.meta is
  copy_meta copy origin Start e old new (same, inr a) = appends_dry _ old.meta new.meta a
  copy_meta copy origin (Put n) e old new w = meta_still store meta old.meta new.meta (ap (λ (t : Tiers S M). t.meta) w.0)
  copy_meta copy origin Finish e old new (same, inl is) = meta_still store meta old.meta new.meta is
  copy_meta copy origin Finish e old new (same, inr a) = appends_dry _ old.meta new.meta a
  copy_meta copy origin Check e old new w = halted_dry old.view new.view old.meta new.meta w.1
  copy_meta copy origin (Delete n) e old new w = absurd w

  fetch_store : (wanted : FetchRequest) (line : List (ℕ × ℕ)) (next : Search) (e : AllocError) (old new : Fetched S M)
      → RemoteFetchRow store.content store.control meta.content meta.control wanted line next (Err e) old new → StoreStill store meta old.store new.store
  fetch_store wanted line fetching.Refresh e old new w = store_still store meta old.store new.store (ap (λ (t : Fetched S M). t.store) w.0)
  fetch_store wanted line (fetching.Index piece) e old new w =
      index_dry wanted piece old.view e (found piece.id.0 old.cache.pairs) old.cache new.cache old.store new.store w.1
  fetch_store wanted line (fetching.Log piece span) e old new w =
      log_dry wanted piece span old.view (spot_in wanted.partition piece.id part.Log (entry_of piece.id old.view.entries)) e old.store new.store w.1

  fetch_meta : (wanted : FetchRequest) (line : List (ℕ × ℕ)) (next : Search) (e : AllocError) (old new : Fetched S M)
      → RemoteFetchRow store.content store.control meta.content meta.control wanted line next (Err e) old new → MetaStill store meta old.meta new.meta
  fetch_meta wanted line fetching.Refresh e old new w = halted_dry old.view new.view old.meta new.meta w.1
  fetch_meta wanted line (fetching.Index piece) e old new w = meta_still store meta old.meta new.meta (ap (λ (t : Fetched S M). t.meta) w.0)
  fetch_meta wanted line (fetching.Log piece span) e old new w = meta_still store meta old.meta new.meta (ap (λ (t : Fetched S M). t.meta) w.0)

  index_store : (asked : Asked) (line : List (ℕ × ℕ)) (cursor : ℕ) (piece : Piece) (from : ℕ) (read : Result Span RemoteRefusal) (e : AllocError) (old new : Fetched S M)
      → RemoteFetchRow store.content store.control meta.content meta.control (wanted_at asked from) line (fetching.Index piece) (goes_with piece read) old new
      → Indexes cursor piece from read (Err e) → StoreStill store meta old.store new.store
  index_store asked line cursor piece from (Ok span) e old new row w = absurd (cc (w))
  index_store asked line cursor piece from (Err (refusal.Damaged place at)) e old new row w = absurd (cc (w))
  index_store asked line cursor piece from (Err refusal.StoreFault) e old new row w = absurd (cc (w))
  index_store asked line cursor piece from (Err refusal.NoMemory) e old new row w = fetch_store (wanted_at asked from) line (fetching.Index piece) alloc_error old new row

  log_store : (asked : Asked) (line : List (ℕ × ℕ)) (piece : Piece) (from : ℕ) (span : Span) (read : Result RemoteRun RemoteRefusal) (e : AllocError) (old new : Fetched S M)
      → RemoteFetchRow store.content store.control meta.content meta.control (wanted_at asked from) line (fetching.Log piece span) (ends_with piece read) old new
      → SearchTakes asked from read (Err e) → StoreStill store meta old.store new.store
  log_store asked line piece from span (Ok run) e old new row w = absurd w
  log_store asked line piece from span (Err (refusal.Damaged place at)) e old new row w = absurd (cc (w))
  log_store asked line piece from span (Err refusal.StoreFault) e old new row w = absurd (cc (w))
  log_store asked line piece from span (Err refusal.NoMemory) e old new row w = fetch_store (wanted_at asked from) line (fetching.Log piece span) alloc_error old new row

  time_store : (asked : Asked) (line : List (ℕ × ℕ)) (cursor : ℕ) (next : Dating) (e : AllocError) (old new : Fetched S M)
      → TimeRow store.content store.control meta.content meta.control asked line cursor next (Err e) old new → StoreStill store meta old.store new.store
  time_store asked line cursor dating.Seek e old new w = store_still store meta old.store new.store (ap (λ (t : Fetched S M). t.store) w.0)
  time_store asked line cursor (dating.Times piece) e old new w =
      times_dry asked cursor piece old.view (spot_in asked.partition piece.id part.TimeIndex (entry_of piece.id old.view.entries)) e old.store new.store w.1
  time_store asked line cursor (dating.Index piece from) e old new (same, inl w) = let is = w.1 in absurd (cc (is))
  time_store asked line cursor (dating.Index piece from) e old new (same, inr w) = index_store asked line cursor piece from w.1.0 e old new (same, w.1.1) w.1.2
  time_store asked line cursor (dating.Log piece from span) e old new (same, inl w) = let is = w.1 in absurd (cc (is))
  time_store asked line cursor (dating.Log piece from span) e old new (same, inr w) = log_store asked line piece from span w.1.0 e old new (same, w.1.1) w.1.2

  time_meta : (asked : Asked) (line : List (ℕ × ℕ)) (cursor : ℕ) (next : Dating) (e : AllocError) (old new : Fetched S M)
      → TimeRow store.content store.control meta.content meta.control asked line cursor next (Err e) old new → MetaStill store meta old.meta new.meta
  time_meta asked line cursor dating.Seek e old new w = halted_dry old.view new.view old.meta new.meta w.1
  time_meta asked line cursor (dating.Times piece) e old new w = meta_still store meta old.meta new.meta (ap (λ (t : Fetched S M). t.meta) w.0)
  time_meta asked line cursor (dating.Index piece from) e old new w = meta_still store meta old.meta new.meta (ap (λ (t : Fetched S M). t.meta) w.0)
  time_meta asked line cursor (dating.Log piece from span) e old new w = meta_still store meta old.meta new.meta (ap (λ (t : Fetched S M). t.meta) w.0)

  expiry_store : (segment : ExpiredSegment) (origin : EventOrigin) (next : Deletion) (e : AllocError) (old new : expiring.Tiers S M)
      → expiring.ExpiryRow store.content store.control meta.content meta.control segment origin next (Err e) old new → StoreStill store meta old.store new.store
  expiry_store segment origin deletion.Start e old new w = store_still store meta old.store new.store (ap (λ (t : expiring.Tiers S M). t.store) w.0)
  expiry_store segment origin (deletion.Delete n) e old new w = absurd w
  expiry_store segment origin deletion.Finish e old new w = store_still store meta old.store new.store (ap (λ (t : expiring.Tiers S M). t.store) w.0)

  expiry_meta : (segment : ExpiredSegment) (origin : EventOrigin) (next : Deletion) (e : AllocError) (old new : expiring.Tiers S M)
      → expiring.ExpiryRow store.content store.control meta.content meta.control segment origin next (Err e) old new → MetaStill store meta old.meta new.meta
  expiry_meta segment origin deletion.Start e old new w = appends_dry _ old.meta new.meta w.1
  expiry_meta segment origin (deletion.Delete n) e old new w = absurd w
  expiry_meta segment origin deletion.Finish e old new w = appends_dry _ old.meta new.meta w.1

module _ {D S M : Type 0} (disk : DiskGhosts D) (store : StoreGhosts S) (meta : MetaGhosts M) where
  -- a call of the tier that ran out of memory

  halts_store : (h : PartitionState D) (t : RemoteTier S M) (b : ℕ) (x : Node D) (broker_tier : BrokerTierState) (t' : RemoteTier S M) → HaltsSome disk store meta h t b x broker_tier t' → StoreStill store meta t.store t'.store
  halts_store h t b x broker_tier t' (inl halts) = store_still store meta t.store t'.store (ap (λ (k : RemoteTier S M). k.store) halts.after)
  halts_store h t b x broker_tier t' (inr (inl (copy, next, wants))) =
      copy_store store meta copy (origin_of h b) next wants.error (tiers_of broker_tier.view t) (tiers_of wants.view t') wants.row
  halts_store h t b x broker_tier t' (inr (inr (inl (p, offset, limit, next, wants)))) =
      fetch_store store meta (wanted_of p x offset limit) (line_of x) next wants.error (fetch_tiers broker_tier.view broker_tier.cache t) (fetch_tiers wants.view wants.cache t') wants.row
  halts_store h t b x broker_tier t' (inr (inr (inr (inl (segment, next, wants))))) =
      expiry_store store meta segment (origin_of h b) next wants.error (expiry_tiers t) (expiry_tiers t') wants.row
  halts_store h t b x broker_tier t' (inr (inr (inr (inr (inl (line, asked, cursor, next, wants)))))) =
      time_store store meta asked line cursor next wants.error (fetch_tiers broker_tier.view broker_tier.cache t) (fetch_tiers wants.view wants.cache t') wants.row
  halts_store h t b x broker_tier t' (inr (inr (inr (inr (inr (p, g, wants)))))) =
      epochs_dry store meta (rebuilt_to p g).offset broker_tier.view _ wants.error t.store t'.store wants.row

  halts_meta : (h : PartitionState D) (t : RemoteTier S M) (b : ℕ) (x : Node D) (broker_tier : BrokerTierState) (t' : RemoteTier S M) → HaltsSome disk store meta h t b x broker_tier t' → MetaStill store meta t.meta t'.meta
  halts_meta h t b x broker_tier t' (inl halts) = halted_dry store meta broker_tier.view halts.view t.meta t'.meta halts.reads
  halts_meta h t b x broker_tier t' (inr (inl (copy, next, wants))) =
      copy_meta store meta copy (origin_of h b) next wants.error (tiers_of broker_tier.view t) (tiers_of wants.view t') wants.row
  halts_meta h t b x broker_tier t' (inr (inr (inl (p, offset, limit, next, wants)))) =
      fetch_meta store meta (wanted_of p x offset limit) (line_of x) next wants.error (fetch_tiers broker_tier.view broker_tier.cache t) (fetch_tiers wants.view wants.cache t') wants.row
  halts_meta h t b x broker_tier t' (inr (inr (inr (inl (segment, next, wants))))) =
      expiry_meta store meta segment (origin_of h b) next wants.error (expiry_tiers t) (expiry_tiers t') wants.row
  halts_meta h t b x broker_tier t' (inr (inr (inr (inr (inl (line, asked, cursor, next, wants)))))) =
      time_meta store meta asked line cursor next wants.error (fetch_tiers broker_tier.view broker_tier.cache t) (fetch_tiers wants.view wants.cache t') wants.row
  halts_meta h t b x broker_tier t' (inr (inr (inr (inr (inr (p, g, wants)))))) =
      meta_still store meta t.meta t'.meta (ap (λ (k : RemoteTier S M). k.meta) wants.after)

  -- the disks
  partition_state_quiet : (h h' : PartitionState D) → KeepsPartition disk.content disk.control h h' → Quietly disk.control h h'
  partition_state_quiet h h' (inl same) = quiet_same disk.control h h' same
  partition_state_quiet h h' (inr (b, at)) =
      let x = some_of (λ x. LogRests disk.content disk.control h b x h') (slice_get h.nodes b) at in
      quiet_put disk.control h b x.0 (record x.0 { log = x.2.0 }) h' x.1 x.2.2.1 x.2.3

  -- what a turn leaves that found no memory
  stays_quiet : (h : PartitionState D) (t : RemoteTier S M) (b : ℕ) (h' : PartitionState D) (t' : RemoteTier S M) → StaysSome disk store meta h t b h' t'
      → Quietly disk.control h h' × StoreStill store meta t.store t'.store × MetaStill store meta t.meta t'.meta
  stays_quiet h t b h' t' (inl (rests, same)) = (
    partition_state_quiet h h' rests,
    store_still store meta t.store t'.store (ap (λ (k : RemoteTier S M). k.store) same),
    meta_still store meta t.meta t'.meta (ap (λ (k : RemoteTier S M). k.meta) same),
  )
  stays_quiet h t b h' t' (inr (same, at)) =
      let x = some_of (λ x. AtBrokerTier t b (λ broker_tier. HaltsSome disk store meta h t b x broker_tier t')) (slice_get h.nodes b) at in
      let broker_tier = some_of (λ broker_tier. HaltsSome disk store meta h t b x.0 broker_tier t') (slice_get t.broker_tiers b) x.2 in
      (quiet_same disk.control h h' same, halts_store h t b x.0 broker_tier.0 t' broker_tier.2, halts_meta h t b x.0 broker_tier.0 t' broker_tier.2)

  -- a world's
  pub halts_quietly : (w : Whole D S M) (a : ℕ) (w' : Whole D S M) → StaysWhole disk store meta w a w' → HaveDisks w.partition_state.nodes → MeetsNoFault disk store meta w w'
  halts_quietly w a w' s have =
      let some = stays_some disk store meta w.partition w.partition_state w.tier s.order.broker.0 s.actor_state.in_progress s.order.command w'.partition_state w'.tier s.tier in
      let k = stays_quiet w.partition_state w.tier s.order.broker.0 w'.partition_state w'.tier some in
      record { disks = k.0 have; store_counts = k.1; meta_counts = k.2 }
