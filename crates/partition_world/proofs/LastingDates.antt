-- A turn of a timestamp lookup: the devices last, and one has failed where a fault is reported.
use Rattle.std.proofs.Common.{◌≡◌, inl, inr, sym, ap, subst, refl, ℕ, List, length, Some, None, Option, Ok, Err, true, false}
use Rattle.std.specs.declared.result.Result.{Result}
use Rattle.std.specs.declared.alloc.AllocError.{AllocError}
use Rattle.tier_base.specs.Device.{Ran, fate_of}
use Rattle.tier_base.specs.declared.fault.Trouble.{Trouble}
use Rattle.tier_base.specs.declared.fault.Trouble.TheVariants.{Failed, NoMemory}
use Rattle.tier_base.specs.declared.plain.Part.TheVariants as part
use Rattle.object_store.specs.declared.store.Store.{Ghosts as StoreGhosts}
use Rattle.object_store.specs.declared.call.StoreCall.TheVariants.{Get}
use Rattle.object_store.specs.declared.placing.Spot.{Spot}
use Rattle.object_store.specs.Place.{short_of}
use Rattle.meta_log.specs.declared.log.MetaLog.{Ghosts as MetaGhosts}
use Rattle.remote_view.specs.Fold.{EntriesSeen as View, entry_of}
use Rattle.remote_find.specs.declared.piece.Piece.{Piece}
use Rattle.plain_log.specs.declared.turn.Turn.{Turn}
use Rattle.plain_log.specs.declared.turn.Turn.TheVariants.{Goes, Ends}
use Rattle.tier_fetch.specs.declared.turn.FetchStep.TheVariants as fetching
use Rattle.tier_fetch.specs.declared.turn.Span.{Span}
use Rattle.tier_fetch.specs.declared.refusal.RemoteRefusal.{RemoteRefusal}
use Rattle.tier_fetch.specs.declared.refusal.RemoteRefusal.TheVariants as refusal
use Rattle.tier_fetch.specs.declared.reading.RemoteRun.{RemoteRun}
use Rattle.tier_fetch.specs.Turns.{Tiers, RemoteFetchRow, spot_in, goes_with, ends_with}
use Rattle.time_find.specs.declared.turn.Asked.{Asked}
use Rattle.time_find.specs.declared.turn.SearchStep.{SearchStep}
use Rattle.time_find.specs.declared.turn.SearchStep.TheVariants.{Seek, Times as ReadsTimes, Index, Log}
use Rattle.time_find.specs.Passing.{Seeks}
use Rattle.time_find.specs.Turns.{IsSearched, TimesBytes, Times, Indexes, SearchTakes, SeekRow, TimesRow, TimeRow, wanted_at}
use Rattle.time_find.proofs.Outcomes.{store_left, cache_left}
use Rattle.plain_log.specs.declared.answer.Answer.{Answer}
use Rattle.plain_log.specs.declared.answer.Answer.TheVariants.{MetaFault, StoreFault, Damaged, Run, Offset}
use Rattle.plain_log.specs.declared.answer.Place.TheVariants.{Meta}
use Rattle.plain_log.specs.declared.answer.Tier.TheVariants.{Remote}
use Rattle.partition_world.specs.ActorStates.{date_outcome}
use Rattle.partition_commands.proofs.Told.{Told}
use Rattle.partition_world.proofs.TurnsTold.{TurnTold, StoreLasts, StoreRose, MetaLasts, MetaRose, store_same, meta_same, store_ran, meta_ran}
use Rattle.partition_world.proofs.LastingSearches.{fetch_lasts}

module _ (A B : Type 0) where
  as_told : (C E : Type 0) (turn after : Turn (ℕ × SearchStep)) → ◌≡◌ {A = Result (Turn (ℕ × SearchStep)) AllocError} (Ok turn) (Ok after)
      → TurnTold A B C E (date_outcome after) → TurnTold A B C E (date_outcome turn)
  as_told C E turn after is told = let same : turn ≡ after = cc (is) in subst (λ (t : Turn (ℕ × SearchStep)). TurnTold A B C E (date_outcome t))
      (sym same) told

  seeks_told : (C E : Type 0) (asked : Asked) (line : List (ℕ × ℕ)) (view : View) (cursor : ℕ) (turn : Turn (ℕ × SearchStep))
      → Seeks asked line view cursor turn → TurnTold A B C E (date_outcome turn)
  seeks_told C E asked line view cursor (Goes (at, next)) w = tt
  seeks_told C E asked line view cursor (Ends (Damaged Meta n)) w = tt
  seeks_told C E asked line view cursor (Ends answer) w = elim w [ ]

  -- a run that was searched
  pub searched_told : (C E : Type 0) (asked : Asked) (offset : ℕ) (run : List ℕ) (turn : Turn (ℕ × SearchStep)) → IsSearched asked offset run turn
      → TurnTold A B C E (date_outcome turn)
  searched_told C E asked offset run (Goes (at, next)) w = tt
  searched_told C E asked offset run (Ends (Offset n)) w = tt
  searched_told C E asked offset run (Ends answer) w = elim w [ ]

  seek_lasts : (C : Type 0) {M : Type 0} (meta : MetaGhosts M) (asked : Asked) (line : List (ℕ × ℕ)) (cursor : ℕ) (turn : Turn (ℕ × SearchStep))
      (before after : View) (old new : M)
      → SeekRow meta.content meta.control asked line cursor (Ok turn) before after old new → MetaLasts meta old new
      × TurnTold A B C (MetaRose meta old new) (date_outcome turn)
  seek_lasts C meta asked line cursor (Ends MetaFault) before after old new w = (meta_ran meta _ _ old new w.control.ran, w.control.ran.cause refl)
  seek_lasts C meta asked line cursor turn before after old new w =
      (meta_ran meta _ _ old new w.1.control.ran, seeks_told C (MetaRose meta old new) asked line after cursor turn w.0)

  module _ (E : Type 0) {S : Type 0} (store : StoreGhosts S) where
    times_told : (asked : Asked) (cursor : ℕ) (piece : Piece) (base : ℕ) (spot : Spot) (answer : Result (Option (List ℕ)) Trouble)
        (turn : Turn (ℕ × SearchStep)) (old new : S)
        → Ran Get (fate_of answer) (store.control old) (store.control new) → Times asked cursor piece base spot answer (Ok turn)
        → TurnTold A B (StoreRose store old new) E (date_outcome turn)
    times_told asked cursor piece base spot (Err Failed) turn old new r w = as_told (StoreRose store old new) E turn _ w (r.cause refl)
    times_told asked cursor piece base spot (Err NoMemory) turn old new r w = absurd (let no : false ≡ true = w in cc)
    times_told asked cursor piece base spot (Ok None) turn old new r w = as_told (StoreRose store old new) E turn _ w tt
    times_told asked cursor piece base spot (Ok (Some bytes)) turn old new r w = by (short_of spot bytes) turn w
      where
        by : (end : Option ℕ) (turn : Turn (ℕ × SearchStep)) → TimesBytes end asked cursor piece base spot bytes (Ok turn)
            → TurnTold A B (StoreRose store old new) E (date_outcome turn)
        by (Some end) turn w = as_told (StoreRose store old new) E turn _ w tt
        by None (Goes (at, next)) w = tt
        by None (Ends answer) w = subst (λ (a : Answer). Told A B (StoreRose store old new) E a) (sym w.0) tt

    times_lasts : (asked : Asked) (cursor : ℕ) (piece : Piece) (view : View) (place : Option (ℕ × Spot)) (turn : Turn (ℕ × SearchStep)) (old new : S)
        → TimesRow store.content store.control asked cursor piece view place (Ok turn) old new → StoreLasts store old new
        × TurnTold A B (StoreRose store old new) E (date_outcome turn)
    times_lasts asked cursor piece view None turn old new w = (
      store_same store old new w.1,
      as_told (StoreRose store old new) E turn _
          w.0 tt,
    )
    times_lasts asked cursor piece view (Some place) turn old new w =
        (store_ran store _ _ old new w.gets.control, times_told asked cursor piece place.0 place.1 w.answer turn old new w.gets.control w.times)

  module _ {S M : Type 0} (store : StoreGhosts S) (meta : MetaGhosts M) where
    abbrev Lasted : Tiers S M → Tiers S M → Turn (ℕ × SearchStep) → Type 0
    Lasted old new turn =
        StoreLasts store old.store new.store × MetaLasts meta old.meta new.meta
        × TurnTold A B (StoreRose store old.store new.store) (MetaRose meta old.meta new.meta) (date_outcome turn)

    -- no call was made
    goes_lasted : (old new : Tiers S M) (turn : Turn (ℕ × SearchStep)) (at : ℕ) (next : SearchStep)
        → ◌≡◌ {A = Result (Turn (ℕ × SearchStep)) AllocError} (Ok turn) (Ok (Goes (at, next))) → new ≡ old → Lasted old new turn
    goes_lasted old new turn at next is same = (
      store_same store old.store new.store (ap (λ (t : Tiers S M). t.store) same),
      meta_same meta old.meta new.meta (ap (λ (t : Tiers S M). t.meta) same),
      as_told (StoreRose store old.store new.store) (MetaRose meta old.meta new.meta) turn (Goes (at, next)) is tt,
    )

    -- a fetch that reads the same lasts as long

    index_lasts : (asked : Asked) (line : List (ℕ × ℕ)) (cursor from : ℕ) (piece : Piece) (read : Result Span RemoteRefusal)
        (turn : Turn (ℕ × SearchStep)) (old new : Tiers S M)
        → RemoteFetchRow store.content store.control meta.content meta.control (wanted_at asked from) line (fetching.Index piece) (goes_with piece read) old new
        → Indexes cursor piece from read (Ok turn) → Lasted old new turn
    index_lasts asked line cursor from piece (Ok span) turn old new row w =
        let k = fetch_lasts A B store meta (wanted_at asked from) line (fetching.Index piece) (Goes (fetching.Log piece span)) old new row in
        (k.0, k.1, as_told (StoreRose store old.store new.store) (MetaRose meta old.meta new.meta) turn (Goes (cursor, Log piece from span)) w tt)
    index_lasts asked line cursor from piece (Err (refusal.Damaged place at)) turn old new row w =
        let k = fetch_lasts A B store meta (wanted_at asked from) line (fetching.Index piece) (Ends (Damaged place at)) old new row in
        (k.0, k.1, as_told (StoreRose store old.store new.store) (MetaRose meta old.meta new.meta) turn (Ends (Damaged place at)) w k.2)
    index_lasts asked line cursor from piece (Err refusal.StoreFault) turn old new row w =
        let k = fetch_lasts A B store meta (wanted_at asked from) line (fetching.Index piece) (Ends StoreFault) old new row in
        (k.0, k.1, as_told (StoreRose store old.store new.store) (MetaRose meta old.meta new.meta) turn (Ends StoreFault) w k.2)
    index_lasts asked line cursor from piece (Err refusal.NoMemory) turn old new row w = absurd (cc (w))

    log_lasts : (asked : Asked) (line : List (ℕ × ℕ)) (from : ℕ) (piece : Piece) (span : Span) (read : Result RemoteRun RemoteRefusal)
        (turn : Turn (ℕ × SearchStep)) (old new : Tiers S M)
        → RemoteFetchRow store.content store.control meta.content meta.control (wanted_at asked from) line (fetching.Log piece span) (ends_with piece read) old new
        → SearchTakes asked from read (Ok turn) → Lasted old new turn
    log_lasts asked line from piece span (Ok run) turn old new row w =
        let k = fetch_lasts A B store meta (wanted_at asked from) line (fetching.Log piece span) (Ends (Run (Remote piece.id) (length run.bytes) run.stop run.bytes)) old new row in
        (k.0, k.1, searched_told (StoreRose store old.store new.store) (MetaRose meta old.meta new.meta) asked from run.bytes turn w)
    log_lasts asked line from piece span (Err (refusal.Damaged place at)) turn old new row w =
        let k = fetch_lasts A B store meta (wanted_at asked from) line (fetching.Log piece span) (Ends (Damaged place at)) old new row in
        (k.0, k.1, as_told (StoreRose store old.store new.store) (MetaRose meta old.meta new.meta) turn (Ends (Damaged place at)) w k.2)
    log_lasts asked line from piece span (Err refusal.StoreFault) turn old new row w =
        let k = fetch_lasts A B store meta (wanted_at asked from) line (fetching.Log piece span) (Ends StoreFault) old new row in
        (k.0, k.1, as_told (StoreRose store old.store new.store) (MetaRose meta old.meta new.meta) turn (Ends StoreFault) w k.2)
    log_lasts asked line from piece span (Err refusal.NoMemory) turn old new row w = absurd (cc (w))

    -- among the remote segments
    pub time_lasts : (asked : Asked) (line : List (ℕ × ℕ)) (cursor : ℕ) (next : SearchStep) (turn : Turn (ℕ × SearchStep)) (old new : Tiers S M)
        → TimeRow store.content store.control meta.content meta.control asked line cursor next (Ok turn) old new
        → StoreLasts store old.store new.store × MetaLasts meta old.meta new.meta
        × TurnTold A B (StoreRose store old.store new.store) (MetaRose meta old.meta new.meta) (date_outcome turn)
    time_lasts asked line cursor Seek turn old new w =
        let k = seek_lasts (StoreRose store old.store new.store) meta asked line cursor turn old.view new.view old.meta new.meta w.1 in
        (store_same store old.store new.store (ap (λ (t : Tiers S M). t.store) w.0), k.0, k.1)
    time_lasts asked line cursor (ReadsTimes piece) turn old new w =
        let place = spot_in asked.partition piece.id part.TimeIndex (entry_of piece.id old.view.entries) in
        let k = times_lasts (MetaRose meta old.meta new.meta) store asked cursor piece old.view place turn old.store new.store w.1 in
        (k.0, meta_same meta old.meta new.meta (ap (λ (t : Tiers S M). t.meta) w.0), k.1)
    time_lasts asked line cursor (Index piece from) turn old new (same, inl w) =
        goes_lasted old new turn _ Seek w.1 (cache_left old new same w.2 w.3)
    time_lasts asked line cursor (Index piece from) turn old new (same, inr w) =
        index_lasts asked line cursor from piece w.1.0 turn old new (same, w.1.1) w.1.2
    time_lasts asked line cursor (Log piece from span) turn old new (same, inl w) = goes_lasted old new turn _ Seek w.1 (store_left old new same w.2)
    time_lasts asked line cursor (Log piece from span) turn old new (same, inr w) =
        log_lasts asked line from piece span w.1.0 turn old new (same, w.1.1) w.1.2
