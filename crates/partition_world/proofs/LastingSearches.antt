-- A turn of a fetch from the remote tier, and one of a rebuild that reads its leader epochs: the devices last, and one
-- has failed where a fault is reported.
use Rattle.std.proofs.Common.{◌≡◌, sym, ap, subst, refl, ℕ, List, Some, None, Option, Ok, Err, true, false}
use Rattle.std.specs.declared.result.Result.{Result}
use Rattle.std.specs.declared.alloc.AllocError.{AllocError}
use Rattle.tier_base.specs.Device.{Ran, fate_of}
use Rattle.tier_base.specs.declared.fault.Trouble.{Trouble}
use Rattle.tier_base.specs.declared.fault.Trouble.TheVariants.{Failed, NoMemory}
use Rattle.tier_base.specs.declared.plain.Part.TheVariants as part
use Rattle.object_store.specs.declared.store.Store.{Ghosts as StoreGhosts}
use Rattle.object_store.specs.declared.call.StoreCall.TheVariants.{Get}
use Rattle.object_store.specs.declared.placing.Spot.{Spot}
use Rattle.object_store.specs.Place.{short_of, short_in}
use Rattle.meta_log.specs.declared.log.MetaLog.{Ghosts as MetaGhosts}
use Rattle.index_cache.specs.Cache.{Cache, found}
use Rattle.sparse_index.specs.Offsets.{OffsetTable}
use Rattle.remote_view.specs.Fold.{EntriesSeen as View, entry_of}
use Rattle.remote_find.specs.declared.piece.Piece.{Piece}
use Rattle.remote_find.specs.Pieces.{piece_at}
use Rattle.tier_fetch.specs.Turns.{Tiers, RemoteFetchRow, RefreshRow, IndexRow, LoadRow, LogRow, LoadsBytes, Loads, CutsBytes, CutsRunOut, spot_in, chosen as found_piece}
use Rattle.plain_log.specs.declared.turn.Turn.{Turn}
use Rattle.plain_log.specs.declared.turn.Turn.TheVariants.{Goes, Ends}
use Rattle.tier_fetch.specs.declared.turn.FetchStep.{FetchStep as Search}
use Rattle.tier_fetch.specs.declared.turn.FetchStep.TheVariants.{Refresh, Index, Log}
use Rattle.tier_fetch.specs.declared.turn.Span.{Span}
use Rattle.tier_fetch.specs.declared.turn.FetchRequest.{FetchRequest}
use Rattle.rebuild_task.specs.declared.turn.RebuildStep.{RebuildStep}
use Rattle.rebuild_task.specs.declared.turn.RebuildRequest.{RebuildRequest as Rebuilt}
use Rattle.rebuild_task.specs.Turns.{TakesBytes, TakesEpochs, EpochsRow, RebuildRow}
use Rattle.plain_log.specs.declared.answer.Answer.{Answer}
use Rattle.plain_log.specs.declared.answer.Answer.TheVariants.{MetaFault, Damaged, Run}
use Rattle.partition_world.specs.ActorStates.{fetch_outcome, rebuild_outcome}
use Rattle.partition_commands.proofs.Told.{Told}
use Rattle.partition_world.proofs.TurnsTold.{TurnTold, StoreLasts, StoreRose, MetaLasts, MetaRose, store_same, meta_same, store_ran, meta_ran}

module _ (A B : Type 0) where
  found_told : (C E : Type 0) (notes : ℕ) (piece : Option Piece) → TurnTold A B C E (fetch_outcome (found_piece notes piece))
  found_told C E notes None = tt
  found_told C E notes (Some piece) = tt

  ends_told : (C E : Type 0) (turn after : Turn Search) → ◌≡◌ {A = Result (Turn Search) AllocError} (Ok turn) (Ok after) → TurnTold A B C E (fetch_outcome after) → TurnTold A B C E (fetch_outcome turn)
  ends_told C E turn after is told = let same : turn ≡ after = cc (is) in subst (λ (t : Turn Search). TurnTold A B C E (fetch_outcome t)) (sym same) told

  rebuilt_told : (C E : Type 0) (turn after : Turn RebuildStep) → ◌≡◌ {A = Result (Turn RebuildStep) AllocError} (Ok turn) (Ok after) → TurnTold A B C E (rebuild_outcome after) → TurnTold A B C E (rebuild_outcome turn)
  rebuilt_told C E turn after is told = let same : turn ≡ after = cc (is) in subst (λ (t : Turn RebuildStep). TurnTold A B C E (rebuild_outcome t)) (sym same) told

  module _ {M : Type 0} (meta : MetaGhosts M) where
    refresh_lasts : (C : Type 0) (wanted : FetchRequest) (line : List (ℕ × ℕ)) (turn : Turn Search) (before after : View) (old new : M) → RefreshRow meta.content meta.control wanted line (Ok turn) before after old new
        → MetaLasts meta old new × TurnTold A B C (MetaRose meta old new) (fetch_outcome turn)
    refresh_lasts C wanted line (Ends MetaFault) before after old new w = (meta_ran meta _ _ old new w.control.ran, w.control.ran.cause refl)
    refresh_lasts C wanted line turn before after old new w = (
      meta_ran meta _ _ old new w.1.control.ran,
      subst (λ (t : Turn Search). TurnTold A B C (MetaRose meta old new) (fetch_outcome t)) (sym w.0)
          (found_told C (MetaRose meta old new) after.notes (piece_at after.entries line wanted.log_end wanted.offset)),
    )

  module _ (E : Type 0) {S : Type 0} (store : StoreGhosts S) where
    loads_told : (wanted : FetchRequest) (piece : Piece) (base : ℕ) (spot : Spot) (answer : Result (Option (List ℕ)) Trouble) (turn : Turn Search) (before after : Cache) (old new : S)
        → Ran Get (fate_of answer) (store.control old) (store.control new) → Loads wanted piece base spot answer (Ok turn) before after → TurnTold A B (StoreRose store old new) E (fetch_outcome turn)
    loads_told wanted piece base spot (Err Failed) turn before after old new r w = ends_told (StoreRose store old new) E turn _ w.0 (r.cause refl)
    loads_told wanted piece base spot (Err NoMemory) turn before after old new r w = absurd (let no : false ≡ true = w.0 in cc)
    loads_told wanted piece base spot (Ok None) turn before after old new r w = ends_told (StoreRose store old new) E turn _ w.0 tt
    loads_told wanted piece base spot (Ok (Some bytes)) turn before after old new r w = by (short_of spot bytes) turn w
      where
        by : (end : Option ℕ) (turn : Turn Search) → LoadsBytes end wanted piece base spot bytes (Ok turn) before after → TurnTold A B (StoreRose store old new) E (fetch_outcome turn)
        by (Some end) turn w = ends_told (StoreRose store old new) E turn _ w.0 tt
        by None (Goes next) w = tt
        by None (Ends answer) w = subst (λ (a : Answer). Told A B (StoreRose store old new) E a) (sym w.0) tt

    load_lasts : (wanted : FetchRequest) (piece : Piece) (view : View) (place : Option (ℕ × Spot)) (turn : Turn Search) (cache cache' : Cache) (old new : S)
        → LoadRow store.content store.control wanted piece view place (Ok turn) cache cache' old new → StoreLasts store old new × TurnTold A B (StoreRose store old new) E (fetch_outcome turn)
    load_lasts wanted piece view None turn cache cache' old new w = (store_same store old new w.2, ends_told (StoreRose store old new) E turn _ w.0 tt)
    load_lasts wanted piece view (Some place) turn cache cache' old new w =
        (store_ran store _ _ old new w.gets.control, loads_told wanted piece place.0 place.1 w.answer turn cache cache' old new w.gets.control w.loads)

    index_lasts : (wanted : FetchRequest) (piece : Piece) (view : View) (turn : Turn Search) (index : Option OffsetTable) (cache cache' : Cache) (old new : S)
        → IndexRow store.content store.control wanted piece view (Ok turn) index cache cache' old new → StoreLasts store old new × TurnTold A B (StoreRose store old new) E (fetch_outcome turn)
    index_lasts wanted piece view turn (Some index) cache cache' old new w = (store_same store old new w.2, ends_told (StoreRose store old new) E turn _ w.0 tt)
    index_lasts wanted piece view turn None cache cache' old new w =
        load_lasts wanted piece view (spot_in wanted.partition piece.id part.Index (entry_of piece.id view.entries)) turn cache cache' old new w

    cuts_told : (wanted : FetchRequest) (piece : Piece) (spot : Spot) (span : Span) (answer : Result (Option (List ℕ)) Trouble) (turn : Turn Search) (old new : S)
        → Ran Get (fate_of answer) (store.control old) (store.control new) → CutsRunOut wanted piece spot span answer (Ok turn) → TurnTold A B (StoreRose store old new) E (fetch_outcome turn)
    cuts_told wanted piece spot span (Err Failed) turn old new r w = ends_told (StoreRose store old new) E turn _ w (r.cause refl)
    cuts_told wanted piece spot span (Err NoMemory) turn old new r w = absurd (let no : false ≡ true = w in cc)
    cuts_told wanted piece spot span (Ok None) turn old new r w = ends_told (StoreRose store old new) E turn _ w tt
    cuts_told wanted piece spot span (Ok (Some bytes)) turn old new r w = by (short_in spot span.from span.most bytes) turn w
      where
        by : (end : Option ℕ) (turn : Turn Search) → CutsBytes end wanted piece spot span bytes (Ok turn) → TurnTold A B (StoreRose store old new) E (fetch_outcome turn)
        by (Some end) turn w = ends_told (StoreRose store old new) E turn _ w tt
        by None (Ends (Run tier size stop run)) w = tt
        by None (Ends (Damaged place at)) w = tt
        by None turn w = elim w [ ]

    log_lasts : (wanted : FetchRequest) (piece : Piece) (span : Span) (view : View) (place : Option (ℕ × Spot)) (turn : Turn Search) (old new : S)
        → LogRow store.content store.control wanted piece span view place (Ok turn) old new → StoreLasts store old new × TurnTold A B (StoreRose store old new) E (fetch_outcome turn)
    log_lasts wanted piece span view None turn old new w = (store_same store old new w.1, ends_told (StoreRose store old new) E turn _ w.0 tt)
    log_lasts wanted piece span view (Some place) turn old new w =
        (store_ran store _ _ old new w.gets.control, cuts_told wanted piece place.1 span w.answer turn old new w.gets.control w.cuts)

    takes_told : (wanted : ℕ) (spot : Spot) (answer : Result (Option (List ℕ)) Trouble) (turn : Turn RebuildStep) (old new : S)
        → Ran Get (fate_of answer) (store.control old) (store.control new) → TakesEpochs wanted spot answer (Ok turn) → TurnTold A B (StoreRose store old new) E (rebuild_outcome turn)
    takes_told wanted spot (Err Failed) turn old new r w = rebuilt_told (StoreRose store old new) E turn _ w (r.cause refl)
    takes_told wanted spot (Err NoMemory) turn old new r w = absurd (let no : false ≡ true = w in cc)
    takes_told wanted spot (Ok None) turn old new r w = rebuilt_told (StoreRose store old new) E turn _ w tt
    takes_told wanted spot (Ok (Some bytes)) turn old new r w = by (short_of spot bytes) turn w
      where
        by : (end : Option ℕ) (turn : Turn RebuildStep) → TakesBytes end wanted spot bytes (Ok turn) → TurnTold A B (StoreRose store old new) E (rebuild_outcome turn)
        by (Some end) turn w = rebuilt_told (StoreRose store old new) E turn _ w tt
        by None (Goes next) w = tt
        by None (Ends answer) w = subst (λ (a : Answer). Told A B (StoreRose store old new) E a) (sym w.0) tt

    epochs_lasts : (wanted : ℕ) (view : View) (spot : Option Spot) (turn : Turn RebuildStep) (old new : S) → EpochsRow store.content store.control wanted view spot (Ok turn) old new
        → StoreLasts store old new × TurnTold A B (StoreRose store old new) E (rebuild_outcome turn)
    epochs_lasts wanted view None turn old new w = (store_same store old new w.1, rebuilt_told (StoreRose store old new) E turn _ w.0 tt)
    epochs_lasts wanted view (Some spot) turn old new w = (store_ran store _ _ old new w.gets.control, takes_told wanted spot w.answer turn old new w.gets.control w.takes)

    pub rebuild_lasts : (wanted : Rebuilt) (line : List (ℕ × ℕ)) (view : View) (turn : Turn RebuildStep) (old new : S) → RebuildRow store.content store.control wanted line view (Ok turn) old new
        → StoreLasts store old new × TurnTold A B (StoreRose store old new) E (rebuild_outcome turn)
    rebuild_lasts wanted line view turn old new w = epochs_lasts wanted.offset view _ turn old new w

  module _ {S M : Type 0} (store : StoreGhosts S) (meta : MetaGhosts M) where
    pub fetch_lasts : (wanted : FetchRequest) (line : List (ℕ × ℕ)) (next : Search) (turn : Turn Search) (old new : Tiers S M)
        → RemoteFetchRow store.content store.control meta.content meta.control wanted line next (Ok turn) old new
        → StoreLasts store old.store new.store × MetaLasts meta old.meta new.meta
        × TurnTold A B (StoreRose store old.store new.store) (MetaRose meta old.meta new.meta) (fetch_outcome turn)
    fetch_lasts wanted line Refresh turn old new w =
        let k = refresh_lasts meta (StoreRose store old.store new.store) wanted line turn old.view new.view old.meta new.meta w.1 in
        (store_same store old.store new.store (ap (λ (t : Tiers S M). t.store) w.0), k.0, k.1)
    fetch_lasts wanted line (Index piece) turn old new w =
        let k = index_lasts (MetaRose meta old.meta new.meta) store wanted piece old.view turn (found piece.id.0 old.cache.pairs) old.cache new.cache old.store new.store w.1 in
        (k.0, meta_same meta old.meta new.meta (ap (λ (t : Tiers S M). t.meta) w.0), k.1)
    fetch_lasts wanted line (Log piece span) turn old new w =
        let k = log_lasts (MetaRose meta old.meta new.meta) store wanted piece span old.view (spot_in wanted.partition piece.id part.Log (entry_of piece.id old.view.entries)) turn old.store new.store w.1 in
        (k.0, meta_same meta old.meta new.meta (ap (λ (t : Tiers S M). t.meta) w.0), k.1)
