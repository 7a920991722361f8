-- What a turn of a fetch from the remote tier counts, and one of a rebuild that reads its leader epochs.
use Rattle.std.proofs.Common.{◌≡◌, sym, ap, subst, refl, ℕ, List, Some, None, Option, Ok, Err, true, false}
use Rattle.std.specs.declared.result.Result.{Result}
use Rattle.std.specs.declared.alloc.AllocError.{AllocError}
use Rattle.tier_base.specs.Device.{Ran, fate_of}
use Rattle.tier_base.specs.declared.fault.Trouble.{Trouble}
use Rattle.tier_base.specs.declared.fault.Trouble.TheVariants.{Failed, NoMemory}
use Rattle.tier_base.specs.declared.plain.Part.TheVariants as part
use Rattle.object_store.specs.declared.store.Store.{Ghosts as StoreGhosts}
use Rattle.object_store.specs.declared.call.StoreCall.TheVariants.{Get}
use Rattle.object_store.specs.declared.placing.Spot.{Spot}
use Rattle.object_store.specs.Place.{short_of, short_in}
use Rattle.meta_log.specs.declared.log.MetaLog.{Ghosts as MetaGhosts}
use Rattle.index_cache.specs.Cache.{Cache, found}
use Rattle.sparse_index.specs.Offsets.{OffsetTable}
use Rattle.remote_view.specs.Fold.{EntriesSeen as View, entry_of}
use Rattle.remote_find.specs.declared.piece.Piece.{Piece}
use Rattle.remote_find.specs.Pieces.{piece_at}
use Rattle.tier_fetch.specs.Turns.{Tiers, RemoteFetchRow, RefreshRow, IndexRow, LoadRow, LogRow, LoadsBytes, Loads, CutsBytes, CutsRunOut, spot_in, chosen as found_piece}
use Rattle.plain_log.specs.declared.turn.Turn.{Turn}
use Rattle.plain_log.specs.declared.turn.Turn.TheVariants.{Goes, Ends}
use Rattle.tier_fetch.specs.declared.turn.FetchStep.{FetchStep as Search}
use Rattle.tier_fetch.specs.declared.turn.FetchStep.TheVariants.{Refresh, Index, Log}
use Rattle.tier_fetch.specs.declared.turn.Span.{Span}
use Rattle.tier_fetch.specs.declared.turn.FetchRequest.{FetchRequest}
use Rattle.rebuild_task.specs.declared.turn.RebuildStep.{RebuildStep}
use Rattle.rebuild_task.specs.declared.turn.RebuildRequest.{RebuildRequest as Rebuilt}
use Rattle.rebuild_task.specs.Turns.{TakesBytes, TakesEpochs, EpochsRow, RebuildRow}
use Rattle.plain_log.specs.declared.answer.Answer.{Answer}
use Rattle.plain_log.specs.declared.answer.Answer.TheVariants.{MetaFault, StoreFault, Damaged, Run}
use Rattle.partition_world.specs.ActorStates.{fetch_outcome, rebuild_outcome}
use Rattle.partition_world.specs.declared.actor_state.Outcome.TheVariants.{Answers}
use Rattle.partition_world.proofs.CountingCalls.{Clear, Counted, still, store_went, meta_went, store_failed, meta_failed}

found_clear : (notes : ℕ) (piece : Option Piece) → Clear (fetch_outcome (found_piece notes piece))
found_clear notes None = (refl, refl, refl)
found_clear notes (Some piece) = (refl, refl, refl)

-- what a turn comes to that ended so says of no fault
fetch_clear : (turn after : Turn Search) → ◌≡◌ {A = Result (Turn Search) AllocError} (Ok turn) (Ok after) → Clear (fetch_outcome after) → Clear (fetch_outcome turn)
fetch_clear turn after is none = let same : turn ≡ after = cc (is) in subst (λ (t : Turn Search). Clear (fetch_outcome t)) (sym same) none

rebuild_clear : (turn after : Turn RebuildStep) → ◌≡◌ {A = Result (Turn RebuildStep) AllocError} (Ok turn) (Ok after) → Clear (rebuild_outcome after) → Clear (rebuild_outcome turn)
rebuild_clear turn after is none = let same : turn ≡ after = cc (is) in subst (λ (t : Turn RebuildStep). Clear (rebuild_outcome t)) (sym same) none

-- nor does damage
damage_clear : (answer after : Answer) → answer ≡ after → Clear (Answers after) → Clear (Answers answer)
damage_clear answer after is none = subst (λ (a : Answer). Clear (Answers a)) (sym is) none

module _ {S M : Type 0} (store : StoreGhosts S) (meta : MetaGhosts M) where
  fetch_as : (turn after : Turn Search) (s s' : S) (m m' : M) → ◌≡◌ {A = Result (Turn Search) AllocError} (Ok turn) (Ok after) → Counted store meta (fetch_outcome after) s s' m m'
      → Counted store meta (fetch_outcome turn) s s' m m'
  fetch_as turn after s s' m m' is k = let same : turn ≡ after = cc (is) in subst (λ (t : Turn Search). Counted store meta (fetch_outcome t) s s' m m') (sym same) k

  rebuild_as : (turn after : Turn RebuildStep) (s s' : S) (m m' : M) → ◌≡◌ {A = Result (Turn RebuildStep) AllocError} (Ok turn) (Ok after) → Counted store meta (rebuild_outcome after) s s' m m'
      → Counted store meta (rebuild_outcome turn) s s' m m'
  rebuild_as turn after s s' m m' is k = let same : turn ≡ after = cc (is) in subst (λ (t : Turn RebuildStep). Counted store meta (rebuild_outcome t) s s' m m') (sym same) k

  refresh_counts : (wanted : FetchRequest) (line : List (ℕ × ℕ)) (turn : Turn Search) (before after : View) (s s' : S) (m m' : M) → s' ≡ s
      → RefreshRow meta.content meta.control wanted line (Ok turn) before after m m' → Counted store meta (fetch_outcome turn) s s' m m'
  refresh_counts wanted line (Ends MetaFault) before after s s' m m' one w = meta_failed store meta s s' m m' _ w.control.ran one
  refresh_counts wanted line turn before after s s' m m' one w =
      let piece = piece_at after.entries line wanted.log_end wanted.offset in
      subst (λ (t : Turn Search). Counted store meta (fetch_outcome t) s s' m m') (sym w.0)
      (meta_went store meta (fetch_outcome (found_piece after.notes piece)) s s' m m' _ (found_clear after.notes piece) w.1.control.ran one)

  loads_counts : (wanted : FetchRequest) (piece : Piece) (base : ℕ) (spot : Spot) (answer : Result (Option (List ℕ)) Trouble) (turn : Turn Search) (before after : Cache) (s s' : S) (m m' : M)
      → m' ≡ m → Ran Get (fate_of answer) (store.control s) (store.control s') → Loads wanted piece base spot answer (Ok turn) before after
      → Counted store meta (fetch_outcome turn) s s' m m'
  loads_counts wanted piece base spot (Err Failed) turn before after s s' m m' two r w =
      fetch_as turn (Ends StoreFault) s s' m m' w.0 (store_failed store meta s s' m m' Get r two)
  loads_counts wanted piece base spot (Err NoMemory) turn before after s s' m m' two r w = absurd (let no : false ≡ true = w.0 in cc)
  loads_counts wanted piece base spot (Ok None) turn before after s s' m m' two r w =
      store_went store meta (fetch_outcome turn) s s' m m' Get (fetch_clear turn _ w.0 (refl, refl, refl)) r two
  loads_counts wanted piece base spot (Ok (Some bytes)) turn before after s s' m m' two r w =
      store_went store meta (fetch_outcome turn) s s' m m' Get (by (short_of spot bytes) turn w) r two
    where
      by : (end : Option ℕ) (turn : Turn Search) → LoadsBytes end wanted piece base spot bytes (Ok turn) before after → Clear (fetch_outcome turn)
      by (Some end) turn w = fetch_clear turn _ w.0 (refl, refl, refl)
      by None (Goes next) w = (refl, refl, refl)
      by None (Ends answer) w = damage_clear answer _ w.0 (refl, refl, refl)

  load_counts : (wanted : FetchRequest) (piece : Piece) (view : View) (place : Option (ℕ × Spot)) (turn : Turn Search) (cache cache' : Cache) (s s' : S) (m m' : M) → m' ≡ m
      → LoadRow store.content store.control wanted piece view place (Ok turn) cache cache' s s' → Counted store meta (fetch_outcome turn) s s' m m'
  load_counts wanted piece view None turn cache cache' s s' m m' two w =
      still store meta (fetch_outcome turn) s s' m m' (fetch_clear turn _ w.0 (refl, refl, refl)) w.2 two
  load_counts wanted piece view (Some place) turn cache cache' s s' m m' two w =
      loads_counts wanted piece place.0 place.1 w.answer turn cache cache' s s' m m' two w.gets.control w.loads

  index_counts : (wanted : FetchRequest) (piece : Piece) (view : View) (turn : Turn Search) (index : Option OffsetTable) (cache cache' : Cache) (s s' : S) (m m' : M) → m' ≡ m
      → IndexRow store.content store.control wanted piece view (Ok turn) index cache cache' s s' → Counted store meta (fetch_outcome turn) s s' m m'
  index_counts wanted piece view turn (Some index) cache cache' s s' m m' two w =
      still store meta (fetch_outcome turn) s s' m m' (fetch_clear turn _ w.0 (refl, refl, refl)) w.2 two
  index_counts wanted piece view turn None cache cache' s s' m m' two w =
      load_counts wanted piece view (spot_in wanted.partition piece.id part.Index (entry_of piece.id view.entries)) turn cache cache' s s' m m' two w

  cuts_counts : (wanted : FetchRequest) (piece : Piece) (spot : Spot) (span : Span) (answer : Result (Option (List ℕ)) Trouble) (turn : Turn Search) (s s' : S) (m m' : M) → m' ≡ m
      → Ran Get (fate_of answer) (store.control s) (store.control s') → CutsRunOut wanted piece spot span answer (Ok turn) → Counted store meta (fetch_outcome turn) s s' m m'
  cuts_counts wanted piece spot span (Err Failed) turn s s' m m' two r w =
      fetch_as turn (Ends StoreFault) s s' m m' w (store_failed store meta s s' m m' Get r two)
  cuts_counts wanted piece spot span (Err NoMemory) turn s s' m m' two r w = absurd (let no : false ≡ true = w in cc)
  cuts_counts wanted piece spot span (Ok None) turn s s' m m' two r w =
      store_went store meta (fetch_outcome turn) s s' m m' Get (fetch_clear turn _ w (refl, refl, refl)) r two
  cuts_counts wanted piece spot span (Ok (Some bytes)) turn s s' m m' two r w =
      store_went store meta (fetch_outcome turn) s s' m m' Get (by (short_in spot span.from span.most bytes) turn w) r two
    where
      by : (end : Option ℕ) (turn : Turn Search) → CutsBytes end wanted piece spot span bytes (Ok turn) → Clear (fetch_outcome turn)
      by (Some end) turn w = fetch_clear turn _ w (refl, refl, refl)
      by None (Ends (Run tier size stop run)) w = (refl, refl, refl)
      by None (Ends (Damaged place at)) w = (refl, refl, refl)
      by None turn w = elim w [ ]

  log_counts : (wanted : FetchRequest) (piece : Piece) (span : Span) (view : View) (place : Option (ℕ × Spot)) (turn : Turn Search) (s s' : S) (m m' : M) → m' ≡ m
      → LogRow store.content store.control wanted piece span view place (Ok turn) s s' → Counted store meta (fetch_outcome turn) s s' m m'
  log_counts wanted piece span view None turn s s' m m' two w =
      still store meta (fetch_outcome turn) s s' m m' (fetch_clear turn _ w.0 (refl, refl, refl)) w.1 two
  log_counts wanted piece span view (Some place) turn s s' m m' two w =
      cuts_counts wanted piece place.1 span w.answer turn s s' m m' two w.gets.control w.cuts

  takes_counts : (wanted : ℕ) (spot : Spot) (answer : Result (Option (List ℕ)) Trouble) (turn : Turn RebuildStep) (s s' : S) (m m' : M) → m' ≡ m
      → Ran Get (fate_of answer) (store.control s) (store.control s') → TakesEpochs wanted spot answer (Ok turn) → Counted store meta (rebuild_outcome turn) s s' m m'
  takes_counts wanted spot (Err Failed) turn s s' m m' two r w =
      rebuild_as turn (Ends StoreFault) s s' m m' w (store_failed store meta s s' m m' Get r two)
  takes_counts wanted spot (Err NoMemory) turn s s' m m' two r w = absurd (let no : false ≡ true = w in cc)
  takes_counts wanted spot (Ok None) turn s s' m m' two r w =
      store_went store meta (rebuild_outcome turn) s s' m m' Get (rebuild_clear turn _ w (refl, refl, refl)) r two
  takes_counts wanted spot (Ok (Some bytes)) turn s s' m m' two r w =
      store_went store meta (rebuild_outcome turn) s s' m m' Get (by (short_of spot bytes) turn w) r two
    where
      by : (end : Option ℕ) (turn : Turn RebuildStep) → TakesBytes end wanted spot bytes (Ok turn) → Clear (rebuild_outcome turn)
      by (Some end) turn w = rebuild_clear turn _ w (refl, refl, refl)
      by None (Goes next) w = (refl, refl, refl)
      by None (Ends answer) w = damage_clear answer _ w.0 (refl, refl, refl)

  epochs_counts : (wanted : ℕ) (view : View) (spot : Option Spot) (turn : Turn RebuildStep) (s s' : S) (m m' : M) → m' ≡ m
      → EpochsRow store.content store.control wanted view spot (Ok turn) s s' → Counted store meta (rebuild_outcome turn) s s' m m'
  epochs_counts wanted view None turn s s' m m' two w =
      still store meta (rebuild_outcome turn) s s' m m' (rebuild_clear turn _ w.0 (refl, refl, refl)) w.1 two
  epochs_counts wanted view (Some spot) turn s s' m m' two w = takes_counts wanted spot w.answer turn s s' m m' two w.gets.control w.takes

  pub rebuild_counts : (wanted : Rebuilt) (line : List (ℕ × ℕ)) (view : View) (turn : Turn RebuildStep) (s s' : S) (m m' : M) → m' ≡ m
      → RebuildRow store.content store.control wanted line view (Ok turn) s s' → Counted store meta (rebuild_outcome turn) s s' m m'
  rebuild_counts wanted line view turn s s' m m' two w = epochs_counts wanted.offset view _ turn s s' m m' two w

  pub fetch_counts : (wanted : FetchRequest) (line : List (ℕ × ℕ)) (next : Search) (turn : Turn Search) (old new : Tiers S M)
      → RemoteFetchRow store.content store.control meta.content meta.control wanted line next (Ok turn) old new
      → Counted store meta (fetch_outcome turn) old.store new.store old.meta new.meta
  fetch_counts wanted line Refresh turn old new w =
      refresh_counts wanted line turn old.view new.view old.store new.store old.meta new.meta (ap (λ (t : Tiers S M). t.store) w.0) w.1
  fetch_counts wanted line (Index piece) turn old new w =
      index_counts wanted piece old.view turn (found piece.id.0 old.cache.pairs) old.cache new.cache old.store new.store old.meta new.meta (ap (λ (t : Tiers S M). t.meta) w.0) w.1
  fetch_counts wanted line (Log piece span) turn old new w =
      log_counts wanted piece span old.view (spot_in wanted.partition piece.id part.Log (entry_of piece.id old.view.entries)) turn old.store new.store old.meta new.meta
      (ap (λ (t : Tiers S M). t.meta) w.0) w.1
