-- Each turn of a fetch from the remote tier leaves fewer.
use Rattle.std.proofs.Common.{◌≡◌, ℕ, ◌<◌, ◌≤◌, List, Some, None, Option, Ok, Err, true, false, arith}
use Rattle.std.specs.declared.result.Result.{Result}
use Rattle.object_store.specs.declared.store.Store.{Ghosts as StoreGhosts}
use Rattle.meta_log.specs.declared.log.MetaLog.{Ghosts as MetaGhosts}
use Rattle.remote_view.specs.Fold.{EntriesSeen}
use Rattle.tier_base.specs.declared.fault.Trouble.{Trouble}
use Rattle.tier_base.specs.declared.fault.Trouble.TheVariants.{Failed, NoMemory}
use Rattle.object_store.specs.declared.placing.Spot.{Spot}
use Rattle.object_store.specs.Place.{short_of, short_in}
use Rattle.index_cache.specs.Cache.{Cache, found}
use Rattle.sparse_index.specs.Offsets.{OffsetTable}
use Rattle.remote_view.specs.Fold.{entry_of}
use Rattle.remote_find.specs.declared.piece.Piece.{Piece}
use Rattle.remote_find.specs.Pieces.{piece_at}
use Rattle.tier_base.specs.declared.plain.Part.TheVariants as part
use Rattle.tier_fetch.specs.Turns.{Tiers as Fetched, RemoteFetchRow, IndexRow, LoadRow, LogRow, LoadsBytes, Loads, CutsBytes, CutsRunOut, spot_in, reads_by, chosen as found_piece}
use Rattle.plain_log.specs.declared.turn.Turn.TheVariants as fetch
use Rattle.tier_fetch.specs.declared.turn.FetchStep.{FetchStep as Search}
use Rattle.tier_fetch.specs.declared.turn.FetchStep.TheVariants.{Refresh, Index, Log}
use Rattle.tier_fetch.specs.declared.turn.Span.{Span}
use Rattle.tier_fetch.specs.declared.turn.FetchRequest.{FetchRequest}

-- how many a fetch has taken at most that does this next
abbrev pub sought_before : Search → ℕ
sought_before Refresh = 1
sought_before (Index piece) = 2
sought_before (Log piece span) = 3

pub few_sought : (next : Search) → sought_before next ≤ 13
few_sought Refresh = omega arith
few_sought (Index piece) = omega arith
few_sought (Log piece span) = omega arith

-- a fetch continues with a later turn

same_next : (before next after : Search) → fetch.Goes next ≡ fetch.Goes after → sought_before before < sought_before after → sought_before before < sought_before next
same_next before next after is lt = let e : next ≡ after = cc in rw e lt

module _ {S M : Type 0} (store : StoreGhosts S) (meta : MetaGhosts M) where
  chosen_advances : (notes : ℕ) (piece : Option Piece) (next : Search) → fetch.Goes next ≡ found_piece notes piece → sought_before Refresh < sought_before next
  chosen_advances notes None next is = absurd cc
  chosen_advances notes (Some piece) next is = same_next Refresh next (Index piece) is (omega arith)

  loads_advances : (wanted : FetchRequest) (piece : Piece) (base : ℕ) (spot : Spot) (answer : Result (Option (List ℕ)) Trouble) (next : Search) (old new : Cache)
      → Loads wanted piece base spot answer (Ok (fetch.Goes next)) old new → sought_before (Index piece) < sought_before next
  loads_advances wanted piece base spot (Err Failed) next old new w = let e = w.0 in absurd (cc (e))
  loads_advances wanted piece base spot (Err NoMemory) next old new w = absurd (let no : false ≡ true = w.0 in cc)
  loads_advances wanted piece base spot (Ok None) next old new w = let e = w.0 in absurd (cc (e))
  loads_advances wanted piece base spot (Ok (Some bytes)) next old new w = by (short_of spot bytes) w
    where
      by : (end : Option ℕ) → LoadsBytes end wanted piece base spot bytes (Ok (fetch.Goes next)) old new → sought_before (Index piece) < sought_before next
      by (Some end) w = let e = w.0 in absurd (cc (e))
      by None w = same_next (Index piece) next _ w.turn_is (omega arith)

  load_advances : (wanted : FetchRequest) (piece : Piece) (view : EntriesSeen) (place : Option (ℕ × Spot)) (next : Search) (cache cache' : Cache) (old new : S)
      → LoadRow store.content store.control wanted piece view place (Ok (fetch.Goes next)) cache cache' old new → sought_before (Index piece) < sought_before next
  load_advances wanted piece view None next cache cache' old new w = let e = w.0 in absurd (cc (e))
  load_advances wanted piece view (Some place) next cache cache' old new w = loads_advances wanted piece place.0 place.1 w.answer next cache cache' w.loads

  index_advances : (wanted : FetchRequest) (piece : Piece) (view : EntriesSeen) (next : Search) (index : Option OffsetTable) (cache cache' : Cache) (old new : S)
      → IndexRow store.content store.control wanted piece view (Ok (fetch.Goes next)) index cache cache' old new → sought_before (Index piece) < sought_before next
  index_advances wanted piece view next (Some index) cache cache' old new w = let is : fetch.Goes next ≡ reads_by wanted piece index = cc (w.0) in same_next (Index piece) next _ is (omega arith)
  index_advances wanted piece view next None cache cache' old new w =
      load_advances wanted piece view (spot_in wanted.partition piece.id part.Index (entry_of piece.id view.entries)) next cache cache' old new w

  cuts_ends : {A : Type 0} (wanted : FetchRequest) (piece : Piece) (spot : Spot) (span : Span) (answer : Result (Option (List ℕ)) Trouble) (next : Search)
      → CutsRunOut wanted piece spot span answer (Ok (fetch.Goes next)) → A
  cuts_ends wanted piece spot span (Err Failed) next w = absurd (cc (w))
  cuts_ends wanted piece spot span (Err NoMemory) next w = absurd (let no : false ≡ true = w in cc)
  cuts_ends wanted piece spot span (Ok None) next w = absurd (cc (w))
  cuts_ends {A} wanted piece spot span (Ok (Some bytes)) next w = by (short_in spot span.from span.most bytes) w
    where
      by : (end : Option ℕ) → CutsBytes end wanted piece spot span bytes (Ok (fetch.Goes next)) → A
      by (Some end) w = absurd (cc (w))
      by None w = absurd w

  log_ends : {A : Type 0} (wanted : FetchRequest) (piece : Piece) (span : Span) (view : EntriesSeen) (place : Option (ℕ × Spot)) (next : Search) (old new : S)
      → LogRow store.content store.control wanted piece span view place (Ok (fetch.Goes next)) old new → A
  log_ends wanted piece span view None next old new w = let e = w.0 in absurd (cc (e))
  log_ends wanted piece span view (Some place) next old new w = cuts_ends wanted piece place.1 span w.answer next w.cuts

  pub fetch_advances : (wanted : FetchRequest) (line : List (ℕ × ℕ)) (before next : Search) (old new : Fetched S M)
      → RemoteFetchRow store.content store.control meta.content meta.control wanted line before (Ok (fetch.Goes next)) old new → sought_before before < sought_before next
  fetch_advances wanted line Refresh next old new w = chosen_advances new.view.notes (piece_at new.view.entries line wanted.log_end wanted.offset) next w.1.0
  fetch_advances wanted line (Index piece) next old new w = index_advances wanted piece old.view next (found piece.id.0 old.cache.pairs) old.cache new.cache old.store new.store w.1
  fetch_advances wanted line (Log piece span) next old new w =
      log_ends wanted piece span old.view (spot_in wanted.partition piece.id part.Log (entry_of piece.id old.view.entries)) next old.store new.store w.1
