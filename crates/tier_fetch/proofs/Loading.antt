-- An index that the cache hasn't.
use Rattle.std.proofs.Common.{◌≡◌, subst, Option, Some, None, option_map, Result}
use Rattle.std.specs.declared.alloc.AllocError.{AllocError}
use Rattle.tier_base.specs.declared.plain.Part.TheVariants as part
use Rattle.tier_base.specs.Device.{Control}
use Rattle.sparse_index.specs.Offsets.{OffsetTable}
use Rattle.index_cache.specs.Cache.{Cache, found, in_front, brought_front}
use Rattle.object_store.specs.Call.{call_code}
use Rattle.object_store.specs.Content.{Content}
use Rattle.remote_view.specs.Fold.{EntriesSeen, entry_of}
use Rattle.remote_find.specs.declared.piece.Piece.{Piece}
use Rattle.tier_fetch.specs.declared.turn.FetchRequest.{FetchRequest}
use Rattle.tier_fetch.specs.declared.turn.Span.{Span}
use Rattle.tier_fetch.specs.declared.turn.FetchStep.{FetchStep}
use Rattle.tier_fetch.specs.Turns.{spot_in, LoadRow, IndexRow}
use Rattle.plain_log.specs.declared.turn.Turn.{Turn}

-- it is read, and the cache was left as it was before
pub not_cached : {S : Type 0} (objects : S → Content) (calls : S → Control call_code) (wanted : FetchRequest) (piece : Piece) (view : EntriesSeen) (result : Result (Turn FetchStep) AllocError) (f : OffsetTable → Span)
    (cache mid new : Cache) (s s' : S) → None ≡ option_map f (found piece.id.0 cache.pairs) → mid ≡ brought_front cache piece.id.0
    → LoadRow objects calls wanted piece view (spot_in wanted.partition piece.id part.Index (entry_of piece.id view.entries)) result mid new s s'
    → IndexRow objects calls wanted piece view result (found piece.id.0 cache.pairs) cache new s s'
not_cached objects calls wanted piece view result f cache mid new s s' none same row = by (found piece.id.0 cache.pairs) none same
  where
    by : (o : Option OffsetTable) → None ≡ option_map f o → mid ≡ record cache { pairs = in_front o piece.id.0 cache.pairs } → IndexRow objects calls wanted piece view result o cache new s s'
    by None none same = subst (λ (k : Cache). LoadRow objects calls wanted piece view (spot_in wanted.partition piece.id part.Index (entry_of piece.id view.entries)) result k new s s') same row
    by (Some index) none same = absurd (cc (none))
