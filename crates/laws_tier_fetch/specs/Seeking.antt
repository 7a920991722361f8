-- What the scene of the tier has of a fetch that continues, and of a broker's cache of remote indexes.
--
-- A broker serves a fetch still where it leads the epoch that it led when the fetch began, without a stop between, and
-- the log start offset isn't above the offset. Whoever takes a turn tests both first; the turn goes by the line and the
-- end of that broker's log.
use Rattle.std.specs.Prelude.{◌≡◌, ℕ, ◌^◌, ◌<◌, ◌≤◌, List, length, map, Option}
use Rattle.std.specs.Prelude.{Some, None, Ok, Err, slice_get, slice_set}
use Rattle.std.specs.declared.result.Result.{Result}
use Rattle.std.specs.declared.alloc.AllocError.{AllocError}
use Rattle.tier_base.specs.declared.names.SegmentId.{SegmentId}
use Rattle.log_terms.specs.Log.{end_of}
use Rattle.sparse_index.specs.Offsets.{OffsetTable}
use Rattle.index_cache.specs.Cache.{Pair, Cache}
use Rattle.segment_meta.specs.declared.note.Note.{Note}
use Rattle.object_store.specs.Content as store
use Rattle.meta_log.specs.Content as meta
use Rattle.plain_log.specs.declared.state.State.{State as Plain}
use Rattle.plain_log.specs.declared.state.Broker.{Broker}
use Rattle.remote_view.specs.Fold.{EntriesSeen}
use Rattle.remote_find.specs.declared.piece.Piece.{Piece}
use Rattle.tier_fetch.specs.declared.turn.FetchRequest.{FetchRequest}
use Rattle.tier_fetch.specs.declared.turn.FetchStep.{FetchStep}
use Rattle.tier_fetch.specs.declared.turn.FetchStep.TheVariants.{Refresh, Index, Log}
use Rattle.plain_log.specs.declared.turn.Turn.{Turn}
use Rattle.plain_log.specs.declared.turn.Turn.TheVariants.{Goes, Ends}
use Rattle.tier_safe.specs.Scene.{BrokerTierView, Sought, TierTask, Free, Seeks, Scene}
use Rattle.tier_safe.specs.Fetches.{StillLeads}
use Rattle.tier_safe.specs.Safe.{BothSafe}
use Rattle.tier_safe.specs.Reads.{TellsEpochs}
use Rattle.tier_safe.specs.Turns.{ShowsScene}

-- a fetch

-- the piece that it has found
abbrev pub piece_of : FetchStep → Option Piece
piece_of Refresh = None
piece_of (Index piece) = Some piece
piece_of (Log piece span) = Some piece

-- the position in that remote segment's log where it begins to read
abbrev pub from_of : FetchStep → Option ℕ
from_of Refresh = None
from_of (Index piece) = None
from_of (Log piece span) = Some span.from

-- what a fetch at an offset has found before its next turn; its broker has stopped so often, and leads this epoch
abbrev pub sought_of : ℕ → ℕ → ℕ → ℕ → FetchStep → Sought
sought_of broker stops epoch offset next = record {
  broker = broker;
  stops = stops;
  epoch = epoch;
  offset = offset;
  piece = piece_of next;
  from = from_of next;
}

-- what its actor's state has after a turn
abbrev pub fetch_tier_task : ℕ → ℕ → ℕ → ℕ → Turn FetchStep → TierTask
fetch_tier_task broker stops epoch offset (Goes next) = Seeks (sought_of broker stops epoch offset next)
fetch_tier_task broker stops epoch offset (Ends answer) = Free

-- after one that may have run out of memory, and then is taken again
abbrev pub fetch_after : ℕ → ℕ → ℕ → ℕ → FetchStep → Result (Turn FetchStep) AllocError → TierTask
fetch_after broker stops epoch offset next (Ok turn) = fetch_tier_task broker stops epoch offset turn
fetch_after broker stops epoch offset next (Err e) = Seeks (sought_of broker stops epoch offset next)

-- a cache

-- a pair of a cache, under its segment's id
abbrev pub under_id : Pair → SegmentId × OffsetTable
under_id pair = (record { 0 = pair.0 }, pair.1)

-- the indexes in a cache
abbrev pub indexes_in : Cache → List (SegmentId × OffsetTable)
indexes_in cache = map under_id cache.pairs

-- the tier

-- actor a's fetch is at this turn, at broker b, in a tier that shows devices, view and cache, and the broker serves
-- it still
pub record IsAtTurn (c : Scene) (p : Plain) (a b : ℕ) (tier_view : BrokerTierView) (x : Broker) (stops epoch : ℕ)
    (wanted : FetchRequest)
    (line : List (ℕ × ℕ)) (next : FetchStep) (objects : store.Content) (notes : meta.Content) (view : EntriesSeen)
    (cache : Cache) : Type 0 where
  pub safe : BothSafe c p
  pub few : length c.notes < 2 ^ 64
  pub shows : ShowsScene c a b tier_view (Seeks (sought_of b stops epoch wanted.offset next)) objects notes view
  pub cache_is : tier_view.cache ≡ indexes_in cache
  pub partition : wanted.partition ≡ c.partition
  pub broker_is : slice_get p.brokers b ≡ Some x
  pub leads : StillLeads (sought_of b stops epoch wanted.offset next) x
  pub past : p.registry.start ≤ wanted.offset
  pub end_is : wanted.log_end ≡ end_of x.log
  pub is_observable : TellsEpochs line x.log

-- the tier after a turn of the fetch in that actor's state
abbrev pub after_fetch : Scene → ℕ → ℕ → BrokerTierView → TierTask → store.Objects → List Note → EntriesSeen → Cache
    → Scene
after_fetch c a b tier_view tier_task objects notes view cache = record {
  partition = c.partition;
  objects = objects;
  notes = notes;
  tier_views = slice_set c.tier_views b (record tier_view { view = view; cache = indexes_in cache });
  desk = slice_set c.desk a tier_task;
}
