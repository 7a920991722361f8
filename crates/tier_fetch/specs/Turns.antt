-- What each turn of a fetch from the remote tier does, from the one on that follows its first turn.
--
--   turn       does                                                     answers
--   Refresh    refreshes the view, and chooses the piece                MetaFault, Damaged
--   Index      has the piece's index of the cache, or else reads it     StoreFault, Damaged
--   Log        reads the part of the log that the index shows           Run, StoreFault, Damaged
--
-- The piece is the one that holds the offset in the line of the broker's own log. A view without one, or whose entry of
-- it places no part, is damage of the metadata log. An object that isn't there is damaged at 0, one that lacks bytes of
-- what is read after those that it has, an index that is invalid where it begins, and a segment's log at the first
-- place where no batch follows before the run has ended.
--
-- Source: KIP-405, fetches below the local log start offset, and RemoteIndexCache.
use Rattle.std.specs.Prelude.{◌≡◌, ℕ, ◌+◌, ◌<◌, min, List, length, slice_range}
use Rattle.std.specs.Prelude.{option_map, Option, Some, None, Ok, Err, IsErr}
use Rattle.std.specs.declared.result.Result.{Result}
use Rattle.std.specs.declared.alloc.AllocError.{AllocError}
use Rattle.std.specs.Allocator.{alloc_error}
use Rattle.tier_base.specs.declared.fault.Trouble.{Trouble}
use Rattle.tier_base.specs.declared.fault.Trouble.TheVariants.{Failed, NoMemory}
use Rattle.tier_base.specs.declared.names.PartitionId.{PartitionId}
use Rattle.tier_base.specs.declared.names.SegmentId.{SegmentId}
use Rattle.tier_base.specs.declared.plain.Part.{Part}
use Rattle.tier_base.specs.declared.plain.Part.TheVariants as part
use Rattle.tier_base.specs.declared.plain.Stop.{Stop}
use Rattle.tier_base.specs.Device.{Control}
use Rattle.sparse_index.specs.Bytes.{bytes_of, IsNoIndex}
use Rattle.sparse_index.specs.Offsets.{OffsetTable, AreOffsets, entry_bytes}
use Rattle.index_cache.specs.Cache.{Cache, found, brought_front, kept}
use Rattle.segment_file.specs.declared.taking.Cutout.{Cutout}
use Rattle.segment_file.specs.Run.{IsRunCutAt, IsBadAt}
use Rattle.segment_meta.specs.declared.note.Entry.{Entry}
use Rattle.object_store.specs.declared.placing.Spot.{Spot}
use Rattle.object_store.specs.Call as store_call
use Rattle.object_store.specs.Content as store
use Rattle.object_store.specs.Calls.{Gets}
use Rattle.object_store.specs.Place.{spot_of, all_of, some_of, short_of, short_in}
use Rattle.meta_log.specs.Call as meta_call
use Rattle.meta_log.specs.Content as meta
use Rattle.remote_view.specs.Fold.{EntriesSeen, entry_of}
use Rattle.remote_find.specs.declared.piece.Piece.{Piece}
use Rattle.remote_find.specs.Pieces.{piece_at}
use Rattle.view_refresh.specs.Refreshing.{Refreshed, Unread, Halted}
use Rattle.plain_log.specs.declared.answer.Answer.TheVariants.{MetaFault, StoreFault, Damaged, Run}
use Rattle.plain_log.specs.declared.answer.Place.{Place}
use Rattle.plain_log.specs.declared.answer.Place.TheVariants.{Key, Meta}
use Rattle.plain_log.specs.declared.answer.Tier.{Tier}
use Rattle.plain_log.specs.declared.answer.Tier.TheVariants.{Remote}
use Rattle.tier_fetch.specs.declared.refusal.RemoteRefusal.{RemoteRefusal}
use Rattle.tier_fetch.specs.declared.refusal.RemoteRefusal.TheVariants as refusal
use Rattle.tier_fetch.specs.declared.reading.RemoteRun.{RemoteRun}
use Rattle.tier_fetch.specs.declared.turn.FetchRequest.{FetchRequest}
use Rattle.tier_fetch.specs.declared.turn.Span.{Span}
use Rattle.tier_fetch.specs.declared.turn.FetchStep.{FetchStep}
use Rattle.tier_fetch.specs.declared.turn.FetchStep.TheVariants.{Refresh, Index, Log}
use Rattle.plain_log.specs.declared.turn.Turn.{Turn}
use Rattle.plain_log.specs.declared.turn.Turn.TheVariants.{Goes, Ends}
use Rattle.tier_fetch.specs.Span.{span_of}

-- the turn's piece, where it has one, ends past the offset
abbrev pub IsPieceFor : ℕ → FetchStep → Type 0
IsPieceFor offset Refresh = Unit {0}
IsPieceFor offset (Index piece) = offset < piece.to
IsPieceFor offset (Log piece span) = offset < piece.to

-- a fetch that continues has such a turn next
abbrev pub GoesFor : ℕ → Turn FetchStep → Type 0
GoesFor offset (Goes next) = IsPieceFor offset next
GoesFor offset (Ends answer) = Unit {0}

-- what a refreshed view of so many metadata events says of an offset, by its piece: a missing one is damage of the
-- metadata log
abbrev pub chosen : ℕ → Option Piece → Turn FetchStep
chosen notes None = Ends (Damaged Meta notes)
chosen notes (Some piece) = Goes (Index piece)

-- what a task's turn comes to that couldn't read its segment
abbrev pub refused : {N : Type 0} → RemoteRefusal → Result (Turn N) AllocError
refused (refusal.Damaged place at) = Ok (Ends (Damaged place at))
refused refusal.StoreFault = Ok (Ends StoreFault)
refused refusal.NoMemory = Err alloc_error

-- what a fetch's turn comes to with the bytes that an index has shown
abbrev pub goes_with : Piece → Result Span RemoteRefusal → Result (Turn FetchStep) AllocError
goes_with piece (Ok span) = Ok (Goes (Log piece span))
goes_with piece (Err why) = refused why

-- what it comes to with the run that was read
abbrev pub ends_with : Piece → Result RemoteRun RemoteRefusal → Result (Turn FetchStep) AllocError
ends_with piece (Ok run) = Ok (Ends (Run (Remote piece.id) (length run.bytes) run.stop run.bytes))
ends_with piece (Err why) = refused why

-- the base offset of a segment and where a part of it is, by its entry
abbrev pub spot_in : PartitionId → SegmentId → Part → Option Entry → Option (ℕ × Spot)
spot_in partition id part None = None
spot_in partition id part (Some entry) =
    option_map (λ spot. (entry.start, spot)) (spot_of partition id entry.packed entry.custom part)

-- the turn that reads what an index shows
abbrev pub reads_by : FetchRequest → Piece → OffsetTable → Turn FetchStep
reads_by wanted piece index = Goes (Log piece (span_of index wanted.offset wanted.limit piece.to))

-- these are the bytes of an index, which is kept, and the fetch continues with it
pub record IsLoaded (wanted : FetchRequest) (piece : Piece) (base : ℕ) (bytes : List ℕ) (turn : Turn FetchStep)
    (old new : Cache)
    : Type 0 where
  pub index : OffsetTable
  pub base_is : index.base ≡ base
  pub rises : AreOffsets index.entries
  pub bytes_are : bytes ≡ bytes_of entry_bytes index.entries
  pub kept_is : new ≡ kept old piece.id.0 index
  pub turn_is : turn ≡ reads_by wanted piece index

-- what becomes of a fetch by bytes of its index, of a segment with this base offset, and by where more of them are
-- lacking
abbrev pub LoadsBytes : Option ℕ → FetchRequest → Piece → ℕ → Spot → List ℕ → Result (Turn FetchStep) AllocError → Cache
    → Cache → Type 0
LoadsBytes (Some end) wanted piece base spot bytes result old new =
    (result ≡ Ok (Ends (Damaged (Key spot.key) end))) × (new ≡ old)
LoadsBytes None wanted piece base spot bytes (Ok (Goes next)) old new =
    IsLoaded wanted piece base bytes (Goes next) old new
LoadsBytes None wanted piece base spot bytes (Ok (Ends answer)) old new =
    (answer ≡ Damaged (Key spot.key) spot.at) × IsNoIndex AreOffsets entry_bytes bytes × (new ≡ old)
LoadsBytes None wanted piece base spot bytes (Err e) old new = new ≡ old

-- by what the store answered of it
abbrev pub Loads : FetchRequest → Piece → ℕ → Spot → Result (Option (List ℕ)) Trouble
    → Result (Turn FetchStep) AllocError → Cache → Cache → Type 0
Loads wanted piece base spot (Err Failed) result old new = (result ≡ Ok (Ends StoreFault)) × (new ≡ old)
Loads wanted piece base spot (Err NoMemory) result old new = IsErr result × (new ≡ old)
Loads wanted piece base spot (Ok None) result old new = (result ≡ Ok (Ends (Damaged (Key spot.key) 0))) × (new ≡ old)
Loads wanted piece base spot (Ok (Some bytes)) result old new =
    LoadsBytes (short_of spot bytes) wanted piece base spot bytes result old new

-- the run that is cut out of bytes, clipped by the piece
pub record IsCutRun (wanted : FetchRequest) (piece : Piece) (bytes : List ℕ) (tier : Tier) (size : ℕ) (stop : Stop)
    (run : List ℕ)
    : Type 0 where
  pub cut : Cutout
  pub is : IsRunCutAt bytes wanted.offset wanted.limit wanted.mark piece.to cut
  pub part : run ≡ slice_range bytes cut.from cut.to
  pub tier_is : tier ≡ Remote piece.id
  pub size_is : size ≡ length run
  pub stop_is : stop ≡ cut.stop

-- the bytes from a position of a segment's log on have no such run from this place on
pub record HasNoRemoteRun (wanted : FetchRequest) (piece : Piece) (spot : Spot) (span : Span) (bytes : List ℕ)
    (place : Place) (at : ℕ)
    : Type 0 where
  pub found : ℕ
  pub bad : IsBadAt bytes wanted.offset wanted.limit (min wanted.mark piece.to) found
  pub place_is : place ≡ Key spot.key
  pub at_is : at ≡ spot.at + span.from + found

-- what becomes of it by bytes of the segment's log, and by where more of them are lacking
abbrev pub CutsBytes : Option ℕ → FetchRequest → Piece → Spot → Span → List ℕ → Result (Turn FetchStep) AllocError
    → Type 0
CutsBytes (Some end) wanted piece spot span bytes result = result ≡ Ok (Ends (Damaged (Key spot.key) end))
CutsBytes None wanted piece spot span bytes (Ok (Ends (Run tier size stop run))) =
    IsCutRun wanted piece bytes tier size stop run
CutsBytes None wanted piece spot span bytes (Ok (Ends (Damaged place at))) =
    HasNoRemoteRun wanted piece spot span bytes place at
CutsBytes None wanted piece spot span bytes (Ok turn) = ⊥
CutsBytes None wanted piece spot span bytes (Err e) = Unit {0}

-- by what the store answered of it
abbrev pub CutsRunOut : FetchRequest → Piece → Spot → Span → Result (Option (List ℕ)) Trouble
    → Result (Turn FetchStep) AllocError
    → Type 0
CutsRunOut wanted piece spot span (Err Failed) result = result ≡ Ok (Ends StoreFault)
CutsRunOut wanted piece spot span (Err NoMemory) result = IsErr result
CutsRunOut wanted piece spot span (Ok None) result = result ≡ Ok (Ends (Damaged (Key spot.key) 0))
CutsRunOut wanted piece spot span (Ok (Some bytes)) result =
    CutsBytes (short_in spot span.from span.most bytes) wanted piece spot span bytes result

module _ {M : Type 0} (notes : M → meta.Content) (calls : M → Control meta_call.call_code) where
  -- the piece is chosen
  abbrev pub RefreshRow : FetchRequest → List (ℕ × ℕ) → Result (Turn FetchStep) AllocError → EntriesSeen → EntriesSeen
      → M → M → Type 0
  RefreshRow wanted line (Ok (Ends MetaFault)) before after old new = Unread notes calls before after old new
  RefreshRow wanted line (Ok turn) before after old new =
      (turn ≡ chosen after.notes (piece_at after.entries line wanted.log_end wanted.offset))
      × Refreshed notes calls before after old new
  RefreshRow wanted line (Err e) before after old new = Halted notes calls before after old new

module _ {S : Type 0} (objects : S → store.Content) (calls : S → Control store_call.call_code) where
  -- one read of a segment's index, which is kept
  pub record ReadsIndex (wanted : FetchRequest) (piece : Piece) (place : ℕ × Spot)
      (result : Result (Turn FetchStep) AllocError)
      (cache cache' : Cache) (old new : S) : Type 0 where
    pub answer : Result (Option (List ℕ)) Trouble
    pub gets : Gets objects calls place.1.key (all_of place.1) answer old new
    pub loads : Loads wanted piece place.0 place.1 answer result cache cache'

  -- the index isn't in the cache: it is read where it is
  abbrev pub LoadRow : FetchRequest → Piece → EntriesSeen → Option (ℕ × Spot) → Result (Turn FetchStep) AllocError
      → Cache → Cache → S → S → Type 0
  LoadRow wanted piece view None result cache cache' old new =
      (result ≡ Ok (Ends (Damaged Meta view.notes))) × (cache' ≡ cache) × (new ≡ old)
  LoadRow wanted piece view (Some place) result cache cache' old new =
      ReadsIndex wanted piece place result cache cache' old new

  -- the index: no call is made where it is in the cache
  abbrev pub IndexRow : FetchRequest → Piece → EntriesSeen → Result (Turn FetchStep) AllocError → Option OffsetTable
      → Cache → Cache → S → S → Type 0
  IndexRow wanted piece view result (Some index) cache cache' old new =
      (result ≡ Ok (reads_by wanted piece index)) × (cache' ≡ brought_front cache piece.id.0) × (new ≡ old)
  IndexRow wanted piece view result None cache cache' old new =
      LoadRow wanted piece view (spot_in wanted.partition piece.id part.Index (entry_of piece.id view.entries)) result
      cache cache' old new

  -- one read of a segment's log, no further than the span
  pub record ReadsRemoteLog (wanted : FetchRequest) (piece : Piece) (spot : Spot) (span : Span)
      (result : Result (Turn FetchStep) AllocError) (old new : S) : Type 0 where
    pub answer : Result (Option (List ℕ)) Trouble
    pub gets : Gets objects calls spot.key (some_of spot span.from span.most) answer old new
    pub cuts : CutsRunOut wanted piece spot span answer result

  -- the run is read where the segment's log is
  abbrev pub LogRow : FetchRequest → Piece → Span → EntriesSeen → Option (ℕ × Spot) → Result (Turn FetchStep) AllocError
      → S → S → Type 0
  LogRow wanted piece span view None result old new = (result ≡ Ok (Ends (Damaged Meta view.notes))) × (new ≡ old)
  LogRow wanted piece span view (Some place) result old new = ReadsRemoteLog wanted piece place.1 span result old new

-- what a fetch's turns change: its broker's view and cache, the store and the metadata log
pub record Tiers (S M : Type 0) : Type 0 where
  pub view : EntriesSeen
  pub cache : Cache
  pub store : S
  pub meta : M

module _ {S M : Type 0} (objects : S → store.Content) (calls : S → Control store_call.call_code)
    (notes : M → meta.Content) (notings : M → Control meta_call.call_code) where
  -- a turn of a fetch, by what was next: what it came to, or that it ran out of memory
  abbrev pub RemoteFetchRow : FetchRequest → List (ℕ × ℕ) → FetchStep → Result (Turn FetchStep) AllocError → Tiers S M
      → Tiers S M
      → Type 0
  RemoteFetchRow wanted line Refresh result old new =
      (new ≡ record old { view = new.view; meta = new.meta })
      × RefreshRow notes notings wanted line result old.view new.view old.meta new.meta
  RemoteFetchRow wanted line (Index piece) result old new =
      (new ≡ record old { cache = new.cache; store = new.store })
      × IndexRow objects calls wanted piece old.view result (found piece.id.0 old.cache.pairs)
      old.cache new.cache old.store new.store
  RemoteFetchRow wanted line (Log piece span) result old new =
      (new ≡ record old { store = new.store })
      × LogRow objects calls wanted piece span old.view
      (spot_in wanted.partition piece.id part.Log (entry_of piece.id old.view.entries)) result old.store new.store
