-- What each turn of a timestamp lookup does, from the one on that follows its first turn.
--
--   turn     does                                                             answers
--   Seek     below the local log: refreshes the view, and passes over          MetaFault, Damaged
--            remote segments that are too early
--            in the local log: passes over closed segments, and reads a run    Offset, DiskFault, Damaged
--   Times    reads the time index of the segment that it has come to           StoreFault, Damaged
--   Index    has the segment's offset index of the cache, or else reads it     StoreFault, Damaged
--   Log      reads what is left of the segment's log                           Offset, StoreFault, Damaged
--
-- The time index shows a batch up to which all are too early, so the search of the segment continues after it. Where a
-- piece or a run has no batch that isn't too early, the cursor comes to its end.
--
-- Source: KIP-405, whose remote segments have time indexes, and Kafka's ListOffsets.
use Rattle.std.specs.Prelude.{◌≡◌, ◌⊎◌, ℕ, ◌+◌, ◌<◌, ◌≤◌, ◌^◌, ◌-◌, true, max, nat_lt}
use Rattle.std.specs.Prelude.{if◌then◌else◌, ℤ, List, Option, Some, None, Ok, Err, IsErr}
use Rattle.std.specs.declared.result.Result.{Result}
use Rattle.std.specs.declared.alloc.AllocError.{AllocError}
use Rattle.tier_base.specs.declared.fault.Trouble.{Trouble}
use Rattle.tier_base.specs.declared.fault.Trouble.TheVariants.{Failed, NoMemory}
use Rattle.tier_base.specs.declared.plain.Part.TheVariants as part
use Rattle.tier_base.specs.Device.{Control, Went, Ran}
use Rattle.log_terms.specs.Log.{joined, end_from}
use Rattle.sparse_index.specs.Bytes.{bytes_of, IsNoIndex}
use Rattle.index_cache.specs.Cache.{Cache, found}
use Rattle.sparse_index.specs.Times.{TimeTable, AreMoments, moment_bytes, below_time}
use Rattle.object_store.specs.declared.placing.Spot.{Spot}
use Rattle.object_store.specs.Call as store_call
use Rattle.object_store.specs.Content as store
use Rattle.object_store.specs.Calls.{Gets}
use Rattle.object_store.specs.Place.{all_of, short_of}
use Rattle.meta_log.specs.Call as meta_call
use Rattle.meta_log.specs.Content as meta
use Rattle.disk_model.specs.Call as disk_call
use Rattle.disk_model.specs.Content as disk
use Rattle.disk_model.specs.declared.call.DiskCall.TheVariants.{Read}
use Rattle.tier_base.specs.declared.plain.FileName.{FileName}
use Rattle.local_log.specs.Reading.{segment_at, is_edge}
use Rattle.local_log.specs.declared.reading.RunOut.{RunOut}
use Rattle.broker_log.specs.Seen.{LogState, LogStays, WhileUp, OnDisk, Lasting, OneFault, Quiet, closed_in}
use Rattle.broker_log.specs.Read.{ReadsRun, Misreads}
use Rattle.remote_view.specs.Fold.{EntriesSeen, entry_of}
use Rattle.remote_find.specs.declared.piece.Piece.{Piece}
use Rattle.view_refresh.specs.Refreshing.{Refreshed, Unread, Halted}
use Rattle.plain_log.specs.declared.answer.Answer.TheVariants.{MetaFault, StoreFault, DiskFault, Damaged, Offset}
use Rattle.plain_log.specs.declared.answer.Place.TheVariants.{Key, Meta, File}
use Rattle.plain_log.specs.RowsOfReads.{first_at}
use Rattle.tier_fetch.specs.declared.turn.FetchRequest.{FetchRequest}
use Rattle.tier_fetch.specs.declared.turn.Span.{Span}
use Rattle.tier_fetch.specs.declared.refusal.RemoteRefusal.{RemoteRefusal}
use Rattle.tier_fetch.specs.declared.reading.RemoteRun.{RemoteRun}
use Rattle.plain_log.specs.declared.turn.Turn.{Turn}
use Rattle.plain_log.specs.declared.turn.Turn.TheVariants.{Goes, Ends}
use Rattle.tier_fetch.specs.Turns.{Tiers, IndexRow, LogRow, spot_in, refused, goes_with, ends_with}
use Rattle.time_find.specs.declared.turn.Asked.{Asked}
use Rattle.time_find.specs.declared.turn.SearchStep.{SearchStep}
use Rattle.time_find.specs.declared.turn.SearchStep.TheVariants.{Seek, Times as ReadsTimes, Index, Log}
use Rattle.time_find.specs.declared.run.Dated.TheVariants.{At}
use Rattle.time_find.specs.Dates.{AreAllChecked, IsDated}
use Rattle.time_find.specs.Passing.{top_of, passed_over, Seeks}

-- what a turn needs of the cursor: a piece ends past it, and is searched from it on or later
abbrev pub IsSet : ℕ → SearchStep → Type 0
IsSet cursor Seek = Unit {0}
IsSet cursor (ReadsTimes piece) = cursor < piece.to
IsSet cursor (Index piece from) = (cursor ≤ from) × (from < piece.to)
IsSet cursor (Log piece from span) = (cursor ≤ from) × (from < piece.to)

-- a search that continues from a cursor has such a turn next: its cursor hasn't fallen, and has risen where it has no
-- piece
abbrev pub SearchContinues : ℕ → Turn (ℕ × SearchStep) → Type 0
SearchContinues cursor (Goes (at, Seek)) = cursor < at
SearchContinues cursor (Goes (at, next)) = (cursor ≤ at) × IsSet at next
SearchContinues cursor (Ends answer) = Unit {0}

-- remote segments are looked for below the local log alone
abbrev pub IsBelowLocal : Asked → ℕ → SearchStep → Type 0
IsBelowLocal asked cursor Seek = cursor < asked.local
IsBelowLocal asked cursor next = Unit {0}

-- what a search comes to with a run of batches that was read at an offset, and ends at or below the known high
-- watermark: it ends past it
abbrev pub IsSearched : Asked → ℕ → List ℕ → Turn (ℕ × SearchStep) → Type 0
IsSearched asked offset run (Ends (Offset n)) =
    (batches : List (List ℕ)) → AreAllChecked batches → end_from offset batches ≤ asked.mark → run ≡ joined batches
    → IsDated asked.ts asked.start offset batches (At n)
IsSearched asked offset run (Goes (end, Seek)) =
    (batches : List (List ℕ)) → AreAllChecked batches → end_from offset batches ≤ asked.mark → run ≡ joined batches
    → (first_at asked.ts asked.start batches ≡ None) × (end ≡ max (offset + 1) (end_from offset batches))
IsSearched asked offset run turn = ⊥

-- the time index

-- from where on a segment is to be searched, as its time index shows: after the last batch up to which all are too
-- early
abbrev pub from_of : ℕ → Option (ℤ × ℕ) → ℕ
from_of cursor None = cursor
from_of cursor (Some moment) = max cursor (moment.1 + 1)

-- what a search does whose piece is to be searched from an offset on
abbrev pub shown : Asked → ℕ → Piece → ℕ → Turn (ℕ × SearchStep)
shown asked cursor piece from =
    if nat_lt from (top_of asked piece) then Goes (cursor, Index piece from) else Goes (top_of asked piece, Seek)

-- these are the bytes of a time index, and the search continues as it shows
pub record IsTimeIndexRead (asked : Asked) (cursor : ℕ) (piece : Piece) (base : ℕ) (bytes : List ℕ)
    (turn : Turn (ℕ × SearchStep)) : Type 0 where
  pub index : TimeTable
  pub base_is : index.base ≡ base
  pub rises : AreMoments index.entries
  pub bytes_are : bytes ≡ bytes_of moment_bytes index.entries
  pub turn_is : turn ≡ shown asked cursor piece (from_of cursor (below_time index asked.ts))

-- what becomes of a search by bytes of the time index of a segment with this base offset, and by where more of them
-- are lacking
abbrev pub TimesBytes : Option ℕ → Asked → ℕ → Piece → ℕ → Spot → List ℕ → Result (Turn (ℕ × SearchStep)) AllocError
    → Type 0
TimesBytes (Some end) asked cursor piece base spot bytes result = result ≡ Ok (Ends (Damaged (Key spot.key) end))
TimesBytes None asked cursor piece base spot bytes (Ok (Goes (at, next))) =
    IsTimeIndexRead asked cursor piece base bytes (Goes (at, next))
TimesBytes None asked cursor piece base spot bytes (Ok (Ends answer)) =
    (answer ≡ Damaged (Key spot.key) spot.at) × IsNoIndex AreMoments moment_bytes bytes
TimesBytes None asked cursor piece base spot bytes (Err e) = Unit {0}

-- by what the store answered of it
abbrev pub Times : Asked → ℕ → Piece → ℕ → Spot → Result (Option (List ℕ)) Trouble
    → Result (Turn (ℕ × SearchStep)) AllocError → Type 0
Times asked cursor piece base spot (Err Failed) result = result ≡ Ok (Ends StoreFault)
Times asked cursor piece base spot (Err NoMemory) result = IsErr result
Times asked cursor piece base spot (Ok None) result = result ≡ Ok (Ends (Damaged (Key spot.key) 0))
Times asked cursor piece base spot (Ok (Some bytes)) result =
    TimesBytes (short_of spot bytes) asked cursor piece base spot bytes result

-- what a fetch would ask for at an offset that a search reads from
abbrev pub wanted_at : Asked → ℕ → FetchRequest
wanted_at asked offset = record {
  partition = asked.partition;
  offset = offset;
  limit = 4294967295;
  log_end = asked.log_end;
  mark = asked.mark;
}

-- what becomes of a search by the bytes that the segment's offset index has shown
abbrev pub Indexes : ℕ → Piece → ℕ → Result Span RemoteRefusal → Result (Turn (ℕ × SearchStep)) AllocError → Type 0
Indexes cursor piece from (Ok span) result = result ≡ Ok (Goes (cursor, Log piece from span))
Indexes cursor piece from (Err why) result = result ≡ refused why

-- by the run that was read of the segment's log
abbrev pub SearchTakes : Asked → ℕ → Result RemoteRun RemoteRefusal → Result (Turn (ℕ × SearchStep)) AllocError → Type 0
SearchTakes asked from (Ok run) (Ok turn) = IsSearched asked from run.bytes turn
SearchTakes asked from (Ok run) (Err e) = ⊥
SearchTakes asked from (Err why) result = result ≡ refused why

module _ {M : Type 0} (notes : M → meta.Content) (calls : M → Control meta_call.call_code) where
  -- remote segments that are too early are passed over
  abbrev pub SeekRow : Asked → List (ℕ × ℕ) → ℕ → Result (Turn (ℕ × SearchStep)) AllocError → EntriesSeen → EntriesSeen
      → M → M → Type 0
  SeekRow asked line cursor (Ok (Ends MetaFault)) before after old new = Unread notes calls before after old new
  SeekRow asked line cursor (Ok turn) before after old new =
      Seeks asked line after cursor turn × Refreshed notes calls before after old new
  SeekRow asked line cursor (Err e) before after old new = Halted notes calls before after old new

module _ {S : Type 0} (objects : S → store.Content) (calls : S → Control store_call.call_code) where
  -- one read of a segment's time index
  pub record ReadsTimeIndex (asked : Asked) (cursor : ℕ) (piece : Piece) (place : ℕ × Spot)
      (result : Result (Turn (ℕ × SearchStep)) AllocError) (old new : S) : Type 0 where
    pub answer : Result (Option (List ℕ)) Trouble
    pub gets : Gets objects calls place.1.key (all_of place.1) answer old new
    pub times : Times asked cursor piece place.0 place.1 answer result

  -- the time index is read where it is
  abbrev pub TimesRow : Asked → ℕ → Piece → EntriesSeen → Option (ℕ × Spot) → Result (Turn (ℕ × SearchStep)) AllocError
      → S → S → Type 0
  TimesRow asked cursor piece view None result old new = (result ≡ Ok (Ends (Damaged Meta view.notes))) × (new ≡ old)
  TimesRow asked cursor piece view (Some place) result old new = ReadsTimeIndex asked cursor piece place result old new

  -- the offset index is had as a fetch from this offset has it; none is where the known high watermark isn't past it
  abbrev pub SearchIndexRow : Asked → ℕ → Piece → ℕ → EntriesSeen → Result (Turn (ℕ × SearchStep)) AllocError
      → Cache → Cache → S → S → Type 0
  SearchIndexRow asked cursor piece from view result cache cache' old new =
      ((asked.mark ≤ from) × (result ≡ Ok (Goes (top_of asked piece, Seek))) × (cache' ≡ cache) × (new ≡ old))
      ⊎ ((from < asked.mark) × ((read : Result Span RemoteRefusal)
      × IndexRow objects calls (wanted_at asked from) piece view (goes_with piece read) (found piece.id.0 cache.pairs)
      cache cache' old new
      × Indexes cursor piece from read result))

  -- the log is read as that fetch reads it
  abbrev pub SearchLogRow : Asked → Piece → ℕ → Span → EntriesSeen → Result (Turn (ℕ × SearchStep)) AllocError
      → S → S → Type 0
  SearchLogRow asked piece from span view result old new =
      ((asked.mark ≤ from) × (result ≡ Ok (Goes (top_of asked piece, Seek))) × (new ≡ old))
      ⊎ ((from < asked.mark) × ((read : Result RemoteRun RemoteRefusal)
      × LogRow objects calls (wanted_at asked from) piece span view
      (spot_in asked.partition piece.id part.Log (entry_of piece.id view.entries)) (ends_with piece read) old new
      × SearchTakes asked from read result))

module _ {S M : Type 0} (objects : S → store.Content) (calls : S → Control store_call.call_code)
    (notes : M → meta.Content) (notings : M → Control meta_call.call_code) where
  -- a turn of a search among the remote segments, by what was next: what it came to, or that it ran out of memory
  abbrev pub TimeRow : Asked → List (ℕ × ℕ) → ℕ → SearchStep → Result (Turn (ℕ × SearchStep)) AllocError → Tiers S M
      → Tiers S M → Type 0
  TimeRow asked line cursor Seek result old new =
      (new ≡ record old { view = new.view; meta = new.meta })
      × SeekRow notes notings asked line cursor result old.view new.view old.meta new.meta
  TimeRow asked line cursor (ReadsTimes piece) result old new =
      (new ≡ record old { store = new.store })
      × TimesRow objects calls asked cursor piece old.view
      (spot_in asked.partition piece.id part.TimeIndex (entry_of piece.id old.view.entries))
      result old.store new.store
  TimeRow asked line cursor (Index piece from) result old new =
      (new ≡ record old { cache = new.cache; store = new.store })
      × SearchIndexRow objects calls asked cursor piece from old.view result old.cache new.cache old.store new.store
  TimeRow asked line cursor (Log piece from span) result old new =
      (new ≡ record old { store = new.store })
      × SearchLogRow objects calls asked piece from span old.view result old.store new.store

module _ {D : Type 0} (content : D → disk.Content) (control : D → Control disk_call.call_code) where
  -- a run was read at an offset, and was searched
  pub record SearchesRun (old : LogState D) (asked : Asked) (at : ℕ) (turn : Turn (ℕ × SearchStep)) (new : LogState D)
      : Type 0 where
    pub out : RunOut
    pub reads : ReadsRun content control old new at (2 ^ 64 - 1) asked.mark out
    pub quiet : Quiet control old new
    pub searched : IsSearched asked at out.bytes turn

  -- what the disk passed in this turn has no run there, and the log is as it was: where a batch ends at the known high
  -- watermark it was read once
  pub record SearchHasDamage (old : LogState D) (asked : Asked) (at : ℕ) (name : FileName) (place : ℕ)
      (new : LogState D) : Type 0 where
    pub misreads : Misreads content control old new at (2 ^ 64 - 1) asked.mark name place
    pub ran : WhileUp old (λ log. is_edge (segment_at log asked.mark) asked.mark ≡ true
        → OnDisk old (λ d. OnDisk new (λ e. Ran Read Went (control d) (control e))))
    pub quiet : Quiet control old new

  -- the disk failed in a read, and the log is as it was
  abbrev pub LocalReadFails : LogState D → LogState D → Type 0
  LocalReadFails old new = LogStays content old new × Lasting control old new × OneFault control old new

  -- a search in the local log that has come to an offset
  abbrev pub ReadLocalRow : LogState D → Asked → ℕ → Turn (ℕ × SearchStep) → LogState D → Type 0
  ReadLocalRow old asked at (Ends DiskFault) new = LocalReadFails old new
  ReadLocalRow old asked at (Ends (Damaged (File name) place)) new = SearchHasDamage old asked at name place new
  ReadLocalRow old asked at turn new = SearchesRun old asked at turn new

  -- a turn of a search in the local log: nothing is read at or past the known high watermark
  abbrev pub LocalSearchRow : LogState D → Asked → ℕ → Turn (ℕ × SearchStep) → LogState D → Type 0
  LocalSearchRow old asked cursor turn new =
      ((asked.mark ≤ passed_over asked.ts cursor (closed_in old))
      × (turn ≡ Goes (passed_over asked.ts cursor (closed_in old), Seek))
      × (new ≡ old))
      ⊎ ((passed_over asked.ts cursor (closed_in old) < asked.mark)
      × ReadLocalRow old asked (passed_over asked.ts cursor (closed_in old)) turn new)
