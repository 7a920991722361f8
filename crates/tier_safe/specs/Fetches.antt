-- What holds of fetches from the remote tier, and of cached indexes.
--
--   Fetches    what a fetch on the desk has found is of the log that it reads
--   Caches     a cached index is that of its segment
--
-- A fetch takes several turns, and a stop, an election or a deletion may come between any two. What it has found exists
-- as long as its broker still leads and the log start offset isn't above its offset. Otherwise it is answered without
-- it.
--
-- Source: KIP-405: fetches below the local log start offset, and RemoteIndexCache.
use Rattle.std.specs.Prelude.{◌≡◌, ◌≢◌, ℕ, ◌+◌, ◌<◌, ◌≤◌, List, Some, None, slice_get}
use mathlib.Core.List.{IsPrefix}
use Rattle.tier_base.specs.declared.plain.State.TheVariants.{CopyStarted, CopyFinished}
use Rattle.tier_base.specs.declared.names.SegmentId.{SegmentId}
use Rattle.tier_base.specs.Told.{In}
use Rattle.log_terms.specs.Line.{epoch_at, epoch_holding}
use Rattle.sparse_index.specs.Offsets.{OffsetTable, find}
use Rattle.segment_file.specs.Index.{placed_from, index_of}
use Rattle.segment_meta.specs.declared.note.Entry.{Entry}
use Rattle.segment_meta.specs.declared.note.Note.{Note}
use Rattle.plain_log.specs.declared.state.Path.{Path}
use Rattle.plain_log.specs.declared.state.Broker.{Broker}
use Rattle.plain_log.specs.declared.state.Role.TheVariants.{Leads}
use Rattle.plain_log.specs.State.{path_of}
use Rattle.remote_view.specs.Fold.{entry_of, fold}
use Rattle.remote_find.specs.declared.piece.Piece.{Piece}
use Rattle.tier_safe.specs.Scene.{BrokerTierView, Sought, TierTask, Seeks}
use Rattle.tier_safe.specs.Lineage.{DescribesPath}

-- what is found

-- the piece holds the offset, is of a copy that was finished after the first so many metadata events, and copy and log
-- have one epoch in it
pub record PieceStands (notes : List Note) (log : List (List ℕ)) (offset : ℕ) (piece : Piece) : Type 0 where
  pub before : List Note
  pub begins : IsPrefix before notes
  pub entry : Entry
  pub there : entry_of piece.id (fold before) ≡ Some entry
  pub finished : entry.state ≡ CopyFinished
  pub holds : (piece.from ≤ offset) × (offset < piece.to)
  pub within : (entry.start ≤ piece.from) × (piece.to ≤ entry.end + 1)
  pub epoch : ℕ
  pub of_log : (o : ℕ) → piece.from ≤ o → o < piece.to → epoch_holding log o ≡ Some epoch
  pub of_copy : (o : ℕ) → piece.from ≤ o → o < piece.to → epoch_at entry.map o ≡ Some epoch

-- the index is that of the batches that an entry describes
pub record IsIndexOf (paths : List Path) (entry : Entry) (index : OffsetTable) : Type 0 where
  pub batches : List (List ℕ)
  pub line : List (ℕ × ℕ)
  pub interval : ℕ
  pub describes : DescribesPath paths entry batches line
  pub is : index ≡ index_of entry.start interval (placed_from 0 batches)

-- it is, while the copy of this id is finished
abbrev pub IndexStands : List Path → List Entry → SegmentId → OffsetTable → Type 0
IndexStands paths entries id index =
    (entry : Entry) → entry_of id entries ≡ Some entry → entry.state ≡ CopyFinished → IsIndexOf paths entry index

-- the position is the one that such an index gives for the offset, while the copy of this id is finished
abbrev pub PositionStands : List Path → List Entry → SegmentId → ℕ → ℕ → Type 0
PositionStands paths entries id offset from =
    (entry : Entry) → entry_of id entries ≡ Some entry → entry.state ≡ CopyFinished
    → (index : OffsetTable) × IsIndexOf paths entry index × (from ≡ (find index offset).1)

-- the entries have one of this id, whose copy isn't in progress any more
abbrev pub SeesCopy : List Entry → SegmentId → Type 0
SeesCopy entries id = (entry : Entry) × (entry_of id entries ≡ Some entry) × (entry.state ≢ CopyStarted)

-- fetches

-- the fetch's broker leads the epoch that it led, and hasn't stopped since
pub record StillLeads (sought : Sought) (x : Broker) : Type 0 where
  pub stops : x.stops ≡ sought.stops
  pub role : x.role ≡ Leads sought.epoch

-- a fetch on the desk: its broker's view has the entry of its piece, whose copy isn't in progress any more; while that
-- broker leads as it did, its offset is below the local start until it has found a piece, and what it has found exists
pub record FetchStands (paths : List Path) (notes : List Note) (start : ℕ) (tier_view : BrokerTierView) (x : Broker)
    (sought : Sought)
    : Type 0 where
  pub stops : sought.stops ≤ x.stops
  pub taken : (log : List (List ℕ)) × (path_of paths sought.epoch ≡ Some log)
  pub below : sought.piece ≡ None → StillLeads sought x → sought.offset < tier_view.start
  pub seen : (piece : Piece) → sought.piece ≡ Some piece
      → SeesCopy tier_view.view.entries piece.id
  pub piece : (piece : Piece) → sought.piece ≡ Some piece → StillLeads sought x → start ≤ sought.offset
      → PieceStands notes x.log sought.offset piece
  pub from : (piece : Piece) (from : ℕ) → sought.piece ≡ Some piece → sought.from ≡ Some from
      → StillLeads sought x → start ≤ sought.offset → PositionStands paths (fold notes) piece.id sought.offset from

-- each fetch on the desk
abbrev pub FetchesStand : List Path → List Note → ℕ → List BrokerTierView → List Broker → List TierTask → Type 0
FetchesStand paths notes start tier_views brokers desk =
    (a : ℕ) (sought : Sought) (tier_view : BrokerTierView) (x : Broker) → slice_get desk a ≡ Some (Seeks sought)
    → slice_get tier_views sought.broker ≡ Some tier_view → slice_get brokers sought.broker ≡ Some x
    → FetchStands paths notes start tier_view x sought

-- cached indexes

-- a cached index is of a copy that was finished after the first so many metadata events, and of its batches while it
-- still is
pub record CachedStands (paths : List Path) (notes : List Note) (id : SegmentId) (index : OffsetTable) : Type 0 where
  pub before : List Note
  pub begins : IsPrefix before notes
  pub entry : Entry
  pub there : entry_of id (fold before) ≡ Some entry
  pub finished : entry.state ≡ CopyFinished
  pub is : IndexStands paths (fold notes) id index

-- each index in a broker's cache
abbrev pub CachesStand : List Path → List Note → List BrokerTierView → Type 0
CachesStand paths notes tier_views =
    (b : ℕ) (tier_view : BrokerTierView) → slice_get tier_views b ≡ Some tier_view
    → (id : SegmentId) (index : OffsetTable) → In (id, index) tier_view.cache
    → CachedStands paths notes id index
