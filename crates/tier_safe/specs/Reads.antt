-- What the tier's rules give to turns that read: lookups find, what they find exists, and what is read is the log's.
--
-- A lookup goes by the line of the reading log's leader epochs. These laws hold of any line that says in which epoch
-- each offset of the log is.
use Rattle.std.specs.Prelude.{◌≡◌, ℕ, ◌-◌, ◌<◌, ◌≤◌, true, List, Some, None, slice_get}
use Rattle.std.specs.List.{AllByRecursion}
use mathlib.Core.List.{IsPrefix}
use Rattle.tier_base.specs.declared.names.SegmentId.{SegmentId}
use Rattle.tier_base.specs.declared.plain.State.TheVariants.{CopyFinished}
use Rattle.log_terms.specs.Line.{line_of, epoch_at, epoch_holding}
use Rattle.log_terms.specs.Log.{end_of, from_offset}
use Rattle.epoch_line.specs.Line.{IsLine}
use Rattle.sparse_index.specs.Offsets.{find}
use Rattle.segment_file.specs.Index.{placed_from, index_of}
use Rattle.segment_meta.specs.declared.note.Entry.{Entry}
use Rattle.segment_meta.specs.declared.note.Note.{Note}
use Rattle.plain_log.specs.declared.state.State.{State as Plain}
use Rattle.plain_log.specs.declared.state.Broker.{Broker}
use Rattle.remote_view.specs.Fold.{EntriesSeen, entry_of, fold, view_of, AreEntriesValid, AreDistinct}
use Rattle.remote_view.specs.Lookup.{covers}
use Rattle.remote_find.specs.declared.piece.Piece.{Piece}
use Rattle.remote_find.specs.Pieces.{piece_at, covered_to}
use Rattle.tier_safe.specs.Scene.{BrokerTierView, Rebuild, Sought, Rebuilds, Seeks, Scene}
use Rattle.tier_safe.specs.Lineage.{IsStoredWhole, CoversLog}
use Rattle.tier_safe.specs.Views.{IsViewOf}
use Rattle.tier_safe.specs.Fetches.{StillLeads, PieceStands}
use Rattle.tier_safe.specs.Safe.{TierSafe, BothSafe}
use Rattle.tier_safe.specs.Kept.{whole_of}

-- lookups

-- the line says in which epoch each offset of the log is, and starts nothing past the log's end
pub record TellsEpochs (line : List (ℕ × ℕ)) (log : List (List ℕ)) : Type 0 where
  pub rises : IsLine line
  pub says : (o : ℕ) → o < end_of log → epoch_at line o ≡ epoch_holding log o
  pub within : AllByRecursion (λ start. start.1 ≤ end_of log) line

-- a view's entries keep their rules, and no two have one id
pub record IsRightView (view : EntriesSeen) : Type 0 where
  pub kept : AreEntriesValid view.entries
  pub distinct : AreDistinct view.entries

-- each offset from the log start offset on that a broker's local log lacks is found in its view, where it has seen all
-- metadata events
abbrev pub LackingIsFound : Type 0
LackingIsFound = (c : Scene) (p : Plain) (b : ℕ) (tier_view : BrokerTierView) (x : Broker) (line : List (ℕ × ℕ))
    (offset : ℕ) → TierSafe c p
    → slice_get c.tier_views b ≡ Some tier_view → slice_get p.brokers b ≡ Some x → p.registry.start ≤ offset
    → offset < tier_view.start
    → tier_view.view ≡ view_of c.notes → TellsEpochs line x.log
    → (piece : Piece) × (piece_at tier_view.view.entries line (end_of x.log) offset ≡ Some piece)

-- a fetch that has no piece yet, and whose broker still leads and has seen all metadata events, finds what it reads
-- from
abbrev pub AskedIsFound : Type 0
AskedIsFound = (c : Scene) (p : Plain) (a : ℕ) (sought : Sought) (tier_view : BrokerTierView) (x : Broker)
    (line : List (ℕ × ℕ)) → TierSafe c p
    → slice_get c.desk a ≡ Some (Seeks sought) → sought.piece ≡ None
    → slice_get c.tier_views sought.broker ≡ Some tier_view
    → slice_get p.brokers sought.broker ≡ Some x → StillLeads sought x → p.registry.start ≤ sought.offset
    → tier_view.view ≡ view_of c.notes → TellsEpochs line x.log
    → (piece : Piece) × (piece_at tier_view.view.entries line (end_of x.log) sought.offset ≡ Some piece)

-- what is found in a view, by a log's leader epochs, exists: a fetch may keep it
abbrev pub FoundStands : Type 0
FoundStands =
    (notes : List Note) (view : EntriesSeen) (line : List (ℕ × ℕ)) (log : List (List ℕ)) (offset : ℕ) (piece : Piece)
    → IsViewOf notes view → IsRightView view → TellsEpochs line log
    → piece_at view.entries line (end_of log) offset ≡ Some piece → PieceStands notes log offset piece

-- each offset up to the end that pieces reach, one after another, is covered: a local log may drop it
abbrev pub ReachedIsCovered : Type 0
ReachedIsCovered = (view : EntriesSeen) (line : List (ℕ × ℕ)) (log : List (List ℕ)) (at : ℕ) → IsRightView view
    → TellsEpochs line log
    → (o : ℕ) → at ≤ o → o < covered_to view.entries line (end_of log) at → CoversLog view.entries log o

-- a rebuild that has refreshed finds the remote segment of the last offset below the wanted one
abbrev pub WantedIsFound : Type 0
WantedIsFound = (c : Scene) (p : Plain) (a : ℕ) (rebuild : Rebuild) (tier_view : BrokerTierView) (line : List (ℕ × ℕ))
    → (h : TierSafe c p)
    → (actor_state : slice_get c.desk a ≡ Some (Rebuilds rebuild))
    → slice_get c.tier_views rebuild.broker ≡ Some tier_view
    → rebuild.refreshed ≡ true → p.registry.start < rebuild.wanted
    → epoch_at line (rebuild.wanted - 1) ≡ epoch_holding (h.rebuilds a rebuild actor_state).front (rebuild.wanted - 1)
    → (piece : Piece) × (piece_at tier_view.view.entries line rebuild.wanted (rebuild.wanted - 1) ≡ Some piece)

-- reads

-- the piece's segment is finished and exists, and what of its batches ends with the piece is what the log has from the
-- offset on; the position is the one that their index gives
pub record IsPieceServed (c : Scene) (p : Plain) (log : List (List ℕ)) (sought : Sought) (piece : Piece) : Type 0 where
  pub entry : Entry
  pub there : entry_of piece.id (fold c.notes) ≡ Some entry
  pub partition : entry.partition ≡ c.partition
  pub finished : entry.state ≡ CopyFinished
  pub stored_whole : IsStoredWhole c.objects p.paths entry
  pub runs : (run : List (List ℕ)) → IsPrefix run (from_offset sought.offset stored_whole.batches)
      → end_of run ≤ piece.to
      → IsPrefix run (from_offset sought.offset log)
  pub from : (from : ℕ) → sought.from ≡ Some from
      → (interval : ℕ) × (from ≡
      (find (index_of entry.start interval (placed_from 0 stored_whole.batches)) sought.offset).1)

-- what a fetch on the desk reads is its log's, while its broker still leads and the log start offset isn't above its
-- offset
abbrev pub FetchesAreServed : Type 0
FetchesAreServed = (c : Scene) (p : Plain) (a : ℕ) (sought : Sought) (piece : Piece) (tier_view : BrokerTierView)
    (x : Broker) → BothSafe c p
    → slice_get c.desk a ≡ Some (Seeks sought) → slice_get c.tier_views sought.broker ≡ Some tier_view
    → slice_get p.brokers sought.broker ≡ Some x → sought.piece ≡ Some piece → StillLeads sought x
    → p.registry.start ≤ sought.offset → IsPieceServed c p x.log sought piece

-- a finished copy begins with the batches below the wanted offset, and the leader epochs of its epochs is theirs up to
-- there
pub record RebuildReads (c : Scene) (p : Plain) (front : List (List ℕ)) (wanted : ℕ) (id : SegmentId) : Type 0 where
  pub entry : Entry
  pub there : entry_of id (fold c.notes) ≡ Some entry
  pub partition : entry.partition ≡ c.partition
  pub stored_whole : IsStoredWhole c.objects p.paths entry
  pub begins : IsPrefix front (whole_of stored_whole)
  pub says : (o : ℕ) → o < wanted → epoch_at (line_of (whole_of stored_whole)) o ≡ epoch_holding front o

-- what a rebuild reads at the last offset below the wanted one is the path's
abbrev pub RebuildsAreServed : Type 0
RebuildsAreServed = (c : Scene) (p : Plain) (a : ℕ) (rebuild : Rebuild) (tier_view : BrokerTierView) (id : SegmentId)
    (entry : Entry) (e : ℕ)
    → (h : BothSafe c p) → (actor_state : slice_get c.desk a ≡ Some (Rebuilds rebuild))
    → slice_get c.tier_views rebuild.broker ≡ Some tier_view
    → p.registry.start < rebuild.wanted → entry_of id tier_view.view.entries ≡ Some entry
    → covers e (rebuild.wanted - 1) entry ≡ true
    → epoch_holding (h.tier.rebuilds a rebuild actor_state).front (rebuild.wanted - 1) ≡ Some e
    → RebuildReads c p (h.tier.rebuilds a rebuild actor_state).front rebuild.wanted id
