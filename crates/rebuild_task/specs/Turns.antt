-- What the turn of a rebuild does that reads the remote tier.
--
--   turn       does                                           answers
--   Epochs     reads a remote segment's leader epochs        StoreFault, Damaged
--
-- The segment is the one that holds the last offset below the wanted one, by the leader's leader epochs up to there,
-- the wanted offset representing the log's end. The local log is to restart with the entries of the leader epochs that
-- were read which start below the wanted offset. A view without such a segment, or whose entry of it places no epochs,
-- is damage of the metadata log. An object that isn't there is damaged at 0, one that lacks bytes of the epochs after
-- those that it has, and an invalid text where it begins.
--
-- Source: KIP-405, where a follower that begins at its leader's local log start offset builds its leader epochs out
-- of the remote segment of the offset before.
use Rattle.std.specs.Prelude.{◌≡◌, ◌≢◌, ℕ, ◌-◌, List, Option, Some, None, Ok, Err, IsErr}
use Rattle.std.specs.declared.result.Result.{Result}
use Rattle.std.specs.declared.alloc.AllocError.{AllocError}
use Rattle.tier_base.specs.declared.fault.Trouble.{Trouble}
use Rattle.tier_base.specs.declared.fault.Trouble.TheVariants.{Failed, NoMemory}
use Rattle.tier_base.specs.declared.names.PartitionId.{PartitionId}
use Rattle.tier_base.specs.declared.names.SegmentId.{SegmentId}
use Rattle.tier_base.specs.declared.plain.Part.TheVariants.{Epochs as EpochsPart}
use Rattle.tier_base.specs.Device.{Control}
use Rattle.epoch_line.specs.Line.{IsLine, cut_end}
use Rattle.epoch_line.specs.Text.{text_of}
use Rattle.segment_meta.specs.declared.note.Entry.{Entry}
use Rattle.object_store.specs.declared.placing.Spot.{Spot}
use Rattle.object_store.specs.Call.{call_code}
use Rattle.object_store.specs.Calls.{Gets}
use Rattle.object_store.specs.Content.{Content}
use Rattle.object_store.specs.Place.{spot_of, all_of, short_of}
use Rattle.remote_view.specs.Fold.{EntriesSeen, entry_of}
use Rattle.remote_find.specs.declared.piece.Piece.{Piece}
use Rattle.remote_find.specs.Pieces.{piece_at}
use Rattle.plain_log.specs.declared.answer.Answer.TheVariants.{StoreFault, Damaged}
use Rattle.plain_log.specs.declared.answer.Place.TheVariants.{Key, Meta}
use Rattle.rebuild_task.specs.declared.turn.RebuildRequest.{RebuildRequest}
use Rattle.rebuild_task.specs.declared.turn.RebuildStep.TheVariants.{Restart}
use Rattle.rebuild_task.specs.declared.turn.RebuildStep.{RebuildStep}
use Rattle.plain_log.specs.declared.turn.Turn.{Turn}
use Rattle.plain_log.specs.declared.turn.Turn.TheVariants.{Goes, Ends}

-- where a segment's epochs are, by its entry
abbrev pub spot_in : PartitionId → SegmentId → Option Entry → Option Spot
spot_in partition id None = None
spot_in partition id (Some entry) = spot_of partition id entry.packed entry.custom EpochsPart

-- where those of a piece's segment exist, by a view's entries
abbrev pub epochs_of : PartitionId → List Entry → Option Piece → Option Spot
epochs_of partition entries None = None
epochs_of partition entries (Some piece) = spot_in partition piece.id (entry_of piece.id entries)

-- the bytes are the text of a line, whose entries that start below the wanted offset are taken
pub record IsTaken (wanted : ℕ) (bytes : List ℕ) (line : List (ℕ × ℕ)) : Type 0 where
  pub whole : List (ℕ × ℕ)
  pub rises : IsLine whole
  pub bytes_are : bytes ≡ text_of whole
  pub line_is : line ≡ cut_end whole wanted

-- they are the text of no line
abbrev pub IsNoLine : List ℕ → Type 0
IsNoLine bytes = (line : List (ℕ × ℕ)) → IsLine line → bytes ≢ text_of line

-- what becomes of a rebuild by bytes of its epochs, and by where more of them are lacking
abbrev pub TakesBytes : Option ℕ → ℕ → Spot → List ℕ → Result (Turn RebuildStep) AllocError → Type 0
TakesBytes (Some end) wanted spot bytes result = result ≡ Ok (Ends (Damaged (Key spot.key) end))
TakesBytes None wanted spot bytes (Ok (Goes (Restart line))) = IsTaken wanted bytes line
TakesBytes None wanted spot bytes (Ok (Goes next)) = ⊥
TakesBytes None wanted spot bytes (Ok (Ends answer)) = (answer ≡ Damaged (Key spot.key) spot.at) × IsNoLine bytes
TakesBytes None wanted spot bytes (Err e) = Unit {0}

-- by what the store answered of them
abbrev pub TakesEpochs : ℕ → Spot → Result (Option (List ℕ)) Trouble → Result (Turn RebuildStep) AllocError → Type 0
TakesEpochs wanted spot (Err Failed) result = result ≡ Ok (Ends StoreFault)
TakesEpochs wanted spot (Err NoMemory) result = IsErr result
TakesEpochs wanted spot (Ok None) result = result ≡ Ok (Ends (Damaged (Key spot.key) 0))
TakesEpochs wanted spot (Ok (Some bytes)) result = TakesBytes (short_of spot bytes) wanted spot bytes result

module _ {S : Type 0} (objects : S → Content) (calls : S → Control call_code) where
  -- one read of a segment's epochs
  pub record ReadsEpochs (wanted : ℕ) (spot : Spot) (result : Result (Turn RebuildStep) AllocError) (old new : S)
      : Type 0 where
    pub answer : Result (Option (List ℕ)) Trouble
    pub gets : Gets objects calls spot.key (all_of spot) answer old new
    pub takes : TakesEpochs wanted spot answer result

  -- they are read where they are
  abbrev pub EpochsRow : ℕ → EntriesSeen → Option Spot → Result (Turn RebuildStep) AllocError → S → S → Type 0
  EpochsRow wanted view None result old new = (result ≡ Ok (Ends (Damaged Meta view.notes))) × (new ≡ old)
  EpochsRow wanted view (Some spot) result old new = ReadsEpochs wanted spot result old new

  -- a turn of a rebuild: what it came to, or that it ran out of memory
  abbrev pub RebuildRow : RebuildRequest → List (ℕ × ℕ) → EntriesSeen → Result (Turn RebuildStep) AllocError → S → S
      → Type 0
  RebuildRow wanted line view result old new =
      EpochsRow wanted.offset view
      (epochs_of wanted.partition view.entries (piece_at view.entries line wanted.offset (wanted.offset - 1))) result
      old new
