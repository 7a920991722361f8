-- What is known of what a fetch has found, beside the central fact.
--
-- The piece ends where a batch of the leader's log does: of the path of the epoch that its broker led when the fetch
-- began. And what it is to read of the segment's log is what the offset index of that segment's batches shows to be
-- needed, all of it.
--
-- Both were so when they were found, and continue to be: paths only grow, and a remote segment's entry keeps what it
-- says of.
--
-- Source: KIP-405, fetches below the local log start offset.
use Rattle.std.specs.Prelude.{◌≡◌, ℕ, List, Some, unwrap_or}
use mathlib.Core.List.{IsPrefix}
use Rattle.tier_base.specs.declared.plain.State.TheVariants.{CopyFinished}
use Rattle.sparse_index.specs.Offsets.{OffsetTable}
use Rattle.segment_meta.specs.declared.note.Entry.{Entry}
use Rattle.segment_meta.specs.declared.note.Note.{Note}
use Rattle.log_terms.specs.Log.{end_of}
use Rattle.meta_log.specs.declared.log.MetaLog.{Ghosts as MetaGhosts}
use Rattle.remote_view.specs.Fold.{entry_of, fold}
use Rattle.remote_find.specs.declared.piece.Piece.{Piece}
use Rattle.tier_fetch.specs.declared.turn.Span.{Span}
use Rattle.tier_fetch.specs.declared.turn.FetchStep.{FetchStep}
use Rattle.tier_fetch.specs.declared.turn.FetchStep.TheVariants.{Refresh, Index, Log}
use Rattle.tier_fetch.specs.Span.{span_of}
use Rattle.plain_log.specs.declared.command.ActorList.{ActorList}
use Rattle.plain_log.specs.declared.command.Command.TheVariants.{Fetch}
use Rattle.plain_log.specs.declared.command.Order.{Order}
use Rattle.plain_log.specs.declared.state.Path.{Path}
use Rattle.plain_log.specs.declared.state.State.{State}
use Rattle.plain_log.specs.Runs.{replay}
use Rattle.plain_log.specs.Safe.{HasOnPath}
use Rattle.plain_log.specs.State.{leading}
use Rattle.laws_partition.specs.declared.start_snapshot.StartSnapshot.{StartSnapshot}
use Rattle.tier_safe.specs.Fetches.{IsIndexOf}
use Rattle.partition_world.specs.declared.actor_state.ActorState.{ActorState}
use Rattle.partition_world.specs.declared.actor_state.InProgress.TheVariants.{Seeks}
use Rattle.partition_world.specs.Turn.{IsNextOrder}
use Rattle.partition_world.specs.Whole.{Whole}

-- the piece ends where a batch of the epoch's path does
pub record PieceEnds (paths : List Path) (epoch : ℕ) (piece : Piece) : Type 0 where
  pub front : List (List ℕ)
  pub begins : HasOnPath paths epoch front
  pub ends : end_of front ≡ piece.to

-- the span is the one that the index of the piece's segment gives, whose copy was finished after the first so many
-- metadata events
pub record SpanIsOf (paths : List Path) (notes : List Note) (offset limit : ℕ) (piece : Piece)
    (span : Span) : Type 0 where
  pub before : List Note
  pub begins : IsPrefix before notes
  pub entry : Entry
  pub there : entry_of piece.id (fold before) ≡ Some entry
  pub finished : entry.state ≡ CopyFinished
  pub index : OffsetTable
  pub is : IsIndexOf paths entry index
  pub span_is : span ≡ span_of index offset limit piece.to

-- so it is with what a fetch has found by now
abbrev pub FetchHasFound : List Path → List Note → ℕ → ℕ → ℕ → FetchStep → Type 0
FetchHasFound paths notes epoch offset limit Refresh = Unit {0}
FetchHasFound paths notes epoch offset limit (Index piece) = PieceEnds paths epoch piece
FetchHasFound paths notes epoch offset limit (Log piece span) = PieceEnds paths epoch piece
    × SpanIsOf paths notes offset limit piece span

module _ {D S M : Type 0} (meta : MetaGhosts M) where
  -- of each fetch that continues in the remote tier, beside the state of the plain log after the world's journal
  abbrev pub SpansKnown : State → Whole D S M → Type 0
  SpansKnown opening w = (p : State) → replay w.lists opening w.journal.items ≡ Some p
      → (a place : ℕ) (l : ActorList) (actor_state : ActorState) (order : Order) (offset limit : ℕ) (g : StartSnapshot)
      (next : FetchStep)
      → IsNextOrder w a place l actor_state order → order.command ≡ Fetch offset limit
      → actor_state.in_progress ≡ Seeks g next
      → FetchHasFound p.paths (meta.content w.tier.meta).notes (unwrap_or (leading g.role) 0) offset limit next
