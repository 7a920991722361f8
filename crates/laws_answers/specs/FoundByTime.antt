-- What is known of what a timestamp lookup has found, beside the central fact.
--
-- The piece ends where a batch of the leader's log does, and what it is to read of the segment's log is what the
-- offset index of that segment's batches shows to be needed from where it reads on, as a fetch without a limit has
-- it.
--
-- Source: KIP-405, lookups by timestamp below the local log start offset.
use Rattle.std.specs.Prelude.{◌≡◌, ℕ, ℤ, List, Some, unwrap_or}
use Rattle.segment_meta.specs.declared.note.Note.{Note}
use Rattle.meta_log.specs.declared.log.MetaLog.{Ghosts as MetaGhosts}
use Rattle.time_find.specs.declared.turn.SearchStep.{SearchStep}
use Rattle.time_find.specs.declared.turn.SearchStep.TheVariants.{Seek, Times, Index, Log}
use Rattle.plain_log.specs.declared.command.ActorList.{ActorList}
use Rattle.plain_log.specs.declared.command.Command.TheVariants.{Offset}
use Rattle.plain_log.specs.declared.command.Which.TheVariants.{At}
use Rattle.plain_log.specs.declared.command.Order.{Order}
use Rattle.plain_log.specs.declared.state.Path.{Path}
use Rattle.plain_log.specs.declared.state.State.{State}
use Rattle.plain_log.specs.Runs.{replay}
use Rattle.plain_log.specs.State.{leading}
use Rattle.laws_partition.specs.declared.start_snapshot.StartSnapshot.{StartSnapshot}
use Rattle.partition_world.specs.declared.actor_state.ActorState.{ActorState}
use Rattle.partition_world.specs.declared.actor_state.InProgress.TheVariants.{Dates}
use Rattle.partition_world.specs.Turn.{IsNextOrder}
use Rattle.partition_world.specs.Whole.{Whole}
use Rattle.laws_answers.specs.Found.{PieceEnds, SpanIsOf}

-- so it is with what a search has found by now
abbrev pub IsFoundByTime : List Path → List Note → ℕ → SearchStep → Type 0
IsFoundByTime paths notes epoch Seek = Unit {0}
IsFoundByTime paths notes epoch (Times piece) = PieceEnds paths epoch piece
IsFoundByTime paths notes epoch (Index piece from) = PieceEnds paths epoch piece
IsFoundByTime paths notes epoch (Log piece from span) = PieceEnds paths epoch piece
    × SpanIsOf paths notes from 4294967295 piece span

module _ {D S M : Type 0} (meta : MetaGhosts M) where
  -- of each search that continues, beside the state of the plain log after the world's journal
  abbrev pub SearchesKnown : State → Whole D S M → Type 0
  SearchesKnown opening w = (p : State) → replay w.lists opening w.journal.items ≡ Some p
      → (a place : ℕ) (l : ActorList) (actor_state : ActorState) (order : Order) (ts : ℤ) (g : StartSnapshot)
      (cursor : ℕ) (next : SearchStep)
      → IsNextOrder w a place l actor_state order → order.command ≡ Offset (At ts)
      → actor_state.in_progress ≡ Dates g cursor next
      → IsFoundByTime p.paths (meta.content w.tier.meta).notes (unwrap_or (leading g.role) 0) next
