-- The laws of what a fetch returns.
use Rattle.std.specs.Prelude.{◌≡◌, ◌≤◌, ℕ, List, Some}
use Rattle.disk_model.specs.declared.disk.Disk.{Ghosts as DiskGhosts}
use Rattle.object_store.specs.declared.store.Store.{Ghosts as StoreGhosts}
use Rattle.object_store.specs.Content.{Objects}
use Rattle.meta_log.specs.declared.log.MetaLog.{Ghosts as MetaGhosts}
use Rattle.log_terms.specs.Log.{end_of, EndsAt}
use Rattle.segment_meta.specs.declared.note.Entry.{Entry}
use Rattle.plain_log.specs.declared.answer.Answer.{Answer}
use Rattle.plain_log.specs.declared.answer.Answer.TheVariants.{Damaged}
use Rattle.plain_log.specs.declared.answer.Place.{Place}
use Rattle.plain_log.specs.declared.command.ActorList.{ActorList}
use Rattle.plain_log.specs.declared.command.Command.TheVariants.{Fetch}
use Rattle.plain_log.specs.declared.command.Order.{Order}
use Rattle.plain_log.specs.declared.command.Pace.{Pace}
use Rattle.plain_log.specs.declared.state.State.{State}
use Rattle.plain_log.specs.Safe.{LogSafe, PlainSafe}
use Rattle.remote_view.specs.Fold.{AreEntriesValid, AreDistinct}
use Rattle.remote_find.specs.declared.piece.Piece.{Piece}
use Rattle.remote_find.specs.Pieces.{piece_at}
use Rattle.partition_commands.specs.Partition.{AtNode}
use Rattle.tier_safe.specs.Copies.{FinishedStand}
use Rattle.tier_safe.specs.Reads.{TellsEpochs}
use Rattle.partition_world.specs.declared.actor_state.Outcome.{Outcome}
use Rattle.partition_world.specs.declared.actor_state.Outcome.TheVariants.{Answers}
use Rattle.partition_world.specs.declared.actor_state.ActorState.{ActorState}
use Rattle.partition_world.specs.Infallible.{IsUnfailing}
use Rattle.partition_world.specs.Central.{IsCentral}
use Rattle.partition_world.specs.Fresh.{IsNewWorld}
use Rattle.partition_world.specs.Reaches.{Reaches}
use Rattle.partition_world.specs.Turn.{IsNextOrder, IsTurn}
use Rattle.partition_world.specs.Whole.{Whole}
use Rattle.laws_answers.specs.CausesOfFetches.{FetchHasCause}
use Rattle.laws_answers.specs.Found.{SpansKnown}
use Rattle.laws_answers.specs.Turns.{turns_left}
use Rattle.laws_answers.specs.Chains.{times, IsCommandAnswered, RunsTurns}
use Rattle.laws_answers.specs.UnhinderedFetches.{IsFetchServed, IsFree, IsUnhindered}

-- a piece that is found by a log's leader epochs, among entries whose finished copies exist, ends where a batch of the
-- log does
abbrev pub PiecesEnd : Type 0
PiecesEnd = (p : State) (objects : Objects) (entries : List Entry) (line : List (ℕ × ℕ)) (log : List (List ℕ))
    (offset : ℕ) (piece : Piece)
    → PlainSafe p → FinishedStand objects p.paths entries → AreEntriesValid entries → AreDistinct entries
    → TellsEpochs line log
    → LogSafe p.paths log → piece_at entries line (end_of log) offset ≡ Some piece → EndsAt piece.to log

module _ {D S M : Type 0} (disk : DiskGhosts D) (store : StoreGhosts S) (meta : MetaGhosts M) where
  -- a fetch's answer has its cause
  abbrev pub FetchesHaveCauses : Type 0
  FetchesHaveCauses = (opening : State) (w : Whole D S M) (a : ℕ) (answer : Answer) (w' : Whole D S M)
      (offset limit : ℕ)
      → IsCentral disk store meta opening w → SpansKnown meta opening w
      → (t : IsTurn disk store meta w a (Answers answer) w')
      → t.order.command ≡ Fetch offset limit
      → AtNode w.partition_state t.order.broker.0 (λ x. FetchHasCause disk store meta w t.order.broker.0 x
      t.actor_state.in_progress offset limit answer w')

  -- so it is never damage
  abbrev pub NoFetchIsDamaged : Type 0
  NoFetchIsDamaged = (opening : State) (w : Whole D S M) (a : ℕ) (place : Place) (at : ℕ) (w' : Whole D S M)
      (offset limit : ℕ)
      → IsCentral disk store meta opening w → SpansKnown meta opening w
      → (t : IsTurn disk store meta w a (Answers (Damaged place at)) w') → t.order.command ≡ Fetch offset limit → ⊥

  -- a fetch returns a run, by as many of its actor's turns as it has left, where there is nothing in the way of them
  abbrev pub UnhinderedAreServed : Type 0
  UnhinderedAreServed =
      (opening : State) (w : Whole D S M) (a place : ℕ) (l : ActorList) (actor_state : ActorState) (order : Order)
      (offset limit : ℕ) (actors : List ℕ) (w' : Whole D S M) → IsCentral disk store meta opening w
      → SpansKnown meta opening w
      → IsNextOrder w a place l actor_state order → order.command ≡ Fetch offset limit
      → RunsTurns disk store meta (IsUnhindered disk store meta place actor_state.number offset) w actors w'
      → turns_left (Fetch offset limit) actor_state.in_progress ≤ times a actors
      → (answer : Answer) × IsFetchServed offset limit answer × IsCommandAnswered w' l.actor actor_state.number answer

  -- over devices of which no call can fail that is where its broker still leads and may give the offset
  abbrev pub UnfailingAreServed : Type 0
  UnfailingAreServed =
      (opening : State) (w : Whole D S M) (a place : ℕ) (l : ActorList) (actor_state : ActorState) (order : Order)
      (offset limit : ℕ) (actors : List ℕ) (w' : Whole D S M) → IsCentral disk store meta opening w
      → SpansKnown meta opening w
      → IsUnfailing disk store meta w → IsNextOrder w a place l actor_state order → order.command ≡ Fetch offset limit
      → RunsTurns disk store meta (IsFree disk store meta place actor_state.number offset) w actors w'
      → turns_left (Fetch offset limit) actor_state.in_progress ≤ times a actors
      → (answer : Answer) × IsFetchServed offset limit answer × IsCommandAnswered w' l.actor actor_state.number answer

  -- what a schedule reaches keeps what is known of what fetches have found
  abbrev pub ReachesSpans : Type 0
  ReachesSpans = (opening : State) (w : Whole D S M) (schedule : List Pace) (w' : Whole D S M)
      → IsCentral disk store meta opening w → SpansKnown meta opening w → Reaches disk store meta w schedule w'
      → IsCentral disk store meta opening w' × SpansKnown meta opening w'

  -- a turn keeps it
  abbrev pub TurnsKeepSpans : Type 0
  TurnsKeepSpans = (opening : State) (w : Whole D S M) (a : ℕ) (outcome : Outcome) (w' : Whole D S M)
      → IsCentral disk store meta opening w → SpansKnown meta opening w → IsTurn disk store meta w a outcome w'
      → SpansKnown meta opening w'

  -- it is known where nothing has happened yet
  abbrev pub NewHasSpans : Type 0
  NewHasSpans =
      (opening : State) (lists : List ActorList) (w : Whole D S M) → IsNewWorld lists w → SpansKnown meta opening w
