-- The laws of what a question for the offset of a timestamp returns, over observable devices.
use Rattle.std.specs.Prelude.{◌≡◌, ◌≤◌, ℕ, ℤ, List, Option, Some, None}
use Rattle.disk_model.specs.declared.disk.Disk.{Ghosts as DiskGhosts}
use Rattle.object_store.specs.declared.store.Store.{Ghosts as StoreGhosts}
use Rattle.meta_log.specs.declared.log.MetaLog.{Ghosts as MetaGhosts}
use Rattle.plain_log.specs.declared.answer.Answer.{Answer}
use Rattle.plain_log.specs.declared.answer.Answer.TheVariants.{Damaged, Offset as OffsetAnswer, NoOffset}
use Rattle.plain_log.specs.declared.answer.Place.{Place}
use Rattle.plain_log.specs.declared.command.ActorList.{ActorList}
use Rattle.plain_log.specs.declared.command.Command.TheVariants.{Offset}
use Rattle.plain_log.specs.declared.command.Order.{Order}
use Rattle.plain_log.specs.declared.command.Pace.{Pace}
use Rattle.plain_log.specs.declared.command.Which.TheVariants.{At}
use Rattle.plain_log.specs.declared.state.State.{State}
use Rattle.broker_log.specs.Seen.{ShowsSeen}
use Rattle.broker_log.specs.Seen as log
use Rattle.laws_partition.specs.RowsOfOffsets.{dated_offset}
use Rattle.laws_partition.specs.Seen as seen
use Rattle.partition_commands.specs.declared.partition_state.Node.{Node}
use Rattle.partition_commands.specs.Partition.{AtNode, node_of, ShowsPartition}
use Rattle.partition_world.specs.declared.actor_state.Outcome.{Outcome}
use Rattle.partition_world.specs.declared.actor_state.Outcome.TheVariants.{Answers}
use Rattle.partition_world.specs.declared.actor_state.ActorState.{ActorState}
use Rattle.partition_world.specs.Infallible.{IsUnfailing}
use Rattle.partition_world.specs.Central.{IsCentral}
use Rattle.partition_world.specs.Fresh.{IsNewWorld}
use Rattle.partition_world.specs.Reaches.{Reaches}
use Rattle.partition_world.specs.Turn.{IsNextOrder, IsTurn}
use Rattle.partition_world.specs.Whole.{Whole}
use Rattle.laws_answers.specs.FoundByTime.{SearchesKnown}
use Rattle.laws_answers.specs.Turns.{turns_left, search_left}
use Rattle.laws_answers.specs.Chains.{times, IsCommandAnswered, KnowsUpTo, RunsTurns}
use Rattle.laws_answers.specs.UnhinderedSearches.{IsSearchAnswer, IsFree, IsUnhindered}

module _ {D S M : Type 0} (disk : DiskGhosts D) where
  -- the offset of the timestamp in the log that the broker's disk shows, or that there is none
  pub record IsDatedIn (w : Whole D S M) (x : Node D) (ts : ℤ) (found : Option ℕ) : Type 0 where
    pub partition_state : seen.SeenPartition
    pub shown : ShowsPartition disk.content w.partition_state partition_state
    pub seen : log.LogSeen
    pub shows : ShowsSeen disk.content x.log seen
    pub is : dated_offset partition_state (node_of x seen) ts ≡ found

  -- what an answer says of the log
  abbrev pub TellsDate : Whole D S M → Node D → ℤ → Answer → Type 0
  TellsDate w x ts (OffsetAnswer n) = IsDatedIn w x ts (Some n)
  TellsDate w x ts NoOffset = IsDatedIn w x ts None
  TellsDate w x ts other = Unit {0}

module _ {D S M : Type 0} (disk : DiskGhosts D) (store : StoreGhosts S) (meta : MetaGhosts M) where
  -- an offset that is answered is that of the timestamp, and where none is answered there is none
  abbrev pub SearchesTellDates : Type 0
  SearchesTellDates = (opening : State) (w : Whole D S M) (a : ℕ) (answer : Answer) (w' : Whole D S M) (ts : ℤ)
      → IsCentral disk store meta opening w → (t : IsTurn disk store meta w a (Answers answer) w') → t.order.command
      ≡ Offset (At ts)
      → AtNode w.partition_state t.order.broker.0 (λ x. TellsDate disk w x ts answer)

  -- a search is never damage
  abbrev pub NoSearchIsDamaged : Type 0
  NoSearchIsDamaged = (opening : State) (w : Whole D S M) (a : ℕ) (place : Place) (at : ℕ) (w' : Whole D S M) (ts : ℤ)
      → IsCentral disk store meta opening w → SearchesKnown meta opening w
      → (t : IsTurn disk store meta w a (Answers (Damaged place at)) w') → t.order.command ≡ Offset (At ts) → ⊥

  -- a search returns an offset or by that there is none, by as many of its actor's turns as it has left, where there is
  -- nothing in the way of them
  abbrev pub UnhinderedAreFound : Type 0
  UnhinderedAreFound =
      (opening : State) (w : Whole D S M) (a place : ℕ) (l : ActorList) (actor_state : ActorState) (order : Order)
      (ts : ℤ) (actors : List ℕ) (w' : Whole D S M) → IsCentral disk store meta opening w → SearchesKnown meta opening w
      → IsNextOrder w a place l actor_state order → order.command ≡ Offset (At ts)
      → RunsTurns disk store meta (IsUnhindered disk store meta place actor_state.number) w actors w'
      → turns_left (Offset (At ts)) actor_state.in_progress ≤ times a actors
      → (answer : Answer) × IsSearchAnswer answer × IsCommandAnswered w' l.actor actor_state.number answer

  -- over devices of which no call can fail that is where its broker still leads
  abbrev pub UnfailingAreFound : Type 0
  UnfailingAreFound =
      (opening : State) (w : Whole D S M) (a place : ℕ) (l : ActorList) (actor_state : ActorState) (order : Order)
      (ts : ℤ) (actors : List ℕ) (w' : Whole D S M) → IsCentral disk store meta opening w → SearchesKnown meta opening w
      → IsUnfailing disk store meta w → IsNextOrder w a place l actor_state order → order.command ≡ Offset (At ts)
      → RunsTurns disk store meta (IsFree disk store meta place actor_state.number) w actors w'
      → turns_left (Offset (At ts)) actor_state.in_progress ≤ times a actors
      → (answer : Answer) × IsSearchAnswer answer × IsCommandAnswered w' l.actor actor_state.number answer

  -- fewer of its turns are enough where its broker knows no high watermark past a mark at any of them
  abbrev pub MarkedAreFound : Type 0
  MarkedAreFound =
      (opening : State) (w : Whole D S M) (a place : ℕ) (l : ActorList) (actor_state : ActorState) (order : Order)
      (ts : ℤ) (mark : ℕ) (actors : List ℕ) (w' : Whole D S M) → IsCentral disk store meta opening w
      → SearchesKnown meta opening w → IsNextOrder w a place l actor_state order → order.command ≡ Offset (At ts)
      → RunsTurns disk store meta (λ v b u. IsUnhindered disk store meta place actor_state.number v b u
      × KnowsUpTo mark place actor_state.number v b u)
      w actors w'
      → search_left mark actor_state.in_progress ≤ times a actors
      → (answer : Answer) × IsSearchAnswer answer × IsCommandAnswered w' l.actor actor_state.number answer

  -- what a schedule reaches keeps what is known of what searches have found
  abbrev pub ReachesSearches : Type 0
  ReachesSearches = (opening : State) (w : Whole D S M) (schedule : List Pace) (w' : Whole D S M)
      → IsCentral disk store meta opening w → SearchesKnown meta opening w → Reaches disk store meta w schedule w'
      → IsCentral disk store meta opening w' × SearchesKnown meta opening w'

  -- a turn keeps it
  abbrev pub TurnsKeepSearches : Type 0
  TurnsKeepSearches = (opening : State) (w : Whole D S M) (a : ℕ) (outcome : Outcome) (w' : Whole D S M)
      → IsCentral disk store meta opening w → SearchesKnown meta opening w → IsTurn disk store meta w a outcome w'
      → SearchesKnown meta opening w'

  -- it is known where nothing has happened yet
  abbrev pub NewHasSearches : Type 0
  NewHasSearches = (opening : State) (lists : List ActorList) (w : Whole D S M) → IsNewWorld lists w
      → SearchesKnown meta opening w
