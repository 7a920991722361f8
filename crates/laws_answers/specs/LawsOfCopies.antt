-- The laws of what a copy returns.
use Rattle.std.specs.Prelude.{◌≡◌, ◌≤◌, ℕ, true, List}
use Rattle.tier_base.specs.declared.names.SegmentId.{SegmentId}
use Rattle.disk_model.specs.declared.disk.Disk.{Ghosts as DiskGhosts}
use Rattle.object_store.specs.declared.store.Store.{Ghosts as StoreGhosts}
use Rattle.meta_log.specs.declared.log.MetaLog.{Ghosts as MetaGhosts}
use Rattle.copy_task.specs.Copying.{Copied}
use Rattle.copy_task.specs.declared.turn.CopyStep.{CopyStep}
use Rattle.plain_log.specs.declared.answer.Answer.{Answer}
use Rattle.plain_log.specs.declared.answer.Answer.TheVariants.{CopiedSegment}
use Rattle.plain_log.specs.declared.command.ActorList.{ActorList}
use Rattle.plain_log.specs.declared.command.Command.TheVariants.{Copy}
use Rattle.plain_log.specs.declared.command.Order.{Order}
use Rattle.plain_log.specs.declared.command.Pace.{Pace}
use Rattle.plain_log.specs.declared.state.State.{State}
use Rattle.laws_partition.specs.declared.start_snapshot.StartSnapshot.{StartSnapshot}
use Rattle.partition_commands.specs.Partition.{AtNode}
use Rattle.partition_world.specs.declared.actor_state.Outcome.{Outcome}
use Rattle.partition_world.specs.declared.actor_state.Outcome.TheVariants.{Answers, Begins}
use Rattle.partition_world.specs.declared.actor_state.ActorState.{ActorState}
use Rattle.partition_world.specs.declared.actor_state.InProgress.TheVariants.{Copies}
use Rattle.partition_world.specs.Infallible.{IsUnfailing}
use Rattle.partition_world.specs.Central.{IsCentral}
use Rattle.partition_world.specs.Fresh.{IsNewWorld}
use Rattle.partition_world.specs.Reaches.{Reaches}
use Rattle.partition_world.specs.Tier.{AtBrokerTier}
use Rattle.partition_world.specs.Turn.{IsNextOrder, IsTurn}
use Rattle.partition_world.specs.Whole.{Whole}
use Rattle.laws_answers.specs.CausesOfCopies.{CopyHasCause}
use Rattle.laws_answers.specs.DeletionsKnown.{DeletionsKnown}
use Rattle.laws_answers.specs.Turns.{turns_left}
use Rattle.laws_answers.specs.Chains.{times, IsCommandAnswered, RunsTurns}
use Rattle.laws_answers.specs.UnhinderedCopies.{IsFree, IsUnhindered}

module _ {D S M : Type 0} (disk : DiskGhosts D) (store : StoreGhosts S) (meta : MetaGhosts M) where
  -- a copy's answer has its cause
  abbrev pub CopiesHaveCauses : Type 0
  CopiesHaveCauses = (opening : State) (w : Whole D S M) (a : ℕ) (answer : Answer) (w' : Whole D S M)
      → IsCentral disk store meta opening w → DeletionsKnown meta w
      → (t : IsTurn disk store meta w a (Answers answer) w')
      → t.order.command ≡ Copy
      → AtNode w.partition_state t.order.broker.0 (λ x. AtBrokerTier w.tier t.order.broker.0 (λ broker_tier.
      CopyHasCause disk store meta w t.order.broker.0 x broker_tier t.actor_state.in_progress answer w'))

  -- a copy begins where segments are copied
  abbrev pub CopiesBeginWhereOn : Type 0
  CopiesBeginWhereOn = (w : Whole D S M) (a : ℕ) (g : StartSnapshot) (w' : Whole D S M)
      (t : IsTurn disk store meta w a (Begins g) w')
      → t.order.command ≡ Copy → w.partition_state.copying ≡ true

  -- a copy is answered `Copied` by as many of its actor's turns as it has left, where there is nothing in the way of
  -- them
  abbrev pub UnhinderedAreCopied : Type 0
  UnhinderedAreCopied =
      (opening : State) (w : Whole D S M) (a place : ℕ) (l : ActorList) (actor_state : ActorState) (order : Order)
      (actors : List ℕ) (w' : Whole D S M) → IsCentral disk store meta opening w → DeletionsKnown meta w
      → IsNextOrder w a place l actor_state order → order.command ≡ Copy
      → RunsTurns disk store meta (IsUnhindered disk store meta place actor_state.number) w actors w'
      → turns_left Copy actor_state.in_progress ≤ times a actors
      → (id : SegmentId) × (base : ℕ) × (last : ℕ)
      × IsCommandAnswered w' l.actor actor_state.number (CopiedSegment id base last)

  -- of the segment that it has chosen, where it has
  abbrev pub ChosenAreCopied : Type 0
  ChosenAreCopied = (opening : State) (w : Whole D S M) (a place : ℕ) (l : ActorList) (actor_state : ActorState)
      (order : Order) (g : StartSnapshot)
      (copy : Copied) (next : CopyStep) (actors : List ℕ) (w' : Whole D S M) → IsCentral disk store meta opening w
      → DeletionsKnown meta w → IsNextOrder w a place l actor_state order → order.command ≡ Copy
      → actor_state.in_progress ≡ Copies g copy next
      → RunsTurns disk store meta (IsUnhindered disk store meta place actor_state.number) w actors w'
      → turns_left Copy actor_state.in_progress ≤ times a actors
      → IsCommandAnswered w' l.actor actor_state.number (CopiedSegment copy.id copy.segment.base copy.segment.last)

  -- over devices of which no call can fail that is where it has something to copy, and its broker still leads
  abbrev pub UnfailingAreCopied : Type 0
  UnfailingAreCopied =
      (opening : State) (w : Whole D S M) (a place : ℕ) (l : ActorList) (actor_state : ActorState) (order : Order)
      (actors : List ℕ) (w' : Whole D S M) → IsCentral disk store meta opening w → DeletionsKnown meta w
      → IsUnfailing disk store meta w → IsNextOrder w a place l actor_state order → order.command ≡ Copy
      → RunsTurns disk store meta (IsFree disk store meta place actor_state.number) w actors w'
      → turns_left Copy actor_state.in_progress ≤ times a actors
      → (id : SegmentId) × (base : ℕ) × (last : ℕ)
      × IsCommandAnswered w' l.actor actor_state.number (CopiedSegment id base last)

  -- what a schedule reaches keeps what is known of deletions
  abbrev pub ReachesKnown : Type 0
  ReachesKnown = (opening : State) (w : Whole D S M) (schedule : List Pace) (w' : Whole D S M)
      → IsCentral disk store meta opening w → DeletionsKnown meta w → Reaches disk store meta w schedule w'
      → IsCentral disk store meta opening w' × DeletionsKnown meta w'

  -- a turn keeps what is known of deletions
  abbrev pub TurnsKeepKnown : Type 0
  TurnsKeepKnown = (opening : State) (w : Whole D S M) (a : ℕ) (outcome : Outcome) (w' : Whole D S M)
      → IsCentral disk store meta opening w → DeletionsKnown meta w → IsTurn disk store meta w a outcome w'
      → DeletionsKnown meta w'

  -- it is known where nothing has happened yet
  abbrev pub NewIsKnown : Type 0
  NewIsKnown = (lists : List ActorList) (w : Whole D S M) → IsNewWorld lists w → DeletionsKnown meta w
