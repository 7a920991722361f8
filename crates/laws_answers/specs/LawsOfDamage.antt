-- The laws of answers that are never `Damaged`.
use Rattle.std.specs.Prelude.{ℕ, List}
use Rattle.disk_model.specs.declared.disk.Disk.{Ghosts as DiskGhosts}
use Rattle.object_store.specs.declared.store.Store.{Ghosts as StoreGhosts}
use Rattle.meta_log.specs.declared.log.MetaLog.{Ghosts as MetaGhosts}
use Rattle.plain_log.specs.declared.answer.Answer.TheVariants.{Damaged}
use Rattle.plain_log.specs.declared.answer.Place.{Place}
use Rattle.plain_log.specs.declared.command.ActorList.{ActorList}
use Rattle.plain_log.specs.declared.command.Pace.{Pace}
use Rattle.plain_log.specs.declared.state.State.{State}
use Rattle.partition_world.specs.declared.actor_state.Outcome.TheVariants.{Answers}
use Rattle.partition_world.specs.Central.{IsCentral}
use Rattle.partition_world.specs.Fresh.{IsNewWorld}
use Rattle.partition_world.specs.Reaches.{Reaches}
use Rattle.partition_world.specs.Turn.{IsTurn}
use Rattle.partition_world.specs.Whole.{Whole}
use Rattle.laws_answers.specs.DeletionsKnown.{DeletionsKnown}
use Rattle.laws_answers.specs.Found.{SpansKnown}
use Rattle.laws_answers.specs.FoundByTime.{SearchesKnown}
use Rattle.laws_answers.specs.Damage.{MeetsNoDamage}

module _ {D S M : Type 0} (disk : DiskGhosts D) (store : StoreGhosts S) (meta : MetaGhosts M) where
  -- no command is answered `Damaged`, where it is known of deletions and of what fetches and searches have found what
  -- turns keep of them
  abbrev pub NoAnswerIsDamaged : Type 0
  NoAnswerIsDamaged = (opening : State) (w : Whole D S M) (a : ℕ) (place : Place) (at : ℕ) (w' : Whole D S M)
      → IsCentral disk store meta opening w → DeletionsKnown meta w → SpansKnown meta opening w
      → SearchesKnown meta opening w
      → IsTurn disk store meta w a (Answers (Damaged place at)) w' → ⊥

  -- nor is any in a world that a schedule reaches from a new one which has the central fact for some plain state
  abbrev pub RunsMeetNoDamage : Type 0
  RunsMeetNoDamage =
      (opening : State) (lists : List ActorList) (w : Whole D S M) (schedule : List Pace) (w' : Whole D S M)
      → IsNewWorld lists w → IsCentral disk store meta opening w → Reaches disk store meta w schedule w'
      → MeetsNoDamage w'.journal.items
