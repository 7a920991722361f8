-- The laws of a world.
use Rattle.std.specs.Prelude.{◌≡◌, ℕ, List, IsOk, All}
use Rattle.tier_base.specs.declared.names.PartitionId.{PartitionId}
use Rattle.log_terms.specs.Log.{joined}
use Rattle.record_batch.specs.Check.{checked}
use Rattle.plain_log.specs.declared.command.ActorList.{ActorList}
use Rattle.plain_log.specs.declared.command.Config.{Config}
use Rattle.plain_log.specs.Fresh.{fresh}
use Rattle.plain_log.specs.Orders.{AreListsFor, IsConfig}
use Rattle.plain_log.specs.Runs.{IsPlainRun, IsComplete}
use Rattle.laws_partition.specs.declared.actor_progress.Stepped.{Stepped}
use Rattle.laws_partition.specs.Whole.{Whole}
use Rattle.laws_partition.specs.Turn.{Steps, IsAtEnd}
use Rattle.laws_partition.specs.Central.{IsCentral, KeepsCentral}
use Rattle.laws_partition.specs.Fresh.{IsFresh}
use Rattle.laws_partition.specs.Taken.{parts}

-- each step keeps the central fact
abbrev pub StepsKeepCentral : Type 0
StepsKeepCentral = (w : Whole) (a : ℕ) (stepped : Stepped) (w' : Whole) → Steps w a stepped w' → KeepsCentral w w'

-- it holds of a fresh world
abbrev pub FreshIsCentral : Type 0
FreshIsCentral = (partition : PartitionId) (config : Config) (lists : List ActorList) (w : Whole) → IsConfig config
    → AreListsFor config lists → IsFresh partition config lists w → IsCentral (fresh config) w

-- where it holds and each actor is at its end, the journal is a complete run of the plain log
pub record IsCompleteRun (w : Whole) : Type 0 where
  pub run : IsPlainRun w.config w.lists w.journal.items
  pub complete : IsComplete w.lists w.journal.items

abbrev pub EndsAreComplete : Type 0
EndsAreComplete = (w : Whole) → IsCentral (fresh w.config) w → ((a : ℕ) → IsAtEnd w a) → IsCompleteRun w

-- batches that were joined come apart again
abbrev pub JoinedComeApart : Type 0
JoinedComeApart = (batches : List (List ℕ)) → All (λ batch. IsOk (checked batch)) batches
    → parts (joined batches) ≡ batches
