-- The laws of a world.
use Rattle.std.specs.Prelude.{◌≡◌, ℕ, List, Some}
use Rattle.tier_base.specs.declared.names.PartitionId.{PartitionId}
use Rattle.disk_model.specs.declared.disk.Disk.{Ghosts as DiskGhosts}
use Rattle.object_store.specs.declared.store.Store.{Ghosts as StoreGhosts}
use Rattle.meta_log.specs.declared.log.MetaLog.{Ghosts as MetaGhosts}
use Rattle.plain_log.specs.declared.command.ActorList.{ActorList}
use Rattle.plain_log.specs.declared.command.Config.{Config}
use Rattle.plain_log.specs.declared.command.Pace.{Pace}
use Rattle.plain_log.specs.Fresh.{fresh}
use Rattle.plain_log.specs.Orders.{AreListsFor, IsConfig}
use Rattle.plain_log.specs.Runs.{IsPlainRun, IsComplete, replay}
use Rattle.plain_log.specs.Safe.{PlainSafe}
use Rattle.plain_log.specs.declared.journal.JournalEntry.{JournalEntry}
use Rattle.plain_log.specs.declared.state.State.{State}
use Rattle.registry.specs.declared.registry.Registry.{Registry}
use Rattle.laws_partition.specs.declared.actor_progress.Stepped.{Stepped}
use Rattle.partition_commands.specs.Infallible.{AreUnplanned}
use Rattle.partition_world.specs.Infallible.{IsUnplanned, IsUnfailing}
use Rattle.partition_world.specs.Central.{IsCentral, KeepsCentral}
use Rattle.partition_world.specs.Cold.{IsReopened, AreCold}
use Rattle.partition_world.specs.Fresh.{IsFresh, IsNewWorld, IsSeenEmpty}
use Rattle.partition_world.specs.InTurn.{IsInTurn}
use Rattle.partition_world.specs.Lasting.{HaveLasted}
use Rattle.partition_world.specs.Later.{IsLater}
use Rattle.partition_world.specs.Reaches.{Reaches}
use Rattle.partition_world.specs.Turn.{Steps, IsAtEnd}
use Rattle.partition_world.specs.Whole.{Whole}

-- the journal is a run of the plain log from this state, and the safety rules hold in the state to which it leads
pub record IsSafeRunFrom (opening : State) (lists : List ActorList) (journal : List JournalEntry) : Type 0 where
  pub last : State
  pub replays : replay lists opening journal ≡ Some last
  pub safe : PlainSafe last

-- where it holds and each actor is at its end, the journal is a complete run of the plain log
pub record IsCompleteRun {D S M : Type 0} (w : Whole D S M) : Type 0 where
  pub run : IsPlainRun w.config w.lists w.journal.items
  pub complete : IsComplete w.lists w.journal.items

module _ {D S M : Type 0} (disk : DiskGhosts D) (store : StoreGhosts S) (meta : MetaGhosts M) where
  -- where the central fact holds of a world whose actors are at their ends, its journal is a complete run
  abbrev pub EndsAreComplete : Type 0
  EndsAreComplete =
      (w : Whole D S M) → IsCentral disk store meta (fresh w.config) w → ((a : ℕ) → IsAtEnd w a) → IsCompleteRun w

  -- each step keeps the central fact
  abbrev pub StepsKeepCentral : Type 0
  StepsKeepCentral =
      (w : Whole D S M) (a : ℕ) (stepped : Stepped) (w' : Whole D S M) → Steps disk store meta w a stepped w'
      → KeepsCentral disk store meta w w'

  -- it holds of a fresh world whose logs, objects and metadata events are seen
  abbrev pub FreshIsCentral : Type 0
  FreshIsCentral = (partition : PartitionId) (config : Config) (lists : List ActorList) (disks : List D) (s : S) (m : M)
      (w : Whole D S M) → IsConfig config → AreListsFor config lists
      → IsFresh disk store meta partition config lists disks s m w → IsSeenEmpty disk store meta w
      → IsCentral disk store meta (fresh config) w

  -- a world that a schedule reaches is a later one
  abbrev pub ReachesLater : Type 0
  ReachesLater = (w : Whole D S M) (schedule : List Pace) (w' : Whole D S M) → Reaches disk store meta w schedule w'
      → IsLater disk store meta w w'

  -- in whatever a schedule reaches from a new world, over any devices: each of them has lasted
  abbrev pub ReachesLasting : Type 0
  ReachesLasting =
      (lists : List ActorList) (w : Whole D S M) (schedule : List Pace) (w' : Whole D S M) → IsNewWorld lists w
      → Reaches disk store meta w schedule w' → HaveLasted disk store meta w w'

  -- over devices of which no call can fail no turn of a schedule returns a fault
  abbrev pub ReachesUnfailing : Type 0
  ReachesUnfailing = (w : Whole D S M) (schedule : List Pace) (w' : Whole D S M) → Reaches disk store meta w schedule w'
      → IsUnfailing disk store meta w → IsUnfailing disk store meta w'

  -- whatever a schedule reaches from a new world, over any devices: its journal reports each actor's commands in turn
  abbrev pub ReachesInTurn : Type 0
  ReachesInTurn = (config : Config) (lists : List ActorList) (w : Whole D S M) (schedule : List Pace) (w' : Whole D S M)
      → AreListsFor config lists → IsNewWorld lists w → Reaches disk store meta w schedule w'
      → IsInTurn w'.lists w'.journal.items

  -- and where each actor is at its end, it answers every command of every list, once and in their order
  abbrev pub EndsAreAnswered : Type 0
  EndsAreAnswered =
      (config : Config) (lists : List ActorList) (w : Whole D S M) (schedule : List Pace) (w' : Whole D S M)
      → AreListsFor config lists → IsNewWorld lists w → Reaches disk store meta w schedule w' → ((a : ℕ) → IsAtEnd w' a)
      → IsComplete w'.lists w'.journal.items

  -- in a world that a schedule reaches from one that is reopened, the journal is a run of the plain log from each plain
  -- state that the devices represented
  abbrev pub ReopenedRuns : Type 0
  ReopenedRuns = (partition : PartitionId) (config : Config) (lists : List ActorList) (registry : Registry)
      (disks : List D) (s : S)
      (m : M) (w : Whole D S M) (schedule : List Pace) (w' : Whole D S M) (p : State) → AreListsFor config lists
      → IsReopened disk store meta partition config lists registry disks s m w
      → AreCold disk store meta partition registry disks s m p → Reaches disk store meta w schedule w'
      → IsSafeRunFrom p lists w'.journal.items

  -- a world that is reopened is on devices of which no call can fail, where none is planned to
  abbrev pub ReopenedIsUnfailing : Type 0
  ReopenedIsUnfailing =
      (partition : PartitionId) (config : Config) (lists : List ActorList) (registry : Registry) (disks : List D)
      (s : S) (m : M) (w : Whole D S M) → IsReopened disk store meta partition config lists registry disks s m w
      → AreUnplanned disk.control disks → IsUnplanned (store.control s) → IsUnplanned (meta.control m)
      → IsUnfailing disk store meta w

  -- a fresh world is on devices of which no call can fail, where none is planned to
  abbrev pub FreshIsUnfailing : Type 0
  FreshIsUnfailing =
      (partition : PartitionId) (config : Config) (lists : List ActorList) (disks : List D) (s : S) (m : M)
      (w : Whole D S M) → IsFresh disk store meta partition config lists disks s m w → AreUnplanned disk.control disks
      → IsUnplanned (store.control s) → IsUnplanned (meta.control m) → IsUnfailing disk store meta w
