-- A partition of a script in the middle of a run by threads, and what its type keeps.
use Rattle.std.specs.Prelude.{◌≡◌, ℕ, Bool, false, List, [], ◌∷◌, slice_get, Some, Ok}
use Rattle.tier_base.specs.declared.names.ActorId.{ActorId}
use Rattle.tier_base.specs.declared.names.PartitionId.{PartitionId}
use Rattle.disk_model.specs.declared.disk.Disk.{Ghosts as DiskGhosts}
use Rattle.object_store.specs.declared.store.Store.{Ghosts as StoreGhosts}
use Rattle.meta_log.specs.declared.log.MetaLog.{Ghosts as MetaGhosts}
use Rattle.plain_log.specs.declared.command.Config.{Config}
use Rattle.plain_log.specs.declared.command.Pace.{Pace}
use Rattle.plain_log.specs.declared.command.Pace.TheVariants.{Times}
use Rattle.plain_log.specs.declared.journal.JournalEntry.{JournalEntry}
use Rattle.plain_log.specs.Fresh.{fresh}
use Rattle.partition_world.specs.Central.{IsCentral}
use Rattle.partition_world.specs.Reaches.{Reaches}
use Rattle.partition_world.specs.Whole.{Whole}
use Rattle.script_lang.specs.declared.script.PartScript.{PartScript}
use Rattle.script_lang.specs.declared.script.Script.{Script}
use Rattle.script_lang.specs.Fit.{IsFit}
use Rattle.script_lang.specs.Script.{script_in}
use Rattle.run_memory.specs.Run.{StartsWith, IsJournalOf}

-- the script's bytes, and which of its partitions this is; its world; the actors of the turns so far; whether one
-- found no memory
pub record Trace (D S M : Type 0) : Type 0 where
  pub script : List ℕ
  pub place : ℕ
  pub partition : PartitionId
  pub world : Whole D S M
  pub turns : List ActorId
  pub ended : Bool

-- one turn of each of these actors, in their order
abbrev pub one_by_one : List ActorId → List Pace
one_by_one [] = []
one_by_one (actor ∷ turns) = Times actor 1 ∷ one_by_one turns

-- the script is valid with this configuration, and at this place with this partition
pub record IsPartScript (script : List ℕ) (place : ℕ) (config : Config) (part : PartScript) : Type 0 where
  pub read : Script
  pub reads : script_in script ≡ Ok read
  pub fit : IsFit read
  pub config_is : read.config ≡ config
  pub at : slice_get read.parts place ≡ Some part

-- the partition asks for the same, but for its schedule
abbrev pub by_schedule : List Pace → PartScript → PartScript
by_schedule schedule part = record part { schedule = schedule }

module _ {D S M : Type 0} where
  -- it is of this script and this place
  pub record IsTraceOf (t : Trace D S M) (script : List ℕ) (place : ℕ) : Type 0 where
    pub script_is : t.script ≡ script
    pub place_is : t.place ≡ place

  -- it is of the same partition of the same script
  pub record IsSamePart (t t' : Trace D S M) : Type 0 where
    pub script : t'.script ≡ t.script
    pub place : t'.place ≡ t.place
    pub partition : t'.partition ≡ t.partition

  -- it is, and continues
  pub record TraceContinues (t t' : Trace D S M) : Type 0 where
    pub same : IsSamePart t t'
    pub goes : t'.ended ≡ false

module _ {D S M : Type 0} (disk : DiskGhosts D) (store : StoreGhosts S) (meta : MetaGhosts M) where
  -- the turns lead from the fresh world of the script's partition, over devices with its faults, to this world
  pub record LeadsFrom (script : List ℕ) (place : ℕ) (partition : PartitionId) (turns : List ActorId)
      (w : Whole D S M) : Type 0 where
    pub config : Config
    pub part : PartScript
    pub is_part : IsPartScript script place config part
    pub numbered : part.partition ≡ partition
    pub first : Whole D S M
    pub starts : StartsWith disk store meta part.partition config part.lists part.faults first
    pub central : IsCentral disk store meta (fresh config) first
    pub reaches : Reaches disk store meta first (one_by_one turns) w

  -- what the type keeps: that, until a turn finds no memory
  abbrev pub IsTraced : List ℕ → ℕ → PartitionId → Whole D S M → List ActorId → Bool → Type 0
  IsTraced script place partition w turns ended = ended ≡ false → LeadsFrom script place partition turns w

  -- a partition's number and journal: a run of it by some schedule
  abbrev pub IsRunByThreads : Config → PartScript → ℕ × List JournalEntry → Type 0
  IsRunByThreads config part run =
      (schedule : List Pace) × IsJournalOf disk store meta config (by_schedule schedule part) run

  -- such a run of the partition that is at this place of the script
  pub record IsThreadedRun (script : List ℕ) (place : ℕ) (run : ℕ × List JournalEntry) : Type 0 where
    pub config : Config
    pub part : PartScript
    pub is_part : IsPartScript script place config part
    pub is : IsRunByThreads config part run
