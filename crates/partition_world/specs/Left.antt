-- The central fact with whatever metadata events a power cut may leave.
--
--   form                     says
--   resolved meta            a metadata log beside events: those are what it reports, and what a power cut leaves
--   whole_with w l           the world with its metadata log beside these metadata events
--   IsCentralLeft opening w  with each list of metadata events that a power cut now may leave, the central fact holds
use Rattle.std.specs.Prelude.{ℕ, List}
use Rattle.disk_model.specs.declared.disk.Disk.{Ghosts as DiskGhosts}
use Rattle.object_store.specs.declared.store.Store.{Ghosts as StoreGhosts}
use Rattle.segment_meta.specs.declared.note.Note.{Note}
use Rattle.meta_log.specs.declared.log.MetaLog.{Ghosts as MetaGhosts}
use Rattle.tier_base.specs.declared.names.PartitionId.{PartitionId}
use Rattle.meta_log.specs.Content.{Content, Left, LeavesTold}
use Rattle.plain_log.specs.declared.command.ActorList.{ActorList}
use Rattle.plain_log.specs.declared.command.Config.{Config}
use Rattle.plain_log.specs.Fresh.{fresh}
use Rattle.plain_log.specs.Orders.{AreListsFor, IsConfig}
use Rattle.plain_log.specs.declared.state.State.{State}
use Rattle.laws_partition.specs.declared.actor_progress.Stepped.{Stepped}
use Rattle.partition_world.specs.declared.tier.RemoteTier.{RemoteTier}
use Rattle.partition_world.specs.Central.{IsCentral}
use Rattle.partition_world.specs.Fresh.{IsFresh, IsSeenEmpty}
use Rattle.partition_world.specs.Turn.{Steps}
use Rattle.partition_world.specs.Whole.{Whole}

-- it reports these metadata events, and a power cut leaves no others
abbrev pub resolved_to : Content → List Note → Content
resolved_to c l = record { is_observable = c.is_observable; notes = l; besides = λ x. ⊥ }

-- a metadata log beside metadata events
abbrev pub resolved : {M : Type 0} → MetaGhosts M → MetaGhosts (M × List Note)
resolved meta = record {
  content = λ m. resolved_to (meta.content m.0) m.1;
  control = λ m. meta.control m.0;
}

abbrev pub tier_with : {S M : Type 0} → RemoteTier S M → List Note → RemoteTier S (M × List Note)
tier_with t l = record { store = t.store; meta = (t.meta, l); broker_tiers = t.broker_tiers }

abbrev pub whole_with : {D S M : Type 0} → Whole D S M → List Note → Whole D S (M × List Note)
whole_with w l = record {
  partition = w.partition;
  config = w.config;
  lists = w.lists;
  partition_state = w.partition_state;
  tier = tier_with w.tier l;
  desk = w.desk;
  journal = w.journal;
}

module _ {D S M : Type 0} (disk : DiskGhosts D) (store : StoreGhosts S) (meta : MetaGhosts M) where
  -- with each list of metadata events that a power cut now may leave in the place of those that are reported, the
  -- central fact holds
  abbrev pub IsCentralLeft : State → Whole D S M → Type 0
  IsCentralLeft opening w = (l : List Note) → Left (meta.content w.tier.meta) l
      → IsCentral disk store (resolved meta) opening (whole_with w l)

  -- it continues, for each opening state
  abbrev pub KeepsCentralLeft : Whole D S M → Whole D S M → Type 0
  KeepsCentralLeft w w' = (opening : State) → IsCentralLeft opening w → IsCentralLeft opening w'

  -- each step keeps it
  abbrev pub StepsKeepCentralLeft : Type 0
  StepsKeepCentralLeft = (w : Whole D S M) (a : ℕ) (stepped : Stepped) (w' : Whole D S M)
      → Steps disk store meta w a stepped w'
      → KeepsCentralLeft w w'

  -- where it holds, the central fact does
  abbrev pub LeftIsCentral : Type 0
  LeftIsCentral = (opening : State) (w : Whole D S M) → IsCentralLeft opening w → IsCentral disk store meta opening w

  -- a fresh world has it whose logs, objects and metadata events are seen, where a power cut leaves no metadata events
  abbrev pub FreshIsCentralLeft : Type 0
  FreshIsCentralLeft = (partition : PartitionId) (config : Config) (lists : List ActorList) (disks : List D) (s : S)
      (m : M)
      (w : Whole D S M) → IsConfig config → AreListsFor config lists
      → IsFresh disk store meta partition config lists disks s m w → IsSeenEmpty disk store meta w
      → LeavesTold (meta.content w.tier.meta) → IsCentralLeft (fresh config) w
