-- What a sweep between two runs makes of a world where no command is in progress.
use Rattle.std.specs.Prelude.{◌≡◌, ◌+◌, ◌^◌, ◌<◌, List, length, replicate}
use Rattle.disk_model.specs.declared.disk.Disk.{Ghosts as DiskGhosts}
use Rattle.object_store.specs.Content as objects
use Rattle.object_store.specs.declared.store.Store.{Ghosts as StoreGhosts}
use Rattle.segment_meta.specs.declared.note.Note.{Note}
use Rattle.meta_log.specs.declared.log.MetaLog.{Ghosts as MetaGhosts}
use Rattle.meta_log.specs.Content.{Left}
use Rattle.plain_log.specs.declared.state.State.{State}
use Rattle.partition_world.specs.Central.{notes_left}
use Rattle.partition_world.specs.Fresh.{fresh_actor_state}
use Rattle.partition_world.specs.Left.{IsCentralLeft}
use Rattle.partition_world.specs.Whole.{Whole}
use Rattle.tier_sweep.specs.Sweeping.{LeavesUnder}
use Rattle.cold_start.specs.ColdWorld.{IsCutStore}

-- the world over another store and another metadata log
abbrev pub with_devices : {D S M : Type 0} → Whole D S M → S → M → Whole D S M
with_devices w s m = record {
  partition = w.partition;
  config = w.config;
  lists = w.lists;
  partition_state = w.partition_state;
  tier = record { store = s; meta = m; broker_tiers = w.tier.broker_tiers };
  desk = w.desk;
  journal = w.journal;
}

module _ {D S M : Type 0} (disk : DiskGhosts D) (store : StoreGhosts S) (meta : MetaGhosts M) where
  -- where no command has begun, a world whose store and metadata log are as a sweep leaves them, done or refused, has
  -- the central fact for the opening state that it had it for
  abbrev pub SweepKeepsCentral : Type 0
  SweepKeepsCentral = (opening : State) (w : Whole D S M) (s : S) (m : M) → IsCentralLeft disk store meta opening w
      → w.desk ≡ replicate (length w.lists) fresh_actor_state
      → (store.content s).is_observable ≡ (store.content w.tier.store).is_observable → (meta.content m).is_observable
      ≡ (meta.content w.tier.meta).is_observable
      → LeavesUnder (store.content w.tier.store) (meta.content w.tier.meta) (store.content s) (meta.content m)
      → ((l : List Note) → Left (meta.content m) l → length l + notes_left w.lists w.desk < 2 ^ 64)
      → IsCentralLeft disk store meta opening (with_devices w s m)

-- a store that is provided with each object that it had is as a power cut leaves it
abbrev pub KeptStoreIsCut : Type 0
KeptStoreIsCut = (old new : objects.Content) → objects.Keeps old new → IsCutStore old new
