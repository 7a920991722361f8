-- What a power cut of everything leaves of a world, where it comes between two turns.
use Rattle.std.specs.Prelude.{◌≡◌, ◌+◌, ◌^◌, ◌<◌, pos, true, false, List, [], ◌∷◌, length, map, replicate, IsTrue, refl}
use Rattle.std.proofs.Common.{inl}
use Rattle.tier_base.specs.Reserved.{ReservedItems}
use Rattle.tier_base.specs.declared.plain.Settings.{Settings}
use Rattle.disk_model.specs.Content.{Content, Files, Image}
use Rattle.disk_model.specs.declared.disk.Disk.{Ghosts as DiskGhosts}
use Rattle.object_store.specs.declared.store.Store.{Ghosts as StoreGhosts}
use Rattle.segment_meta.specs.declared.note.Note.{Note}
use Rattle.meta_log.specs.declared.log.MetaLog.{Ghosts as MetaGhosts}
use Rattle.meta_log.specs.Content.{Content as NotesContent, Left}
use Rattle.object_store.specs.Content.{Content as StoreContent}
use Rattle.plain_log.specs.declared.command.Config.{Config}
use Rattle.log_steps.specs.Reopens.{Reopens}
use Rattle.broker_log.specs.Seen.{LogState, Up, Down, Away}
use Rattle.plain_log.specs.declared.command.ActorList.{ActorList}
use Rattle.plain_log.specs.declared.journal.JournalEntry.{JournalEntry}
use Rattle.plain_log.specs.declared.state.Role.TheVariants.{Idle}
use Rattle.plain_log.specs.declared.state.State.{State}
use Rattle.plain_log.specs.Orders.{AreListsFor, AreRising}
use Rattle.partition_commands.specs.declared.partition_state.Node.{Node}
use Rattle.partition_world.specs.Central.{notes_left}
use Rattle.partition_world.specs.Fresh.{fresh_actor_state, fresh_broker_tier}
use Rattle.tier_base.specs.declared.names.PartitionId.{PartitionId}
use Rattle.registry.specs.declared.registry.Registry.{Registry}
use Rattle.partition_commands.specs.Cold.{DisksReopen}
use Rattle.partition_commands.specs.Fresh.{AreDisksOf}
use Rattle.plain_log.specs.declared.command.Pace.{Pace}
use Rattle.partition_world.specs.Cold.{IsReopened, StandCold}
use Rattle.partition_world.specs.Laws.{IsSafeRunFrom}
use Rattle.partition_world.specs.Reaches.{Reaches}
use Rattle.partition_world.specs.Left.{IsCentralLeft}
use Rattle.partition_world.specs.Whole.{Whole}
use Rattle.cold_state.specs.Cold.{cold_of}

-- a disk after a power cut: it has no images but those that it had
pub record IsCutDisk (old new : Content) : Type 0 where
  pub is_observable : IsTrue old.is_observable → IsTrue new.is_observable
  pub images : (c : Files) → Image new c → Image old c

-- a metadata log after it: it reports metadata events that were left, and no others are left
pub record IsCutLog (old new : NotesContent) : Type 0 where
  pub is_observable : IsTrue old.is_observable → IsTrue new.is_observable
  pub left : (l : List Note) → Left new l → Left old l

-- a store after it: it is as it was
pub record IsCutStore (old new : StoreContent) : Type 0 where
  pub is_observable : IsTrue old.is_observable → IsTrue new.is_observable
  pub objects : new.objects ≡ old.objects

module _ {D : Type 0} (content : D → Content) where
  -- a broker's disk after it, which a log can be opened from where that is known
  abbrev pub LeavesDisk : LogState D → D → Type 0
  LeavesDisk (Up log) disk = Reopens (content log.disk) × IsCutDisk (content log.disk) (content disk)
  LeavesDisk (Down was old) disk = IsCutDisk (content old) (content disk)
  LeavesDisk Away disk = Unit {0}

  -- each broker's
  abbrev pub LeaveDisks : List (Node D) → List D → Type 0
  LeaveDisks [] [] = Unit {0}
  LeaveDisks (x ∷ xs) (d ∷ disks) = LeavesDisk x.log d × LeaveDisks xs disks
  LeaveDisks [] (d ∷ disks) = ⊥
  LeaveDisks (x ∷ xs) [] = ⊥

module _ {D : Type 0} (content : D → Content) where
  -- disks after it
  abbrev pub AreCut : List D → List D → Type 0
  AreCut [] [] = Unit {0}
  AreCut (disk ∷ disks) (now ∷ nows) = IsCutDisk (content disk) (content now) × AreCut disks nows
  AreCut [] (now ∷ nows) = ⊥
  AreCut (disk ∷ disks) [] = ⊥

module _ {D : Type 0} where
  -- a broker that is down and has never stopped, over a disk
  abbrev pub cold_dev : Settings → D → Node D
  cold_dev set disk = record { stops = 0; role = Idle; log = Down set disk; known_high_watermark = 0 }

module _ {D S M : Type 0} where
  -- a world with a registry that begins over these devices, with these lists and this journal
  abbrev pub reopened : Config → Whole D S M → List ActorList → ReservedItems JournalEntry → List D → S → M
      → Whole D S M
  reopened config w lists journal disks s m = record {
    partition = w.partition;
    config = config;
    lists = lists;
    partition_state = record {
      registry = w.partition_state.registry;
      nodes = map (cold_dev config.settings) disks;
      clock = pos 0;
      copying = true;
      packed = false;
    };
    tier = record { store = s; meta = m; broker_tiers = map (λ broker_tier. fresh_broker_tier) w.tier.broker_tiers };
    desk = replicate (length lists) fresh_actor_state;
    journal = journal;
  }

module _ {D S M : Type 0} (disk : DiskGhosts D) (store : StoreGhosts S) (meta : MetaGhosts M) where
  -- the plain state that the journal has come to
  abbrev pub plain_in : (opening : State) (w : Whole D S M) → IsCentralLeft disk store meta opening w → State
  plain_in opening w c = (c (meta.content w.tier.meta).notes (inl refl)).central.plain

  -- after a power cut of everything between two turns a world that begins with the registry over what is left has the
  -- central fact for what is left of the plain state
  abbrev pub PowerCutKeepsCentral : Type 0
  PowerCutKeepsCentral = (opening : State) (config : Config) (w : Whole D S M) (lists : List ActorList)
      (journal : ReservedItems JournalEntry)
      (disks : List D) (s : S) (m : M) (c : IsCentralLeft disk store meta opening w)
      → LeaveDisks disk.content w.partition_state.nodes disks
      → IsCutStore (store.content w.tier.store) (store.content s) → IsCutLog (meta.content w.tier.meta) (meta.content m)
      → AreRising lists → journal.items ≡ []
      → ((l : List Note) → Left (meta.content m) l
      → length l + notes_left lists (replicate (length lists) fresh_actor_state) < 2 ^ 64)
      → IsCentralLeft disk store meta (cold_of (plain_in opening w c)) (reopened config w lists journal disks s m)

  -- after a power cut of everything between two turns what is left of the devices represents what is left of the plain
  -- state, with whatever metadata events a further power cut may leave
  abbrev pub PowerCutLeavesCold : Type 0
  PowerCutLeavesCold = (opening : State) (w : Whole D S M) (disks : List D) (s : S) (m : M)
      (c : IsCentralLeft disk store meta opening w)
      → LeaveDisks disk.content w.partition_state.nodes disks
      → IsCutStore (store.content w.tier.store) (store.content s)
      → IsCutLog (meta.content w.tier.meta) (meta.content m) → (l : List Note) → Left (meta.content m) l
      → StandCold disk store meta w.partition w.partition_state.registry disks s m (cold_of (plain_in opening w c)) l

  -- a power cut of devices that represent a plain state leaves devices that represent it
  abbrev pub PowerCutKeepsCold : Type 0
  PowerCutKeepsCold = (partition : PartitionId) (registry : Registry) (disks nows : List D) (s : S) (m : M) (t : S)
      (n : M) (p : State)
      → ((l : List Note) → Left (meta.content m) l → StandCold disk store meta partition registry disks s m p l)
      → AreCut disk.content disks nows → IsCutStore (store.content s) (store.content t)
      → IsCutLog (meta.content m) (meta.content n)
      → (l : List Note) → Left (meta.content n) l → StandCold disk store meta partition registry nows t n p l

  -- A run continues after a power cut of everything between two turns: over what is left of the devices, with the
  -- registry as it was, a world is reopened, and whatever a schedule reaches from it has a journal that is a run of the
  -- plain log from what is left of the plain state.
  abbrev pub RunsGoOn : Type 0
  RunsGoOn = (opening : State) (w : Whole D S M) (config : Config) (lists : List ActorList) (disks : List D) (s : S)
      (m : M)
      (v : Whole D S M) (schedule : List Pace) (v' : Whole D S M) (c : IsCentralLeft disk store meta opening w)
      → LeaveDisks disk.content w.partition_state.nodes disks
      → IsCutStore (store.content w.tier.store) (store.content s)
      → IsCutLog (meta.content w.tier.meta) (meta.content m)
      → ((l : List Note) → Left (meta.content m) l → length l < 2 ^ 63)
      → AreListsFor config lists
      → IsReopened disk store meta w.partition config lists w.partition_state.registry disks s m v
      → Reaches disk store meta v schedule v' → IsSafeRunFrom (cold_of (plain_in opening w c)) lists v'.journal.items

module _ {D : Type 0} (disk : DiskGhosts D) where
  -- the disks that a partition gives back are such as a power cut may leave, and so are those that a power cut leaves
  -- of them
  abbrev pub ClosedAreLeft : Type 0
  ClosedAreLeft = (nodes : List (Node D)) (disks nows : List D) → AreDisksOf nodes disks
      → DisksReopen disk.content nodes disks
      → AreCut disk.content disks nows → LeaveDisks disk.content nodes nows
