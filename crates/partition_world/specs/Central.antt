-- The central fact, which holds between any two turns where the devices are observable.
--
-- The world, as its partition is seen, is the plain log after the world's own journal; the remote tier, as it is seen
-- beside that state of the plain log, keeps its safety rules; the leader epochs that joins have read in the tier are
-- those that they recorded; and timestamp lookups have gone through their brokers' logs as far as they have come.
use Rattle.std.specs.Prelude.{◌≡◌, ℕ, ◌+◌, ◌-◌, ◌*◌, ◌^◌, ◌<◌, length, true, List, [], ◌∷◌}
use Rattle.std.specs.Prelude.{Option, Some, None, unwrap_or, slice_get, IsTrue}
use Rattle.disk_model.specs.declared.disk.Disk.{Ghosts as DiskGhosts}
use Rattle.object_store.specs.declared.store.Store.{Ghosts as StoreGhosts}
use Rattle.meta_log.specs.declared.log.MetaLog.{Ghosts as MetaGhosts}
use Rattle.copy_task.specs.declared.turn.CopyStep.TheVariants.{Start, Put, Finish}
use Rattle.expiry_task.specs.declared.turn.DeletionStep.TheVariants as deletion
use Rattle.tier_fetch.specs.declared.turn.FetchStep.{FetchStep as Search}
use Rattle.tier_fetch.specs.declared.turn.FetchStep.TheVariants.{Refresh}
use Rattle.time_find.specs.declared.turn.SearchStep.{SearchStep as Dating}
use Rattle.time_find.specs.Turns.{IsSet}
use Rattle.rebuild_task.specs.declared.turn.RebuildStep.TheVariants.{Epochs, Restart}
use Rattle.plain_log.specs.declared.command.ActorList.{ActorList}
use Rattle.plain_log.specs.declared.command.Command.{Command}
use Rattle.plain_log.specs.declared.command.Command.TheVariants.{Fetch, Join, Offset}
use Rattle.plain_log.specs.declared.command.Which.TheVariants.{At}
use Rattle.plain_log.specs.declared.command.Order.{Order}
use Rattle.plain_log.specs.declared.state.Broker.{Broker}
use Rattle.plain_log.specs.declared.state.State.{State}
use Rattle.plain_log.specs.State.{leading}
use Rattle.laws_partition.specs.declared.start_snapshot.StartSnapshot.{StartSnapshot}
use Rattle.laws_partition.specs.Seen as seen
use Rattle.laws_partition.specs.Central as seen_central
use Rattle.laws_tier_turns.specs.BrokerTiers.{tier_views_of, BrokerTierModel as BrokerTierIsSeen}
use Rattle.laws_tier_turns.specs.TierTasks.{rebuild_of, tier_task_of as tier_task_seen}
use Rattle.partition_commands.specs.Partition.{ShowsPartition}
use Rattle.tier_safe.specs.Scene.{Scene, TierTask, Free, Copies as CopiesSeen, Expires as ExpiresSeen}
use Rattle.tier_safe.specs.Scene.{Rebuilds as RebuildsSeen, Seeks as SeeksSeen}
use Rattle.tier_safe.specs.Safe.{TierSafe}
use Rattle.laws_tier_fetch.specs.Seeking.{sought_of, indexes_in}
use Rattle.laws_time_find.specs.Passed.{IsDatedTo}
use Rattle.laws_time_find.specs.Searching.{search_of}
use Rattle.partition_world.specs.declared.actor_state.ActorState.{ActorState}
use Rattle.partition_world.specs.declared.actor_state.InProgress.{InProgress}
use Rattle.partition_world.specs.declared.actor_state.InProgress.TheVariants.{Idle, Noted, Copies, Seeks}
use Rattle.partition_world.specs.declared.actor_state.InProgress.TheVariants.{Dates, Expires, Rebuilds}
use Rattle.partition_world.specs.declared.tier.BrokerTierState.{BrokerTierState}
use Rattle.partition_world.specs.Whole.{Whole, seen_as}

-- a broker's tier state as it is seen
abbrev pub broker_tier_seen : BrokerTierState → BrokerTierIsSeen
broker_tier_seen broker_tier = record {
  view = broker_tier.view;
  incarnation = broker_tier.incarnation;
  attempt = broker_tier.attempt;
  cache = indexes_in broker_tier.cache;
}

abbrev pub broker_tiers_seen : List BrokerTierState → List BrokerTierIsSeen
broker_tiers_seen [] = []
broker_tiers_seen (broker_tier ∷ broker_tiers) = broker_tier_seen broker_tier ∷ broker_tiers_seen broker_tiers

-- what the tier sees of a fetch of broker b that has begun with this, and continues so
abbrev pub seeks_of : ℕ → StartSnapshot → Search → Command → TierTask
seeks_of b g next (Fetch offset limit) = SeeksSeen (sought_of b g.stops (unwrap_or (leading g.role) 0) offset next)
seeks_of b g next command = Free

-- what it sees of a timestamp lookup that has begun with this, and continues so
abbrev pub dates_of : ℕ → StartSnapshot → ℕ → Dating → Command → TierTask
dates_of b g cursor next (Offset (At ts)) = search_of b g.stops (unwrap_or (leading g.role) 0) cursor next
dates_of b g cursor next command = Free

-- what it sees of a join whose broker has refreshed its view to restart its log
abbrev pub rebuilds_of : ℕ → StartSnapshot → Command → TierTask
rebuilds_of b g Join = RebuildsSeen (record (rebuild_of b g) { refreshed = true })
rebuilds_of b g command = Free

-- what it sees of a command that has begun: a fetch looks below its broker's local log
abbrev pub begun_of : ℕ → StartSnapshot → Command → TierTask
begun_of b g (Fetch offset limit) = seeks_of b g Refresh (Fetch offset limit)
begun_of b g command = tier_task_seen b command (Some g)

-- the task that the tier sees in what an actor has in progress, of a command that the order asks for
abbrev pub tier_task_of : Option Order → InProgress → TierTask
tier_task_of None in_progress = Free
tier_task_of (Some order) Idle = Free
tier_task_of (Some order) (Noted g) = begun_of order.broker.0 g order.command
tier_task_of (Some order) (Copies g copy next) = CopiesSeen copy next
tier_task_of (Some order) (Seeks g next) = seeks_of order.broker.0 g next order.command
tier_task_of (Some order) (Dates g cursor next) = dates_of order.broker.0 g cursor next order.command
tier_task_of (Some order) (Expires g segment next) = ExpiresSeen segment next
tier_task_of (Some order) (Rebuilds g next) = rebuilds_of order.broker.0 g order.command

-- of the whole desk
abbrev pub desk_of : List ActorList → List ActorState → List TierTask
desk_of [] desk = []
desk_of (l ∷ lists) [] = []
desk_of (l ∷ lists) (actor_state ∷ desk) =
    tier_task_of (slice_get l.orders actor_state.number) actor_state.in_progress ∷ desk_of lists desk

-- how many metadata events a command has appended at most, of the two that it may
abbrev pub told_by : InProgress → ℕ
told_by (Copies g copy Start) = 0
told_by (Copies g copy (Put n)) = 1
told_by (Copies g copy Finish) = 1
told_by (Copies g copy next) = 2
told_by (Expires g segment deletion.Start) = 0
told_by (Expires g segment next) = 1
told_by other = 0

-- how many metadata events may be appended yet
abbrev pub notes_left : List ActorList → List ActorState → ℕ
notes_left [] desk = 0
notes_left (l ∷ lists) [] = 0
notes_left (l ∷ lists) (actor_state ∷ desk) =
    2 * (length l.orders - actor_state.number) - told_by actor_state.in_progress + notes_left lists desk

-- a join that is to read a line in the tier began while the log start offset was below the wanted offset, and the
-- leader epochs that it has read is the leader's, as it recorded it
abbrev pub IsRecorded : InProgress → Type 0
IsRecorded (Rebuilds g Epochs) = g.start < g.wanted
IsRecorded (Rebuilds g (Restart line)) = line ≡ g.line
IsRecorded in_progress = Unit {0}

-- at each actor's state
abbrev pub AreRecorded : List ActorState → Type 0
AreRecorded desk =
    (place : ℕ) (actor_state : ActorState) → slice_get desk place ≡ Some actor_state
    → IsRecorded actor_state.in_progress

-- a timestamp lookup that has begun with this has gone through its broker's log up to its cursor, and up to where it
-- reads, as long as the broker hasn't stopped and leads as it did
abbrev pub HasGone : State → ℕ → StartSnapshot → Command → ℕ → Dating → Type 0
HasGone p b g (Offset (At ts)) cursor next =
    (x : Broker) → slice_get p.brokers b ≡ Some x → g.stops ≡ x.stops → g.role ≡ x.role
    → IsDatedTo ts p.registry.start x.log cursor next
HasGone p b g command cursor next = Unit {0}

-- where an actor's state has that of a command that the order asks for; and what was found is for its cursor
abbrev pub IsSearchState : State → Option Order → InProgress → Type 0
IsSearchState p (Some order) (Dates g cursor next) =
    IsSet cursor next × HasGone p order.broker.0 g order.command cursor next
IsSearchState p order in_progress = Unit {0}

-- at each actor's state
abbrev pub AreDated : State → List ActorList → List ActorState → Type 0
AreDated p lists desk = (place : ℕ) (l : ActorList) (actor_state : ActorState) → slice_get lists place ≡ Some l
    → slice_get desk place ≡ Some actor_state
    → IsSearchState p (slice_get l.orders actor_state.number) actor_state.in_progress

module _ {D S M : Type 0} (store : StoreGhosts S) (meta : MetaGhosts M) where
  -- the remote tier is seen so, beside the partition
  pub record ShowsTier (w : Whole D S M) (a : seen.SeenPartition) (c : Scene) : Type 0 where
    pub partition : c.partition ≡ w.partition
    pub store_tells : IsTrue (store.content w.tier.store).is_observable
    pub objects : c.objects ≡ (store.content w.tier.store).objects
    pub meta_tells : IsTrue (meta.content w.tier.meta).is_observable
    pub notes : c.notes ≡ (meta.content w.tier.meta).notes
    pub tier_views : c.tier_views ≡ tier_views_of a.nodes (broker_tiers_seen w.tier.broker_tiers)
    pub desk : c.desk ≡ desk_of w.lists w.desk

module _ {D S M : Type 0} (disk : DiskGhosts D) (store : StoreGhosts S) (meta : MetaGhosts M) where
  -- the partition and the tier are seen so that the central fact holds of both
  pub record IsCentral (opening : State) (w : Whole D S M) : Type 0 where
    pub partition : seen.SeenPartition
    pub shows : ShowsPartition disk.content w.partition_state partition
    pub central : seen_central.IsCentral opening (seen_as w partition)
    pub scene : Scene
    pub shows_tier : ShowsTier store meta w partition scene
    pub tier : TierSafe scene central.plain
    pub recorded : AreRecorded w.desk
    pub dated : AreDated central.plain w.lists w.desk
    -- a view can count all metadata events that there will be
    pub few : length scene.notes + notes_left w.lists w.desk < 2 ^ 64

  -- for each opening state the central fact continues
  abbrev pub KeepsCentral : Whole D S M → Whole D S M → Type 0
  KeepsCentral w w' = (opening : State) → IsCentral opening w → IsCentral opening w'
