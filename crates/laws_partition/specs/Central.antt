-- The central fact, which holds between any two turns: the world is the plain log after the world's own journal.
use Rattle.std.specs.Prelude.{◌≡◌, ◌≢◌, ℕ, ◌<◌, ◌≤◌, Option, Some, List, ◌++◌, length, map}
use Rattle.std.specs.Prelude.{slice_get, option_map, is_some, Bool, ◌||◌, true, IsOk, All}
use Rattle.std.specs.Option.{option_and_then}
use mathlib.Core.List.{IsPrefix}
use Rattle.log_terms.specs.Line.{line_of}
use Rattle.log_terms.specs.Batch.{epoch_of}
use Rattle.log_terms.specs.Log.{EndsAt, end_of, end_from, up_to}
use Rattle.epoch_line.specs.Line.{last_entry}
use Rattle.record_batch.specs.Check.{checked}
use Rattle.plain_log.specs.declared.command.ActorList.{ActorList}
use Rattle.plain_log.specs.declared.command.Command.{Command}
use Rattle.plain_log.specs.declared.command.Command.TheVariants.{Follow, Join, Copy, Trim, Expire, Fetch, Offset}
use Rattle.plain_log.specs.declared.command.Order.{Order}
use Rattle.plain_log.specs.declared.state.Broker.{Broker}
use Rattle.plain_log.specs.declared.state.PlainSnapshot.{PlainSnapshot}
use Rattle.plain_log.specs.declared.state.Path.{Path}
use Rattle.plain_log.specs.declared.state.Role.TheVariants.{Joined}
use Rattle.plain_log.specs.declared.state.State.{State}
use Rattle.plain_log.specs.State.{actor_at, path_of, followed, is_in}
use Rattle.plain_log.specs.Fetch.{is_within}
use Rattle.plain_log.specs.Orders.{AreRising}
use Rattle.plain_log.specs.Runs.{replay}
use Rattle.plain_log.specs.Safe.{HasOnPath, PlainSafe}
use Rattle.laws_partition.specs.declared.start_snapshot.StartSnapshot.{StartSnapshot}
use Rattle.laws_partition.specs.Seen.{Back, Node, SeenPartition}
use Rattle.laws_partition.specs.declared.actor_progress.ActorProgress.{ActorProgress}
use Rattle.laws_partition.specs.Partition.{broker_of, recorded_of}
use Rattle.laws_partition.specs.Log.{epoch_in}
use Rattle.laws_partition.specs.Sound.{NodeSound}
use Rattle.laws_partition.specs.Whole.{Whole}

-- what was recorded of the order that the actor's state is at, where it has begun
abbrev pub recorded_at : List Order → ActorProgress → Option PlainSnapshot
recorded_at orders actor_state =
    option_and_then (λ order. option_map (recorded_of order) actor_state.snapshot) (slice_get orders actor_state.number)

-- the registry and the brokers are the plain log's
pub record PartitionMatches (h : SeenPartition) (p : State) : Type 0 where
  pub registry : p.registry ≡ h.registry
  pub brokers : p.brokers ≡ map broker_of h.nodes

-- the lead of the epoch was taken, or the taking broke off
abbrev pub was_taken : List Path → List ℕ → ℕ → Bool
was_taken paths broken e = is_some (path_of paths e) || is_in e broken

-- the lead of each epoch of the line was
abbrev pub WereElected : List Path → List ℕ → List (ℕ × ℕ) → Type 0
WereElected paths broken line = All (λ entry. was_taken paths broken entry.0 ≡ true) line

-- a node's line is its log's; the lead of each of its epochs was taken, also of the leader epochs that may come back;
-- and that of a follower that has joined has none beyond its log's
pub record LineStands (paths : List Path) (broken : List ℕ) (x : Node) : Type 0 where
  pub sound : NodeSound x
  pub paths_are : WereElected paths broken x.log.line
  pub saved_are : WereElected paths broken x.saved
  pub back_are : (back : Back) → x.loose ≡ Some back → WereElected paths broken back.1
  pub joined : (e : ℕ) → x.role ≡ Joined e → x.log.line ≡ line_of x.log.batches

-- the leader of the registry's epoch, once it has led it: its leader epochs end with that epoch, from a flushed offset
-- on, and so do the leader epochs that may come back; and its log begins the epoch's path
abbrev pub LeaderStands : List Path → ℕ → Node → Type 0
LeaderStands paths epoch x = is_some (path_of paths epoch) ≡ true
    → (start : ℕ) × (last_entry x.log.line ≡ Some (epoch, start)) × (last_entry x.saved ≡ Some (epoch, start))
    × (start ≤ x.flushed_end) × ((back : Back) → x.loose ≡ Some back → last_entry back.1 ≡ Some (epoch, start))
    × HasOnPath paths epoch x.log.batches

-- the leader epochs of the nodes; and no follower of the registry's epoch is its leader
pub record LinesStand (h : SeenPartition) (paths : List Path) (broken : List ℕ) : Type 0 where
  pub each : (b : ℕ) (x : Node) → slice_get h.nodes b ≡ Some x → LineStands paths broken x
  pub leader : (x : Node) → slice_get h.nodes h.registry.leader.0 ≡ Some x → LeaderStands paths h.registry.epoch x
  pub followers : (b : ℕ) (x : Node) → slice_get h.nodes b ≡ Some x → followed x.role ≡ Some h.registry.epoch
      → h.registry.leader.0 ≢ b

-- a run that a follow keeps: checked batches of the path that it follows, from its recorded end on, of one epoch, as
-- many as fit its limit
pub record RunStands (paths : List Path) (limit : ℕ) (g : StartSnapshot) : Type 0 where
  pub epoch : ℕ
  pub role : g.role ≡ Joined epoch
  pub path : List (List ℕ)
  pub path_is : path_of paths epoch ≡ Some path
  pub front : List (List ℕ)
  pub ends : end_of front ≡ g.end
  pub begins : IsPrefix (front ++ g.batches) path
  pub are : All (λ batch. IsOk (checked batch)) g.batches
  pub within : is_within limit g.batches ≡ true
  pub epochs : All (λ batch. Some (epoch_of batch) ≡ epoch_in g.batches) g.batches
  pub small : end_from g.end g.batches ≤ 4611686018427387904

-- a rebuild that a join has begun: the path that it follows has an end at the wanted point, past the log's, and the
-- line is the path's up to there; and the leader has that much flushed while its epoch is the registry's
pub record RebuildMatches (p : State) (g : StartSnapshot) : Type 0 where
  pub epoch : ℕ
  pub role : g.role ≡ Joined epoch
  pub path : List (List ℕ)
  pub path_is : path_of p.paths epoch ≡ Some path
  pub ends : EndsAt g.wanted path
  pub line : g.line ≡ line_of (up_to g.wanted path)
  pub above : g.end < g.wanted
  pub leader : p.registry.epoch ≡ epoch → (y : Broker) → slice_get p.brokers p.registry.leader.0 ≡ Some y
      → g.wanted ≤ y.flushed_end

-- what is kept of a command that has begun
abbrev pub SnapshotMatches : State → Command → StartSnapshot → Type 0
SnapshotMatches p (Follow limit) g = RunStands p.paths limit g
SnapshotMatches p Join g = RebuildMatches p g
SnapshotMatches p Trim g = Unit {0}
SnapshotMatches p Copy g = Unit {0}
SnapshotMatches p Expire g = Unit {0}
SnapshotMatches p (Fetch offset limit) g = Unit {0}
SnapshotMatches p (Offset which) g = Unit {0}
SnapshotMatches p other g = ⊥

-- the actors' states: the plain log's actors have come as far, and what commands keep exists
pub record ProgressMatches (p : State) (l : ActorList) (actor_state : ActorProgress) : Type 0 where
  pub actor : actor_at p.actors l.actor.0 ≡ record {
    number =
        actor_state.number;
    snapshot = recorded_at l.orders actor_state;
  }
  pub snapshot : (g : StartSnapshot) → actor_state.snapshot ≡ Some g
      → (order : Order) × (slice_get l.orders actor_state.number ≡ Some order) × SnapshotMatches p order.command g

-- the world's registry, nodes and desk are those of a state of the plain log
pub record WorldMatches (w : Whole) (p : State) : Type 0 where
  pub partition_state : PartitionMatches w.partition_state p
  pub lines : LinesStand w.partition_state p.paths p.broken
  pub desk : (place : ℕ) (l : ActorList) (actor_state : ActorProgress) → slice_get w.lists place ≡ Some l
      → slice_get w.desk place ≡ Some actor_state
      → ProgressMatches p l actor_state
  pub rising : AreRising w.lists
  pub actor_states : length w.desk ≡ length w.lists

-- the journal leads from the opening state to one in which the safety rules hold and to which the world exists
pub record IsCentral (opening : State) (w : Whole) : Type 0 where
  pub plain : State
  pub replays : replay w.lists opening w.journal.items ≡ Some plain
  pub safe : PlainSafe plain
  pub stands : WorldMatches w plain

-- for each opening state the central fact continues
abbrev pub KeepsCentral : Whole → Whole → Type 0
KeepsCentral w w' = (opening : State) → IsCentral opening w → IsCentral opening w'
