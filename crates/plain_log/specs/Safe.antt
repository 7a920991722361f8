-- The safety rules: what holds of every state that the plain log reaches.
use Rattle.std.specs.Prelude.{◌≡◌, ℕ, ◌≤◌, ◌<◌, Some, List, [], ◌∷◌, ◌++◌, length}
use Rattle.std.specs.Prelude.{slice_get, Bool, true, false, unwrap_or}
use mathlib.Core.List.{IsPrefix}
use Rattle.log_terms.specs.Batch.{epoch_of}
use Rattle.log_terms.specs.Log.{IsConsecutive, end_of, EndsAt}
use Rattle.plain_log.specs.declared.command.Command.{Command}
use Rattle.plain_log.specs.declared.command.Command.TheVariants.{Join, Follow, Copy, Expire, Fetch, Offset}
use Rattle.registry.specs.declared.registry.Registry.{Registry}
use Rattle.registry.specs.declared.registry.Replica.{Replica}
use Rattle.registry.specs.Registry.{epoch_limit}
use Rattle.plain_log.specs.declared.state.State.{State}
use Rattle.plain_log.specs.declared.state.Path.{Path}
use Rattle.plain_log.specs.declared.state.Broker.{Broker}
use Rattle.plain_log.specs.declared.state.PlainSnapshot.{PlainSnapshot}
use Rattle.plain_log.specs.declared.state.Role.{Role}
use Rattle.plain_log.specs.declared.state.Role.TheVariants.{Idle, Leads, Follows, Joined}
use Rattle.plain_log.specs.State.{path_of, actor_at, is_in}
use Rattle.plain_log.specs.RowsOfLog.{offset_limit}

-- the path of this epoch begins with these batches
abbrev pub HasOnPath : List Path → ℕ → List (List ℕ) → Type 0
HasOnPath paths e front = (log : List (List ℕ)) × (path_of paths e ≡ Some log) × IsPrefix front log

-- consecutive batches, and each with all before it begins the path of its epoch: the logs match
pub record LogSafe (paths : List Path) (log : List (List ℕ)) : Type 0 where
  pub consecutive : IsConsecutive 0 log
  pub matching : (front : List (List ℕ)) (batch : List ℕ) → IsPrefix (front ++ batch ∷ []) log
      → HasOnPath paths (epoch_of batch) (front ++ batch ∷ [])

-- a path: it ends at or below the greatest log end offset, no batch has a later epoch, and it isn't above the
-- registry's
pub record PathSafe (paths : List Path) (epoch e : ℕ) (log : List (List ℕ)) : Type 0 where
  pub log_safe : LogSafe paths log
  pub ends : end_of log ≤ offset_limit
  pub epochs : (front : List (List ℕ)) (batch : List ℕ) → IsPrefix (front ++ batch ∷ []) log → epoch_of batch ≤ e
  pub below : e ≤ epoch

-- a leader's log is its path, and one that has joined has a beginning of it
abbrev pub RoleSafe : List Path → ℕ → Role → List (List ℕ) → Type 0
RoleSafe paths epoch Idle log = Unit {0}
RoleSafe paths epoch (Leads e) log = (e ≤ epoch) × (path_of paths e ≡ Some log)
RoleSafe paths epoch (Follows e) log = e ≤ epoch
RoleSafe paths epoch (Joined e) log = (e ≤ epoch) × HasOnPath paths e log

-- a broker's log, role, flushed end and known high watermark; one that is down is idle and knows none
pub record BrokerSafe (paths : List Path) (epoch : ℕ) (x : Broker) : Type 0 where
  pub log : LogSafe paths x.log
  pub role : RoleSafe paths epoch x.role x.log
  pub flushed_end : EndsAt x.flushed_end x.log
  pub known_high_watermark : EndsAt x.known_high_watermark x.log
  pub down : x.up ≡ false → (x.role ≡ Idle) × (x.known_high_watermark ≡ 0)

-- the log up to n begins these batches
abbrev pub SharedTo : ℕ → List (List ℕ) → List (List ℕ) → Type 0
SharedTo n log batches = (front : List (List ℕ)) × IsPrefix front log × (end_of front ≡ n) × IsPrefix front batches

-- the path of the registry's epoch, or what is committed as long as nobody took that epoch's lead
abbrev pub current : List Path → ℕ → List (List ℕ) → List (List ℕ)
current paths epoch committed = unwrap_or (path_of paths epoch) committed

-- what a broker acknowledged is flushed and begins the current path; a replica in sync has acknowledged the high
-- watermark
pub record AckSafe (path : List (List ℕ)) (mark : ℕ) (x : Broker) (s : Replica) : Type 0 where
  pub flushed_end : s.acked ≤ x.flushed_end
  pub shared : SharedTo s.acked x.log path
  pub in_sync : s.in_sync ≡ true → mark ≤ s.acked

-- what is committed ends at the high watermark and begins the current path
pub record MarkSafe (paths : List Path) (r : Registry) (committed : List (List ℕ)) : Type 0 where
  pub start : r.start ≤ r.mark
  pub consecutive : IsConsecutive 0 committed
  pub ends : end_of committed ≡ r.mark
  pub begins : IsPrefix committed (current paths r.epoch committed)
  pub epoch : r.epoch ≤ epoch_limit

-- what a broker knows to be committed is, while elections are clean; the leader of the current epoch knows no more than
-- the high watermark
pub record KnownSafe (unclean : Bool) (epoch mark : ℕ) (committed : List (List ℕ)) (x : Broker) : Type 0 where
  pub shared : unclean ≡ false → SharedTo x.known_high_watermark x.log committed
  pub leader : x.role ≡ Leads epoch → x.known_high_watermark ≤ mark

-- a command that a leader alone begins
abbrev pub is_leaders : Command → Bool
is_leaders Copy = true
is_leaders Expire = true
is_leaders (Fetch offset limit) = true
is_leaders (Offset which) = true
is_leaders other = false

-- a command that a broker alone continues with that has joined
abbrev pub is_followers : Command → Bool
is_followers Join = true
is_followers (Follow limit) = true
is_followers other = false

-- the broker has the recorded role still, unless it stopped or a later epoch came
abbrev pub HasJoined : ℕ → PlainSnapshot → Broker → Type 0
HasJoined epoch n x = (e : ℕ) × (n.role ≡ Joined e) × (n.stops ≡ x.stops → epoch ≤ e → x.role ≡ n.role)

-- what was recorded of a begun command, against its broker
pub record SnapshotIsSafe (paths : List Path) (epoch : ℕ) (n : PlainSnapshot) (x : Broker) : Type 0 where
  pub stops : n.stops ≤ x.stops
  pub up : n.stops ≡ x.stops → x.up ≡ true
  pub leads : is_leaders n.order.command ≡ true
      → (e : ℕ) × (log : List (List ℕ)) × (n.role ≡ Leads e) × (path_of paths e ≡ Some log)
  pub joined : is_followers n.order.command ≡ true → HasJoined epoch n x

-- the safety rules
pub record PlainSafe (p : State) : Type 0 where
  pub marks : MarkSafe p.paths p.registry p.committed
  pub paths : (e : ℕ) (log : List (List ℕ)) → path_of p.paths e ≡ Some log → PathSafe p.paths p.registry.epoch e log
  pub brokers : (b : ℕ) (x : Broker) → slice_get p.brokers b ≡ Some x → BrokerSafe p.paths p.registry.epoch x
  pub known_high_watermark : (b : ℕ) (x : Broker) → slice_get p.brokers b ≡ Some x
      → KnownSafe p.unclean p.registry.epoch p.registry.mark p.committed x
  pub one_leader : (b c : ℕ) (x y : Broker) (e : ℕ) → slice_get p.brokers b ≡ Some x → slice_get p.brokers c ≡ Some y
      → x.role ≡ Leads e → y.role ≡ Leads e → b ≡ c
  pub acks : (b : ℕ) (x : Broker) (s : Replica) → slice_get p.brokers b ≡ Some x
      → slice_get p.registry.replicas b ≡ Some s
      → AckSafe (current p.paths p.registry.epoch p.committed) p.registry.mark x s
  pub leader : (s : Replica) → slice_get p.registry.replicas p.registry.leader.0 ≡ Some s → s.in_sync ≡ true
  pub leader_within : p.registry.leader.0 < length p.registry.replicas
  pub same_count : length p.registry.replicas ≡ length p.brokers
  pub broken : (n : ℕ) → is_in n p.broken ≡ true → n ≤ p.registry.epoch
  pub recorded : (a : ℕ) (n : PlainSnapshot) (x : Broker) → (actor_at p.actors a).snapshot ≡ Some n
      → slice_get p.brokers n.order.broker.0 ≡ Some x
      → SnapshotIsSafe p.paths p.registry.epoch n x
