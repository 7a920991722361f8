-- What a partition keeps whatever its journal, and how many turns are left of its lists.
use Rattle.std.specs.Prelude.{◌≡◌, ℕ, ◌+◌, ◌-◌, ◌*◌, ◌^◌, ◌<◌, ◌≤◌, Some, None, true, false, List}
use Rattle.std.specs.Prelude.{[], ◌∷◌, length, slice_get, is_some, if◌then◌else◌}
use Rattle.log_terms.specs.Log.{EndsAt, end_of, up_to}
use Rattle.epoch_line.specs.Line.{IsLine, last_epoch}
use Rattle.plain_log.specs.declared.command.ActorList.{ActorList}
use Rattle.plain_log.specs.declared.command.Order.{Order}
use Rattle.plain_log.specs.declared.state.Role.TheVariants.{Leads, Idle}
use Rattle.laws_partition.specs.Seen.{Back, Node, SeenPartition}
use Rattle.laws_partition.specs.declared.actor_progress.ActorProgress.{ActorProgress}
use Rattle.laws_partition.specs.Log.{IsLog, IsLineFor}

-- the other end that may come back is an end of the log at or past the flushed one, the line is that of what ends
-- there, and the local start is an end of the log at or below it
pub record IsBack (x : Node) (back : Back) : Type 0 where
  pub above : x.flushed_end ≤ back.0
  pub ends : EndsAt back.0 x.log.batches
  pub line : IsLineFor back.1 (up_to back.0 x.log.batches)
  pub rises : IsLine back.1
  pub begins : EndsAt back.2 x.log.batches
  pub within : back.2 ≤ back.0

-- a node's log is one, its flushed end and the high watermark that it knows are 0 or ends of its batches, the saved
-- line is that of what is flushed, the local log begins at such an end that is flushed, a leader's leader epochs end
-- with its epoch, and a node that is down is idle and knows no high watermark; more than one end may come back only
-- while it is down
pub record NodeSound (x : Node) : Type 0 where
  pub log : IsLog (end_of x.log.batches) x.log
  pub flushed_end : EndsAt x.flushed_end x.log.batches
  pub known_high_watermark : EndsAt x.known_high_watermark x.log.batches
  pub saved : IsLineFor x.saved (up_to x.flushed_end x.log.batches)
  pub saved_rises : IsLine x.saved
  pub begins : EndsAt x.local x.log.batches
  pub within : x.local ≤ x.flushed_end
  pub back : (back : Back) → x.loose ≡ Some back → IsBack x back
  pub tight : x.up ≡ true → x.loose ≡ None
  pub leads : (e : ℕ) → x.role ≡ Leads e → last_epoch x.log.line ≡ Some e
  pub down : x.up ≡ false → (x.role ≡ Idle) × (x.known_high_watermark ≡ 0)

-- as many nodes and replicas as brokers, and an epoch that a line can have
pub record SoundPartition (brokers : ℕ) (h : SeenPartition) : Type 0 where
  pub count : length h.nodes ≡ brokers
  pub same : length h.registry.replicas ≡ brokers
  pub epoch : h.registry.epoch < 2 ^ 31
  pub nodes : (b : ℕ) (x : Node) → slice_get h.nodes b ≡ Some x → NodeSound x

-- the turns that are left of a list and enter something: an order takes at most two, and one that has begun one more
abbrev pub turns_of : List Order → ActorProgress → ℕ
turns_of orders actor_state = 2 * (length orders - actor_state.number) - (if is_some actor_state.snapshot then 1 else 0)

-- the turns that are left
abbrev pub turns_left : List ActorList → List ActorProgress → ℕ
turns_left [] desk = 0
turns_left (l ∷ lists) [] = 2 * length l.orders + turns_left lists []
turns_left (l ∷ lists) (actor_state ∷ desk) = turns_of l.orders actor_state + turns_left lists desk
