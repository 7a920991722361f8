-- What the turns of commands work on, and how it is seen as a part of the plain log.
use Rattle.std.specs.Prelude.{ℕ, ◌+◌, ◌&&◌, nat_lt, if◌then◌else◌, false, List, Option}
use Rattle.std.specs.Prelude.{Some, is_some, slice_get, slice_set, IsSomeAnd}
use Rattle.std.specs.Option.{option_and_then}
use Rattle.plain_log.specs.declared.command.Order.{Order}
use Rattle.plain_log.specs.declared.state.Broker.{Broker}
use Rattle.plain_log.specs.declared.state.PlainSnapshot.{PlainSnapshot}
use Rattle.plain_log.specs.declared.state.Role.TheVariants.{Idle}
use Rattle.epoch_line.specs.Line.{cut_end}
use Rattle.registry.specs.Calls.{when}
use Rattle.plain_log.specs.State.{leads_in}
use Rattle.laws_partition.specs.declared.start_snapshot.StartSnapshot.{StartSnapshot}
use Rattle.laws_partition.specs.Seen.{Back, Node, SeenPartition}

-- a node as a broker of the plain log
abbrev pub broker_of : Node → Broker
broker_of x = record {
  up = x.up;
  stops = x.stops;
  role = x.role;
  log = x.log.batches;
  flushed_end = x.flushed_end;
  loose = is_some x.loose;
  known_high_watermark = x.known_high_watermark;
}

-- the partition with this node in its place
abbrev pub put_node : SeenPartition → ℕ → Node → SeenPartition
put_node h b x = record h { nodes = slice_set h.nodes b x }

-- there is such a node, and this holds of it
abbrev pub AtNode : SeenPartition → ℕ → (Node → Type 0) → Type 0
AtNode h b P = IsSomeAnd (slice_get h.nodes b) P

-- a node after a stop
abbrev pub stopped : Node → Node
stopped x = record x { up = false; stops = x.stops + 1; role = Idle; known_high_watermark = 0 }

-- what comes back of a node's log where no write fails
abbrev pub back_of : Node → Back
back_of x = (x.flushed_end, x.saved, x.local)

-- a node's line without the entries that start past what is flushed
abbrev pub kept_line : Node → List (ℕ × ℕ)
kept_line x = cut_end x.log.line (x.flushed_end + 1)

-- a node after a write that failed, which was to make this come back
abbrev pub broken : Node → Back → Node
broken x back = record (stopped x) { loose = Some back }

-- a node after a cut that failed, which was to make this come back: the smaller end is flushed
abbrev pub torn : Node → Back → Node
torn x back =
    if nat_lt back.0 x.flushed_end then record (stopped x)
    { flushed_end = back.0; saved = back.1; local = back.2; loose = Some (back_of x) }
    else broken x back

-- the registry's leader, where it is up and leads the registry's epoch
abbrev pub the_leader : SeenPartition → Option Node
the_leader h =
    option_and_then (λ y. when (y.up && leads_in h.registry.epoch y.role) y) (slice_get h.nodes h.registry.leader.0)

-- what was recorded of the order's command
abbrev pub recorded_of : Order → StartSnapshot → PlainSnapshot
recorded_of order g = record { order = order; stops = g.stops; role = g.role; end = g.end; start = g.start }
