-- Which journal entries are a step of the plain log, and the state after each.
--
-- An entry is its actor's next command, by its number, or the answer to the command that has begun. The row of the
-- command decides the answer (Rows); the actor's number rises with each answer and with nothing else.
use Rattle.std.specs.Prelude.{ℕ, ◌+◌, ◌==◌, ◌&&◌, int_le, Bool, true, false, Option}
use Rattle.std.specs.Prelude.{Some, None, slice_get, is_none, option_map}
use Rattle.std.specs.Option.{option_and_then}
use Rattle.log_terms.specs.Log.{end_of}
use Rattle.registry.specs.declared.registry.Replica.{Replica}
use Rattle.registry.specs.Calls.{when}
use Rattle.plain_log.specs.declared.command.Command.{Command}
use Rattle.plain_log.specs.declared.command.Command.TheVariants.{Join, Follow, Copy, Trim, Expire, Fetch, Offset}
use Rattle.plain_log.specs.declared.command.Which.{Which}
use Rattle.plain_log.specs.declared.command.Which.TheVariants.{Earliest, Latest, EarliestLocal, LatestTiered, At}
use Rattle.plain_log.specs.declared.command.Order.{Order}
use Rattle.plain_log.specs.declared.journal.Event.{Event}
use Rattle.plain_log.specs.declared.journal.Event.TheVariants.{Begins, Answers}
use Rattle.plain_log.specs.declared.journal.JournalEntry.{JournalEntry}
use Rattle.plain_log.specs.declared.state.State.{State}
use Rattle.plain_log.specs.declared.state.Broker.{Broker}
use Rattle.plain_log.specs.declared.state.Actor.{Actor}
use Rattle.plain_log.specs.declared.state.PlainSnapshot.{PlainSnapshot}
use Rattle.plain_log.specs.State.{put_broker, actor_at, with_actor}
use Rattle.plain_log.specs.RowsOfFollowers.{cut_to}
use Rattle.plain_log.specs.RowsOfReads.{is_long}
use Rattle.plain_log.specs.Rows.{row, refusal_at}

-- the broker where a command of several turns begins that isn't refused
abbrev pub begins : State → Broker → Command → Option ℕ → Option Broker
begins p x Join (Some n) = cut_to p x n
begins p x (Follow limit) None = Some x
begins p x Copy None = Some x
begins p x Trim None = Some x
begins p x Expire None = Some x
begins p x (Fetch offset limit) None = Some x
begins p x (Offset which) None = when (is_long which) x
begins p x command cut = None

-- two questions for an offset are one
abbrev pub same_which : Which → Which → Bool
same_which Earliest Earliest = true
same_which Latest Latest = true
same_which EarliestLocal EarliestLocal = true
same_which LatestTiered LatestTiered = true
same_which (At ts) (At other) = int_le ts other && int_le other ts
same_which which other = false

-- two commands of several turns are one
abbrev pub same_command : Command → Command → Bool
same_command Join Join = true
same_command (Follow limit) (Follow most) = limit == most
same_command Copy Copy = true
same_command Trim Trim = true
same_command Expire Expire = true
same_command (Fetch offset limit) (Fetch other most) = (offset == other) && (limit == most)
same_command (Offset which) (Offset other) = same_which which other
same_command command other = false

-- what is recorded where the order's command begins
abbrev pub recorded_of : State → Order → Broker → PlainSnapshot
recorded_of p order x =
    record { order = order; stops = x.stops; role = x.role; end = end_of x.log; start = p.registry.start }

-- a command that has begun is the recorded one
abbrev pub is_recorded : Option PlainSnapshot → Order → Bool
is_recorded None order = true
is_recorded (Some recorded) order =
    (recorded.order.broker.0 == order.broker.0) && same_command recorded.order.command order.command

-- the actor has no command in progress, and this one isn't refused
abbrev pub may_begin : State → ℕ → Broker → Actor → Command → Bool
may_begin p b x y command = is_none y.snapshot && is_none (refusal_at p b x None command)

-- a command of actor a, whose next number is y's, begins or is answered
abbrev pub event_step : State → ℕ → Actor → Order → Broker → Replica → Event → Option State
event_step p a y order x s (Begins cut) =
    option_map (λ z. with_actor a (record y { snapshot = Some (recorded_of p order z) })
    (put_broker p order.broker.0 z))
    (option_and_then (λ z. when (may_begin p order.broker.0 x y order.command) z) (begins p x order.command cut))
event_step p a y order x s (Answers answer) =
    option_map (with_actor a (record { number = y.number + 1; snapshot = None }))
    (row p order.broker.0 x s y.snapshot order.command answer)

-- the entry has the actor's next number, and is of the command that has begun, if one has
abbrev pub next_actor : State → Order → JournalEntry → Option Actor
next_actor p order entry =
    when ((entry.number == (actor_at p.actors entry.actor.0).number)
    && is_recorded (actor_at p.actors entry.actor.0).snapshot order)
    (actor_at p.actors entry.actor.0)

-- the next state, or none where the entry isn't allowed
abbrev pub step : State → Order → JournalEntry → Option State
step p order entry =
    option_and_then (λ x. option_and_then (λ s. option_and_then
    (λ y. event_step p entry.actor.0 y order x s entry.event)
    (next_actor p order entry)) (slice_get p.registry.replicas order.broker.0)) (slice_get p.brokers order.broker.0)
