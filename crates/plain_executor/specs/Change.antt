-- The state after each change that a step makes: p before it, b the broker, x that broker, s its replica.
use Rattle.std.specs.Prelude.{◌≡◌, ◌<◌, ℕ, Bool, true, false, min, List, [], ◌∷◌, length}
use Rattle.std.specs.Prelude.{take, Option, Some, None, IfSome, unwrap_or, slice_get}
use Rattle.registry.specs.declared.registry.Replica.{Replica}
use Rattle.registry.specs.Registry.{elected, elected_alone, shrunk, expanded, started}
use Rattle.record_batch.specs.Build.{built}
use Rattle.record_batch.specs.Stamp.{stamped}
use Rattle.plain_log.specs.declared.command.Command.{Command}
use Rattle.plain_log.specs.declared.command.Command.TheVariants.{Append, Raw}
use Rattle.plain_log.specs.declared.command.Which.{Which}
use Rattle.plain_log.specs.declared.command.Which.TheVariants.{At}
use Rattle.plain_log.specs.declared.state.State.{State}
use Rattle.plain_log.specs.declared.state.Broker.{Broker}
use Rattle.plain_log.specs.declared.state.Path.{Path}
use Rattle.plain_log.specs.declared.state.Role.TheVariants as role
use Rattle.plain_log.specs.State.{put_broker, breaks, stopped, path_of, set_registry}
use Rattle.plain_log.specs.RowsOfLog.{gained}
use Rattle.plain_log.specs.RowsOfElections.{led}
use Rattle.plain_log.specs.RowsOfReplicas.{acknowledged}
use Rattle.plain_executor.specs.declared.change.Change.{Change}
use Rattle.plain_executor.specs.declared.change.Change.TheVariants.{Same, Breaks, Gains, Flushes, Stops, Opens, Elects}
use Rattle.plain_executor.specs.declared.change.Change.TheVariants.{Restarts, Follows, BreaksLead, Leads, Acks, Shrinks}
use Rattle.plain_executor.specs.declared.change.Change.TheVariants.{Expands, Starts, Cuts, Extends, BreaksLonger}

-- the batch that a command brings, at no place yet
abbrev pub batch_in : Command → List ℕ
batch_in (Append recs) = built recs
batch_in (Raw bytes) = bytes
batch_in other = []

-- the path of an epoch, or no batches
abbrev pub path_in : State → ℕ → List (List ℕ)
path_in p e = unwrap_or (path_of p.paths e) []

-- the broker's log cut to so many batches, which end at n, where it has joined the leader of epoch e
abbrev pub cut : Broker → ℕ → ℕ → ℕ → Broker
cut x e count n = record x {
  role = role.Joined e;
  log = take count x.log;
  flushed_end = n;
  known_high_watermark = min
      x.known_high_watermark n;
}

-- the broker acknowledges its flushed end, and the first batches of the current path, so many, are what is committed
abbrev pub acked : State → ℕ → Broker → Replica → ℕ → State
acked p b x s count = record (acknowledged p b x s []) { committed = take count (path_in p p.registry.epoch) }

-- the state after a change by a command
abbrev pub changed : State → ℕ → Broker → Replica → Command → Change → State
changed p b x s command Same = p
changed p b x s command (Breaks flushed_end) = breaks p b (record x { flushed_end = flushed_end })
changed p b x s command (Gains base e) = gained p b x e (stamped (batch_in command) base e)
changed p b x s command (Flushes n) = put_broker p b (record x { flushed_end = n })
changed p b x s command Stops = put_broker p b (stopped x)
changed p b x s command (Opens count n) =
    put_broker p b (record x { up = true; log = take count x.log; flushed_end = n; loose = false })
changed p b x s command Elects = set_registry p (elected p.registry b)
changed p b x s command (Restarts count) =
    set_registry (record p { committed = take count x.log; unclean = true }) (elected_alone p.registry b x.flushed_end)
changed p b x s command (Follows e) = put_broker p b (record x { role = role.Follows e })
changed p b x s command BreaksLead = record (breaks p b x) { broken = p.registry.epoch ∷ p.broken }
changed p b x s command (Leads e) = led p b x e
changed p b x s command (Acks count) = acked p b x s count
changed p b x s command Shrinks = set_registry p (shrunk p.registry b s)
changed p b x s command Expands = set_registry p (expanded p.registry b s)
changed p b x s command (Starts start) = set_registry p (started p.registry start)
changed p b x s command (Cuts e count n) = put_broker p b (cut x e count n)
changed p b x s command (Extends e count flushed_end) =
    put_broker p b (record x { log = take count (path_in p e); flushed_end = flushed_end })
changed p b x s command (BreaksLonger e count) = breaks p b (record x { log = take count (path_in p e) })

-- the question is for the offset of a timestamp
abbrev pub is_timed : Which → Bool
is_timed (At ts) = true
is_timed other = false

-- no path of the epoch precedes this place
abbrev pub NoneBefore : List Path → ℕ → ℕ → Type 0
NoneBefore paths e at = (k : ℕ) (path : Path) → k < at → slice_get paths k ≡ Some path → path.epoch ≡ e → ⊥

-- the place of the first path of the epoch
abbrev pub IsPathAt : List Path → ℕ → Option ℕ → Type 0
IsPathAt paths e None = NoneBefore paths e (length paths)
IsPathAt paths e (Some at) =
    NoneBefore paths e at × (at < length paths) × IfSome (slice_get paths at) (λ path. path.epoch ≡ e)

-- this holds of the broker and of its replica
abbrev pub AtBroker : State → ℕ → (Broker → Replica → Type 0) → Type 0
AtBroker p b P =
    (x : Broker) (s : Replica) → slice_get p.brokers b ≡ Some x → slice_get p.registry.replicas b ≡ Some s → P x s

-- where both logs have the same batch at a place, they have the same ones before it
abbrev pub AreMatching : List (List ℕ) → List (List ℕ) → Type 0
AreMatching log other =
    (k : ℕ) (batch : List ℕ) → slice_get log k ≡ Some batch → slice_get other k ≡ Some batch → take k log ≡ take k other

-- the broker's log matches each path
abbrev pub MatchesPaths : State → Broker → Type 0
MatchesPaths p x = (e : ℕ) (path : List (List ℕ)) → path_of p.paths e ≡ Some path → AreMatching x.log path

-- each broker can stop once more
abbrev pub EachCanStop : State → ℕ → Type 0
EachCanStop p b = (x : Broker) → slice_get p.brokers b ≡ Some x → x.stops < 18446744073709551615

-- the broker where a command begins with a change
abbrev pub begun_at : Broker → Change → Broker
begun_at x (Cuts e count n) = cut x e count n
begun_at x other = x

-- a command may begin with the change
abbrev pub is_begin : Change → Bool
is_begin Same = true
is_begin (Cuts e count n) = true
is_begin other = false
