-- The parts of the plain log's state, and how each of them is changed.
use Rattle.std.specs.Prelude.{ℕ, zero, suc, ◌+◌, ◌==◌, Bool, true, false, List, [], ◌∷◌, ◌++◌, Option, Some, None}
use Rattle.std.specs.Prelude.{if◌then◌else◌, slice_get, slice_set, option_map, unwrap_or, is_some}
use Rattle.registry.specs.declared.registry.Registry.{Registry}
use Rattle.log_terms.specs.Log.{end_of}
use Rattle.plain_log.specs.declared.facts.Facts.{Facts}
use Rattle.plain_log.specs.declared.facts.Since.{Since}
use Rattle.plain_log.specs.declared.state.State.{State}
use Rattle.plain_log.specs.declared.state.Path.{Path}
use Rattle.plain_log.specs.declared.state.Broker.{Broker}
use Rattle.plain_log.specs.declared.state.Actor.{Actor}
use Rattle.plain_log.specs.declared.state.PlainSnapshot.{PlainSnapshot}
use Rattle.plain_log.specs.declared.state.Role.{Role}
use Rattle.plain_log.specs.declared.state.Role.TheVariants.{Idle, Leads, Follows, Joined}

-- roles

-- the broker leads some epoch
abbrev pub leads : Role → Bool
leads (Leads e) = true
leads other = false

-- the broker leads this epoch
abbrev pub leads_in : ℕ → Role → Bool
leads_in n (Leads e) = e == n
leads_in n other = false

-- the epoch that the broker leads
abbrev pub leading : Role → Option ℕ
leading (Leads e) = Some e
leading other = None

-- the epoch that the broker follows, whether the logs have met or not
abbrev pub followed : Role → Option ℕ
followed (Follows e) = Some e
followed (Joined e) = Some e
followed other = None

-- the epoch that the broker follows, where the logs have met
abbrev pub joined : Role → Option ℕ
joined (Joined e) = Some e
joined other = None

-- the epoch in which the broker may acknowledge
abbrev pub acking : Role → Option ℕ
acking (Leads e) = Some e
acking (Joined e) = Some e
acking other = None

-- the epoch of a role
abbrev pub epoch_in : Role → Option ℕ
epoch_in Idle = None
epoch_in (Leads e) = Some e
epoch_in (Follows e) = Some e
epoch_in (Joined e) = Some e

-- the role is of the registry's epoch
abbrev pub knows : Registry → Role → Bool
knows r role = unwrap_or (option_map (λ e. e == r.epoch) (epoch_in role)) false

-- two roles are one
abbrev pub same_role : Role → Role → Bool
same_role Idle Idle = true
same_role (Leads e) (Leads f) = e == f
same_role (Follows e) (Follows f) = e == f
same_role (Joined e) (Joined f) = e == f
same_role r s = false

-- brokers and paths

-- the state with this broker in its place
abbrev pub put_broker : State → ℕ → Broker → State
put_broker p b x = record p { brokers = slice_set p.brokers b x }

-- the broker after a stop
abbrev pub stopped : Broker → Broker
stopped x = record x { up = false; stops = x.stops + 1; role = Idle; known_high_watermark = 0 }

-- the broker stops in the middle of a write, and more than what is flushed may come back
abbrev pub breaks : State → ℕ → Broker → State
breaks p b x = put_broker p b (record (stopped x) { loose = true })

-- the log of the leader of this epoch
abbrev pub path_of : List Path → ℕ → Option (List (List ℕ))
path_of [] e = None
path_of (path ∷ paths) e = if path.epoch == e then Some path.log else path_of paths e

-- the lead of this epoch was taken
abbrev pub has_path : State → ℕ → Bool
has_path p e = is_some (path_of p.paths e)

-- the path of this epoch gains a batch
abbrev pub longer : List Path → ℕ → List ℕ → List Path
longer [] e batch = []
longer (path ∷ paths) e batch =
    if path.epoch == e then record path { log = path.log ++ batch ∷ [] } ∷ paths else path ∷ longer paths e batch

-- the number is one of these
abbrev pub is_in : ℕ → List ℕ → Bool
is_in n [] = false
is_in n (m ∷ ms) = if m == n then true else is_in n ms

-- the registry

-- the state with this registry
abbrev pub set_registry : State → Registry → State
set_registry p r = record p { registry = r }

-- what the tests of commands read (Refusals)

-- the facts of broker b
abbrev pub facts_of : ℕ → Broker → Facts
facts_of b x = record {
  broker = record { 0 = b };
  up = x.up;
  stops = x.stops;
  role = x.role;
  end = if x.up then end_of x.log else 0;
  flushed_end = if x.up then x.flushed_end else 0;
  known_high_watermark = x.known_high_watermark;
}

-- those of the registry's leader
abbrev pub leader_facts : State → Option Facts
leader_facts p = option_map (facts_of p.registry.leader.0) (slice_get p.brokers p.registry.leader.0)

-- what was recorded where a command began
abbrev pub since_of : PlainSnapshot → Since
since_of recorded = record { stops = recorded.stops; role = recorded.role }

-- actors: a list with idle actors past its end

-- an actor that has not begun
abbrev pub idle : Actor
idle = record { number = 0; snapshot = None }

-- how far the actor has come
abbrev pub actor_at : List Actor → ℕ → Actor
actor_at actors a = unwrap_or (slice_get actors a) idle

-- the actors with this one in its place
abbrev pub put_actor : List Actor → ℕ → Actor → List Actor
put_actor [] zero y = y ∷ []
put_actor [] (suc a) y = idle ∷ put_actor [] a y
put_actor (z ∷ actors) zero y = y ∷ actors
put_actor (z ∷ actors) (suc a) y = z ∷ put_actor actors a y

-- the state with this actor in its place
abbrev pub with_actor : ℕ → Actor → State → State
with_actor a y p = record p { actors = put_actor p.actors a y }
