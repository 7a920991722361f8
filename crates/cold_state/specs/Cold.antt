-- What a power cut of everything leaves of a plain state.
use Rattle.std.specs.Prelude.{false, [], map}
use Rattle.plain_log.specs.declared.state.Broker.{Broker}
use Rattle.plain_log.specs.declared.state.Role.TheVariants.{Idle}
use Rattle.plain_log.specs.declared.state.State.{State}

-- a broker that is down and has never stopped
abbrev pub cold_broker : Broker → Broker
cold_broker x = record x { up = false; stops = 0; role = Idle; known_high_watermark = 0 }

-- all brokers are, and no command has begun
abbrev pub cold_of : State → State
cold_of p = record p { brokers = map cold_broker p.brokers; actors = [] }
