-- The plain log where nothing has happened yet: broker 0 leads epoch 0, the others have joined it, and all are in sync.
use Rattle.std.specs.Prelude.{ℕ, suc, ◌-◌, [], ◌∷◌, true, false, replicate}
use Rattle.registry.specs.Registry.{fresh_registry}
use Rattle.plain_log.specs.declared.command.Config.{Config}
use Rattle.plain_log.specs.declared.state.State.{State}
use Rattle.plain_log.specs.declared.state.Broker.{Broker}
use Rattle.plain_log.specs.declared.state.Role.{Role}
use Rattle.plain_log.specs.declared.state.Role.TheVariants.{Leads, Joined}

-- a broker that is up, with an empty log
abbrev pub fresh_broker : Role → Broker
fresh_broker role =
    record { up = true; stops = 0; role = role; log = []; flushed_end = 0; loose = false; known_high_watermark = 0 }

-- the fresh state of so many brokers after the leader
abbrev pub fresh_state : ℕ → State
fresh_state others = record {
  registry = fresh_registry (suc others);
  committed = [];
  paths = record { epoch = 0; log = [] } ∷ [];
  broken = [];
  unclean = false;
  brokers = fresh_broker (Leads 0) ∷ replicate others (fresh_broker (Joined 0));
  actors = [];
}

-- the fresh state of a configuration
abbrev pub fresh : Config → State
fresh config = fresh_state (config.brokers - 1)
