-- Acknowledgements, and the replicas in sync: what is done where no test refuses them (Refusals).
--
--   ack      OkAt
--   shrink   Ok
--   expand   Ok
use Rattle.std.specs.Prelude.{ℕ, ◌==◌, min, Option, Some, None, List, slice_set}
use Rattle.std.specs.Option.{option_and_then}
use Rattle.log_terms.specs.Log.{end_of, up_to}
use Rattle.registry.specs.declared.registry.Replica.{Replica}
use Rattle.registry.specs.Registry.{with_ack, shrunk, expanded}
use Rattle.registry.specs.Calls.{when}
use Rattle.plain_log.specs.declared.answer.Answer.{Answer}
use Rattle.plain_log.specs.declared.answer.Answer.TheVariants.{Ok as OkAnswer, OkAt}
use Rattle.plain_log.specs.declared.state.State.{State}
use Rattle.plain_log.specs.declared.state.Broker.{Broker}
use Rattle.plain_log.specs.State.{path_of, set_registry}

-- the registry takes the broker's flushed end, what is committed follows the high watermark, and the broker learns it
abbrev pub acknowledged : State → ℕ → Broker → Replica → List (List ℕ) → State
acknowledged p b x s path = record p {
  registry = with_ack p.registry b s x.flushed_end;
  committed = up_to (with_ack p.registry b s x.flushed_end).mark path;
  brokers =
      slice_set p.brokers b
      (record x { known_high_watermark = min (with_ack p.registry b s x.flushed_end).mark (end_of x.log) });
}

-- the broker acknowledges its flushed end
abbrev pub ack_row : State → ℕ → Broker → Replica → Answer → Option State
ack_row p b x s (OkAt mark) =
    option_and_then (λ path. when (mark == (with_ack p.registry b s x.flushed_end).mark) (acknowledged p b x s path))
    (path_of p.paths p.registry.epoch)
ack_row p b x s other = None

-- the broker leaves the replicas in sync
abbrev pub shrink_row : State → ℕ → Replica → Answer → Option State
shrink_row p b s OkAnswer = Some (set_registry p (shrunk p.registry b s))
shrink_row p b s other = None

-- the broker comes back to the replicas in sync
abbrev pub expand_row : State → ℕ → Replica → Answer → Option State
expand_row p b s OkAnswer = Some (set_registry p (expanded p.registry b s))
expand_row p b s other = None
