use Rattle.std.proofs.Common.{◌≡◌, length}
use Rattle.registry.proofs.Changing.{changed}
use Rattle.cold_state.specs.Cold.{cold_broker}
use Rattle.plain_executor.proofs.cooling.take_all_down.Given as goal

abbrev pub invariant-loop-b : goal.invariant-loop-b
invariant-loop-b l = (l.brokers ≡ changed cold_broker l.b l.initial.brokers) × (length l.brokers ≡ length l.initial.brokers)
