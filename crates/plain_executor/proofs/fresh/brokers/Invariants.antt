use Rattle.std.proofs.Common.{◌≡◌, ◌∷◌, replicate}
use Rattle.plain_log.specs.Fresh.{fresh_broker}
use Rattle.plain_log.specs.declared.state.Role.TheVariants as role
use Rattle.plain_executor.proofs.fresh.brokers.Given as goal

abbrev pub invariant-loop : goal.invariant-loop
invariant-loop l = l.brokers ≡ fresh_broker (role.Leads 0) ∷ replicate l.counter (fresh_broker (role.Joined 0))
