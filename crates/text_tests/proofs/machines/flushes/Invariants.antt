use Rattle.std.specs.Prelude.{All}
use Rattle.plain_log.specs.declared.command.Order.{Order}
use Rattle.plain_executor.specs.Fits.{IsBuildableAppend}
use Rattle.text_tests.proofs.machines.flushes.Given as goal

abbrev pub invariant-loop : goal.invariant-loop
invariant-loop l = All (λ (order : Order). IsBuildableAppend order.command) l.orders
