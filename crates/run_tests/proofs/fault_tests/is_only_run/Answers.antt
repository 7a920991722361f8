use Rattle.std.proofs.Common.{sym, subst, List}
use Rattle.std.proofs.lemmas.List.Elements.{All-weaker}
use Rattle.plain_log.specs.declared.command.ActorList.{ActorList}
use Rattle.plain_log.specs.declared.command.Command.{Command}
use Rattle.plain_log.specs.declared.command.Command.TheVariants.{Append}
use Rattle.plain_log.specs.declared.command.Config.{Config}
use Rattle.plain_log.specs.declared.command.Order.{Order}
use Rattle.plain_log.specs.Orders.{IsInRange, IsOrderFor, IsListFor, AreListsFor}
use Rattle.plain_executor.specs.Fits.{IsBuildableAppend, AreFor}
use Rattle.plain_executor.proofs.Fitting.{IsListFor as IsMachinesList, lists_for}
use Rattle.run_tests.proofs.fault_tests.is_only_run.Goals as goal

-- the machine takes what a world takes
is_for : (command : Command) → IsInRange command → IsBuildableAppend command
is_for (Append recs) h = h
is_for other h = tt

fits : (config : Config) (lists : List ActorList) → AreListsFor config lists → AreFor lists
fits config lists h =
    lists_for lists (All-weaker (IsListFor config) IsMachinesList
    (λ l own. All-weaker (IsOrderFor config) (λ (order : Order). IsBuildableAppend order.command) (λ order is. is_for order.command is.command) l.orders own.orders) lists h.each)

pub is_complete_run-run-requires-clause-fit : goal.is_complete_run-run-requires-clause-fit
is_complete_run-run-requires-clause-fit c = subst AreFor (sym c.as_slice.ensures) (fits c.args.config.now c.args.part.now.lists c.requires.fit)
