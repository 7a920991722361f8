use Rattle.std.proofs.Common.{◌≡◌, drop}
use Rattle.plain_log.specs.Runs.{orders_of}
use Rattle.plain_executor.proofs.trace.list_of.Given as goal

abbrev pub invariant-loop-list : goal.invariant-loop-list
invariant-loop-list l = orders_of l.lists l.a ≡ orders_of (drop l.list-index l.lists) l.a
