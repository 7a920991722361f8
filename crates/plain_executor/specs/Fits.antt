-- Which commands a machine takes.
use Rattle.std.specs.Prelude.{◌≡◌, ℕ, List, Some, slice_get}
use Rattle.plain_log.specs.Orders.{IsBuildableAppend as IsBuildableIn}
use Rattle.plain_log.specs.declared.command.ActorList.{ActorList}
use Rattle.plain_log.specs.declared.command.Order.{Order}
use Rattle.plain_log.specs.Runs.{orders_of}
use Rattle.plain_log.specs.declared.command.Command.{Command}

-- the records of an append make a batch
abbrev pub IsBuildableAppend : Command → Type 0
IsBuildableAppend command = IsBuildableIn command

-- so is each order of the lists
abbrev pub AreFor : List ActorList → Type 0
AreFor lists =
    (a n : ℕ) (order : Order) → slice_get (orders_of lists a) n ≡ Some order → IsBuildableAppend order.command
