-- What lists of orders must meet to be run: what a script's reader gives, and what a world takes.
use Rattle.std.specs.Prelude.{◌≤◌, ◌<◌, ◌^◌, ◌≤ℤ◌, ◌<ℤ◌, pos, List, [], ◌∷◌, length, All}
use Rattle.record_batch.specs.Build.{IsBuildable}
use Rattle.plain_log.specs.declared.command.Command.{Command}
use Rattle.plain_log.specs.declared.command.Command.TheVariants.{Append, Raw, Flush, Roll, Elect, Unclean, Learn, Join}
use Rattle.plain_log.specs.declared.command.Command.TheVariants.{Follow, Trim, Copy, Expire, Ack, Shrink, Expand, Raise}
use Rattle.plain_log.specs.declared.command.Command.TheVariants.{Clock, Stop, Up, Fetch, Pack, Copying, Offset}
use Rattle.plain_log.specs.declared.command.Order.{Order}
use Rattle.plain_log.specs.declared.command.ActorList.{ActorList}
use Rattle.plain_log.specs.declared.command.Config.{Config}

-- the command's numbers are in range, and the records of an append make a batch
abbrev pub IsInRange : Command → Type 0
IsInRange (Append recs) = IsBuildable recs
IsInRange (Raw bytes) = length bytes ≤ 1048576
IsInRange Flush = Unit {0}
IsInRange Roll = Unit {0}
IsInRange Elect = Unit {0}
IsInRange Unclean = Unit {0}
IsInRange Learn = Unit {0}
IsInRange Join = Unit {0}
IsInRange (Follow limit) = limit ≤ 2147483647
IsInRange Trim = Unit {0}
IsInRange Copy = Unit {0}
IsInRange Expire = Unit {0}
IsInRange Ack = Unit {0}
IsInRange Shrink = Unit {0}
IsInRange Expand = Unit {0}
IsInRange (Raise start) = start ≤ 4611686018427387904
IsInRange (Clock ms) = (pos 0 ≤ℤ ms) × (ms <ℤ pos 9223372036854775808)
IsInRange Stop = Unit {0}
IsInRange Up = Unit {0}
IsInRange (Fetch offset limit) = (offset ≤ 4611686018427387904) × (limit ≤ 2147483647)
IsInRange (Pack on) = Unit {0}
IsInRange (Copying on) = Unit {0}
IsInRange (Offset which) = Unit {0}

-- the records of an append make a batch
abbrev pub IsBuildableAppend : Command → Type 0
IsBuildableAppend (Append recs) = IsBuildable recs
IsBuildableAppend other = Unit {0}

-- the order is in range, and goes to a broker of the configuration
pub record IsOrderFor (config : Config) (order : Order) : Type 0 where
  pub broker : order.broker.0 < config.brokers
  pub command : IsInRange order.command

-- the list is of one of 64 actors, and its orders can be numbered
pub record IsListFor (config : Config) (l : ActorList) : Type 0 where
  pub actor : l.actor.0 < 64
  pub few : length l.orders < 2 ^ 32
  pub orders : All (IsOrderFor config) l.orders

-- each list is of a later actor than the one before it
abbrev pub AreRising : List ActorList → Type 0
AreRising [] = Unit {0}
AreRising (l ∷ []) = Unit {0}
AreRising (l ∷ m ∷ lists) = (l.actor.0 < m.actor.0) × AreRising (m ∷ lists)

-- lists that a world of this configuration can run
pub record AreListsFor (config : Config) (lists : List ActorList) : Type 0 where
  pub rising : AreRising lists
  pub each : All (IsListFor config) lists

-- there are 1 to 8 brokers, a segment has 100 bytes to 16 MiB, and index entries at most those between them
pub record IsConfig (config : Config) : Type 0 where
  pub some : 1 ≤ config.brokers
  pub few : config.brokers ≤ 8
  pub segment_low : 100 ≤ config.settings.segment_bytes
  pub segment_high : config.settings.segment_bytes ≤ 16777216
  pub interval_high : config.settings.index_interval ≤ 16777216
