-- A partition as it is seen, whatever its brokers' logs are on: the registry, the brokers with their logs, and the
-- clock.
--
-- A log is seen whole, from offset 0 on, also where its local log begins later. What is below its local start is on no
-- disk of that broker; it is what the local log was, or what the leader's is.
--
-- After a stop a broker starts with the batches up to its flushed end, with the leader epochs that were saved, and with
-- its local start. A write that failed may have been done or not, so after one it may start with another end, another
-- line and another local start instead.
use Rattle.std.specs.Prelude.{ℕ, ℤ, Bool, List, Option}
use Rattle.registry.specs.declared.registry.Registry.{Registry}
use Rattle.plain_log.specs.declared.state.Role.{Role}
use Rattle.laws_partition.specs.Log.{Lined}

-- what comes back of a log after a stop: its end, its leader epochs and its local start
abbrev pub Back : Type 0
Back = ℕ × List (ℕ × ℕ) × ℕ

-- a broker: how often it has stopped, its log, the offset up to which the log survives a stop, the high watermark that
-- it knows, as far as its log goes, the leader epochs that comes back after a stop, the offset at which its local log
-- begins, after a write that failed what may come back instead, and how often its log had been opened when it last
-- started
pub record Node : Type 0 where
  pub up : Bool
  pub stops : ℕ
  pub role : Role
  pub log : Lined
  pub flushed_end : ℕ
  pub known_high_watermark : ℕ
  pub saved : List (ℕ × ℕ)
  pub local : ℕ
  pub loose : Option Back
  pub incarnation : ℕ

-- the registry, the brokers, and the partition's clock in milliseconds
pub record SeenPartition : Type 0 where
  pub registry : Registry
  pub nodes : List Node
  pub clock : ℤ
