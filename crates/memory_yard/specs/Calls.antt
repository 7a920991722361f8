-- The calls of an environment in memory: how many were made, which of them fail, and the fuse of the disks that it
-- provides.
use Rattle.std.specs.Prelude.{ℕ, List, Option, not, is_some}
use Rattle.device_yard.specs.Plan.{Plan}

pub record Calls : Type 0 where
  -- how many calls were made
  pub calls : ℕ
  -- the numbers of those that fail
  pub failing : List ℕ
  -- how many calls of each disk that is provided pass before each one fails, where it has a fuse
  pub fuse : Option ℕ

-- what every environment says of them: with a fuse a device may fail as it is opened
abbrev pub plan_of : Calls → Plan
plan_of c = record { calls = c.calls; failing = c.failing; alone = not (is_some c.fuse) }
