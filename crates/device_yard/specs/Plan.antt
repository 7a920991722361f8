-- The calls of an environment that are to fail, where they are observable.
--
-- `first_name`, `partitions`, `disk`, `store`, `meta` and `registry` are counted together, from 1. The four `keep`
-- calls can't fail and aren't counted.
use Rattle.std.specs.Prelude.{◌≡◌, ◌↔◌, ℕ, ◌+◌, ◌-◌, ◌^◌, min, Bool, IsTrue, List, Contains, Option, Some, None}
use Rattle.tier_base.specs.Device.{Fate, Fault}

pub record Plan : Type 0 where
  -- how many calls were made
  pub calls : ℕ
  -- the numbers of those that fail
  pub failing : List ℕ
  -- no device fails as it is opened, so that these numbers alone decide
  pub alone : Bool

-- the number of the next call, which stays at its type's greatest value
abbrev pub next_of : Plan → ℕ
next_of plan = min (plan.calls + 1) (2 ^ 32 - 1)

-- a call that ended so: where there is a plan, it failed exactly where the plan has its number
abbrev pub CountsCall : Fate → Option Plan → Option Plan → Type 0
CountsCall fate None new = new ≡ None
CountsCall fate (Some plan) new =
    ((fate ≡ Fault) ↔ Contains plan.failing (next_of plan)) × (new ≡ Some (record plan { calls = next_of plan }))

-- a call that opens what it provides: it fails where the plan has its number, and else only where opening fails
abbrev pub CountsOpening : Fate → Option Plan → Option Plan → Type 0
CountsOpening fate None new = new ≡ None
CountsOpening fate (Some plan) new =
    (Contains plan.failing (next_of plan) → fate ≡ Fault)
    × (IsTrue plan.alone → fate ≡ Fault → Contains plan.failing (next_of plan))
    × (new ≡ Some (record plan { calls = next_of plan }))
