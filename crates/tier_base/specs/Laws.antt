-- What is reported of the faults of every device in memory.
use Rattle.std.specs.Prelude.{◌≡◌, ℕ, Bool, true, false, List, IsTrue, if◌then◌else◌, refl}
use Rattle.std.proofs.lemmas.Bool.{false≢true}
use Rattle.tier_base.specs.Counts.{counted}
use Rattle.tier_base.specs.Device.{FailsAsPlanned, met}
use Rattle.tier_base.specs.Faults.{Faults, count_of, control_of}

module _ {K : Type 0} (code : K → ℕ) where
  -- without a fuse as many calls failed as its plan names of those that were made
  pub fails_as_planned : (f : Faults K) (last_read : List ℕ) → FailsAsPlanned (control_of code f last_read)
  fails_as_planned f last_read = by f.scripted
    where
      by : (b : Bool) → IsTrue b → (if b then counted 0 (met code (count_of code f) f.plan) else f.faults)
          ≡ counted 0 (met code (count_of code f) f.plan)
      by true is = refl
      by false is = absurd (false≢true is)
