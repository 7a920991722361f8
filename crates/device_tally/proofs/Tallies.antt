-- A call that returns nothing.
use Rattle.std.proofs.Common.{ℕ, List, refl}
use Rattle.tier_base.specs.Device.{Fate, Ran, RanQuietly}
use Rattle.device_tally.specs.Tally.{Counts, control_of}

-- what was returned stays
pub quiet : {K : Type 0} {code : K → ℕ} (call : K) (fate : Fate) (t u : Counts) (last_read : List ℕ) → ((before after : List ℕ) → Ran call fate (control_of code t before) (control_of code u after))
    → RanQuietly call fate (control_of code t last_read) (control_of code u last_read)
quiet call fate t u last_read ran = record { ran = ran last_read last_read; last_read = refl }
