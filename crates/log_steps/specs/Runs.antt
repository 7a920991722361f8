-- A run of calls of a disk, which ends with the first of them that fails, and how it ended.
use Rattle.std.specs.Prelude.{◌≡◌, ◌≢◌}
use Rattle.tier_base.specs.Counts.{counted, Rose}
use Rattle.tier_base.specs.Device.{Control, Fate, Fault, Lasts}
use Rattle.disk_model.specs.Call.{call_code}

-- the plan lasts, and an infallible device stays so, and the count of faults rises by the one fault that ended the run
pub record Runs (fate : Fate) (old new : Control call_code) : Type 0 where
  pub lasts : Lasts old new
  pub quiet : fate ≢ Fault → new.faults ≡ old.faults
  pub once : fate ≡ Fault → new.faults ≡ counted old.faults 1
  pub cause : fate ≡ Fault → Rose old.faults new.faults
