-- A run of calls of a disk, and how it ended.
use Rattle.std.specs.Prelude.{◌≡◌, ◌≢◌}
use Rattle.tier_base.specs.Counts.{counted, Rose}
use Rattle.tier_base.specs.Device.{Control, Fate, Fault, Lasts}
use Rattle.disk_model.specs.Call.{call_code}

-- no call failed
abbrev pub NoFault : Control call_code → Control call_code → Type 0
NoFault old new = new.faults ≡ old.faults

-- one call failed
abbrev pub OneFault : Control call_code → Control call_code → Type 0
OneFault old new = new.faults ≡ counted old.faults 1

-- the plan lasts, and an infallible device stays so, and the first fault is the last call and the answer
pub record Runs (fate : Fate) (old new : Control call_code) : Type 0 where
  pub lasts : Lasts old new
  pub cause : fate ≡ Fault → Rose old.faults new.faults
  pub once : fate ≡ Fault → OneFault old new
  pub quiet : fate ≢ Fault → NoFault old new
