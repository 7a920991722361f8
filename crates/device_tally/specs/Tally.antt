-- The counts of a device that works on something outside the program: it has no plan of faults, and each
-- of its calls can fail.
use Rattle.std.specs.Prelude.{ℕ, Bool, false, List, []}
use Rattle.std.proofs.Math.ListN.{get_or}
use Rattle.std.proofs.lemmas.Bool.{false≢true}
use Rattle.tier_base.specs.Device.{Control, FailsAsPlanned}

-- faults, and calls since it was armed
pub record Counts : Type 0 where
  pub armed : Bool
  -- how many calls were made, by the kind's code
  pub counts : List ℕ
  pub faults : ℕ

module _ {K : Type 0} (code : K → ℕ) where
  -- what a device with these counts reports, where the last read gave these bytes
  abbrev pub control_of : Counts → List ℕ → Control code
  control_of t last_read =
      record {
        faults = t.faults;
        plan = [];
        armed = t.armed;
        made = λ kind. get_or t.counts (code kind) 0;
        infallible = false;
        scripted = false;
        last_read = last_read;
      }

  -- no plan decides which of its calls fail
  pub fails_as_planned : (t : Counts) (last_read : List ℕ) → FailsAsPlanned (control_of t last_read)
  fails_as_planned t last_read = λ scripted. absurd (false≢true scripted)
