-- Why a disk gives no metadata log, and the place that is reported of it.
--
--   form                      says
--   IsDamage c at             these files have no log, and this is the first place of `notes` that is invalid
--   HandsDamage calls d at    so says what the disk returned, which need not report its files
--
-- Where the gate is invalid the place is 0.
use Rattle.std.specs.Prelude.{◌≡◌, ◌⊎◌, ℕ, ◌<◌, List, take}
use Rattle.tier_base.specs.declared.plain.FileName.TheVariants as file
use Rattle.tier_base.specs.Device.{Control, Ran, Went}
use Rattle.tier_base.specs.Told.{bytes_in}
use Rattle.disk_model.specs.declared.call.DiskCall.TheVariants.{Read}
use Rattle.disk_model.specs.Call.{call_code}
use Rattle.disk_model.specs.Content.{Files}
use Rattle.meta_log_file.specs.Notes.{gate_bytes, GateAt}
use Rattle.meta_log_file.specs.Reading.{IsNoGate, BreakAt}

-- the events up to the files' gate break off here
pub record IsBroken (c : Files) (at : ℕ) : Type 0 where
  pub gate : ℕ
  pub stands : GateAt (c file.Gate) gate
  pub breaks : BreakAt gate (take gate (bytes_in (c file.Notes))) at

-- the files have no gate, or one before which the events break off
abbrev pub IsDamage : Files → ℕ → Type 0
IsDamage c at = (((end : ℕ) → GateAt (c file.Gate) end → ⊥) × (at ≡ 0)) ⊎ IsBroken c at

module _ {D : Type 0} (calls : D → Control call_code) where
  -- a gate was returned, and by the next read bytes that break off here
  pub record HandsBroken (disk : D) (at : ℕ) : Type 0 where
    pub gate : ℕ
    pub before : D
    pub last_read : (calls before).last_read ≡ gate_bytes gate
    pub next : Ran Read Went (calls before) (calls disk)
    pub breaks : BreakAt gate (take gate (calls disk).last_read) at

  -- what was last returned is no gate, or breaks off before the one that was returned before it
  abbrev pub HandsDamage : D → ℕ → Type 0
  HandsDamage disk at = (IsNoGate (calls disk).last_read × (at ≡ 0)) ⊎ HandsBroken disk at
