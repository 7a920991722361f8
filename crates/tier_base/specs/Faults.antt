-- The faults of a device in memory: those that its plan and its fuse have in store, and those it had.
use Rattle.std.specs.Prelude.{◌≡◌, ℕ, ◌-◌, ◌^◌, ◌<◌, IsTrue, ◌==◌, Bool, true, false, not, ◌&&◌}
use Rattle.std.specs.Prelude.{◌||◌, if◌then◌else◌, List, [], ◌∷◌, Option, Some, None}
use Rattle.std.proofs.Math.ListN.{get_or}
use Rattle.tier_base.specs.declared.planned.Planned.{Planned}
use Rattle.tier_base.specs.declared.ending.Ending.{Ending}
use Rattle.tier_base.specs.declared.ending.Ending.TheVariants.{Done, DoneAndFailed, Undone}
use Rattle.tier_base.specs.Counts.{counted}
use Rattle.tier_base.specs.Device.{Control, planned, met}

-- a plan, and how far it has come
pub record Faults (K : Type 0) : Type 0 where
  pub plan : List (Planned K)
  pub armed : Bool
  -- how many calls were made, by the kind's code
  pub counts : List ℕ
  -- how many more calls pass before each one fails
  pub fuse : Option ℕ
  -- there was no fuse from the first on
  pub scripted : Bool
  -- how many calls failed
  pub faults : ℕ

-- none is reported
abbrev pub has_none : {X : Type 0} → Option X → Bool
has_none None = true
has_none (Some x) = false

-- nothing is listed
abbrev pub is_empty : {X : Type 0} → List X → Bool
is_empty [] = true
is_empty (x ∷ xs) = false

-- a call's number fits in 32 bits, in each item of a plan
abbrev pub NumbersFit : {K : Type 0} → List (Planned K) → Type 0
NumbersFit [] = Unit {0}
NumbersFit (p ∷ ps) = (p.number < 2 ^ 32) × NumbersFit ps

-- a fuse that has burnt down
abbrev pub is_blown : Option ℕ → Bool
is_blown None = false
is_blown (Some n) = n == 0

-- a fuse that has one call less to pass
abbrev pub shorter : Option ℕ → Option ℕ
shorter None = None
shorter (Some n) = Some (n - 1)

-- how a call ends of which the plan says this
abbrev pub ending_from : Option Bool → Ending
ending_from None = Done
ending_from (Some true) = DoneAndFailed
ending_from (Some false) = Undone

-- the call is done
abbrev pub is_done : Ending → Bool
is_done Done = true
is_done DoneAndFailed = true
is_done Undone = false

-- the call is done, and doesn't fail
abbrev pub goes_well : Ending → Bool
goes_well Done = true
goes_well DoneAndFailed = false
goes_well Undone = false

module _ {K : Type 0} (code : K → ℕ) where
  -- how many calls of a kind were made
  abbrev pub count_of : Faults K → K → ℕ
  count_of f kind = get_or f.counts (code kind) 0

  -- how the next call of a kind ends
  abbrev pub ending_at : Faults K → K → Ending
  ending_at f call =
      if is_blown f.fuse
      then Undone
      else (if f.armed then ending_from (planned code call (counted (count_of f call) 1) f.plan) else Done)

  -- how many calls failed: without a fuse those that the plan names
  abbrev pub faults_of : Faults K → ℕ
  faults_of f = if f.scripted then counted 0 (met code (count_of f) f.plan) else f.faults

  -- what holds of them at any moment
  pub record AreFaultsSound (f : Faults K) : Type 0 where
    pub numbers : NumbersFit f.plan
    pub alone : IsTrue f.scripted → f.fuse ≡ None
    pub exact : f.faults ≡ faults_of f

  -- what a device with these faults reports, where the last read gave these bytes
  abbrev pub control_of : Faults K → List ℕ → Control code
  control_of f last_read =
      record {
        faults = faults_of f;
        plan = f.plan;
        armed = f.armed;
        made = count_of f;
        infallible = has_none f.fuse && (not f.armed || is_empty f.plan);
        scripted = f.scripted;
        last_read = last_read;
      }
