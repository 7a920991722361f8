-- What can be observed of every device beside its content: how many calls failed, the plan of calls that are to fail,
-- and how many calls were made.
--
--   form                        says
--   Control code                what is observed, for the kinds of call that `code` distinguishes
--   Ran call fate old new       a call of this kind ended so
--   RanQuietly call fate ..     and it leaves the bytes that were returned
--   MayBeDone call fate old b   whether it may have been done
--   Rests old new               no call
--   Lasts old new               any calls but `arm`
--   Arms old new                from now on planned calls fail
--   IsFreshDevice c                   as the device is provided
--   FailsAsPlanned c            of a scripted device: as many calls failed as its plan names of those that were made
--
-- Planned calls are counted from the first `arm` on. A device is infallible while no call can fail. It is scripted if
-- its plan alone decides which calls fail, and has done so from the first call on. Which call failed is said call by
-- call, in `Ran`.
use Rattle.std.specs.Prelude.{◌≡◌, ◌≢◌, ◌↔◌, ℕ, ◌≤◌, ◌+◌, nat_le, Bool, false, not, ◌&&◌, ◌==◌, if◌then◌else◌, List}
use Rattle.std.specs.Prelude.{[], ◌∷◌, IsTrue, IsFalse, IsSome, is_some, Option, Some, None, Ok, Err}
use Rattle.std.specs.declared.result.Result.{Result}
use Rattle.tier_base.specs.declared.fault.Failed.{Failed}
use Rattle.tier_base.specs.declared.fault.Trouble.{Trouble}
use Rattle.tier_base.specs.declared.fault.Trouble.TheVariants as trouble
use Rattle.tier_base.specs.declared.planned.Planned.{Planned}
use Rattle.tier_base.specs.Counts.{counted, Rose}

-- how a call ended: it went well; it failed, done or not; it found no memory
pub data Fate : Type 0 where
  Went : Fate
  Fault : Fate
  Dry : Fate

-- how a call with this trouble ended
abbrev pub fate_of_trouble : Trouble → Fate
fate_of_trouble trouble.Failed = Fault
fate_of_trouble trouble.NoMemory = Dry

-- how a call that takes memory ended
abbrev pub fate_of : {T : Type 0} → Result T Trouble → Fate
fate_of (Ok x) = Went
fate_of (Err e) = fate_of_trouble e

-- how a call that takes no memory ended
abbrev pub failing : {T : Type 0} → Result T Failed → Fate
failing (Ok x) = Went
failing (Err e) = Fault

-- what a device reports
pub record Control {K : Type 0} (code : K → ℕ) : Type 0 where
  -- how many calls failed
  pub faults : ℕ
  -- the calls that are to fail
  pub plan : List (Planned K)
  pub armed : Bool
  -- how many calls of each kind were made since it was armed
  pub made : K → ℕ
  pub infallible : Bool
  pub scripted : Bool
  -- the bytes that the last read gave
  pub last_read : List ℕ

module _ {K : Type 0} (code : K → ℕ) where
  -- the first item of a plan that names the call with this number: whether that call is done all the same
  abbrev pub planned : K → ℕ → List (Planned K) → Option Bool
  planned call number [] = None
  planned call number (p ∷ ps) =
      if (code p.call == code call) && (p.number == number)
      then Some p.after
      else planned call number ps

  -- the call that an item of a plan names was made
  abbrev pub was_made : (K → ℕ) → Planned K → Bool
  was_made made p = nat_le 1 p.number && nat_le p.number (made p.call)

  -- how many of the calls that a plan names were made; one that several items name is counted at the last of them
  abbrev pub met : (K → ℕ) → List (Planned K) → ℕ
  met made [] = 0
  met made (p ∷ ps) =
      if was_made made p && not (is_some (planned p.call p.number ps)) then met made ps + 1 else met made ps

  -- how many calls of a kind were made after one that ended so
  abbrev pub made_after : K → Fate → Bool → K → ℕ → ℕ
  made_after call Went armed kind n = if armed && (code call == code kind) then counted n 1 else n
  made_after call Fault armed kind n = if armed && (code call == code kind) then counted n 1 else n
  made_after call Dry armed kind n = n

module _ {K : Type 0} {code : K → ℕ} where
  -- what the plan says of the next call of this kind
  abbrev pub due : K → Control code → Option Bool
  due call c = if c.armed then planned code call (counted (c.made call) 1) c.plan else None

  -- as running out of memory leaves it
  pub record Untouched (old new : Control code) : Type 0 where
    pub faults : new.faults ≡ old.faults
    pub infallible : new.infallible ≡ old.infallible

  -- a call of one kind that ended so
  pub record Ran (call : K) (fate : Fate) (old new : Control code) : Type 0 where
    pub plan : new.plan ≡ old.plan
    pub armed : new.armed ≡ old.armed
    pub scripted : new.scripted ≡ old.scripted
    pub made : (kind : K) → new.made kind ≡ made_after code call fate old.armed kind (old.made kind)
    pub never_falls : old.faults ≤ new.faults
    pub went : fate ≡ Went → new.faults ≡ old.faults
    pub once : fate ≡ Fault → new.faults ≡ counted old.faults 1
    pub cause : fate ≡ Fault → Rose old.faults new.faults
    pub dry : fate ≡ Dry → Untouched old new
    pub stays_infallible : IsTrue old.infallible → IsTrue new.infallible
    pub infallible : IsTrue old.infallible → (fate ≢ Fault) × (new.faults ≡ old.faults)
    pub by_plan : IsTrue old.scripted → fate ≢ Dry → (fate ≡ Fault) ↔ IsSome (due call old)

  -- a call that leaves what was returned
  pub record RanQuietly (call : K) (fate : Fate) (old new : Control code) : Type 0 where
    pub ran : Ran call fate old new
    pub last_read : new.last_read ≡ old.last_read

  -- whether a call that ended so may have been done
  pub record MayBeDone (call : K) (fate : Fate) (old : Control code) (done : Bool) : Type 0 where
    pub went : fate ≡ Went → IsTrue done
    pub dry : fate ≡ Dry → IsFalse done
    pub planned : IsTrue old.scripted → fate ≡ Fault → due call old ≡ Some done

  -- no call
  pub record NoCalls (old new : Control code) : Type 0 where
    pub plan : new.plan ≡ old.plan
    pub armed : new.armed ≡ old.armed
    pub scripted : new.scripted ≡ old.scripted
    pub infallible : new.infallible ≡ old.infallible
    pub faults : new.faults ≡ old.faults
    pub made : (kind : K) → new.made kind ≡ old.made kind
    pub last_read : new.last_read ≡ old.last_read

  -- any calls but `arm`
  pub record Lasts (old new : Control code) : Type 0 where
    pub plan : new.plan ≡ old.plan
    pub armed : new.armed ≡ old.armed
    pub scripted : new.scripted ≡ old.scripted
    pub never_falls : old.faults ≤ new.faults
    pub stays_infallible : IsTrue old.infallible → IsTrue new.infallible
    pub no_fault : IsTrue old.infallible → new.faults ≡ old.faults
    -- until it is armed no call is counted
    pub unmade : old.armed ≡ false → (kind : K) → new.made kind ≡ old.made kind

  -- the first `arm`; a further one changes nothing
  pub record Arms (old new : Control code) : Type 0 where
    pub plan : new.plan ≡ old.plan
    pub armed : IsTrue new.armed
    pub scripted : new.scripted ≡ old.scripted
    pub faults : new.faults ≡ old.faults
    pub made : (kind : K) → new.made kind ≡ old.made kind
    pub last_read : new.last_read ≡ old.last_read
    pub again : IsTrue old.armed → new.infallible ≡ old.infallible
    pub still_infallible : IsTrue old.scripted → IsTrue old.infallible → old.plan ≡ [] → IsTrue new.infallible

  -- a device as it is provided: no fault, no call counted, nothing returned
  pub record IsFreshDevice (c : Control code) : Type 0 where
    pub faults : c.faults ≡ 0
    pub armed : c.armed ≡ false
    pub made : (kind : K) → c.made kind ≡ 0
    pub last_read : c.last_read ≡ []

  -- where the plan alone decides which calls fail, as many failed as it names of those that were made
  abbrev pub FailsAsPlanned : Control code → Type 0
  FailsAsPlanned c = IsTrue c.scripted → c.faults ≡ counted 0 (met code c.made c.plan)
