-- What an environment always reports: its faults, the last first name, how devices came back, and what registries'
-- disks were read as.
--
--   form                 says
--   Names r old new      `first_name` answered r
--   Asks f old new       a call ended so that provides nothing
--   Hands f old new      a device was provided, or wasn't, by a call that ended so
--   TakesBack c old new  a device came back with these counts
--   TakesRegistry c r .. so did a registry's disk, which was read as r last
--
-- Before it is armed a device is opened, and the world that is made over it reads and writes. Of an armed device the
-- faults are the world's to answer for, and no longer the environment's.
use Rattle.std.specs.Prelude.{◌≡◌, ℕ, ◌+◌, nat_lt, Bool, not, ◌&&◌, if◌then◌else◌, List, [], ◌∷◌, ◌++◌, Option, Ok, Err}
use Rattle.std.specs.declared.result.Result.{Result}
use Rattle.tier_base.specs.declared.fault.Trouble.{Trouble}
use Rattle.tier_base.specs.Counts.{counted}
use Rattle.tier_base.specs.Device.{Fate, Went, Fault, Dry, fate_of, fate_of_trouble}
use Rattle.device_yard.specs.declared.came.Came.{Came}
use Rattle.device_yard.specs.declared.read_registry.ReadRegistry.{ReadRegistry}

pub record Control : Type 0 where
  -- how many calls failed, and devices came back unarmed with faults
  pub faults : ℕ
  -- the last answer of `first_name`
  pub named : Option (List ℕ)
  -- the counts of the devices that came back, the first of them first
  pub returned : List Came
  -- what the registries' disks last returned, in the order in which they came back
  pub registries : List ReadRegistry
  -- how many devices are provided
  pub out : ℕ

-- an environment that was just made
pub record IsFreshYard (c : Control) : Type 0 where
  pub faults : c.faults ≡ 0
  pub returned : c.returned ≡ []
  pub registries : c.registries ≡ []
  pub out : c.out ≡ 0

-- how many faults there are after a call that ended so
pub record CountsFault (fate : Fate) (before now : ℕ) : Type 0 where
  pub went : fate ≡ Went → now ≡ before
  pub fault : fate ≡ Fault → now ≡ counted before 1
  pub dry : fate ≡ Dry → now ≡ before

-- the name that was answered, where one was
abbrev pub named_after : Result (Option (List ℕ)) Trouble → Option (List ℕ) → Option (List ℕ)
named_after (Ok name) before = name
named_after (Err e) before = before

pub record NamesFirst (result : Result (Option (List ℕ)) Trouble) (old new : Control) : Type 0 where
  pub faults : CountsFault (fate_of result) old.faults new.faults
  pub named : new.named ≡ named_after result old.named
  pub returned : new.returned ≡ old.returned
  pub registries : new.registries ≡ old.registries
  pub out : new.out ≡ old.out

-- a call that answers something and provides nothing
pub record AsksYard (fate : Fate) (old new : Control) : Type 0 where
  pub faults : CountsFault fate old.faults new.faults
  pub named : new.named ≡ old.named
  pub returned : new.returned ≡ old.returned
  pub registries : new.registries ≡ old.registries
  pub out : new.out ≡ old.out

-- so many devices are out after a call that ended so
abbrev pub out_after : Fate → ℕ → ℕ
out_after Went n = n + 1
out_after Fault n = n
out_after Dry n = n

pub record Hands (fate : Fate) (old new : Control) : Type 0 where
  pub faults : CountsFault fate old.faults new.faults
  pub named : new.named ≡ old.named
  pub returned : new.returned ≡ old.returned
  pub registries : new.registries ≡ old.registries
  pub out : new.out ≡ out_after fate old.out

-- a device that was counted couldn't be opened, and isn't provided
pub record Withdraws (why : Trouble) (old new : Control) : Type 0 where
  pub faults : CountsFault (fate_of_trouble why) old.faults new.faults
  pub named : new.named ≡ old.named
  pub returned : new.returned ≡ old.returned
  pub registries : new.registries ≡ old.registries
  pub out : new.out + 1 ≡ old.out

-- a device that came back so is a fault of the environment
abbrev pub is_fault : Came → Bool
is_fault came = not came.armed && nat_lt 0 came.faults

pub record TakesBack (came : Came) (old new : Control) : Type 0 where
  pub faults : new.faults ≡ (if is_fault came then counted old.faults 1 else old.faults)
  pub named : new.named ≡ old.named
  pub returned : new.returned ≡ old.returned ++ came ∷ []
  pub registries : new.registries ≡ old.registries
  pub out : new.out + 1 ≡ old.out

-- a registry's disk came back with these counts, and these bytes were last returned
pub record TakesRegistry (came : Came) (read : ReadRegistry) (old new : Control) : Type 0 where
  pub faults : new.faults ≡ (if is_fault came then counted old.faults 1 else old.faults)
  pub named : new.named ≡ old.named
  pub returned : new.returned ≡ old.returned ++ came ∷ []
  pub registries : new.registries ≡ old.registries ++ read ∷ []
  pub out : new.out + 1 ≡ old.out
