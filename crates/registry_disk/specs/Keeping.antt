-- The registry of a partition in a file of a disk.
--
--   form                says
--   HasFile files r     the files' one of a registry reads as this one
--   KeepsFile d r       whatever a power cut now leaves of the disk has this registry's file
--   KeepsOneOf d r s    whatever it leaves has the file of one of these two
--   Replaces r old new  this registry's file was put in the place of the old one, or wasn't
--   Refrains old new    it wasn't
--   Finds d c c' found  a read of the file answers so
use Rattle.std.specs.Prelude.{◌≡◌, ◌⊎◌, ℕ, List, Option, Some, None, Ok, Err, IsTrue, IsSomeAnd}
use Rattle.std.specs.declared.result.Result.{Result}
use Rattle.tier_base.specs.Counts.{Rose}
use Rattle.tier_base.specs.Device.{Control}
use Rattle.tier_base.specs.declared.fault.Trouble.{Trouble}
use Rattle.tier_base.specs.declared.fault.Trouble.TheVariants as trouble
use Rattle.tier_base.specs.declared.plain.FileName.TheVariants.{Registry as RegistryName}
use Rattle.disk_model.specs.Call.{call_code}
use Rattle.disk_model.specs.Content.{Content, Files, Image, Swapped}
use Rattle.registry.specs.declared.registry.Registry.{Registry}
use Rattle.registry.specs.declared.view.RegView.{RegView}
use Rattle.registry.specs.View.{IsView, view_of}
use Rattle.registry_file.specs.declared.refusal.RegFileRefusal.TheVariants as file
use Rattle.registry_file.specs.Reading.{view_in}
use Rattle.registry_file.specs.Spelling.{view_bytes}
use Rattle.registry_disk.specs.declared.refusal.FindRefusal.{FindRefusal}
use Rattle.registry_disk.specs.declared.refusal.FindRefusal.TheVariants as find

-- the bytes of a registry's file
abbrev pub registry_bytes : Registry → List ℕ
registry_bytes r = view_bytes (view_of r)

-- the registry's file among these reads as this registry
abbrev pub HasFile : Files → Registry → Type 0
HasFile files r = IsSomeAnd (files RegistryName) (λ bytes. view_in bytes ≡ Ok (view_of r))

-- whatever a power cut now leaves has this registry's file
abbrev pub KeepsFile : Content → Registry → Type 0
KeepsFile d r = (c : Files) → Image d c → c RegistryName ≡ Some (registry_bytes r)

-- whatever it leaves has the file of one of these
abbrev pub KeepsOneOf : Content → Registry → Registry → Type 0
KeepsOneOf d r s =
    (c : Files) → Image d c → (c RegistryName ≡ Some (registry_bytes r)) ⊎ (c RegistryName ≡ Some (registry_bytes s))

-- this registry's file was put in the place of the old one, or that is there still
pub record Replaces (r : Registry) (old new : Content) : Type 0 where
  pub is_observable : new.is_observable ≡ old.is_observable
  pub reads : IsTrue old.is_observable → Swapped (registry_bytes r) (old.files RegistryName) (new.files RegistryName)
  pub images : (c : Files) → Image new c → (d : Files) × Image old d
      × Swapped (registry_bytes r) (d RegistryName) (c RegistryName)

-- the old one is there still
pub record Refrains (old new : Content) : Type 0 where
  pub reads : IsTrue old.is_observable → new.files RegistryName ≡ old.files RegistryName
  pub images : (c : Files) → Image new c → Image old c

-- the refusal of a read with this trouble
abbrev pub refusal_of : Trouble → FindRefusal
refusal_of trouble.Failed = find.Fault
refusal_of trouble.NoMemory = find.NoMemory

-- A read of the file answers so: what it says is what was returned, and of an observable disk what its file has.
abbrev pub Finds : Content → Control call_code → Control call_code → Result (Option RegView) FindRefusal → Type 0
Finds d c c' (Ok None) = IsTrue d.is_observable → d.files RegistryName ≡ None
Finds d c c' (Ok (Some view)) =
    IsView view × (view_in c'.last_read ≡ Ok view) × (IsTrue d.is_observable → d.files RegistryName ≡ Some c'.last_read)
Finds d c c' (Err (find.Bad at)) =
    (view_in c'.last_read ≡ Err (file.Bad at)) × (IsTrue d.is_observable → d.files RegistryName ≡ Some c'.last_read)
Finds d c c' (Err find.Fault) = Rose c.faults c'.faults
Finds d c c' (Err find.NoMemory) = Unit {0}
