-- How calls refuse, and what they make of how the disk refuses.
use Rattle.std.specs.Prelude.{◌≡◌}
use Rattle.tier_base.specs.declared.plain.FileName.TheVariants as file
use Rattle.tier_base.specs.declared.fault.Trouble.{Trouble}
use Rattle.tier_base.specs.declared.fault.Trouble.TheVariants as trouble
use Rattle.local_log.specs.declared.refusal.AppendRefusal.{AppendRefusal}
use Rattle.local_log.specs.declared.refusal.AppendRefusal.TheVariants as append
use Rattle.local_log.specs.declared.refusal.ReadRefusal.{ReadRefusal}
use Rattle.local_log.specs.declared.refusal.ReadRefusal.TheVariants as read
use Rattle.local_log.specs.declared.refusal.OpenRefusal.{OpenRefusal}
use Rattle.local_log.specs.declared.refusal.OpenRefusal.TheVariants.{DiskFault, Damaged, LastIncarnation, NoMemory}

-- the bytes that were returned aren't the cause
abbrev pub IsSoundCause : OpenRefusal → Type 0
IsSoundCause DiskFault = Unit {0}
IsSoundCause (Damaged name at) = ⊥
IsSoundCause LastIncarnation = Unit {0}
IsSoundCause NoMemory = Unit {0}

-- there was no memory
abbrev pub IsDry : OpenRefusal → Type 0
IsDry DiskFault = ⊥
IsDry (Damaged name at) = ⊥
IsDry LastIncarnation = ⊥
IsDry NoMemory = Unit {0}

-- what was read of the manifest is the cause
abbrev pub IsOfManifest : OpenRefusal → Type 0
IsOfManifest DiskFault = ⊥
IsOfManifest (Damaged name at) = name ≡ file.Manifest
IsOfManifest LastIncarnation = Unit {0}
IsOfManifest NoMemory = ⊥

-- how a call of the disk refuses an opening
abbrev pub refusal_of : Trouble → OpenRefusal
refusal_of trouble.Failed = DiskFault
refusal_of trouble.NoMemory = NoMemory

-- how it refuses an append
abbrev pub append_refusal : Trouble → AppendRefusal
append_refusal trouble.Failed = append.DiskFault
append_refusal trouble.NoMemory = append.NoMemory

-- how it refuses a read
abbrev pub read_refusal : Trouble → ReadRefusal
read_refusal trouble.Failed = read.DiskFault
read_refusal trouble.NoMemory = read.NoMemory
