-- Which calls of a partition's devices fail: those that the script's fault lines name, in the order of the lines.
use Rattle.std.specs.Prelude.{◌≡◌, ℕ, ◌+◌, ◌==◌, if◌then◌else◌, Bool, false, List, []}
use Rattle.std.specs.Prelude.{◌∷◌, ◌++◌, Option, Some, None, IsTrue}
use Rattle.tier_base.specs.Device.{Control, IsFreshDevice}
use Rattle.tier_base.specs.declared.planned.Planned.{Planned}
use Rattle.disk_model.specs.Call.{call_code}
use Rattle.disk_model.specs.declared.call.DiskCall.{DiskCall}
use Rattle.disk_model.specs.declared.call.DiskCall.TheVariants as disk
use Rattle.object_store.specs.declared.call.StoreCall.{StoreCall}
use Rattle.object_store.specs.declared.call.StoreCall.TheVariants as store
use Rattle.meta_log.specs.declared.call.MetaCall.{MetaCall}
use Rattle.meta_log.specs.declared.call.MetaCall.TheVariants as meta
use Rattle.script_lang.specs.declared.fault.Fault.{Fault}
use Rattle.script_lang.specs.declared.fault.FaultCall.{FaultCall}
use Rattle.script_lang.specs.declared.fault.FaultCall.TheVariants as call
use Rattle.script_lang.specs.declared.fault.FaultDevice.{FaultDevice}
use Rattle.script_lang.specs.declared.fault.FaultDevice.TheVariants.{Disk, Store, Meta}

-- the call of a disk that has this name
abbrev pub disk_call : FaultCall → Option DiskCall
disk_call call.Append = Some disk.Append
disk_call call.Sync = Some disk.Sync
disk_call call.Read = Some disk.Read
disk_call call.Cut = Some disk.Cut
disk_call call.Replace = Some disk.Replace
disk_call call.Remove = Some disk.Remove
disk_call call.List = Some disk.List
disk_call other = None

-- the device is the disk of this broker
abbrev pub is_disk_of : ℕ → FaultDevice → Bool
is_disk_of broker (Disk b) = b.0 == broker
is_disk_of broker other = false

-- the call of this broker's disk that is named so
abbrev pub disk_named : ℕ → FaultDevice → FaultCall → Option DiskCall
disk_named broker device call = if is_disk_of broker device then disk_call call else None

-- the call of the store
abbrev pub store_named : FaultDevice → FaultCall → Option StoreCall
store_named Store call.Put = Some store.Put
store_named Store call.Get = Some store.Get
store_named Store call.Delete = Some store.Delete
store_named device other = None

-- the call of the metadata log
abbrev pub meta_named : FaultDevice → FaultCall → Option MetaCall
meta_named Meta call.Append = Some meta.Append
meta_named Meta call.Read = Some meta.Read
meta_named device other = None

module _ {K : Type 0} where
  -- what a fault plans of a device, where it names a call of it
  abbrev pub planned_call : Fault → Option K → List (Planned K)
  planned_call fault None = []
  planned_call fault (Some call) = record { call = call; number = fault.number; after = fault.after } ∷ []

  -- what the faults plan of the device whose calls are named so
  abbrev pub planned_by : (FaultDevice → FaultCall → Option K) → List Fault → List (Planned K)
  planned_by named [] = []
  planned_by named (fault ∷ faults) = planned_call fault (named fault.device fault.call) ++ planned_by named faults

-- the faults of this broker's disk
abbrev pub disk_plan : ℕ → List Fault → List (Planned DiskCall)
disk_plan broker faults = planned_by (disk_named broker) faults

-- of the store
abbrev pub store_plan : List Fault → List (Planned StoreCall)
store_plan faults = planned_by store_named faults

-- and of the metadata log
abbrev pub meta_plan : List Fault → List (Planned MetaCall)
meta_plan faults = planned_by meta_named faults

module _ {K : Type 0} {code : K → ℕ} where
  -- the device is as it is provided, with this plan; nothing else decides which of its calls fail once the plan is in
  -- force, and none can before
  pub record IsPlanned (plan : List (Planned K)) (c : Control code) : Type 0 where
    pub fresh : IsFreshDevice c
    pub plan_is : c.plan ≡ plan
    pub scripted : IsTrue c.scripted
    pub infallible : IsTrue c.infallible

module _ {D : Type 0} (control : D → Control call_code) where
  -- the disks of the brokers from this one on have their faults
  abbrev pub ArePlanned : List Fault → ℕ → List D → Type 0
  ArePlanned faults broker [] = Unit {0}
  ArePlanned faults broker (disk ∷ disks) =
      IsPlanned (disk_plan broker faults) (control disk) × ArePlanned faults (broker + 1) disks
