-- What `audit` and `sweep` over an environment write, and how they may end.
--
-- They read no script. The environment is asked for its partitions, and their stores and metadata logs are provided,
-- one partition after another, and are back before the first byte is written. Nothing may be in progress in the tiers,
-- and nobody else may write there.
use Rattle.std.specs.Prelude.{◌≡◌, ℕ, List, Option, Some, None, IsTrue}
use Rattle.std.specs.Io.KnownBytes.{Appends}
use Rattle.tier_base.specs.Counts.{Rose}
use Rattle.tier_base.specs.Stream.{AppendsFront}
use Rattle.tier_base.specs.declared.names.PartitionId.{PartitionId}
use Rattle.tier_base.specs.declared.stream.Sink.{Ghosts as SinkGhosts}
use Rattle.disk_model.specs.declared.disk.Disk.{Ghosts as DiskGhosts}
use Rattle.object_store.specs.declared.store.Store.{Ghosts as StoreGhosts}
use Rattle.meta_log.specs.declared.log.MetaLog.{Ghosts as MetaGhosts}
use Rattle.device_yard.specs.Control.{Control}
use Rattle.device_yard.specs.YardContent.{YardContent}
use Rattle.yard_audit.specs.declared.auditing.Audited.{Audited}
use Rattle.yard_audit.specs.declared.refusal.RoundRefusal.{RoundRefusal}
use Rattle.yard_audit.specs.declared.refusal.RoundRefusal.TheVariants.{Fault, NoMemory}
use Rattle.yard_audit.specs.Reports.{TellsAudit, TellsSweep}
use Rattle.yard_audit.specs.Rounds.{IsUnderSweepIn}
use Rattle.yard_audit.specs.Tiers.{YardRests, DisksRest}
use Rattle.tiered_call.specs.declared.status.Status.{Status}
use Rattle.tiered_call.specs.declared.status.Status.TheVariants as ending
use Rattle.tiered_call.specs.Endings.{IsDoneOrNoMemory}

-- how a round ends that was refused
abbrev pub refused : RoundRefusal → Status
refused Fault = ending.YardFault
refused NoMemory = ending.NoMemory

-- how an audit ends that was written: well, or with the first partition whose tier isn't sound
abbrev pub status_of : Option PartitionId → Status
status_of None = ending.Ok
status_of (Some partition) = ending.Unsound partition

-- a status of `sweep`
abbrev pub IsOfSweep : Status → Type 0
IsOfSweep ending.Ok = Unit {0}
IsOfSweep ending.WriteFault = Unit {0}
IsOfSweep ending.NoMemory = Unit {0}
IsOfSweep ending.YardFault = Unit {0}
IsOfSweep other = ⊥

-- a status of `audit`: one of `sweep`, or a tier isn't sound
abbrev pub IsOfAudit : Status → Type 0
IsOfAudit (ending.Unsound partition) = Unit {0}
IsOfAudit other = IsOfSweep other

-- the audit was written
abbrev pub IsWritten : Status → Type 0
IsWritten ending.Ok = Unit {0}
IsWritten (ending.Unsound partition) = Unit {0}
IsWritten other = ⊥

-- it was, or there was no memory
abbrev pub IsWrittenOrNoMemory : Status → Type 0
IsWrittenOrNoMemory ending.NoMemory = Unit {0}
IsWrittenOrNoMemory other = IsWritten other

module _ {D S M : Type 0} (disk : DiskGhosts D) (store : StoreGhosts S) (meta : MetaGhosts M) where
  -- what an audit of each tier found was written, and the call ends so
  pub record WritesAudit (held : YardContent D S M) (sunk sunk' : Option (List ℕ)) (status : Status) : Type 0 where
    pub told : Audited
    pub is_observable : TellsAudit disk.content store.content meta.content held told
    pub written : Appends sunk sunk' told.text.items
    pub ends : status ≡ status_of told.unsound

  -- a front of it was written, and not all
  pub record WritesAuditFront (held : YardContent D S M) (sunk sunk' : Option (List ℕ)) : Type 0 where
    pub told : Audited
    pub is_observable : TellsAudit disk.content store.content meta.content held told
    pub written : AppendsFront sunk sunk' told.text.items

  -- how much a sweep of each tier took away was written
  pub record WritesSweep (held held' : YardContent D S M) (sunk sunk' : Option (List ℕ)) : Type 0 where
    pub text : List ℕ
    pub is_observable : TellsSweep disk.content store.content meta.content held held' text
    pub written : Appends sunk sunk' text

  -- a front of it was written, and not all; the tiers are swept all the same
  pub record WritesSweepFront (held held' : YardContent D S M) (sunk sunk' : Option (List ℕ)) : Type 0 where
    pub text : List ℕ
    pub is_observable : TellsSweep disk.content store.content meta.content held held' text
    pub written : AppendsFront sunk sunk' text

-- why nothing was written
abbrev pub WroteNothing : Status → Type 0
WroteNothing ending.YardFault = Unit {0}
WroteNothing ending.NoMemory = Unit {0}
WroteNothing other = ⊥

module _ {D S M W : Type 0} (disk : DiskGhosts D) (store : StoreGhosts S) (meta : MetaGhosts M)
    (sink : SinkGhosts W) where
  -- `audit`, over an environment to a sink
  pub record AuditsYard (held held' : YardContent D S M) (control control' : Control) (out out' : W)
      (status : Status) : Type 0 where
    -- what was found is written, and the status reports the first tier that isn't sound
    pub audit : IsWritten status → WritesAudit disk store meta held (sink.written out) (sink.written out') status
    -- nothing of the tiers and of the disks has changed
    pub rest : IsTrue held.is_observable → YardRests disk.content store.content meta.content held held'
    pub is_observable : held'.is_observable ≡ held.is_observable
    -- each device that was provided is back
    pub back : control'.out ≡ control.out
    -- no other form's status comes, and each has its cause; out of memory alone is free
    pub own : IsOfAudit status
    pub yard_fault : status ≡ ending.YardFault → Rose control.faults control'.faults
    pub write_fault : status ≡ ending.WriteFault → Rose (sink.faults out) (sink.faults out')
    pub front : status ≡ ending.WriteFault → WritesAuditFront disk store meta held (sink.written out)
        (sink.written out')
    -- where nothing fails the audit is written, unless memory runs out
    pub complete : ¬ Rose control.faults control'.faults → ¬ Rose (sink.faults out) (sink.faults out')
        → IsWrittenOrNoMemory status
    -- nothing else touches the sink
    pub unwritten : WroteNothing status → out' ≡ out

  -- `sweep`, over an environment to a sink
  pub record SweepsYard (held held' : YardContent D S M) (control control' : Control) (out out' : W)
      (status : Status) : Type 0 where
    -- each tier was swept, and how much went is written
    pub sweep : status ≡ ending.Ok → WritesSweep disk store meta held held' (sink.written out) (sink.written out')
    -- no tier is further than its sweep, and the disks rest
    pub under : IsTrue held.is_observable → (p : PartitionId) → IsUnderSweepIn store.content meta.content held held' p
    pub disks : IsTrue held.is_observable → DisksRest disk.content held held'
    pub is_observable : held'.is_observable ≡ held.is_observable
    -- each device that was provided is back
    pub back : control'.out ≡ control.out
    -- no other form's status comes, and each has its cause; out of memory alone is free
    pub own : IsOfSweep status
    pub yard_fault : status ≡ ending.YardFault → Rose control.faults control'.faults
    pub write_fault : status ≡ ending.WriteFault → Rose (sink.faults out) (sink.faults out')
    pub front : status ≡ ending.WriteFault → WritesSweepFront disk store meta held held' (sink.written out)
        (sink.written out')
    -- where nothing fails all is done and written, unless memory runs out
    pub complete : ¬ Rose control.faults control'.faults → ¬ Rose (sink.faults out) (sink.faults out')
        → IsDoneOrNoMemory status
    -- nothing else touches the sink
    pub unwritten : WroteNothing status → out' ≡ out
