-- What a refusal of a device, an audit or a sweep is to the round over an environment.
use Rattle.tier_base.specs.declared.fault.Trouble.{Trouble}
use Rattle.tier_base.specs.declared.fault.Trouble.TheVariants as trouble
use Rattle.tier_sweep.specs.declared.refusal.SweepRefusal.{SweepRefusal}
use Rattle.tier_sweep.specs.declared.refusal.SweepRefusal.TheVariants as sweep
use Rattle.tier_audit.specs.declared.refusal.AuditRefusal.{AuditRefusal}
use Rattle.tier_audit.specs.declared.refusal.AuditRefusal.TheVariants as audit
use Rattle.yard_audit.specs.declared.refusal.RoundRefusal.{RoundRefusal}
use Rattle.yard_audit.specs.declared.refusal.RoundRefusal.TheVariants.{Fault, NoMemory}

-- of a call
abbrev pub of_trouble : Trouble → RoundRefusal
of_trouble trouble.Failed = Fault
of_trouble trouble.NoMemory = NoMemory

-- of an audit
abbrev pub of_audit : AuditRefusal → RoundRefusal
of_audit audit.StoreFault = Fault
of_audit audit.MetaFault = Fault
of_audit audit.NoMemory = NoMemory

-- of a sweep
abbrev pub of_sweep : SweepRefusal → RoundRefusal
of_sweep sweep.StoreFault = Fault
of_sweep sweep.MetaFault = Fault
of_sweep sweep.NoMemory = NoMemory
