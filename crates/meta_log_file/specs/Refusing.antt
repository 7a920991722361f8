-- Why a disk gives no metadata log, by the trouble of a call.
use Rattle.tier_base.specs.declared.fault.Trouble.{Trouble}
use Rattle.tier_base.specs.declared.fault.Trouble.TheVariants as trouble
use Rattle.meta_log_file.specs.declared.refusal.NotesRefusal.{NotesRefusal}
use Rattle.meta_log_file.specs.declared.refusal.NotesRefusal.TheVariants.{Failed, NoMemory}

-- the refusal where a call has this trouble
abbrev pub refusal_of : Trouble → NotesRefusal
refusal_of trouble.Failed = Failed
refusal_of trouble.NoMemory = NoMemory
