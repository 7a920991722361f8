use Rattle.script_lang.proofs.Sound.{sound-fault}
use Rattle.script_lang.proofs.told.Told.with_fault.Goals as goal

pub invariant_of-told : goal.invariant_of-told
invariant_of-told c = rw (c.in_ok-put_fault.ensures) (sound-fault _ c.args.partition.0 c.args.fault c.told.invariant)
