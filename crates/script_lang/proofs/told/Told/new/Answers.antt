use Rattle.script_lang.proofs.Sound.{sound-new}
use Rattle.script_lang.proofs.told.Told.new.Goals as goal

pub invariant_of-result : goal.invariant_of-result
invariant_of-result c = rw (c.new.ensures, c.new-2.ensures.value, c.in_ok-new.ensures, c.in_ok-new-2.ensures) (sound-new (rw (← c.new-2.ensures.value) c.new-2.ensures.small))
