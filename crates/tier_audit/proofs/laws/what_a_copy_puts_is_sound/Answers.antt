use Rattle.tier_audit.proofs.Putting.{copy_readable}
use Rattle.tier_audit.proofs.laws.what_a_copy_puts_is_sound.Goals as goal

pub returns : goal.returns
returns c = copy_readable
