use Rattle.laws_audit.proofs.Sweeping.{whole_keeps}
use Rattle.laws_audit.proofs.laws.a_whole_sweep_keeps_cold.Goals as goal

pub returns : goal.returns
returns c = whole_keeps
