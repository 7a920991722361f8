use Rattle.laws_audit.proofs.Sweeping.{sweep_keeps}
use Rattle.laws_audit.proofs.laws.a_sweep_keeps_cold.Goals as goal

pub returns : goal.returns
returns c = sweep_keeps
