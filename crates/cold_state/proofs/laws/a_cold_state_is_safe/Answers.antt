use Rattle.cold_state.proofs.ColdStates.{cold_safe}
use Rattle.cold_state.proofs.laws.a_cold_state_is_safe.Goals as goal

pub returns : goal.returns
returns c = cold_safe
