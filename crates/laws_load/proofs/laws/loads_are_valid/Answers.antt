use Rattle.laws_load.proofs.Read.{loads_valid}
use Rattle.laws_load.proofs.laws.loads_are_valid.Goals as goal

pub returns : goal.returns
returns c = loads_valid
