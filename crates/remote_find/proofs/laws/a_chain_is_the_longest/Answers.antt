use Rattle.remote_find.proofs.Covering.{chain_longest}
use Rattle.remote_find.proofs.laws.a_chain_is_the_longest.Goals as goal

pub returns : goal.returns
returns c = chain_longest
