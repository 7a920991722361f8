use Rattle.std.proofs.Common.{arith}
use Rattle.std.proofs.lemmas.Option.{slice_get_within}
use Rattle.memory_yard.proofs.shelf.position.Goals as goal

pub returns : goal.returns
returns g c = λ n i s below e. let h = slice_get_within c.args.slots.now i s e in c.loop-i.invariant i s (omega arith) e
