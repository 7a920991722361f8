use Rattle.laws_rebuild.proofs.Reading.{nothing_is_damaged}
use Rattle.laws_rebuild.proofs.laws.a_rebuild_finds_all.Goals as goal

pub returns : goal.returns
returns g c = nothing_is_damaged g.S.Store.content g.S.Store.control
