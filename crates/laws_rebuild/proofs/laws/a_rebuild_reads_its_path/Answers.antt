use Rattle.laws_rebuild.proofs.Reading.{lines_are_paths}
use Rattle.laws_rebuild.proofs.laws.a_rebuild_reads_its_path.Goals as goal

pub returns : goal.returns
returns g c = lines_are_paths g.S.Store.content g.S.Store.control
