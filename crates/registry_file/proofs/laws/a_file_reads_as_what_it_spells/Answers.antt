use Rattle.registry_file.proofs.OneSpelling.{one_spelling}
use Rattle.registry_file.proofs.laws.a_file_reads_as_what_it_spells.Goals as goal

pub returns : goal.returns
returns c = one_spelling
