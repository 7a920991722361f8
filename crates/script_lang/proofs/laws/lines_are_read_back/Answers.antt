use Rattle.script_lang.proofs.Spelled.{line-read}
use Rattle.script_lang.proofs.laws.lines_are_read_back.Goals as goal

pub returns : goal.returns
returns c = line-read
