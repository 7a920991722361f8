use Rattle.meta_log_file.proofs.Leaving.{empty_has_none}
use Rattle.meta_log_file.proofs.laws.an_empty_disk_has_no_notes.Goals as goal

pub returns : goal.returns
returns g c = λ disk e. empty_has_none (g.D.Disk.content disk) e
