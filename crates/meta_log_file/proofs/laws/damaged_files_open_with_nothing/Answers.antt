use Rattle.meta_log_file.proofs.Damaged.{damage_closes}
use Rattle.meta_log_file.proofs.laws.damaged_files_open_with_nothing.Goals as goal

pub returns : goal.returns
returns c = damage_closes
