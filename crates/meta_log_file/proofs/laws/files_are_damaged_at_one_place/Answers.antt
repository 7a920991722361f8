use Rattle.meta_log_file.proofs.Damaged.{damage_once}
use Rattle.meta_log_file.proofs.laws.files_are_damaged_at_one_place.Goals as goal

pub returns : goal.returns
returns c = damage_once
