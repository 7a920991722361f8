use Rattle.remote_find.proofs.Clipping.{piece_lies}
use Rattle.remote_find.proofs.laws.a_piece_lies_in_one_copy_and_epoch.Goals as goal

pub returns : goal.returns
returns c = piece_lies
