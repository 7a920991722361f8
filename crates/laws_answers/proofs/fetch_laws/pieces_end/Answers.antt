use Rattle.laws_answers.proofs.EndsOfPieces.{piece_ends}
use Rattle.laws_answers.proofs.fetch_laws.pieces_end.Goals as goal

pub returns : goal.returns
returns c = piece_ends
