use Rattle.local_log.proofs.Reached.{begins_there}
use Rattle.local_log.proofs.piece.piece_at.Goals as goal

pub returns-clause-search : goal.returns-clause-search
returns-clause-search c = begins_there c.args.segment.now c.args.offset c.place_of-from.result.1 c.place_of-from.ensures.position
