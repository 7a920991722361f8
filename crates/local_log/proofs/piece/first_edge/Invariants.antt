use Rattle.std.proofs.Common.{◌≡◌, drop}
use Rattle.local_log.specs.Reading.{piece_end}
use Rattle.local_log.proofs.piece.first_edge.Given as goal

abbrev pub invariant-loop-start : goal.invariant-loop-start
invariant-loop-start l = piece_end l.line l.segment l.offset ≡ piece_end (drop l.start-index l.line) l.segment l.offset
