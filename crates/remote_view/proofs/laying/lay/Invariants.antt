use Rattle.std.proofs.Common.{drop}
use Rattle.remote_view.proofs.Overlay.{IsSoFar}
use Rattle.remote_view.proofs.laying.lay.Given as goal

abbrev pub invariant-loop-tread : goal.invariant-loop-tread
invariant-loop-tread l = IsSoFar l.known l.entry l.span l.stair (drop l.tread-index l.stair) l.laid l.at
