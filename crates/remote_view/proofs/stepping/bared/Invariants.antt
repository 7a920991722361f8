use Rattle.std.proofs.Common.{take}
use Rattle.remote_view.specs.Fold.{others}
use Rattle.remote_view.specs.Storing.{stair_on}
use Rattle.remote_view.proofs.Baring.{IsBared}
use Rattle.remote_view.proofs.stepping.bared.Given as goal

abbrev pub invariant-loop-other : goal.invariant-loop-other
invariant-loop-other l = IsBared (others l.entry.id (take l.other-index l.known)) l.entry.id l.epoch (stair_on l.stairs l.epoch) l.stair
