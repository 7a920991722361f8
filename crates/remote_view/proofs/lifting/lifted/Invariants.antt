use Rattle.std.proofs.Common.{◌≡◌, take}
use Rattle.std.specs.Prelude.{filter}
use Rattle.remote_view.specs.Laying.{of_others}
use Rattle.remote_view.proofs.lifting.lifted.Given as goal

abbrev pub invariant-loop-tread : goal.invariant-loop-tread
invariant-loop-tread l = l.treads ≡ filter (of_others l.id) (take l.tread-index l.stair)
