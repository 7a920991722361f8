use Rattle.std.proofs.Common.{◌≡◌, drop}
use Rattle.remote_view.specs.Stairs.{end_of_touching}
use Rattle.remote_view.proofs.seeking.end_of_touching.Given as goal

abbrev pub invariant-loop-tread : goal.invariant-loop-tread
invariant-loop-tread l = end_of_touching (drop l.tread-index l.stair) l.place ≡ end_of_touching l.stair l.at
