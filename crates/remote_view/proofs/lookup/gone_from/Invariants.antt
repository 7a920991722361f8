use Rattle.std.proofs.Common.{◌-◌, length}
use Rattle.remote_view.specs.Places.{BeginsGone}
use Rattle.remote_view.proofs.lookup.gone_from.Given as goal

abbrev pub invariant-loop-gone : goal.invariant-loop-gone
invariant-loop-gone l = BeginsGone l.gone l.entries

abbrev pub decreases-loop-gone : goal.decreases-loop-gone
decreases-loop-gone l = length l.entries - l.gone
