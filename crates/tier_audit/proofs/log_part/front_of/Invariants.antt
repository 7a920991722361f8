use Rattle.std.proofs.Common.{◌-◌, length}
use Rattle.tier_audit.specs.Logs.{IsLogFront}
use Rattle.tier_audit.proofs.log_part.front_of.Given as goal

abbrev pub invariant-loop-front : goal.invariant-loop-front
invariant-loop-front l = IsLogFront l.entry l.bytes l.front

abbrev pub decreases-loop-front : goal.decreases-loop-front
decreases-loop-front l = length l.bytes - l.front.at
