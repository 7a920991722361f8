use Rattle.std.proofs.Common.{◌≡◌, take, map}
use Rattle.run_story.proofs.Ends.{model_end, drawn_end}
use Rattle.run_story.proofs.tracked.logs_after.Given as goal

abbrev pub invariant-loop-broker : goal.invariant-loop-broker
invariant-loop-broker l = map drawn_end l.logs ≡ map model_end (take l.broker l.plain.brokers)
