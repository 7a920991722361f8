use Rattle.std.proofs.Common.{length}
use Rattle.meta_log_file.proofs.Walks.{Ended}
use Rattle.meta_log_file.proofs.walking.ends_in.Given as goal

abbrev pub invariant-loop-end : goal.invariant-loop-end
invariant-loop-end l = Ended l.bytes l.ends.items l.end l.rest

abbrev pub decreases-loop-end : goal.decreases-loop-end
decreases-loop-end l = length l.rest
