use Rattle.std.proofs.Common.{length}
use Rattle.meta_log_file.proofs.Walks.{Found}
use Rattle.meta_log_file.proofs.walking.notes_in.Given as goal

abbrev pub invariant-loop-rest : goal.invariant-loop-rest
invariant-loop-rest l = Found l.bytes l.notes l.rest

abbrev pub decreases-loop-rest : goal.decreases-loop-rest
decreases-loop-rest l = length l.rest
