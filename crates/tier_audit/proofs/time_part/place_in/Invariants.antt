use Rattle.std.proofs.Common.{length}
use Rattle.sparse_index.specs.Bytes.{bytes_of}
use Rattle.sparse_index.specs.Times.{moment_bytes}
use Rattle.tier_audit.specs.Whole.{AreTimesOf}
use Rattle.tier_audit.specs.Entries.{ArePartlyRead}
use Rattle.tier_audit.proofs.time_part.place_in.Given as goal

abbrev pub invariant-loop-rest : goal.invariant-loop-rest
invariant-loop-rest l = ArePartlyRead 12 (bytes_of moment_bytes) (AreTimesOf l.heights) l.heights l.bytes l.rest l.left

abbrev pub decreases-loop-rest : goal.decreases-loop-rest
decreases-loop-rest l = length l.rest
