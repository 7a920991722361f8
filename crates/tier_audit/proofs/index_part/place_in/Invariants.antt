use Rattle.std.proofs.Common.{length}
use Rattle.sparse_index.specs.Bytes.{bytes_of}
use Rattle.sparse_index.specs.Offsets.{entry_bytes}
use Rattle.tier_audit.specs.Whole.{AreEntriesOf}
use Rattle.tier_audit.specs.Entries.{ArePartlyRead}
use Rattle.tier_audit.proofs.index_part.place_in.Given as goal

abbrev pub invariant-loop-rest : goal.invariant-loop-rest
invariant-loop-rest l = ArePartlyRead 8 (bytes_of entry_bytes) (AreEntriesOf l.marks) l.marks l.bytes l.rest l.left

abbrev pub decreases-loop-rest : goal.decreases-loop-rest
decreases-loop-rest l = length l.rest
