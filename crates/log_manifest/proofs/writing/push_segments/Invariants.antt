use Rattle.std.proofs.Common.{◌≡◌, ◌++◌, drop}
use Rattle.log_manifest.specs.Spelling.{segments_bytes}
use Rattle.log_manifest.proofs.writing.push_segments.Given as goal

abbrev pub invariant-loop-extent : goal.invariant-loop-extent
invariant-loop-extent l = l.out.items ++ segments_bytes (drop l.extent-index l.segments) ≡ l.initial.out.items ++ segments_bytes l.segments
