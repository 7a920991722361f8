use Rattle.std.proofs.Common.{◌≡◌, map, take}
use Rattle.local_log.specs.Stored.{extent_of}
use Rattle.local_log.proofs.trimming.extents_of.Given as goal

abbrev pub invariant-loop-segment : goal.invariant-loop-segment
invariant-loop-segment l = l.list ≡ map extent_of (take l.segment-index l.segments)
