use Rattle.std.proofs.Common.{◌≡◌, map, take}
use Rattle.partition_world.specs.TurnsOfTrim.{item_of}
use Rattle.partition_world.proofs.covering.items.Given as goal

abbrev pub invariant-loop-segment : goal.invariant-loop-segment
invariant-loop-segment l = l.items ≡ map item_of (take l.segment-index l.closed)
