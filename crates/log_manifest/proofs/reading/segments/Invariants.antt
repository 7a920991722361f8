use Rattle.std.proofs.Common.{◌≡◌, ◌+◌, ◌-◌, ◌*◌, None}
use Rattle.log_manifest.specs.Reading.{segment_at, items_at}
use Rattle.log_manifest.proofs.Items.{glue}
use Rattle.log_manifest.proofs.reading.segments.Given as goal

-- the segments so far, and those to come
abbrev pub invariant-loop-i : goal.invariant-loop-i
invariant-loop-i l =
    glue l.segments (items_at (segment_at l.start) (l.count - l.i) (20 + 12 * l.i) l.last l.rest) ≡ items_at (segment_at l.start) l.count 20 None l.bytes
