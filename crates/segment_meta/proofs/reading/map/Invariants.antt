use Rattle.std.proofs.Common.{◌≡◌, ◌+◌, ◌-◌, ◌*◌, None}
use Rattle.epoch_line.specs.Line.{last_entry}
use Rattle.segment_meta.specs.Reading.{pairs_at}
use Rattle.segment_meta.proofs.Mapping.{glue}
use Rattle.segment_meta.proofs.reading.map.Given as goal

-- the epochs so far, and those to come
abbrev pub invariant-loop-i : goal.invariant-loop-i
invariant-loop-i l =
    glue l.map (pairs_at l.range.0 l.range.1 (l.count - l.i) (63 + 12 * l.i) (last_entry l.map) l.rest) ≡ pairs_at l.range.0 l.range.1 l.count 63 None l.bytes
