use Rattle.std.proofs.Common.{◌≡◌, ◌+◌, ◌-◌, ◌*◌, None}
use Rattle.epoch_line.specs.Line.{last_entry}
use Rattle.log_manifest.specs.Reading.{entry_at, items_at}
use Rattle.log_manifest.proofs.Items.{glue}
use Rattle.log_manifest.proofs.reading.line.Given as goal

-- the entries so far, and those to come
abbrev pub invariant-loop-i : goal.invariant-loop-i
invariant-loop-i l =
    glue l.line (items_at entry_at (l.count - l.i) (l.at + 12 * l.i) (last_entry l.line) l.rest) ≡ items_at entry_at l.count l.at None l.bytes
