use Rattle.std.proofs.Common.{◌≡◌, ◌+◌, ◌≤◌, length}
use Rattle.script_lang.specs.Lines.{lines_of}
use Rattle.script_lang.specs.Script.{nothing_told, lines_behind}
use Rattle.script_lang.proofs.reading.read.Given as goal

abbrev pub invariant-loop-rest : goal.invariant-loop-rest
invariant-loop-rest l = record {
  read : lines_behind l.told l.number (lines_of l.rest) ≡ lines_behind nothing_told 1 (lines_of l.bytes);
  number : l.number + length l.rest ≤ length l.bytes + 1;
}

abbrev pub decreases-loop-rest : goal.decreases-loop-rest
decreases-loop-rest l = length l.rest
