use Rattle.std.proofs.Common.{◌≡◌, ◌+◌, ◌-◌, ◌^◌, ◌++◌, min, length}
use Rattle.trace_text.specs.Trace.{trace_of}
use Rattle.trace_text.specs.Read.{AreParts, lines_of}
use Rattle.trace_text.specs.Steps.{parts_of, HasParts}
use Rattle.trace_text.proofs.lines.read.Given as goal

abbrev pub invariant-loop-rest : goal.invariant-loop-rest
invariant-loop-rest l = record {
  begun : HasParts l.parts;
  are : AreParts (parts_of l.parts);
  text : l.bytes ≡ trace_of (parts_of l.parts) ++ l.rest;
  number : l.number ≡ min (lines_of (parts_of l.parts) + 1) (2 ^ 32 - 1);
}

abbrev pub decreases-loop-rest : goal.decreases-loop-rest
decreases-loop-rest l = length l.rest
