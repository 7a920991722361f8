use Rattle.std.proofs.Common.{◌≡◌, length}
use Rattle.epoch_line.proofs.Refusing.{BeginsWith}
use Rattle.epoch_line.proofs.line.Line.from_text.Given as goal

abbrev pub invariant-loop-number : goal.invariant-loop-number
invariant-loop-number l = record {
  begins : BeginsWith l.bytes l.count l.line l.rest;
  number : length l.line ≡ l.number;
}
