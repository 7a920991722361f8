use Rattle.std.proofs.Common.{◌≡◌, ◌++◌, ◌%◌, ◌-◌, ◌^◌, min, length}
use Rattle.sparse_index.specs.Bytes.{bytes_of}
use Rattle.sparse_index.specs.Times.{moment_bytes}
use Rattle.sparse_index.proofs.time_index.TimeIndex.from_bytes.Given as goal

abbrev pub invariant-loop-rest : goal.invariant-loop-rest
invariant-loop-rest l = record {
  base : l.index.base ≡ l.base;
  parts : l.bytes ≡ bytes_of moment_bytes l.index.entries ++ l.rest;
  even : length l.rest % 12 ≡ 0;
  counted : l.at ≡ min (length l.index.entries) (2 ^ 32 - 1);
}

abbrev pub decreases-loop-rest : goal.decreases-loop-rest
decreases-loop-rest l = length l.rest
