use Rattle.std.proofs.Common.{◌≡◌, ◌++◌, ◌%◌, ◌-◌, ◌^◌, min, length}
use Rattle.sparse_index.specs.Bytes.{bytes_of}
use Rattle.sparse_index.specs.Offsets.{entry_bytes}
use Rattle.sparse_index.proofs.offset_index.OffsetIndex.from_bytes.Given as goal

abbrev pub invariant-loop-rest : goal.invariant-loop-rest
invariant-loop-rest l = record {
  base : l.index.base ≡ l.base;
  parts : l.bytes ≡ bytes_of entry_bytes l.index.entries ++ l.rest;
  even : length l.rest % 8 ≡ 0;
  counted : l.at ≡ min (length l.index.entries) (2 ^ 32 - 1);
}

abbrev pub decreases-loop-rest : goal.decreases-loop-rest
decreases-loop-rest l = length l.rest
