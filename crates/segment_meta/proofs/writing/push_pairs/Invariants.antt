use Rattle.std.proofs.Common.{◌≡◌, ◌++◌, drop}
use Rattle.segment_meta.specs.Spelling.{pairs_bytes}
use Rattle.segment_meta.proofs.writing.push_pairs.Given as goal

abbrev pub invariant-loop-pair : goal.invariant-loop-pair
invariant-loop-pair l = l.out.items ++ pairs_bytes (drop l.pair-index l.pairs) ≡ l.initial.out.items ++ pairs_bytes l.pairs
