use Rattle.std.proofs.Common.{◌≡◌, ◌++◌, ℕ, drop}
use Rattle.tier_audit.specs.Whole.{marks_of}
use Rattle.tier_audit.proofs.Marks.{AreNear}
use Rattle.tier_audit.proofs.index_part.marks_of.Given as goal

-- the marks so far, and those of the batches that are left, are all of them
abbrev pub invariant-loop-batch : goal.invariant-loop-batch
invariant-loop-batch l = record {
  marks : l.marks.items ++ marks_of l.base l.at (drop l.batch-index l.batches) ≡ marks_of l.base 0 l.batches;
  near : (first : ℕ) × AreNear l.base first l.at (drop l.batch-index l.batches);
}
