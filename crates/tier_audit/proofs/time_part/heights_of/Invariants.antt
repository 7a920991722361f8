use Rattle.std.proofs.Common.{◌≡◌, ◌++◌, ℕ, drop, FitsSigned}
use Rattle.std.specs.Int.{w64}
use Rattle.std.specs.List.{AllByRecursion}
use Rattle.std.specs.Prelude.{negsuc}
use Rattle.tier_audit.specs.Whole.{heights_of}
use Rattle.tier_audit.proofs.Marks.{AreNear}
use Rattle.tier_audit.proofs.time_part.heights_of.Given as goal

-- the moments so far, and those of the batches that are left, are all of them
abbrev pub invariant-loop-batch : goal.invariant-loop-batch
invariant-loop-batch l = record {
  heights : l.heights.items ++ heights_of l.base l.top (drop l.batch-index l.batches) ≡ heights_of l.base (negsuc 0) l.batches;
  fit : AllByRecursion (λ height. FitsSigned w64 height.0) l.heights.items;
  near : (first : ℕ) × (at : ℕ) × AreNear l.base first at (drop l.batch-index l.batches);
}
