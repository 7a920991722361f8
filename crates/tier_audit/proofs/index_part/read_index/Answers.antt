use Rattle.std.proofs.Common.{◌∙◌, sym, subst}
use Rattle.sparse_index.specs.Offsets.{AreOffsets}
use Rattle.tier_audit.proofs.Marks.{placed_near, marks_rise}
use Rattle.tier_audit.proofs.index_part.read_index.Goals as goal

pub place_in-requires : goal.place_in-requires
place_in-requires c = subst AreOffsets (sym (c.as_slice.ensures.value ∙ c.in_ok-marks.ensures)) (marks_rise c.args.base c.args.base 0 c.args.batches.now (placed_near c.args.base c.args.batches.now c.requires))
