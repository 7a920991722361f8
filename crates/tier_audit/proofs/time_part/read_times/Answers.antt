use Rattle.std.proofs.Common.{sym, subst}
use Rattle.sparse_index.specs.Times.{AreMoments}
use Rattle.tier_audit.proofs.Marks.{are_moments}
use Rattle.tier_audit.proofs.time_part.read_times.Goals as goal

pub place_in-requires : goal.place_in-requires
place_in-requires c =
    subst AreMoments (sym c.as_slice.ensures.value)
    (are_moments c.args.base c.args.batches.now c.in_ok-heights.heights.items c.requires c.in_ok-heights.ensures.heights c.in_ok-heights.ensures.fit)
