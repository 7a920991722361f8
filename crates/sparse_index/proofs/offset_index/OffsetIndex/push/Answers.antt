use Rattle.std.proofs.Common.{subst, ◌-◌, ◌++◌, ◌∷◌, [], sym}
use Rattle.sparse_index.specs.Offsets.{OffsetTable, AreOffsets}
use Rattle.sparse_index.proofs.OffsetLaws.{offsets-push}
use Rattle.sparse_index.proofs.offset_index.OffsetIndex.push.Goals as goal

pub add-requires : goal.add-requires
add-requires c =
    let stand = subst (λ (t : OffsetTable). AreOffsets t.entries) c.self.view_is c.self.invariant.entries in
    let more = offsets-push c.args.self.now.entries (c.args.last - c.args.self.now.base, c.args.position) stand (c.requires.near, c.requires.position_fits) c.requires.above in
    subst (λ (t : OffsetTable). AreOffsets (c.args.self.now.entries ++ (c.args.last - t.base, c.args.position) ∷ [])) (sym c.self.view_is) more
