use Rattle.std.proofs.Common.{sym, ap, ◌∙◌, map}
use Rattle.std.proofs.lemmas.Slice.Zip.{firsts-zip}
use Rattle.sparse_index.specs.Offsets.{OffsetTable}
use Rattle.sparse_index.proofs.offset_index.OffsetIndex.offsets.Goals as goal

pub returns-clause-offsets : goal.returns-clause-offsets
returns-clause-offsets c =
    let firsts = firsts-zip c.self.inside.offsets.items c.self.inside.positions.items (sym c.self.invariant.even) in
    c.as_slice.ensures.value ∙ (sym firsts ∙ ap (λ (t : OffsetTable). map (λ e. e.0) t.entries) c.self.view_is)
