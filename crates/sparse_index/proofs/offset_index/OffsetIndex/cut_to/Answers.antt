use Rattle.std.proofs.Common.{◌≡◌, ◌≤◌, ◌∙◌, ap, nat_lt, length}
use Rattle.std.specs.Prelude.{count_by}
use Rattle.sparse_index.specs.Offsets.{OffsetTable, cut_to}
use Rattle.sparse_index.proofs.OffsetLaws.{positions-parted, columns-cut, table-cut}
use Rattle.sparse_index.proofs.offset_index.OffsetIndex.cut_to.Goals as goal

pub positions_before-kept-requires : goal.positions_before-kept-requires
positions_before-kept-requires c =
    rw c.as_slice.ensures.value
    (positions-parted c.args.position c.self.inside.offsets.items c.self.inside.positions.items c.self.invariant.even c.self.invariant.entries)

pub invariant_of-self : goal.invariant_of-self
invariant_of-self c =
    let within : c.positions_before-kept.result ≤ length c.self.inside.positions.items = rw c.as_slice.ensures.value at c.positions_before-kept.ensures.within in
    rw (c.truncate.ensures.items, c.truncate-2.ensures.items)
    (columns-cut c.self.inside.base c.positions_before-kept.result c.self.inside.offsets.items c.self.inside.positions.items within c.self.invariant)

pub returns : goal.returns
returns c =
    let kept = c.positions_before-kept.result in
    let count : kept ≡ count_by (λ item. nat_lt item c.args.position) c.self.inside.positions.items =
    rw c.as_slice.ensures.value at c.positions_before-kept.ensures.count in
    rw (c.truncate.ensures.items, c.truncate-2.ensures.items)
    (table-cut c.self.inside.base kept c.args.position c.self.inside.offsets.items c.self.inside.positions.items count c.self.invariant
    ∙ ap (λ (t : OffsetTable). cut_to t c.args.position) c.self.view_is)
