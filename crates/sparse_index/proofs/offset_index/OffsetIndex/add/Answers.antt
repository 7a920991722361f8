use Rattle.std.proofs.Common.{sym, subst, ◌≡◌, OnOk, ◌++◌, ◌∷◌, []}
use Rattle.sparse_index.specs.Offsets.{OffsetTable, AreOffsets, with_entry}
use Rattle.sparse_index.specs.Columns.{table}
use Rattle.sparse_index.proofs.OffsetLaws.{columns-pushed, table-pushed}
use Rattle.sparse_index.proofs.offset_index.OffsetIndex.add.Goals as goal

pub invariant_of-self : goal.invariant_of-self
invariant_of-self c =
    columns-pushed c.push_both.result c.self.inside.base c.self.inside.offsets.items c.self.inside.positions.items c.push_both.new.first.items c.push_both.new.second.items c.args.entry.0 c.args.entry.1
    c.self.invariant (subst (λ (t : OffsetTable). AreOffsets (t.entries ++ c.args.entry ∷ [])) (sym c.self.view_is) c.requires) c.push_both.ensures.first c.push_both.ensures.second c.push_both.ensures.first_kept c.push_both.ensures.second_kept

pub returns-clause-ok : goal.returns-clause-ok
returns-clause-ok c =
    subst (λ (t : OffsetTable). OnOk c.push_both.result (table c.self.inside.base c.push_both.new.first.items c.push_both.new.second.items ≡ with_entry t c.args.entry)) c.self.view_is
    (table-pushed c.push_both.result c.self.inside.base c.self.inside.offsets.items c.self.inside.positions.items c.push_both.new.first.items c.push_both.new.second.items c.args.entry.0 c.args.entry.1 c.self.invariant.even c.push_both.ensures.first c.push_both.ensures.second)
