use Rattle.std.proofs.Common.{◌∙◌, ap, sym, subst, ℕ}
use Rattle.sparse_index.specs.Offsets.{OffsetTable, find}
use Rattle.segment_file.specs.Growing.{Grown, BeginsSearch}
use Rattle.segment_file.proofs.Searching.{search_begins}
use Rattle.segment_file.proofs.growing.Growing.find.Goals as goal

pub returns-clause-before : goal.returns-clause-before
returns-clause-before c =
    let inside = c.self.inside in
    let there = ap (λ (p : ℕ × ℕ). p.1) (c.find.ensures ∙ ap (λ (t : OffsetTable). find t c.args.offset) c.self.invariant.indexed) in
    let begins = search_begins inside.base inside.interval c.args.offset inside.batches.items c.self.invariant.laid in
    subst (λ (g : Grown). BeginsSearch g.base g.batches c.args.offset c.find.result.1) c.self.view_is
    (subst (BeginsSearch inside.base inside.batches.items c.args.offset) (sym there) begins)
