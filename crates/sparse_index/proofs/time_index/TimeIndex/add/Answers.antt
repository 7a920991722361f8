use Rattle.std.proofs.Common.{sym, subst, ◌≡◌, OnOk, ◌++◌, ◌∷◌, []}
use Rattle.sparse_index.specs.Times.{TimeTable, AreMoments, FitsMoment, RisesInTime, with_moment}
use Rattle.sparse_index.specs.Times.{time_table}
use Rattle.std.proofs.lemmas.Int.{to_z-of_z}
use mir.Syntax.{w64}
use Rattle.sparse_index.proofs.Chains.{chain-last}
use Rattle.sparse_index.proofs.TimeLaws.{columns-pushed, table-pushed}
use Rattle.sparse_index.proofs.time_index.TimeIndex.add.Goals as goal

pub invariant_of-self : goal.invariant_of-self
invariant_of-self c =
    let fits = (chain-last FitsMoment RisesInTime c.args.self.now.entries c.args.entry c.requires).0.0 in
    columns-pushed c.push_both.result c.self.inside.base c.self.inside.times.items c.push_both.new.first.items c.self.inside.offsets.items c.push_both.new.second.items c.args.entry.0 c.args.entry.1
    c.self.invariant (subst (λ (t : TimeTable). AreMoments (t.entries ++ c.args.entry ∷ [])) (sym c.self.view_is) c.requires) (rw (to_z-of_z w64 c.args.entry.0 fits) at c.push_both.ensures.first) c.push_both.ensures.second c.push_both.ensures.first_kept c.push_both.ensures.second_kept

pub returns-clause-ok : goal.returns-clause-ok
returns-clause-ok c =
    let fits = (chain-last FitsMoment RisesInTime c.args.self.now.entries c.args.entry c.requires).0.0 in
    subst (λ (t : TimeTable). OnOk c.push_both.result (time_table c.self.inside.base c.push_both.new.first.items c.push_both.new.second.items ≡ with_moment t c.args.entry)) c.self.view_is
    (table-pushed c.push_both.result c.self.inside.base c.self.inside.times.items c.push_both.new.first.items c.self.inside.offsets.items c.push_both.new.second.items c.args.entry.0 c.args.entry.1 c.self.invariant.even (rw (to_z-of_z w64 c.args.entry.0 fits) at c.push_both.ensures.first) c.push_both.ensures.second)
