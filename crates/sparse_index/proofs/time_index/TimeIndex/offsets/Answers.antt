use Rattle.std.proofs.Common.{sym, ap, ◌∙◌, map}
use Rattle.std.proofs.lemmas.Slice.Zip.{seconds-zip}
use Rattle.sparse_index.specs.Times.{TimeTable}
use Rattle.sparse_index.proofs.time_index.TimeIndex.offsets.Goals as goal

pub returns-clause-offsets : goal.returns-clause-offsets
returns-clause-offsets c =
    let seconds = seconds-zip c.self.inside.times.items c.self.inside.offsets.items (sym c.self.invariant.even) in
    c.as_slice.ensures.value ∙ (sym seconds ∙ ap (λ (t : TimeTable). map (λ e. e.1) t.entries) c.self.view_is)
