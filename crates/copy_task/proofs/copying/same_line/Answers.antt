use Rattle.std.proofs.Common.{◌∙◌, sym}
use Rattle.std.specs.Cmp.Lexicographic.{pointwise_decides}
use Rattle.copy_task.proofs.Splitting.{pair_decides}
use Rattle.copy_task.proofs.copying.same_line.Goals as goal

pub returns : goal.returns
returns c =
    let decides = pointwise_decides pair_decides c.entries.result.now c.entries-2.result.now in
    λ t. sym c.entries.ensures.entries ∙ (decides.0 (sym c.eq.ensures ∙ t) ∙ c.entries-2.ensures.entries)
