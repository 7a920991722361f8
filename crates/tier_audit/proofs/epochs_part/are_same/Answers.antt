use Rattle.std.proofs.Common.{◌∙◌, sym}
use Rattle.std.specs.Cmp.Lexicographic.{pointwise_decides}
use Rattle.tier_audit.proofs.Texts.{pair_decides}
use Rattle.tier_audit.proofs.epochs_part.are_same.Goals as goal

pub returns : goal.returns
returns c =
    let decides = pointwise_decides pair_decides c.args.one.now c.args.other.now in
    (λ t. decides.0 (sym c.eq.ensures ∙ t), λ e. c.eq.ensures ∙ decides.1 e)
