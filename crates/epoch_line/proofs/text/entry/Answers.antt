use Rattle.std.proofs.Common.{sym, ◌∙◌, refl, arith}
use Rattle.tier_base.specs.Number.{number_text}
use Rattle.tier_base.proofs.Digits.{number-unique}
use Rattle.epoch_line.proofs.Spelling.{entry-parts}
use Rattle.epoch_line.proofs.text.entry.Goals as goal

pub returns-in_default-number : goal.returns-in_default-number
returns-in_default-number c x rest fits e =
    let both = number-unique x.0 c.in-Some.epoch 32 (number_text 10 x.1 rest) c.in-Some.rest.now (omega (arith, fits.0)) (omega (arith, c.in-Some.ensures.0)) refl (sym (entry-parts x rest) ∙ (sym e ∙ c.in-Some.ensures.1)) in
    c.in_default-number.ensures x.1 rest fits.1 (sym both.1)
