use Rattle.std.proofs.Common.{◌≡◌, ◌∙◌, sym, ap}
use Rattle.std.specs.Char.{is_ascii_digit}
use Rattle.std.specs.List.{list_all}
use Rattle.tiered_call.specs.Words.{is_shortest}
use Rattle.tiered_call.proofs.Numerals.{reads}
use Rattle.tiered_call.proofs.words.number_of.Goals as goal

pub returns : goal.returns
returns c =
    let bytes : c.as_bytes-digits.result.now ≡ c.args.word.now = c.as_bytes-digits.ensures.value in
    c.ok.ensures.value ∙ reads c.args.word.now c.parse.result c.parse.ensures.value.0
    (ap (list_all is_ascii_digit) (sym bytes) ∙ (sym c.are_digits.ensures ∙ c.if-not-are_digits.false))
    (ap is_shortest (sym bytes) ∙ (sym c.is_shortest.ensures ∙ c.if-not-is_shortest.false))
