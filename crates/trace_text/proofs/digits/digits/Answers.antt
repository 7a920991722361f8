use Rattle.std.proofs.Common.{◌∙◌, ap, map, arith, take, w8}
use Rattle.std.proofs.lemmas.List.{take_all, length-take-le}
use Rattle.std.proofs.lemmas.Simd.{chunk-fits}
use Rattle.hex.specs.Hex.{encode_lower}
use Rattle.trace_text.specs.Letters.{letter}
use Rattle.trace_text.proofs.Weaving.{digits_are}
use Rattle.trace_text.proofs.digits.digits.Goals as goal

pub returns : goal.returns
returns c =
    let xs = c.args.bytes.now in
    digits_are c.letters.result c.letters-2.result (take 64 xs) (length-take-le 64 xs (omega (arith, c.requires)))
    (chunk-fits w8 0 64 xs c.type_inv.bytes)
    (c.letters.ensures ∙ ap (map letter) c.uppers.ensures)
    (c.letters-2.ensures ∙ ap (map letter) c.lowers.ensures)
    ∙ ap encode_lower (take_all 64 xs (omega (arith, c.requires)))
