use Rattle.std.proofs.Common.{◌∙◌, ap, List, ℕ, ◌++◌, string_bytes, arith}
use Rattle.load_gen.proofs.Texts.{hex_pushed}
use Rattle.load_gen.proofs.lines.hex_digits.Goals as goal

pub loop-preserved : goal.loop-preserved
loop-preserved c =
    hex_pushed (string_bytes c.loop.text) _ _ _ c.args.count c.loop.counter c.args.byte _ _ (omega arith) c.hex_digit-high.ensures.digit
    c.hex_digit-low.ensures.digit
    (c.in_ok-push.ensures.bytes
    ∙ ap (λ (xs : List ℕ). string_bytes c.loop.text ++ xs) (c.in_ok-push.ensures.ascii c.hex_digit-high.ensures.ascii))
    (c.in_ok-push-2.ensures.bytes
    ∙ ap (λ (xs : List ℕ). string_bytes c.push.new.self ++ xs) (c.in_ok-push-2.ensures.ascii c.hex_digit-low.ensures.ascii))
    c.loop.invariant
