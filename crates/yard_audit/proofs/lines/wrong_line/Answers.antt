use Rattle.std.proofs.Common.{◌≡◌, ◌∙◌, sym, ap, ℕ, List, ◌++◌, codes, decimal, append_assoc}
use Rattle.tier_base.specs.Key.{key_text}
use Rattle.yard_audit.proofs.lines.wrong_line.Goals as goal

pub returns : goal.returns
returns c =
    let d = decimal c.args.partition.0 in
    let k = codes " unsound " ++ (codes "Wrong" ++ (codes " " ++ key_text c.args.key)) in
    let r = codes " " ++ (decimal c.args.at ++ codes "\n") in
    let front : c.in_ok-line.line.items ≡ d ++ k = c.in_ok-line.ensures in
    let place : c.as_slice.result.now ≡ r = cc (c.in_ok-place.ensures) in
    let all : c.extend_from_slice.new.self.items ≡ c.in_ok-line.line.items ++ c.as_slice.result.now = c.in_ok-extend_from_slice.ensures.items in
    all
    ∙ ap (λ (l : List ℕ). l ++ c.as_slice.result.now) front
    ∙ ap (λ (l : List ℕ). (d ++ k) ++ l) place
    ∙ append_assoc d k r
    ∙ ap (λ (l : List ℕ). d ++ (codes " unsound Wrong " ++ l)) (sym (append_assoc (key_text c.args.key) (codes " " ++ decimal c.args.at) (codes "\n")))
