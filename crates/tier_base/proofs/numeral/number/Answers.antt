use Rattle.std.proofs.Common.{◌≡◌, ◌∙◌, sym, ap, arith, length, List, ℕ, ◌∷◌, true, false}
use Rattle.std.proofs.lemmas.Fmt.{digits_value-decimal}
use Rattle.tier_base.specs.Number.{value_of, is_shortest}
use Rattle.tier_base.proofs.Digits.{own, number-found, number-read, shortest-decimal}
use Rattle.tier_base.proofs.numeral.number.Goals as goal

pub returns-in_default : goal.returns-in_default
returns-in_default c x rest low e =
    let found = number-found x c.args.end c.count_digits.result rest c.args.bytes.now c.split_at.result.0.now c.split_at.result.1.now (omega (arith, low, c.requires.high)) c.requires.end c.count_digits.ensures.value c.split_at.ensures.front c.split_at.ensures.back e in
    let some = ap length found.after in
    omega (arith, some, c.in_default.ensures.cases)

pub returns-then-first-end : goal.returns-then-first-end
returns-then-first-end c x rest low e =
    let found = number-found x c.args.end c.count_digits.result rest c.args.bytes.now c.split_at.result.0.now c.split_at.result.1.now (omega (arith, low, c.requires.high)) c.requires.end c.count_digits.ensures.value c.split_at.ensures.front c.split_at.ensures.back e in
    let same : ◌≡◌ {A = List ℕ} (c.in-Some.first.now ∷ c.in-Some.behind.now) (c.args.end ∷ rest) = sym c.in-Some.ensures.cases.0 ∙ found.after in
    c.if-first-end.true (cc)

pub returns-then-not-is_shortest : goal.returns-then-not-is_shortest
returns-then-not-is_shortest c x rest low e =
    let found = number-found x c.args.end c.count_digits.result rest c.args.bytes.now c.split_at.result.0.now c.split_at.result.1.now (omega (arith, low, c.requires.high)) c.requires.end c.count_digits.ensures.value c.split_at.ensures.front c.split_at.ensures.back e in
    let short : is_shortest c.split_at.result.0.now ≡ true = ap is_shortest found.number ∙ shortest-decimal x (omega (arith, low, c.requires.high)) in
    let not : false ≡ true = c.if-not-is_shortest.ensures ∙ short in
    cc

pub returns-then-number-high : goal.returns-then-number-high
returns-then-number-high c x rest low e =
    let found = number-found x c.args.end c.count_digits.result rest c.args.bytes.now c.split_at.result.0.now c.split_at.result.1.now (omega (arith, low, c.requires.high)) c.requires.end c.count_digits.ensures.value c.split_at.ensures.front c.split_at.ensures.back e in
    let value : value_of 0 c.split_at.result.0.now ≡ x = ap (value_of 0) found.number ∙ digits_value-decimal own x (omega (arith, low, c.requires.high)) in
    omega (arith, value, low, c.value-number.ensures, c.if-number-high.true, c.requires.high)

pub returns : goal.returns
returns c = (
  c.if-number-high.false,
  number-read c.value-number.result c.count_digits.result c.args.end c.in-Some.first.now c.args.bytes.now c.split_at.result.0.now c.split_at.result.1.now c.in-Some.behind.now c.count_digits.ensures.value c.split_at.ensures.front c.split_at.ensures.back c.in-Some.ensures.cases.0 c.if-first-end.false (sym c.if-not-is_shortest.ensures) c.value-number.ensures (omega (arith, c.if-number-high.false, c.requires.high)),
)
