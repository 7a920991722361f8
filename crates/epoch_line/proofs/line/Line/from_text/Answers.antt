use Rattle.std.proofs.Common.{◌≡◌, arith, ap, ◌∙◌, length, ◌+◌}
use Rattle.std.proofs.lemmas.List.{length_push}
use Rattle.epoch_line.proofs.Refusing.{bad-at, begins-more, some-rest}
use Rattle.epoch_line.proofs.line.Line.from_text.Goals as goal

pub returns-in_default : goal.returns-in_default
returns-in_default c =
    let read = c.loop-number.invariant.number in
    bad-at c.args.bytes.now c.in_ok-count.count c.loop-number.number c.loop-number.line c.loop-number.rest.now c.loop-number.invariant.begins
    (record { none = λ entry more line within e. c.in_default.ensures entry more line e; full = λ all e. omega (arith, all, read, c.loop-number-test.true) })
    read

pub loop-number-preserved : goal.loop-number-preserved
loop-number-preserved c =
    let read = c.loop-number.invariant.number in
    let within = c.loop-number-test.true in
    let more = begins-more c.args.bytes.now c.in_ok-count.count c.loop-number.line c.loop-number.rest.now c.in-Some.entry c.in-Some.behind.now c.loop-number.invariant.begins (omega (arith, read, within)) c.in-Some.ensures.0 c.in-Some.ensures.1 in
    record {
      begins = rw (c.in-Ok.ensures.ok) more;
      number = ap length c.in-Ok.ensures.ok ∙ (length_push c.loop-number.line c.in-Some.entry ∙ ap (λ n. n + 1) read);
    }

pub returns-then-not-is_empty : goal.returns-then-not-is_empty
returns-then-not-is_empty c =
    let read = c.loop-number.invariant.number in
    let all : length c.loop-number.line ≡ c.in_ok-count.count = omega (arith, read, c.loop-number-test.false, c.loop-number.auto.number-end) in
    bad-at c.args.bytes.now c.in_ok-count.count c.in_ok-count.count c.loop-number.line c.loop-number.rest.now c.loop-number.invariant.begins
    (record { none = λ entry more line within e. omega (arith, all, within); full = λ many. some-rest c.loop-number.rest.now c.if-not-is_empty.ensures })
    all
