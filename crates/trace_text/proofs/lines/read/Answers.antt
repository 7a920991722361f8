use Rattle.std.proofs.Common.{◌∙◌, sym}
use Rattle.trace_text.specs.Steps.{parts_of}
use Rattle.trace_text.proofs.Whole.{bad-unended, bad-unread, bad-early, one-more, some-rest, was-put, was-not-put}
use Rattle.trace_text.proofs.lines.read.Goals as goal

pub returns-in_default : goal.returns-in_default
returns-in_default c =
    let i = c.loop-rest.invariant in
    bad-unended c.args.bytes.now c.loop-rest.rest.now c.loop-rest.number (parts_of c.loop-rest.parts)
    (record { are = i.are; text = i.text; count = i.number }) (some-rest c.loop-rest.rest.now (sym c.loop-rest-test.ensures)) c.in_default.ensures

pub returns-in_default-2 : goal.returns-in_default-2
returns-in_default-2 c =
    let i = c.loop-rest.invariant in
    bad-unread c.args.bytes.now c.loop-rest.rest.now c.loop-rest.number (parts_of c.loop-rest.parts) c.in-Some.text.now c.in-Some.behind.now
    (record { are = i.are; text = i.text; count = i.number }) c.in-Some.ensures.0 c.in-Some.ensures.1 (sym c.in_ok-line.ensures ∙ c.in_default-2.is)

pub returns-then-not-branch : goal.returns-then-not-branch
returns-then-not-branch c =
    let i = c.loop-rest.invariant in
    bad-early c.args.bytes.now c.loop-rest.rest.now c.loop-rest.number (parts_of c.loop-rest.parts) c.in-Some.text.now c.in-Some.behind.now c.in-Some-2.line
    (record { are = i.are; text = i.text; count = i.number }) c.in-Some.ensures.0 c.in-Some.ensures.1 (sym c.in_ok-line.ensures ∙ c.in-Some-2.is)
    (was-not-put c.loop-rest.parts c.put.new.self c.in-Some-2.line c.in_ok-put.field-0 c.if-not-branch.true c.in_ok-put.ensures)

pub loop-rest-preserved : goal.loop-rest-preserved
loop-rest-preserved c =
    let i = c.loop-rest.invariant in
    let put = was-put c.loop-rest.parts c.put.new.self c.in-Some-2.line c.in_ok-put.field-0 c.if-not-branch.false c.in_ok-put.ensures in
    let next = one-more c.args.bytes.now c.loop-rest.rest.now c.loop-rest.number c.saturating_add-number.result c.loop-rest.parts c.put.new.self c.in-Some.text.now c.in-Some.behind.now c.in-Some-2.line
    (record { are = i.are; text = i.text; count = i.number }) c.in-Some.ensures.1 (sym c.in_ok-line.ensures ∙ c.in-Some-2.is) put c.saturating_add-number.ensures in
    record { begun = put.begun; are = next.are; text = next.text; number = next.count }
