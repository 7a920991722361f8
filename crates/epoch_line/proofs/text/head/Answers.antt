use Rattle.epoch_line.proofs.Refusing.{bad-version, bad-count, version-read, head-read}
use Rattle.epoch_line.proofs.text.head.Goals as goal

pub returns-in_default : goal.returns-in_default
returns-in_default c = bad-version c.args.bytes.now c.in_default.ensures

pub returns-in_default-number : goal.returns-in_default-number
returns-in_default-number c = bad-count c.args.bytes.now c.in-Some.rest.now (version-read c.in-Some.field-0-0 c.args.bytes.now c.in-Some.rest.now c.in-Some.ensures.0 c.in-Some.ensures.1) c.in_default-number.ensures

pub returns : goal.returns
returns c = (
  c.in-Some-number.ensures.0,
  head-read c.in-Some-number.count c.args.bytes.now c.in-Some.rest.now c.in-Some-number.rest.now (version-read c.in-Some.field-0-0 c.args.bytes.now c.in-Some.rest.now c.in-Some.ensures.0 c.in-Some.ensures.1) c.in-Some-number.ensures.1,
)
