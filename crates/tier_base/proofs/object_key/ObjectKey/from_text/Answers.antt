use Rattle.std.proofs.Common.{arith}
use Rattle.tier_base.proofs.Keys.{key-behind, key-long, key-id, key-part}
use Rattle.tier_base.proofs.object_key.ObjectKey.from_text.Goals as goal

pub returns-then-rest-lt36 : goal.returns-then-rest-lt36
returns-then-rest-lt36 c key is e =
    let behind = key-behind key c.in-Some.partition c.in-Some.rest.now c.args.text.now is e c.in-Some.ensures.0 c.in-Some.ensures.1 in
    omega (arith, key-long key c.in-Some.rest.now behind.1, c.if-rest-lt36.true)

pub returns-in_default-from_text : goal.returns-in_default-from_text
returns-in_default-from_text c key is e =
    let behind = key-behind key c.in-Some.partition c.in-Some.rest.now c.args.text.now is e c.in-Some.ensures.0 c.in-Some.ensures.1 in
    c.in_default-from_text.ensures key.id is.id (key-id key c.in-Some.rest.now c.split_at.result.0.now behind.1 c.split_at.ensures.front)

pub returns-in_default-part_of : goal.returns-in_default-part_of
returns-in_default-part_of c key is e =
    let behind = key-behind key c.in-Some.partition c.in-Some.rest.now c.args.text.now is e c.in-Some.ensures.0 c.in-Some.ensures.1 in
    c.in_default-part_of.ensures key.part (key-part key c.in-Some.rest.now c.split_at.result.1.now behind.1 c.split_at.ensures.back)
