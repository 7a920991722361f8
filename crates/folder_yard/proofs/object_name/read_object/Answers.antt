use Rattle.std.proofs.Common.{arith}
use Rattle.folder_yard.proofs.OurNames.{object-long, object-id, object-part}
use Rattle.folder_yard.proofs.object_name.read_object.Goals as goal

pub returns-then-text-lt-ID_LETTERS : goal.returns-then-text-lt-ID_LETTERS
returns-then-text-lt-ID_LETTERS c id part is e = omega (arith, object-long id part c.args.text.now e, c.if-text-lt-ID_LETTERS.true)

pub returns-in_default : goal.returns-in_default
returns-in_default c id part is e = c.in_default.ensures id is (object-id id part c.args.text.now c.split_at.result.0.now e c.split_at.ensures.front)

pub returns-in_default-part_of : goal.returns-in_default-part_of
returns-in_default-part_of c id part is e = c.in_default-part_of.ensures part (object-part id part c.args.text.now c.split_at.result.1.now e c.split_at.ensures.back)
