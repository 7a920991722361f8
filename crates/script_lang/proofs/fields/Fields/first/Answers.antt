use Rattle.std.proofs.Common.{◌∙◌, sym, ap}
use Rattle.script_lang.specs.Reading.{parts_left}
use Rattle.script_lang.proofs.Splitting.{first_part}
use Rattle.script_lang.proofs.fields.Fields.first.Goals as goal

pub returns : goal.returns
returns c = rw (c.split_at.ensures.front, c.behind-self-inside.ensures c.self.inside.separator, c.split_at.ensures.back, c.part_len.ensures.value) (sym (first_part c.args.self.now c.self.inside.separator c.in-Some.bytes.now c.args.why (sym c.self.view_is ∙ ap (parts_left c.self.inside.separator) c.in-Some.is)))
