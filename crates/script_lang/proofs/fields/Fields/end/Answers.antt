use Rattle.std.proofs.Common.{◌∙◌, sym, ap}
use Rattle.script_lang.specs.Reading.{parts_left}
use Rattle.script_lang.proofs.Splitting.{end-part}
use Rattle.script_lang.proofs.fields.Fields.end.Goals as goal

pub returns-in-Some : goal.returns-in-Some
returns-in-Some c = sym (end-part c.args.self.now c.self.inside.separator c.in-Some.field-0.now c.args.why (sym c.self.view_is ∙ ap (parts_left c.self.inside.separator) c.in-Some.is))
