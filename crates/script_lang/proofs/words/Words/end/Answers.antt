use Rattle.std.proofs.Common.{◌∙◌, sym}
use Rattle.script_lang.proofs.Splitting.{end-none, end-word}
use Rattle.script_lang.proofs.words.Words.end.Goals as goal

pub returns-then-is_empty : goal.returns-then-is_empty
returns-then-is_empty c = sym (end-none c.args.self.now c.self.inside.rest.now c.skip_blanks-rest.result.now c.args.why (sym c.self.view_is) c.skip_blanks-rest.ensures.same (sym c.is_empty.ensures ∙ c.if-is_empty.true))

pub returns-else-is_empty : goal.returns-else-is_empty
returns-else-is_empty c = sym (end-word c.args.self.now c.self.inside.rest.now c.skip_blanks-rest.result.now c.args.why (sym c.self.view_is) c.skip_blanks-rest.ensures.same (sym c.is_empty.ensures ∙ c.if-is_empty.false) c.skip_blanks-rest.ensures.word)
