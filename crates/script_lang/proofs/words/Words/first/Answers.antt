use Rattle.std.proofs.Common.{◌∙◌, sym}
use Rattle.script_lang.proofs.Splitting.{first-none, first_word}
use Rattle.script_lang.proofs.words.Words.first.Goals as goal

pub returns-then-is_empty : goal.returns-then-is_empty
returns-then-is_empty c = sym (first-none c.args.self.now c.self.inside.rest.now c.skip_blanks-rest.result.now c.args.why (sym c.self.view_is) c.skip_blanks-rest.ensures.same (sym c.is_empty.ensures ∙ c.if-is_empty.true))

pub returns : goal.returns
returns c = rw (c.split_at.ensures.front, c.split_at.ensures.back, c.word_len.ensures.value) (sym (first_word c.args.self.now c.self.inside.rest.now c.skip_blanks-rest.result.now c.args.why (sym c.self.view_is) c.skip_blanks-rest.ensures.same (sym c.is_empty.ensures ∙ c.if-is_empty.false) c.skip_blanks-rest.ensures.word))
