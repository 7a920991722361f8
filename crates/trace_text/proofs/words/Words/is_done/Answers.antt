use Rattle.std.proofs.Common.{◌∙◌, sym, ap}
use Rattle.trace_text.specs.Steps.{words_left}
use Rattle.trace_text.proofs.Splitting.{not-done}
use Rattle.trace_text.proofs.words.Words.is_done.Goals as goal

pub returns-in-Some : goal.returns-in-Some
returns-in-Some c = sym (not-done c.args.self.now c.in-Some.field-0.now (sym c.self.view_is ∙ ap words_left c.in-Some.is))
