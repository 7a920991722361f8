use Rattle.std.proofs.Common.{◌∙◌, sym, ap}
use Rattle.trace_text.specs.Steps.{words_left}
use Rattle.trace_text.proofs.Splitting.{first-word}
use Rattle.trace_text.proofs.words.Words.first.Goals as goal

pub returns : goal.returns
returns c =
    rw (c.split_at.ensures.front, c.behind-self-inside.ensures, c.split_at.ensures.back, c.front_len.ensures.value)
    (first-word c.args.self.now c.in-Some.text.now (sym c.self.view_is ∙ ap words_left c.in-Some.is))
