use Rattle.std.proofs.Common.{◌∙◌, sym}
use Rattle.run_summary.proofs.Order.{ends_before}
use Rattle.run_summary.proofs.words.is_before.Goals as goal

pub returns-then-i-word : goal.returns-then-i-word
returns-then-i-word c =
    sym (ends_before c.args.word.now c.args.other.now c.loop-i.i c.if-i-word.true c.loop-i-test.true) ∙ c.loop-i.invariant.rest
