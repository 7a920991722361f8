use Rattle.std.proofs.Common.{◌∙◌, sym}
use Rattle.script_lang.proofs.Splitting.{words_of-skip}
use Rattle.script_lang.proofs.words.skip_blanks.Goals as goal

pub loop-i-preserved : goal.loop-i-preserved
loop-i-preserved c = words_of-skip c.args.bytes.now c.loop-i.i c.loop-i-test.true (sym c.if-not-is_blank.ensures) ∙ c.loop-i.invariant
