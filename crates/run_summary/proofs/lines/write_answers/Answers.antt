use Rattle.std.proofs.Common.{◌≡◌, ◌++◌}
use Rattle.std.specs.Prelude.{string_bytes}
use Rattle.load_gen.specs.Summary.{answer_line}
use Rattle.run_summary.proofs.Pieces.{on_at}
use Rattle.run_summary.proofs.lines.write_answers.Goals as goal

pub loop-word-preserved : goal.loop-word-preserved
loop-word-preserved c =
    let w = c.word-item.result in
    let more : string_bytes c.write_answer.new.text ≡ string_bytes c.loop-word.text ++ answer_line c.args.answers.now c.args.command.now w =
    cc (c.in_ok-write_answer.ensures, c.word.view_is) in
    on_at (answer_line c.args.answers.now c.args.command.now) (string_bytes c.args.text.now) (string_bytes c.loop-word.text) (string_bytes c.write_answer.new.text)
    c.as_slice-word-items.result.now c.loop-word.word-index w c.loop-word-test.true c.word-item.is c.loop-word.invariant more
