use Rattle.std.proofs.Common.{All}
use Rattle.script_help.specs.Asked.{CanBeCompleted, then_word}
use Rattle.script_help.proofs.wanted.with_words.Given as goal

abbrev pub invariant-loop-word : goal.invariant-loop-word
invariant-loop-word l = All (λ word. CanBeCompleted (then_word l.head word.now)) l.words.items
