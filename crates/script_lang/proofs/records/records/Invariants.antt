use Rattle.std.proofs.Common.{◌≡◌, [], length}
use Rattle.script_lang.specs.Records.{records_in}
use Rattle.script_lang.proofs.records.records.Given as goal

abbrev pub invariant-loop-word : goal.invariant-loop-word
invariant-loop-word l = records_in l.recs l.words ≡ records_in [] l.fn.words

abbrev pub decreases-loop-word : goal.decreases-loop-word
decreases-loop-word l = length l.words
