use Rattle.std.proofs.lemmas.List.{take_rest}
use Rattle.batch_prims.proofs.Braiding.{block-joined}
use Rattle.batch_prims.proofs.braided.with_words.Goals as goal

pub returns : goal.returns
returns c = λ crc stand.
    block-joined c.args.braid.first c.args.braid.second c.args.braid.third c.args.braid.fourth crc _ _ _ _ c.args.block.now _ _ _ stand
    c.word_of.ensures
    c.word_of-2.ensures
    c.word_of-3.ensures
    c.word_of-4.ensures
    (take_rest c.args.block.now 4)
    (take_rest _ 4)
    (take_rest _ 4)
