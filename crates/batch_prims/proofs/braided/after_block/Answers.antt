use Rattle.batch_prims.proofs.Braiding.{moved-on}
use Rattle.batch_prims.proofs.braided.after_block.Goals as goal

pub returns : goal.returns
returns c = λ crc stand.
    rw (c.on_by_four.ensures, c.on_by_four-2.ensures, c.on_by_four-3.ensures, c.on_by_four-4.ensures)
    (moved-on _ _ _ _ _ (c.with_words-words.ensures crc stand))
