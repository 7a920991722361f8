use Rattle.batch_prims.proofs.Taking.{both-words}
use Rattle.std.proofs.lemmas.List.{take_rest}
use Rattle.batch_prims.proofs.sliced.after_sixteen.Goals as goal

pub returns : goal.returns
returns c =
    rw (c.far.ensures, c.near.ensures)
    (both-words c.args.crc _ _ c.args.bytes.now _ (take_rest c.args.bytes.now 8) c.word_of-first.ensures c.word_of-second.ensures)
