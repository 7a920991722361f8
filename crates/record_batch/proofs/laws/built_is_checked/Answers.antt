use Rattle.record_batch.proofs.BuiltChecked.{placed_checked}
use Rattle.record_batch.proofs.laws.built_is_checked.Goals as goal

pub returns : goal.returns
returns c =
    placed_checked (record {
      varint = c.what_is_written_is_read_again.ensures.varint;
      varlong = c.what_is_written_is_read_again.ensures.varlong;
      width = c.zigzag_keeps_the_width.ensures.varlong;
    })
