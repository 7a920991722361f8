use Rattle.record_batch.proofs.StampLaws.{stamped-put}
use Rattle.record_batch.proofs.stamping.stamp.Goals as goal

pub returns : goal.returns
returns c =
    rw (c.copy_from_slice-2.ensures.after, c.as_slice-2.ensures, c.to_be_bytes-2.ensures, c.copy_from_slice.ensures.after, c.as_slice.ensures, c.to_be_bytes.ensures)
    (stamped-put c.args.batch.now c.args.base c.args.epoch)
