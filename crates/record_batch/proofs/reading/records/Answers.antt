use Rattle.std.proofs.Common.{arith}
use Rattle.record_batch.proofs.Passing.{checked_long, checked_read, all_read_is_checked}
use Rattle.record_batch.proofs.reading.records.Goals as goal

pub fields_of-head-requires : goal.fields_of-head-requires
fields_of-head-requires c = checked_long c.args.batch.now c.requires

pub u32_at-count-requires : goal.u32_at-count-requires
u32_at-count-requires c = omega (arith, checked_long c.args.batch.now c.requires)

pub split_at-requires : goal.split_at-requires
split_at-requires c = checked_long c.args.batch.now c.requires

pub records_of-requires : goal.records_of-requires
records_of-requires c =
    rw (c.fields_of-head.ensures, c.u32_at-count.ensures, c.split_at.ensures.back) (checked_read c.args.batch.now c.requires)

pub returns : goal.returns
returns c =
    all_read_is_checked c.args.batch.now c.in_ok-recs.recs.items c.requires
    (rw (c.fields_of-head.ensures, c.u32_at-count.ensures, c.split_at.ensures.back) at c.in_ok-recs.ensures)
