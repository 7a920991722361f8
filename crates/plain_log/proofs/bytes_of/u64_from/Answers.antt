use Rattle.log_terms.specs.Batch.{field_at}
use Rattle.plain_log.proofs.Fields.{eight_at}
use Rattle.plain_log.proofs.bytes_of.u64_from.Goals as goal

pub returns : goal.returns
unfolding field_at
returns c =
    let e = eight_at c.args.bytes.now c.args.at in
    rw e (cc)
