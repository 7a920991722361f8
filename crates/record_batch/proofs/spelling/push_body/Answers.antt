use Rattle.std.proofs.Common.{arith}
use Rattle.record_batch.specs.Build.{delta_of}
use Rattle.record_batch.proofs.Counts.{body_few}
use Rattle.record_batch.proofs.spelling.push_body.Goals as goal

pub push_header_list-requires-clause-few : goal.push_header_list-requires-clause-few
push_header_list-requires-clause-few c =
    rw c.as_slice.ensures (omega (arith, body_few (delta_of c.args.base_ts c.args.number c.args.rec.now), c.requires.size))
