use Rattle.std.proofs.Common.{◌<◌, length, arith}
use Rattle.std.proofs.lemmas.Option.{slice_get-get_or}
use Rattle.memory_yard.proofs.Without.{passed_either, passed_all}
use Rattle.memory_yard.proofs.first.without.Goals as goal

pub loop-partition-preserved : goal.loop-partition-preserved
loop-partition-preserved c =
    let list = c.args.partitions.now in
    let i = c.loop-partition.partition-index in
    let below : i < length list = omega arith in
    passed_either list c.args.others.now _ _ i _ (slice_get-get_or list i _ below) c.in_ok-push_unless.ensures c.loop-partition.invariant

pub returns : goal.returns
returns c = passed_all c.args.partitions.now c.args.others.now _ c.loop-partition.partition-index c.loop-partition-test.false c.loop-partition.invariant
