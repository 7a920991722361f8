use Rattle.device_yard.proofs.Sets.{rise_taken}
use Rattle.device_yard.proofs.partition_set.PartitionSet.to_row.Goals as goal

pub returns-clause-rise : goal.returns-clause-rise
returns-clause-rise c =
    rise_taken c.args.self.now c.self.inside.found.keys c.loop-partition.row c.loop-partition.partition-iterator c.self.view_is c.loop-partition.invariant
    c.into_iter-partition-iterator.ensures.into_iter_gives.4
