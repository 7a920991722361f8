use Rattle.std.proofs.Common.{rules, nat_lt}
use Rattle.std.proofs.lemmas.List.Sorted.{IsPartitionPoint-from_clause, IsPartitionedBy-ltb}
use Rattle.epoch_line.proofs.Rising.{starts-rise}
use Rattle.epoch_line.proofs.Halving.{take-parted}
use Rattle.epoch_line.proofs.entries.count_below.Goals as goal

pub returns-clause-front : goal.returns-clause-front
returns-clause-front c =
    let parted = IsPartitionedBy-ltb (λ e. e.1) c.args.entries.now c.args.end (starts-rise c.args.entries.now c.requires) in
    let point = IsPartitionPoint-from_clause (λ e. nat_lt e.1 c.args.end) _ _ c.partition_point.ensures.partitioned parted (λ a r q k. search rules) in
    take-parted (λ e. nat_lt e.1 c.args.end) c.args.entries.now c.partition_point.result c.partition_point.ensures.bound point
