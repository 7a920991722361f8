use Rattle.std.proofs.Common.{rules, nat_lt}
use Rattle.std.proofs.lemmas.List.Sorted.{IsPartitionPoint-from_clause, IsPartitionedBy-ltb}
use Rattle.segment_file.proofs.Laying.{lasts-rise, front_ending}
use Rattle.segment_file.proofs.growing.count_ending.Goals as goal

pub returns-clause-front : goal.returns-clause-front
returns-clause-front c =
    let parted = IsPartitionedBy-ltb (λ b. b.last) c.args.batches.now c.args.end (lasts-rise c.args.base 0 c.args.batches.now c.requires) in
    let point = IsPartitionPoint-from_clause (λ b. nat_lt b.last c.args.end) _ _ c.partition_point.ensures.partitioned parted (λ a r q k. search rules) in
    front_ending c.args.end c.args.batches.now c.partition_point.result c.partition_point.ensures.bound point
