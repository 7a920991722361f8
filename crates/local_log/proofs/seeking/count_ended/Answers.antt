use Rattle.std.proofs.Common.{rules, nat_le}
use Rattle.std.proofs.lemmas.List.Sorted.{IsPartitionPoint-from_clause, IsPartitionedBy-leb}
use Rattle.local_log.specs.Stored.{end_of}
use Rattle.local_log.proofs.Halving.{ends-rise, count_ending}
use Rattle.local_log.proofs.seeking.count_ended.Goals as goal

pub returns : goal.returns
returns c =
    let parted = IsPartitionedBy-leb end_of c.args.closed.now c.args.end (ends-rise c.args.local_start c.args.closed.now c.args.active.now c.requires.chained c.requires.laid) in
    let point = IsPartitionPoint-from_clause (λ g. nat_le (end_of g) c.args.end) _ _ c.partition_point.ensures.partitioned parted (λ a r q k. search rules) in
    count_ending c.args.end c.args.closed.now c.partition_point.result c.partition_point.ensures.bound point
