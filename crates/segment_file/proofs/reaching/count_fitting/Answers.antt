use Rattle.std.proofs.Common.{rules}
use Rattle.std.proofs.lemmas.List.Sorted.{IsPartitionPoint-from_clause}
use Rattle.segment_file.proofs.Fitting.{fits, fits-parted, front_fitting}
use Rattle.segment_file.proofs.reaching.count_fitting.Goals as goal

pub returns-clause-front : goal.returns-clause-front
returns-clause-front c =
    let parted = fits-parted c.args.end c.args.at c.args.bound c.args.top c.args.batches.now c.requires in
    let point = IsPartitionPoint-from_clause (fits c.args.bound c.args.top) _ _ c.partition_point.ensures.partitioned parted (λ a r q k. search rules) in
    front_fitting c.args.bound c.args.top c.args.batches.now c.partition_point.result c.partition_point.ensures.bound point
