use Rattle.std.proofs.Common.{rules, nat_le, nat_lt}
use Rattle.std.proofs.lemmas.List.Sorted.{IsPartitionPoint-from_clause, IsPartitionedBy-leb}
use Rattle.epoch_line.proofs.Rising.{starts-rise}
use Rattle.epoch_line.proofs.Halving.{take-parted, drop-parted, not_le}
use Rattle.epoch_line.proofs.entries.count_up_to.Goals as goal

pub returns-clause-front : goal.returns-clause-front
returns-clause-front c =
    let parted = IsPartitionedBy-leb (λ e. e.1) c.args.entries.now c.args.offset (starts-rise c.args.entries.now c.requires) in
    let point = IsPartitionPoint-from_clause (λ e. nat_le e.1 c.args.offset) _ _ c.partition_point.ensures.partitioned parted (λ a r q k. search rules) in
    take-parted (λ e. nat_le e.1 c.args.offset) c.args.entries.now c.partition_point.result c.partition_point.ensures.bound point

pub returns-clause-back : goal.returns-clause-back
returns-clause-back c =
    let parted = IsPartitionedBy-leb (λ e. e.1) c.args.entries.now c.args.offset (starts-rise c.args.entries.now c.requires) in
    let point = IsPartitionPoint-from_clause (λ e. nat_le e.1 c.args.offset) _ _ c.partition_point.ensures.partitioned parted (λ a r q k. search rules) in
    drop-parted (λ e. nat_le e.1 c.args.offset) (λ e. nat_lt c.args.offset e.1) c.args.entries.now c.partition_point.result (λ e. not_le c.args.offset e.1) c.partition_point.ensures.bound point
