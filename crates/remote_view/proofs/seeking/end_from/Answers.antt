use Rattle.std.proofs.Common.{rules, nat_le}
use Rattle.std.proofs.lemmas.List.Sorted.{IsPartitionPoint-from_clause, IsPartitionedBy-leb}
use Rattle.remote_view.proofs.Halving.{ends-rise}
use Rattle.remote_view.proofs.Reaching.{parted_ends}
use Rattle.remote_view.proofs.seeking.end_from.Goals as goal

pub returns : goal.returns
returns c =
    let s = c.args.stair.now in
    let at = c.args.at in
    let parted = IsPartitionedBy-leb (λ t. t.to) s at (ends-rise s c.requires) in
    let point = IsPartitionPoint-from_clause (λ t. nat_le t.to at) _ _ c.partition_point-first.ensures.partitioned parted (λ a r q k. search rules) in
    rw (c.end_of_touching.ensures, c.split_at.ensures.back) (parted_ends s at c.partition_point-first.result c.requires c.partition_point-first.ensures.bound point)
