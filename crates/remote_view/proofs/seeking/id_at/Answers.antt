use Rattle.std.proofs.Common.{rules, arith, nat_le}
use Rattle.std.proofs.lemmas.List.Sorted.{IsPartitionPoint-from_clause, IsPartitionedBy-leb}
use Rattle.remote_view.proofs.Halving.{ends-rise, nothing_behind, starts_past, holds_it}
use Rattle.remote_view.proofs.seeking.id_at.Goals as goal

pub returns-then-at-stair : goal.returns-then-at-stair
returns-then-at-stair c =
    let s = c.args.stair.now in
    let o = c.args.offset in
    let parted = IsPartitionedBy-leb (λ t. t.to) s o (ends-rise s c.requires) in
    let point = IsPartitionPoint-from_clause (λ t. nat_le t.to o) _ _ c.partition_point-at.ensures.partitioned parted (λ a r q k. search rules) in
    nothing_behind s o c.partition_point-at.result (omega (arith, c.if-at-stair.true)) c.partition_point-at.ensures.bound point

pub returns-then-tread-offset : goal.returns-then-tread-offset
returns-then-tread-offset c =
    let s = c.args.stair.now in
    let o = c.args.offset in
    let parted = IsPartitionedBy-leb (λ t. t.to) s o (ends-rise s c.requires) in
    let point = IsPartitionPoint-from_clause (λ t. nat_le t.to o) _ _ c.partition_point-at.ensures.partitioned parted (λ a r q k. search rules) in
    starts_past s o c.partition_point-at.result c.index-stair-at.result c.requires (omega (arith, c.partition_point-at.ensures.bound, c.if-at-stair.false)) c.index-stair-at.is point c.if-tread-offset.true

pub returns : goal.returns
returns c =
    let s = c.args.stair.now in
    let o = c.args.offset in
    let parted = IsPartitionedBy-leb (λ t. t.to) s o (ends-rise s c.requires) in
    let point = IsPartitionPoint-from_clause (λ t. nat_le t.to o) _ _ c.partition_point-at.ensures.partitioned parted (λ a r q k. search rules) in
    holds_it s o c.partition_point-at.result c.index-stair-at.result c.requires (omega (arith, c.partition_point-at.ensures.bound, c.if-at-stair.false)) c.index-stair-at.is point c.if-tread-offset.false
