use Rattle.std.proofs.Common.{rules, nat_le, arith}
use Rattle.std.proofs.lemmas.List.Sorted.{IsPartitionPoint-from_clause, IsPartitionedBy-leb}
use Rattle.disk_model.proofs.Joined.{ends-rise, passed_at}
use Rattle.disk_model.proofs.pieces.count_passed.Goals as goal

pub returns : goal.returns
returns c =
    let parted = IsPartitionedBy-leb (λ p. p.end) c.args.pieces.now c.args.at (ends-rise c.args.pieces.now c.requires) in
    let point = IsPartitionPoint-from_clause (λ p. nat_le p.end c.args.at) _ _ c.partition_point.ensures.partitioned parted (λ a r q k. search rules) in
    let found = passed_at 0 c.args.at c.args.pieces.now c.partition_point.result c.requires (omega arith) c.partition_point.ensures.bound point in
    record {
      within = c.partition_point.ensures.bound;
      passed = omega (arith, found.0);
      next = λ lt. omega (arith, found.1 lt);
    }
