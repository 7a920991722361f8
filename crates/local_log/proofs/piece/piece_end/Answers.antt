use Rattle.std.proofs.Common.{◌∙◌, ap, subst, sym, rules, nat_le, ℕ, List}
use Rattle.std.proofs.lemmas.List.Sorted.{IsPartitionPoint-from_clause, IsPartitionedBy-leb}
use Rattle.epoch_line.specs.Line.{IsLine}
use Rattle.local_log.specs.Reading.{piece_end}
use Rattle.local_log.proofs.PieceEnds.{starts_rise, line_drop, skipped}
use Rattle.local_log.proofs.piece.piece_end.Goals as goal

pub first_edge-requires-clause-line : goal.first_edge-requires-clause-line
first_edge-requires-clause-line c =
    subst IsLine (sym c.split_at.ensures.back) (line_drop c.partition_point-started.result c.args.line.now c.requires.line)

pub returns : goal.returns
returns c =
    let line = c.args.line.now in
    let parted = IsPartitionedBy-leb (λ (e : ℕ × ℕ). e.1) line c.args.offset (starts_rise line c.requires.line) in
    let point = IsPartitionPoint-from_clause (λ (e : ℕ × ℕ). nat_le e.1 c.args.offset) _ _ c.partition_point-started.ensures.partitioned parted (λ a r q k. search rules) in
    c.first_edge.ensures
    ∙ ap (λ (l : List (ℕ × ℕ)). piece_end l c.args.segment.now c.args.offset) c.split_at.ensures.back
    ∙ skipped c.args.segment.now c.args.offset line c.partition_point-started.result point
