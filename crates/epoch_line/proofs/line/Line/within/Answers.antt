use Rattle.std.proofs.Common.{ap, ◌∙◌}
use Rattle.log_terms.specs.Line.{epoch_at}
use Rattle.epoch_line.specs.Line.{IsLine}
use Rattle.epoch_line.proofs.Parts.{IsLine-within}
use Rattle.epoch_line.proofs.Segment.{epoch_at-within}
use Rattle.epoch_line.proofs.line.Line.within.Goals as goal

pub invariant_of-result : goal.invariant_of-result
invariant_of-result c =
    rw (c.in_ok-pairs.ensures) (IsLine-within c.entries.result.now c.args.base c.args.last (rw (c.entries.ensures.entries) (c.entries.ensures.line)) c.requires)

pub returns-clause-same : goal.returns-clause-same
returns-clause-same c offset low high =
    let line : IsLine c.entries.result.now = (rw (c.entries.ensures.entries) (c.entries.ensures.line)) in
    ap (λ xs. epoch_at xs offset) c.in_ok-pairs.ensures
    ∙ (epoch_at-within c.entries.result.now c.args.base c.args.last offset line c.requires low high ∙ ap (λ xs. epoch_at xs offset) c.entries.ensures.entries)
