use Rattle.std.proofs.Common.{◌+◌, ◌∙◌, ap, sym}
use Rattle.epoch_line.specs.Line.{cut_end}
use Rattle.epoch_line.specs.Text.{text_of}
use Rattle.segment_bundle.specs.Parts.{parts_of}
use Rattle.segment_bundle.proofs.Bundling.{parts_made, parts_read, is_bundle}
use Rattle.segment_bundle.proofs.bundle.Bundle.of.Goals as goal

pub invariant_of-result-2 : goal.invariant_of-result-2
invariant_of-result-2 c =
    let segment = c.args.closed.now in
    let w = c.bytes.ensures.whole in
    let source = c.source.view_is ∙ (c.in_ok-source.ensures ∙ c.bytes.ensures.bytes) in
    let epochs = c.in_ok-epochs.ensures.ok ∙ (c.in_ok-epoch_text.ensures ∙ ap (λ n. text_of (cut_end c.args.line.now (n + 1))) c.last.ensures) in
    let parts = parts_made segment c.args.line.now c.args.interval c.in_ok-offsets.offsets c.in_ok-offsets.moments _ c.in_ok-index.index c.in_ok-times.times c.in_ok-epochs.epochs
    w c.in_ok-offsets.ensures source (c.in_ok-index.ensures.ok ∙ c.in_ok-to_bytes.ensures) (c.in_ok-times.ensures.ok ∙ c.in_ok-to_bytes-2.ensures) epochs in
    is_bundle segment _ w source (parts ∙ ap (λ l. parts_of w.batches l c.args.interval) (sym c.in_ok-copy.ensures))

pub returns-clause-parts : goal.returns-clause-parts
returns-clause-parts c =
    let segment = c.args.closed.now in
    let w = c.bytes.ensures.whole in
    let source = c.source.view_is ∙ (c.in_ok-source.ensures ∙ c.bytes.ensures.bytes) in
    let epochs = c.in_ok-epochs.ensures.ok ∙ (c.in_ok-epoch_text.ensures ∙ ap (λ n. text_of (cut_end c.args.line.now (n + 1))) c.last.ensures) in
    let parts = parts_made segment c.args.line.now c.args.interval c.in_ok-offsets.offsets c.in_ok-offsets.moments _ c.in_ok-index.index c.in_ok-times.times c.in_ok-epochs.epochs
    w c.in_ok-offsets.ensures source (c.in_ok-index.ensures.ok ∙ c.in_ok-to_bytes.ensures) (c.in_ok-times.ensures.ok ∙ c.in_ok-to_bytes-2.ensures) epochs in
    parts_read segment c.args.line.now c.args.interval _ w parts
