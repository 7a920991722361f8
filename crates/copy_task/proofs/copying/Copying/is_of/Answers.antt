use Rattle.std.proofs.Common.{◌∙◌, sym, refl, arith}
use Rattle.copy_task.specs.Copying.{copied_of}
use Rattle.copy_task.proofs.Splitting.{is_bundle_of}
use Rattle.copy_task.proofs.copying.Copying.is_of.Goals as goal

pub returns : goal.returns
returns c =
    let copy = copied_of c.self.inside.id c.self.inside.partition c.self.inside.packed c.self.inside.segment c.self.inside.line c.self.inside.interval in
    let source = sym c.source.ensures.source ∙ (c.if-not-same_bytes.ensures refl ∙ c.bytes.ensures.bytes) in
    let line = sym c.line.ensures ∙ c.if-not-same_line.ensures refl in
    λ t. rw (← c.self.view_is)
    (is_bundle_of copy c.args.bundle.now refl c.source.ensures.bundle source line (omega (arith, c.interval.ensures, c.if-interval-self.false)))
