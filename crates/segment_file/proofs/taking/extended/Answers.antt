use Rattle.std.proofs.Common.{◌∙◌, sym, refl}
use Rattle.segment_file.specs.declared.taking.Going.{Going}
use Rattle.segment_file.proofs.Runs.{going_done, going_more}
use Rattle.segment_file.proofs.taking.extended.Goals as goal

pub returns-then-would_pass : goal.returns-then-would_pass
returns-then-would_pass c =
    going_done c.args.bytes.now c.args.offset c.args.limit c.args.bound c.loop-run.run c.loop-run.invariant
    (λ below. sym c.would_pass.ensures ∙ c.if-would_pass.true)

pub loop-run-preserved : goal.loop-run-preserved
loop-run-preserved c =
    let more : Going = record { from = c.loop-run.run.from; to = c.in-Some.to; end = c.in-Some.end } in
    going_more c.args.bytes.now c.args.offset c.args.limit c.args.bound c.in-Some.to c.in-Some.end c.loop-run.run more
    c.loop-run.invariant c.in-Some.ensures.some (sym c.would_pass.ensures ∙ c.if-would_pass.false) refl refl refl
