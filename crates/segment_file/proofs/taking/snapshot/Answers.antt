use Rattle.std.proofs.Common.{◌≤◌, refl, arith}
use Rattle.segment_file.specs.declared.taking.Going.{Going}
use Rattle.segment_file.proofs.Runs.{begun_here, passed_more}
use Rattle.segment_file.proofs.taking.snapshot.Goals as goal

pub returns-then-offset-end : goal.returns-then-offset-end
returns-then-offset-end c =
    λ limit.
    let going : Going = record { from = c.loop-to.at; to = c.in-Some.to; end = c.in-Some.end } in
    begun_here c.args.offset c.args.bound limit c.args.bytes.now c.loop-to.at c.in-Some.to c.in-Some.end c.loop-to.last going
    c.loop-to.invariant c.in-Some.ensures.some c.if-offset-end.true refl refl refl

pub loop-to-preserved : goal.loop-to-preserved
loop-to-preserved c =
    let below : c.in-Some.end ≤ c.args.offset = omega (arith, c.if-offset-end.false) in
    passed_more c.args.offset c.args.bound c.args.bytes.now c.loop-to.at c.in-Some.to c.in-Some.end c.loop-to.last
    c.loop-to.invariant c.in-Some.ensures.some below
