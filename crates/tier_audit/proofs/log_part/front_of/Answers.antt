use Rattle.std.proofs.Common.{◌≡◌, ap, arith}
use Rattle.record_batch.proofs.Passing.{checked_long}
use Rattle.segment_file.specs.declared.placed.Placed.{Placed}
use Rattle.tier_audit.specs.Logs.{ComesNext}
use Rattle.tier_audit.proofs.Fronts.{front_more, stopped_here, stopped_end}
use Rattle.tier_audit.proofs.log_part.front_of.Goals as goal

pub returns-in_default : goal.returns-in_default
returns-in_default c = stopped_here c.args.entry.now c.args.bytes.now c.loop-front.front c.loop-front.invariant (c.next_batch.ensures.none c.in_default.is)

pub loop-front-smaller : goal.loop-front-smaller
loop-front-smaller c =
    let n : ComesNext c.args.entry.now c.args.bytes.now c.loop-front.front (c.in-Some.batch, c.in-Some.snapshot) = c.in-Some.ensures.some in
    let long = checked_long n.batch n.is in
    let to : c.gain.new.front.at ≡ c.in-Some.batch.to = c.in_ok-gain.ensures.at_is in
    let place = ap (λ (p : Placed). p.to) n.placed_is in
    omega (arith, long, to, place, c.loop-front-test.true)

pub loop-front-preserved : goal.loop-front-preserved
loop-front-preserved c =
    front_more c.args.entry.now c.args.bytes.now c.loop-front.front c.gain.new.front (c.in-Some.batch, c.in-Some.snapshot) c.requires c.loop-front.invariant c.in-Some.ensures.some c.in_ok-gain.ensures

pub returns : goal.returns
returns c = stopped_end c.args.entry.now c.args.bytes.now c.loop-front.front c.loop-front.invariant (omega (arith, c.loop-front-test.false))
