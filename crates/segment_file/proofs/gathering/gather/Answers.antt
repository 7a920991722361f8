use Rattle.std.proofs.Common.{sym, subst, arith}
use Rattle.segment_file.specs.Gathering.{IsGathered}
use Rattle.segment_file.proofs.Standing.{AreBytes}
use Rattle.segment_file.proofs.Gaining.{bad_place, no_bytes, last_gathered, gathered_more}
use Rattle.segment_file.proofs.gathering.gather.Goals as goal

pub returns-in_default : goal.returns-in_default
returns-in_default c =
    let clean : AreBytes c.args.bytes.now = λ i. let b = c.type_inv.bytes i in omega (arith, b) in
    bad_place c.args.base c.args.bytes.now c.loop-front.front clean c.loop-front.invariant (c.next_head.ensures.none c.in_default.is) c.loop-front-test.true

pub gain-requires-clause-epochs : goal.gain-requires-clause-epochs
gain-requires-clause-epochs c = last_gathered c.args.base c.args.bytes.now c.loop-front.front c.loop-front.invariant

pub loop-front-preserved : goal.loop-front-preserved
loop-front-preserved c =
    subst (IsGathered c.args.base c.args.bytes.now) (sym c.in-Ok.ensures)
    (gathered_more c.args.base c.args.bytes.now c.loop-front.front c.in-Some.head c.loop-front.invariant c.in-Some.ensures.some)

pub returns-then-front-eq0 : goal.returns-then-front-eq0
returns-then-front-eq0 c =
    no_bytes c.args.base c.args.bytes.now c.requires (omega (arith, c.if-front-eq0.true, c.loop-front-test.false))
