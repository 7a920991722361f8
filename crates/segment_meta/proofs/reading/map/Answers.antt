use Rattle.std.proofs.Common.{sym, arith, rules}
use Rattle.segment_meta.proofs.Inverting.{refuses_of}
use Rattle.segment_meta.proofs.Mapping.{pair_taken, pair_refused, pair_follows}
use Rattle.segment_meta.proofs.reading.map.Goals as goal

pub returns-in_err-epoch : goal.returns-in_err-epoch
returns-in_err-epoch c =
    let told = pair_refused c.args.range.0 c.args.range.1 c.args.count c.loop-i.i c.loop-i.map c.in_err-epoch.field-0.0 c.loop-i.rest.now _ c.loop-i-test.true
    (rw (c.last.ensures) at (sym c.in_err-epoch.ensures)) c.loop-i.invariant in
    let kept = refuses_of c.in_err-epoch.field-0.0 _ told in
    search rules

pub push-requires-clause-epoch_fits : goal.push-requires-clause-epoch_fits
push-requires-clause-epoch_fits c =
    (pair_follows c.args.range.0 c.args.range.1 _ _ _ (c.in_ok-epoch.epoch, c.in_ok-epoch.start) _ c.requires.ordered (sym c.in_ok-epoch.ensures)).epoch

pub push-requires-clause-start_fits : goal.push-requires-clause-start_fits
push-requires-clause-start_fits c =
    omega (arith, c.requires.bounded, (pair_follows c.args.range.0 c.args.range.1 _ _ _ (c.in_ok-epoch.epoch, c.in_ok-epoch.start) _ c.requires.ordered (sym c.in_ok-epoch.ensures)).first)

pub push-requires-clause-above : goal.push-requires-clause-above
push-requires-clause-above c =
    rw (← c.last.ensures)
    (pair_follows c.args.range.0 c.args.range.1 _ _ _ (c.in_ok-epoch.epoch, c.in_ok-epoch.start) _ c.requires.ordered (sym c.in_ok-epoch.ensures)).above

pub loop-i-preserved : goal.loop-i-preserved
loop-i-preserved c =
    let taken = pair_taken c.args.range.0 c.args.range.1 c.args.count c.loop-i.i c.loop-i.map (c.in_ok-epoch.epoch, c.in_ok-epoch.start) c.loop-i.rest.now c.in_ok-epoch.behind.now _ c.loop-i-test.true
    (rw (c.last.ensures) at (sym c.in_ok-epoch.ensures)) c.loop-i.invariant in
    rw (c.in_ok-push.ensures.ok) taken
