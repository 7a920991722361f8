use Rattle.std.proofs.Common.{◌≡◌, ◌-◌, sym, refl, arith}
use Rattle.remote_find.specs.Pieces.{piece_at}
use Rattle.remote_find.proofs.Following.{reached_some}
use Rattle.partition_world.proofs.Reaching.{reaches_already, reaches_not, reaches_at_last}
use Rattle.partition_world.proofs.covering.reaches.Goals as goal

pub loop-i-init : goal.loop-i-init
loop-i-init c =
    let all : c.args.log_end - c.args.at - 0 ≡ c.args.log_end - c.args.at = omega arith in
    rw (c.saturating_sub-i-end.ensures, all) refl

pub returns-then-top-place : goal.returns-then-top-place
returns-then-top-place c =
    reaches_already c.args.view.now.entries c.args.line.now c.args.log_end _ c.loop-i.place _ c.args.top c.entries-entries.ensures.kept c.entries-entries.ensures.distinct c.entries-line.ensures.line c.if-top-place.true c.loop-i.invariant

pub returns-in_default : goal.returns-in_default
returns-in_default c =
    reaches_not (piece_at c.args.view.now.entries c.args.line.now c.args.log_end) c.saturating_sub-i-end.result c.loop-i._i c.loop-i.place _ c.args.top c.loop-i-test.true c.if-top-place.false (sym c.in_default.ensures) c.loop-i.invariant

pub loop-i-preserved : goal.loop-i-preserved
loop-i-preserved c =
    reached_some (piece_at c.args.view.now.entries c.args.line.now c.args.log_end) c.saturating_sub-i-end.result c.loop-i._i c.loop-i.place _ c.in-Some.piece c.loop-i-test.true (sym c.in-Some.ensures) c.loop-i.invariant

pub returns : goal.returns
returns c =
    reaches_at_last (piece_at c.args.view.now.entries c.args.line.now c.args.log_end) c.saturating_sub-i-end.result c.loop-i._i c.loop-i.place _ c.args.top c.loop-i-test.false c.loop-i.invariant
