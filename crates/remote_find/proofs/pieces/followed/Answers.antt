use Rattle.std.proofs.Common.{◌≡◌, ◌-◌, sym, refl, arith}
use Rattle.remote_find.specs.Pieces.{piece_at}
use Rattle.remote_find.proofs.Following.{reached_none, reached_some, reached_all}
use Rattle.remote_find.proofs.pieces.followed.Goals as goal

pub loop-init : goal.loop-init
loop-init c =
    let all : c.args.log_end - c.args.at - 0 ≡ c.args.log_end - c.args.at = omega arith in
    rw (c.saturating_sub-end.ensures, all) refl

pub returns-in_default : goal.returns-in_default
returns-in_default c =
    reached_none (piece_at c.args.view.now.entries c.args.line.now c.args.log_end) c.saturating_sub-end.result c.loop.counter c.loop.place _ c.loop-test.true (sym c.in_default.ensures) c.loop.invariant

pub loop-preserved : goal.loop-preserved
loop-preserved c =
    reached_some (piece_at c.args.view.now.entries c.args.line.now c.args.log_end) c.saturating_sub-end.result c.loop.counter c.loop.place _ c.in-Some.piece c.loop-test.true (sym c.in-Some.ensures) c.loop.invariant

pub returns : goal.returns
returns c =
    reached_all (piece_at c.args.view.now.entries c.args.line.now c.args.log_end) c.saturating_sub-end.result c.loop.counter c.loop.place _ c.loop-test.false c.loop.invariant
