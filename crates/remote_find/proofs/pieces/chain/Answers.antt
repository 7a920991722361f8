use Rattle.std.proofs.Common.{◌≡◌, ◌-◌, sym, refl, arith}
use Rattle.remote_find.specs.Pieces.{piece_at}
use Rattle.remote_find.proofs.Following.{chained_none, chained_past, chained_more, chained_all}
use Rattle.remote_find.proofs.pieces.chain.Goals as goal

pub loop-init : goal.loop-init
loop-init c =
    let all : c.args.log_end - c.args.at - 0 ≡ c.args.log_end - c.args.at = omega arith in
    rw (c.saturating_sub-end.ensures, c.new-pieces.ensures.items, all) refl

pub returns-in_default : goal.returns-in_default
returns-in_default c =
    chained_none (piece_at c.args.view.now.entries c.args.line.now c.args.log_end) c.args.top c.saturating_sub-end.result c.loop.counter c.loop.place c.loop.pieces.items _ c.loop-test.true (sym c.in_default.ensures) c.loop.invariant

pub returns-then-piece-top : goal.returns-then-piece-top
returns-then-piece-top c =
    chained_past (piece_at c.args.view.now.entries c.args.line.now c.args.log_end) c.args.top c.saturating_sub-end.result c.loop.counter c.loop.place c.in-Some.piece c.loop.pieces.items _ c.loop-test.true (sym c.in-Some.ensures) c.if-piece-top.true c.loop.invariant

pub loop-preserved : goal.loop-preserved
loop-preserved c =
    let more = chained_more (piece_at c.args.view.now.entries c.args.line.now c.args.log_end) c.args.top c.saturating_sub-end.result c.loop.counter c.loop.place c.in-Some.piece c.loop.pieces.items _ c.loop-test.true (sym c.in-Some.ensures) c.if-piece-top.false c.loop.invariant in
    rw (c.in_ok-push.ensures.items) more

pub returns : goal.returns
returns c =
    chained_all (piece_at c.args.view.now.entries c.args.line.now c.args.log_end) c.args.top c.saturating_sub-end.result c.loop.counter c.loop.place c.loop.pieces.items _ c.loop-test.false c.loop.invariant
