use Rattle.std.proofs.Common.{◌≡◌, ◌-◌, ◌++◌}
use Rattle.remote_find.specs.Pieces.{piece_at, chained, chain}
use Rattle.remote_find.proofs.pieces.chain.Given as goal

-- the pieces so far, and those to come
abbrev pub invariant-loop : goal.invariant-loop
invariant-loop l =
    l.pieces.items ++ chained (piece_at l.view.entries l.line l.log_end) l.top (l.end - l.counter) l.place
    ≡ chain l.view.entries l.line l.log_end l.at l.top
