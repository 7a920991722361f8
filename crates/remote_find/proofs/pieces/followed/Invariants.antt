use Rattle.std.proofs.Common.{◌≡◌, ◌-◌}
use Rattle.remote_find.specs.Pieces.{piece_at, reached, covered_to}
use Rattle.remote_find.proofs.pieces.followed.Given as goal

-- the end so far, and the pieces to come
abbrev pub invariant-loop : goal.invariant-loop
invariant-loop l =
    reached (piece_at l.view.entries l.line l.log_end) (l.end - l.counter) l.place ≡ covered_to l.view.entries l.line l.log_end l.at
