use Rattle.std.proofs.Common.{◌≡◌, ◌-◌}
use Rattle.remote_find.specs.Pieces.{piece_at, reached, covered_to}
use Rattle.partition_world.proofs.covering.reaches.Given as goal

-- the end so far, and the pieces to come
abbrev pub invariant-loop-i : goal.invariant-loop-i
invariant-loop-i l =
    reached (piece_at l.view.entries l.line l.log_end) (l._i-end - l._i) l.place ≡ covered_to l.view.entries l.line l.log_end l.at
