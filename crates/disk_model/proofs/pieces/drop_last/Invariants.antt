use Rattle.std.proofs.Common.{◌≡◌, ◌-◌, length, take, vec_len}
use Rattle.disk_model.specs.Pieces.{joined, AreEnded}
use Rattle.disk_model.proofs.pieces.drop_last.Given as goal

-- what is to be left stays the same
abbrev pub invariant-loop-last : goal.invariant-loop-last
invariant-loop-last l =
    (take (length (joined l.pieces.items) - l.count) (joined l.pieces.items)
    ≡ take (length (joined l.initial.pieces.items) - l.initial.count) (joined l.initial.pieces.items))
    × AreEnded 0 l.pieces.items

abbrev pub decreases-loop-last : goal.decreases-loop-last
decreases-loop-last l = vec_len l.pieces
