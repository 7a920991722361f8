use Rattle.std.proofs.Common.{◌≡◌, ◌++◌, ◌-◌, length, take}
use Rattle.disk_model.specs.Pieces.{joined}
use Rattle.disk_model.proofs.pieces.copy_front.Given as goal

-- the pieces so far, and how many bytes are left
abbrev pub invariant-loop-piece : goal.invariant-loop-piece
invariant-loop-piece l =
    (l.all.items ≡ l.initial.all.items ++ take l.initial.most (joined (take l.piece-index l.pieces)))
    × (l.most ≡ l.initial.most - length (joined (take l.piece-index l.pieces)))
