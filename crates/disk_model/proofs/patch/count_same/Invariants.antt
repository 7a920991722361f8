use Rattle.std.proofs.Common.{◌≡◌, ◌*◌, take}
use Rattle.disk_model.proofs.patch.count_same.Given as goal

abbrev pub invariant-loop-block : goal.invariant-loop-block
invariant-loop-block l = take (l.block * 128) l.old ≡ take (l.block * 128) l.new
