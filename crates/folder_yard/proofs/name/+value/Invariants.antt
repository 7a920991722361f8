use Rattle.std.proofs.Common.{length}
use Rattle.folder_yard.proofs.name.+value.Given as goal

-- a digit less each time
abbrev pub decreases-value : goal.decreases-value
decreases-value l = length l.digits.now
