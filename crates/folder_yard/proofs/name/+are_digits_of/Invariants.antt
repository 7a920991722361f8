use Rattle.std.proofs.Common.{length}
use Rattle.folder_yard.proofs.name.+are_digits_of.Given as goal

-- a digit less each time
abbrev pub decreases-are_digits_of : goal.decreases-are_digits_of
decreases-are_digits_of l = length l.digits.now
