use Rattle.folder_yard.proofs.name.+push_digits.Given as goal

-- a digit less each time
abbrev pub decreases-push_digits : goal.decreases-push_digits
decreases-push_digits l = l.width
