use Rattle.std.proofs.Common.{◌≡◌, ◌++◌, drop}
use Rattle.std.specs.Prelude.{map, filter}
use Rattle.expiry_task.specs.Rule.{is_within, uncopied_of}
use Rattle.expiry_task.proofs.rule.find_uncopied.Given as goal

-- the segments so far, and those that pass of the ones that are left, are all that pass
abbrev pub invariant-loop-segment : goal.invariant-loop-segment
invariant-loop-segment l =
    l.own.items ++ map uncopied_of (filter (is_within l.fn.offset l.fn.known) (drop l.segment-index l.closed))
    ≡ map uncopied_of (filter (is_within l.fn.offset l.fn.known) l.closed)
