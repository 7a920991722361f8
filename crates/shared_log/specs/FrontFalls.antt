-- What is in front of a tree has fewer batches than both have.
use Rattle.std.specs.Prelude.{◌≤◌, ℕ, List, max, ◌++◌, length}
use Rattle.std.proofs.Common.{arith, length-append}
use Rattle.shared_log.specs.declared.front.Rest.{Rest}
use Rattle.shared_log.specs.declared.front.Rest.TheVariants.{Nothing, Behind}
use Rattle.shared_log.specs.declared.front.Front.TheDeep.{deep-Rest}
use Rattle.shared_log.specs.Rests.{batches_in}

-- it is no deeper than both have batches
pub depth_le-length-batches : (rest : Rest) (tree : List (List ℕ)) → 1 ≤ length tree
    → max (deep-Rest rest) 0 ≤ length (batches_in rest ++ tree)
depth_le-length-batches Nothing tree some = omega arith
depth_le-length-batches (Behind front) tree some = omega (arith, some, length-append front.value tree)
