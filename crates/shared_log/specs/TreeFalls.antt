-- Each side of a fork has fewer batches than the fork.
use Rattle.std.specs.Prelude.{◌≤◌, max, ◌∷◌, [], ◌++◌, length}
use Rattle.std.proofs.Common.{arith, length-append}
use Rattle.shared_log.specs.declared.tree.Node.{Node}
use Rattle.shared_log.specs.declared.tree.Node.TheVariants.{Leaf, Fork}
use Rattle.shared_log.specs.declared.tree.Tree.TheDeep.{deep-Node}
use Rattle.shared_log.specs.Trees.{items}

-- no side is deeper than the node has batches
pub depth_le-length-items : (n : Node) → max (deep-Node n) 0 ≤ length (items n)
depth_le-length-items (Leaf batch) = omega arith
depth_le-length-items (Fork older newer batch) =
    omega (arith, length-append (older.value ++ newer.value) (batch ∷ []), length-append older.value newer.value)
