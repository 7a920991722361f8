-- What trees of batches, and rows of such trees, are seen as.
use Rattle.std.specs.Prelude.{ℕ, List, [], ◌∷◌, ◌++◌}
use Rattle.shared_log.specs.declared.tree.Node.{Node}
use Rattle.shared_log.specs.declared.tree.Node.TheVariants.{Leaf, Fork}

-- the batches in order: those of the older tree, those of the newer one, and the node's own
abbrev pub items : Node → List (List ℕ)
items (Leaf batch) = batch ∷ []
items (Fork older newer batch) = older.value ++ newer.value ++ batch ∷ []
