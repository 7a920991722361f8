-- What is in front of a tree.
use Rattle.std.specs.Prelude.{ℕ, List, []}
use Rattle.shared_log.specs.declared.front.Rest.{Rest}
use Rattle.shared_log.specs.declared.front.Rest.TheVariants.{Nothing, Behind}

-- the batches in order
abbrev pub batches_in : Rest → List (List ℕ)
batches_in Nothing = []
batches_in (Behind front) = front.value
