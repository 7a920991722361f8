-- A list with reserved room, as contracts see it.
use Rattle.std.specs.Prelude.{ℕ, List}

-- the items, and how many more can be put without memory
pub record ReservedItems (T : Type 0) : Type 0 where
  pub items : List T
  pub room : ℕ
