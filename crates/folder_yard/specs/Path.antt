-- The paths of a folder's files.
use Rattle.std.specs.Prelude.{ℕ, List}

-- a folder's path up to its last slash, and the path of one of its files
pub record Paths : Type 0 where
  pub folder : List ℕ
  pub file : List ℕ
