-- Sizes that are reckoned before a batch is built.
use Rattle.std.specs.Prelude.{◌≡◌, ℕ, ◌<◌, ◌≤◌, Option, Some, None}

-- this size, or none where it is larger than a batch may be
abbrev pub IsSize : Option ℕ → ℕ → Type 0
IsSize None n = 1048576 < n
IsSize (Some size) n = (size ≡ n) × (n ≤ 1048576)
