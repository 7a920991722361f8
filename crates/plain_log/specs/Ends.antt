-- Where a log may be cut: the ends of its batches, and the longest beginning that it has in common with another.
use Rattle.std.specs.Prelude.{ℕ, ◌==◌, Bool, List, [], ◌∷◌, if◌then◌else◌, bytes_eq}
use Rattle.log_terms.specs.Log.{end_of, up_to}

-- n is 0 or the end of a batch of the log
abbrev pub is_end : ℕ → List (List ℕ) → Bool
is_end n log = end_of (up_to n log) == n

-- the longest beginning of both
abbrev pub common : List (List ℕ) → List (List ℕ) → List (List ℕ)
common [] other = []
common (batch ∷ log) [] = []
common (batch ∷ log) (next ∷ other) = if bytes_eq batch next then batch ∷ common log other else []
