-- Where a word is put among others.
use Rattle.std.specs.Prelude.{ℕ, List, ◌∷◌, ◌++◌, take, drop, Option, Some, None}

-- the words with one more at this place, or as they are
abbrev pub with_at : List (List ℕ) → List ℕ → Option ℕ → List (List ℕ)
with_at words word None = words
with_at words word (Some i) = take i words ++ word ∷ drop i words
