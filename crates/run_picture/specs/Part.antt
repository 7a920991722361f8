-- The part of a run that is drawn.
use Rattle.std.specs.Prelude.{ℕ, ◌+◌, ◌-◌, min, List, length, take, drop}
use Rattle.run_story.specs.declared.moment.Moment.{Moment}

-- how many of so many entries are between two places, both included
abbrev pub count_of : ℕ → ℕ → ℕ → ℕ
count_of length from to = min length (to + 1) - from

-- the moments between two places, both included, each once and in order
abbrev pub part_of : List Moment → ℕ → ℕ → List Moment
part_of moments from to = take (count_of (length moments) from to) (drop from moments)
