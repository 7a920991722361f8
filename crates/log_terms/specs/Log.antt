-- A log as the list of its batches.
use Rattle.std.specs.Prelude.{◌≡◌, ℕ, ◌+◌, nat_lt, if◌then◌else◌, List, [], ◌∷◌, ◌++◌}
use mathlib.Core.List.{IsPrefix}
use Rattle.log_terms.specs.Batch.{base_of, last_of}

-- each batch begins at the offset after the one before it, and the first at n
abbrev pub IsConsecutive : ℕ → List (List ℕ) → Type 0
IsConsecutive n [] = Unit {0}
IsConsecutive n (batch ∷ log) = (base_of batch ≡ n) × IsConsecutive (last_of batch + 1) log

-- the offset after the last batch of a list that begins at n
abbrev pub end_from : ℕ → List (List ℕ) → ℕ
end_from n [] = n
end_from n (batch ∷ log) = end_from (last_of batch + 1) log

-- the log end offset of a log that begins at 0
abbrev pub end_of : List (List ℕ) → ℕ
end_of log = end_from 0 log

-- the bytes of batches, one after another
abbrev pub joined : List (List ℕ) → List ℕ
joined [] = []
joined (batch ∷ log) = batch ++ joined log

-- the batches that end at or below n
abbrev pub up_to : ℕ → List (List ℕ) → List (List ℕ)
up_to n [] = []
up_to n (batch ∷ log) = if nat_lt (last_of batch) n then batch ∷ up_to n log else []

-- the batches from the one on that holds the offset n
abbrev pub from_offset : ℕ → List (List ℕ) → List (List ℕ)
from_offset n [] = []
from_offset n (batch ∷ log) = if nat_lt (last_of batch) n then from_offset n log else batch ∷ log

-- n is 0 or the end of a batch of the log
abbrev pub EndsAt : ℕ → List (List ℕ) → Type 0
EndsAt n log = (front : List (List ℕ)) × IsPrefix front log × (end_of front ≡ n)
