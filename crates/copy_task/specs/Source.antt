-- The batches that a segment's bytes are, by the lengths that their heads say.
use Rattle.std.specs.Prelude.{ℕ, zero, suc, List, [], ◌∷◌, take, drop, length}
use Rattle.segment_file.specs.Walk.{size_in, found_at}
use Rattle.segment_file.specs.declared.walking.Found.{Found}
use Rattle.segment_file.specs.declared.walking.Found.TheVariants.{Batch, End, Cut, Bad}

-- the batch that bytes begin with, and the others of what is left after it
abbrev pub first_of : (List ℕ → List (List ℕ)) → List ℕ → Found → List (List ℕ)
first_of others bytes (Batch head) = take (size_in head) bytes ∷ others (drop (size_in head) bytes)
first_of others bytes End = []
first_of others bytes (Cut at) = []
first_of others bytes (Bad at) = []

-- the batches that bytes begin with, so many at most
abbrev pub split : ℕ → List ℕ → List (List ℕ)
split zero bytes = []
split (suc n) bytes = first_of (split n) bytes (found_at 0 bytes)

-- all of them: no batch is without bytes
abbrev pub batches_in : List ℕ → List (List ℕ)
batches_in bytes = split (length bytes) bytes
