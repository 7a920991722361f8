-- Bytes that a follow has taken, cut into batches where the fronts of the batches say.
--
-- Whether the parts are batches isn't looked at. A part that its front makes longer than what is left is all of that.
use Rattle.std.specs.Prelude.{ℕ, zero, suc, ◌+◌, List, [], ◌∷◌, length, take, drop}
use Rattle.std.specs.Int.{w32}
use Rattle.log_terms.specs.Batch.{field_at}

-- the size of the batch that bytes begin with: 12, and its batch_length
abbrev pub size_told : List ℕ → ℕ
size_told bytes = 12 + field_at w32 8 bytes

-- at most so many parts
abbrev pub parts_in : ℕ → List ℕ → List (List ℕ)
parts_in zero bytes = []
parts_in (suc most) [] = []
parts_in (suc most) (byte ∷ bytes) =
    take (size_told (byte ∷ bytes)) (byte ∷ bytes) ∷ parts_in most (drop (size_told (byte ∷ bytes)) (byte ∷ bytes))

-- all parts: none is empty, so there are no more of them than bytes
abbrev pub parts : List ℕ → List (List ℕ)
parts bytes = parts_in (length bytes) bytes
