-- Bytes in pieces.
use Rattle.std.specs.Prelude.{◌≡◌, ◌+◌, ◌<◌, ◌^◌, ℕ, List, [], ◌∷◌, length, map}
use Rattle.std.specs.List.{concat}
use Rattle.disk_model.specs.declared.pieces.Chunk.{Chunk}
use Rattle.disk_model.specs.declared.pieces.Pieces.TheInside.{Inside}

-- the bytes of one piece after another
abbrev pub joined : List Chunk → List ℕ
joined pieces = concat (map (λ piece. piece.bytes) pieces)

-- after so many bytes each piece has where it ends
abbrev pub AreEnded : ℕ → List Chunk → Type 0
AreEnded from [] = Unit {0}
AreEnded from (piece ∷ pieces) = (piece.end ≡ from + length piece.bytes) × AreEnded piece.end pieces

-- the bytes
abbrev pub bytes_of : Inside → List ℕ
bytes_of pieces = joined pieces.items.items

-- they are counted, and one vector can hold them
pub record IsLenCounted (pieces : Inside) : Type 0 where
  pub len : pieces.len ≡ length (bytes_of pieces)
  pub small : pieces.len < 2 ^ 63
  pub ends : AreEnded 0 pieces.items.items
