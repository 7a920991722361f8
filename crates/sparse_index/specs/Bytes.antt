-- The bytes of an index: its entries, one after another, each of one length.
use Rattle.std.specs.Prelude.{◌≡◌, ◌≢◌, ℕ, ◌-◌, ◌^◌, min, List, [], ◌∷◌, ◌++◌, length, map}
use Rattle.std.specs.List.{concat}

-- the bytes of entries
abbrev pub bytes_of : {X : Type 0} → (X → List ℕ) → List X → List ℕ
bytes_of spelling entries = concat (map spelling entries)

-- no index has these bytes
abbrev pub IsNoIndex : {X : Type 0} → (List X → Type 0) → (X → List ℕ) → List ℕ → Type 0
IsNoIndex {X} Are spelling bytes = (entries : List X) → Are entries → bytes ≢ bytes_of spelling entries

-- the first entry that can't follow those before it; a place past 2^32 - 2 is reported as 2^32 - 1
pub record IsFirstFall {X : Type 0} (Are : List X → Type 0) (spelling : X → List ℕ) (bytes : List ℕ)
    (at : ℕ) : Type 0 where
  pub before : List X
  pub entry : X
  pub more : List ℕ
  pub parts : bytes ≡ bytes_of spelling before ++ (spelling entry ++ more)
  pub stands : Are before
  pub falls : Are (before ++ entry ∷ []) → ⊥
  pub counted : at ≡ min (length before) (2 ^ 32 - 1)
  pub unread : IsNoIndex Are spelling bytes
