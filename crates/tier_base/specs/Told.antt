-- What a device says of what it holds by name: the files of a disk, the objects of a store.
--
--   form                   says
--   In n names             the name is in the list
--   Names held names       the names of what is held, each once and no other
--   OnlyAt n R old new     one goes from old to new by R, and the others stay
--   last_read_after r before  what was last returned, after a read that answered r
use Rattle.std.specs.Prelude.{◌≡◌, ◌≢◌, ◌⊎◌, ◌↔◌, ℕ, List, [], ◌∷◌, Option, Some, None, Ok, Err, unwrap_or, IsSome}
use Rattle.std.specs.declared.result.Result.{Result}
use Rattle.tier_base.specs.declared.fault.Trouble.{Trouble}

-- the bytes, none where there is nothing
abbrev pub bytes_in : Option (List ℕ) → List ℕ
bytes_in held = unwrap_or held []

-- what was last returned: the bytes that a read gave, and none where there was nothing
abbrev pub last_read_after : Result (Option (List ℕ)) Trouble → List ℕ → List ℕ
last_read_after (Ok held) before = bytes_in held
last_read_after (Err e) before = before

-- these bytes, whatever was there
abbrev pub replaced : List ℕ → Option (List ℕ) → Option (List ℕ)
replaced bytes before = Some bytes

-- nothing
abbrev pub removed : Option (List ℕ) → Option (List ℕ)
removed before = None

module _ {N : Type 0} where
  -- the name is in the list
  abbrev pub In : N → List N → Type 0
  In n [] = ⊥
  In n (x ∷ xs) = (n ≡ x) ⊎ In n xs

  -- no name is in the list twice
  abbrev pub Once : List N → Type 0
  Once [] = Unit {0}
  Once (x ∷ xs) = (In x xs → ⊥) × Once xs

  -- the names of what is held, each once and no other
  pub record NamesAllHeld (held : N → Option (List ℕ)) (names : List N) : Type 0 where
    pub are : (n : N) → IsSome (held n) ↔ In n names
    pub once : Once names

  -- one goes from old to new by R, and the others stay
  pub record OnlyAt (name : N) (R : Option (List ℕ) → Option (List ℕ) → Type 0)
      (old new : N → Option (List ℕ)) : Type 0 where
    pub there : R (old name) (new name)
    pub others : (n : N) → n ≢ name → new n ≡ old n
