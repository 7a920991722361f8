-- Entries of a sparse index: their order, and the last one that passes a test.
use Rattle.std.specs.Prelude.{Bool, List, [], ◌∷◌, filter, Some, None}
use Rattle.std.specs.declared.option.Option.{Option}

-- an entry is related to the first of those after it
abbrev pub StandsBefore : {X : Type 0} → (X → X → Type 0) → X → List X → Type 0
StandsBefore R entry [] = Unit {0}
StandsBefore R entry (next ∷ entries) = R entry next

-- each entry fits, and is related to the next
abbrev pub IsChain : {X : Type 0} → (X → Type 0) → (X → X → Type 0) → List X → Type 0
IsChain Fits R [] = Unit {0}
IsChain Fits R (entry ∷ entries) = Fits entry × StandsBefore R entry entries × IsChain Fits R entries

-- the last entry
abbrev pub last_of : {X : Type 0} → List X → Option X
last_of [] = None
last_of (entry ∷ []) = Some entry
last_of (entry ∷ next ∷ entries) = last_of (next ∷ entries)

-- the last entry that passes a test
abbrev pub last_passing : {X : Type 0} → (X → Bool) → List X → Option X
last_passing test entries = last_of (filter test entries)
