-- How dense the sparse indexes of a segment are.
--
-- A search reads on from an index entry, or from the segment's beginning, so it is short where one of them is near.
--
-- A time entry has the greatest timestamp so far, and is of the first batch that has it.
use Rattle.std.specs.Prelude.{◌≡◌, ℕ, ◌+◌, ◌-◌, ◌≤◌, ◌⊎◌, ℤ, negsuc, ◌≤ℤ◌, ◌<ℤ◌, List, [], ◌∷◌, ◌++◌, length}
use Rattle.std.specs.List.{Contains}
use Rattle.log_terms.specs.Batch.{last_of, max_ts_of}

-- one of the entries is of a batch that begins at or before a place, at most so many bytes before it
abbrev pub HasNear : ℕ → List (ℕ × ℕ) → ℕ → Type 0
HasNear bytes entries at =
    (entry : ℕ × ℕ) × (Contains entries entry × ((entry.1 ≤ at) × (at ≤ entry.1 + bytes)))

-- one of them does, or the segment's beginning
abbrev pub HasEntryNear : ℕ → List (ℕ × ℕ) → ℕ → Type 0
HasEntryNear bytes entries at = (at ≤ bytes) ⊎ HasNear bytes entries at

-- each of these batches is earlier than a timestamp
abbrev pub AreEarlier : ℤ → List (List ℕ) → Type 0
AreEarlier ts [] = Unit {0}
AreEarlier ts (batch ∷ batches) = (max_ts_of batch <ℤ ts) × AreEarlier ts batches

-- a time entry is of the first of these batches that has its timestamp, and no batch up to that one is later
pub record IsTimeOf (base : ℕ) (batches : List (List ℕ)) (entry : ℤ × ℕ) : Type 0 where
  pub front : List (List ℕ)
  pub batch : List ℕ
  pub rest : List (List ℕ)
  pub parts : batches ≡ front ++ batch ∷ rest
  pub earlier : AreEarlier (max_ts_of batch) front
  pub is : entry ≡ (max_ts_of batch, last_of batch - base)

-- each of these batches, the first of which begins at one place, begins at or before another
abbrev pub BeginBy : ℕ → ℕ → List (List ℕ) → Type 0
BeginBy at limit [] = Unit {0}
BeginBy at limit (batch ∷ batches) = (at ≤ limit) × BeginBy (at + length batch) limit batches

-- one of the time entries is at or above a timestamp, and each batch before its own begins at or before a place
pub record HasTime (base : ℕ) (batches : List (List ℕ)) (entries : List (ℤ × ℕ)) (limit : ℕ) (ts : ℤ) : Type 0 where
  pub entry : ℤ × ℕ
  pub among : Contains entries entry
  pub reaches : ts ≤ℤ entry.0
  pub of : IsTimeOf base batches entry
  pub near : BeginBy 0 limit of.front

-- one of them is, or the timestamp is that of none
abbrev pub HasMomentFor : ℕ → List (List ℕ) → List (ℤ × ℕ) → ℕ → ℤ → Type 0
HasMomentFor base batches entries limit ts = (ts ≤ℤ negsuc 0) ⊎ HasTime base batches entries limit ts
