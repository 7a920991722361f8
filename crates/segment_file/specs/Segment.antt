-- What a log segment's bytes are: batches, each of which continues what precedes it.
use Rattle.std.specs.Prelude.{ℕ, ◌+◌, ◌^◌, ◌<◌, ◌≤◌, ℤ, negsuc, List, [], ◌∷◌, length, IsOk}
use Rattle.std.specs.Int.{int_max}
use Rattle.std.specs.List.{AllByRecursion}
use Rattle.log_terms.specs.Batch.{epoch_of, max_ts_of}
use Rattle.log_terms.specs.Log.{joined, IsConsecutive, end_from}
use Rattle.record_batch.specs.Check.{checked}

-- no epoch is below the one before it, the first not below this one, and all are below 2^31
abbrev pub EpochsRise : ℕ → List (List ℕ) → Type 0
EpochsRise epoch [] = Unit {0}
EpochsRise epoch (batch ∷ batches) =
    (epoch ≤ epoch_of batch) × (epoch_of batch < 2 ^ 31) × EpochsRise (epoch_of batch) batches

-- checked batches, one after another from a base offset on, as far as a segment reaches
pub record IsSegment (base : ℕ) (batches : List (List ℕ)) : Type 0 where
  pub checked : AllByRecursion (λ (batch : List ℕ). IsOk (checked batch)) batches
  pub consecutive : IsConsecutive base batches
  pub epochs : EpochsRise 0 batches
  pub near : end_from base batches ≤ base + 2 ^ 31
  pub low : end_from base batches ≤ 2 ^ 62
  pub small : length (joined batches) < 2 ^ 31

-- the greatest of a timestamp and the batches' own
abbrev pub greatest_from : ℤ → List (List ℕ) → ℤ
greatest_from ts [] = ts
greatest_from ts (batch ∷ batches) = greatest_from (int_max ts (max_ts_of batch)) batches

-- the greatest timestamp of batches, or -1 where there are none
abbrev pub greatest_ts : List (List ℕ) → ℤ
greatest_ts [] = negsuc 0
greatest_ts (batch ∷ batches) = greatest_from (max_ts_of batch) batches
