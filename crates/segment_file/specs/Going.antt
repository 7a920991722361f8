-- A run on its way.
use Rattle.std.specs.Prelude.{◌≡◌, ℕ, ◌+◌, ◌<◌, ◌≤◌, true, List, ◌∷◌, ◌++◌, length}
use Rattle.std.specs.Prelude.{drop, Option, Some, None, Result, Ok, Err}
use Rattle.log_terms.specs.Batch.{last_of}
use Rattle.log_terms.specs.Log.{joined, from_offset}
use Rattle.record_batch.specs.Check.{headed}
use Rattle.segment_file.specs.declared.taking.Going.{Going}
use Rattle.segment_file.specs.declared.taking.BadAt.{BadAt}
use Rattle.segment_file.specs.Run.{end_after, Follows, HasBatchesUpTo, Fits, would_pass, IsBadAt}

-- a batch that follows is from one place to another, and ends before this offset
pub record IsNextBatch (last : Option ℕ) (offset bound : ℕ) (bytes : List ℕ) (at to end : ℕ) : Type 0 where
  pub batch : List ℕ
  pub follows : Follows last offset bound batch
  pub parts : drop at bytes ≡ batch ++ drop to bytes
  pub place : to ≡ at + length batch
  pub some : 0 < length batch
  pub inside : to ≤ length bytes
  pub end_is : end ≡ last_of batch + 1

-- a run that has begun
pub record IsGoing (bytes : List ℕ) (offset limit bound : ℕ) (going : Going) : Type 0 where
  pub batches : List (List ℕ)
  pub stand : HasBatchesUpTo offset bound bytes batches (drop going.to bytes) going.to
  pub first : List ℕ
  pub others : List (List ℕ)
  pub run : from_offset offset batches ≡ first ∷ others
  pub from : going.from + length (joined (first ∷ others)) ≡ going.to
  pub fits : Fits limit (first ∷ others)
  pub ends : end_after None batches ≡ Some going.end
  pub inside : going.to ≤ length bytes
  pub below : going.end ≤ bound

-- how it has ended: at the bound, or before a batch that would pass the limit
pub record HasEnded (bytes : List ℕ) (offset limit bound : ℕ) (going : Going) : Type 0 where
  pub is : IsGoing bytes offset limit bound going
  pub stops : going.end < bound → would_pass limit (length (joined (is.first ∷ is.others)))
      (headed (drop going.to bytes)) ≡ true

-- a run has begun, or can't
abbrev pub GoingFrom : List ℕ → ℕ → ℕ → ℕ → Result Going BadAt → Type 0
GoingFrom bytes offset limit bound (Ok going) = IsGoing bytes offset limit bound going
GoingFrom bytes offset limit bound (Err bad) = IsBadAt bytes offset limit bound bad.at

-- a run has ended, or can't
abbrev pub Done : List ℕ → ℕ → ℕ → ℕ → Result Going BadAt → Type 0
Done bytes offset limit bound (Ok going) = HasEnded bytes offset limit bound going
Done bytes offset limit bound (Err bad) = IsBadAt bytes offset limit bound bad.at
