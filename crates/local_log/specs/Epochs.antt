-- Whether the leader epochs give the epochs of batches that were read.
--
-- A batch's checksum doesn't cover its epoch. So a batch is the log's where the leader epochs give that epoch at its
-- base.
use Rattle.std.specs.Prelude.{◌≡◌, ◌≢◌, ℕ, ◌≤◌, ◌<◌, List, ◌∷◌, ◌++◌, length, Some, IsOk}
use Rattle.log_terms.specs.Batch.{base_of, epoch_of}
use Rattle.log_terms.specs.Line.{epoch_at}
use Rattle.log_terms.specs.Log.{joined}
use Rattle.record_batch.specs.Check.{checked}
use Rattle.log_steps.specs.Fronts.{Each}
use Rattle.local_log.specs.declared.epochs.Stretch.{Stretch}

-- the leader epochs give the batch's epoch at its base
abbrev pub IsOfLine : List (ℕ × ℕ) → List ℕ → Type 0
IsOfLine line batch = epoch_at line (base_of batch) ≡ Some (epoch_of batch)

-- the first of the batches whose epoch the line doesn't give is there, in bytes from the first batch on
pub record StraysAt (line : List (ℕ × ℕ)) (batches : List (List ℕ)) (at : ℕ) : Type 0 where
  pub before : List (List ℕ)
  pub batch : List ℕ
  pub after : List (List ℕ)
  pub parts : batches ≡ before ++ batch ∷ after
  pub given : Each (IsOfLine line) before
  pub other : epoch_at line (base_of batch) ≢ Some (epoch_of batch)
  pub place : at ≡ length (joined before)

-- bytes are checked batches, one after another
pub record IsRow (bytes : List ℕ) : Type 0 where
  pub batches : List (List ℕ)
  pub bytes_are : bytes ≡ joined batches
  pub are : Each (λ (batch : List ℕ). IsOk (checked batch)) batches

-- the leader epochs give this from one offset up to another
abbrev pub HasEpoch : List (ℕ × ℕ) → Stretch → Type 0
HasEpoch line stretch =
    (offset : ℕ) → stretch.from ≤ offset → offset < stretch.end → epoch_at line offset ≡ stretch.epoch

-- the front of the bytes is batches whose epochs the leader epochs give
pub record ArePassed (line : List (ℕ × ℕ)) (bytes : List ℕ) (at : ℕ) : Type 0 where
  pub front : List (List ℕ)
  pub rest : List (List ℕ)
  pub parts : bytes ≡ joined front ++ joined rest
  pub are : Each (λ (batch : List ℕ). IsOk (checked batch)) (front ++ rest)
  pub given : Each (IsOfLine line) front
  pub place : at ≡ length (joined front)
