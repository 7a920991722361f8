-- What a timestamp lookup has gone through of its log.
use Rattle.std.specs.Prelude.{◌≡◌, ℕ, ◌≤◌, max, ℤ, ◌<ℤ◌, List, None}
use Rattle.std.specs.List.{AllByRecursion}
use mathlib.Core.List.{IsPrefix}
use Rattle.log_terms.specs.Batch.{max_ts_of}
use Rattle.log_terms.specs.Log.{IsConsecutive, end_of, up_to, from_offset}
use Rattle.plain_log.specs.RowsOfReads.{first_at}
use Rattle.time_find.specs.declared.turn.SearchStep.{SearchStep}
use Rattle.time_find.specs.declared.turn.SearchStep.TheVariants.{Seek, Times, Index, Log}

-- the greatest timestamps of these batches are all below one
abbrev pub AreEarly : ℤ → List (List ℕ) → Type 0
AreEarly ts batches = AllByRecursion (λ batch. max_ts_of batch <ℤ ts) batches

-- those of the batches from the log start offset on that end at or below an offset; it isn't past the log, but for the
-- log start offset
pub record HasPassed (ts : ℤ) (start : ℕ) (log : List (List ℕ)) (offset : ℕ) : Type 0 where
  pub within : offset ≤ max start (end_of log)
  pub early : AreEarly ts (from_offset start (up_to offset log))

-- the offset from which a search reads its piece, where it knows it
abbrev pub read_from : ℕ → SearchStep → ℕ
read_from cursor Seek = cursor
read_from cursor (Times piece) = cursor
read_from cursor (Index piece from) = from
read_from cursor (Log piece from span) = from

-- a search has gone through its log up to its cursor, and up to where it reads
pub record IsDatedTo (ts : ℤ) (start : ℕ) (log : List (List ℕ)) (at : ℕ) (next : SearchStep) : Type 0 where
  pub cursor : HasPassed ts start log at
  pub read : HasPassed ts start log (read_from at next)

-- the laws of it

-- it holds at the log start offset
abbrev pub StartHasPassed : Type 0
StartHasPassed = (ts : ℤ) (start : ℕ) (log : List (List ℕ)) → HasPassed ts start log start

-- where the cursor has come to the known high watermark, no offset has the timestamp
abbrev pub PassedHasNone : Type 0
PassedHasNone = (ts : ℤ) (start mark cursor : ℕ) (log : List (List ℕ)) → HasPassed ts start log cursor → mark ≤ cursor
    → first_at ts start (from_offset start (up_to mark log)) ≡ None

-- it stays so as the log grows and the log start offset rises
abbrev pub PassedIsKept : Type 0
PassedIsKept =
    (ts : ℤ) (start later offset : ℕ) (log more : List (List ℕ)) → HasPassed ts start log offset → IsPrefix log more
    → IsConsecutive 0 more → start ≤ later → HasPassed ts later more offset
