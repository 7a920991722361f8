-- What a log takes of a run of batches, and where it rolls to a new segment.
--
-- The log rolls before an append where the open segment isn't empty and would pass the settings' segment_bytes, or
-- where the batch's last offset less the segment's base would pass 2,147,483,647. A batch larger than segment_bytes is
-- alone in a segment.
use Rattle.std.specs.Prelude.{◌≡◌, ◌≢◌, ℕ, ◌+◌, ◌-◌, ◌^◌, ◌==◌, ◌&&◌, ◌||◌, nat_lt, nat_le, Bool, false}
use Rattle.std.specs.Prelude.{if◌then◌else◌, List, [], ◌∷◌, ◌++◌, length, Option, Some, None, unwrap_or, IsOk}
use Rattle.std.specs.Int.{w32}
use Rattle.log_terms.specs.Batch.{field_at, base_of, last_of, epoch_of}
use Rattle.log_terms.specs.Log.{joined, IsConsecutive, end_from}
use Rattle.record_batch.specs.Check.{checked}
use Rattle.epoch_line.specs.Line.{last_epoch, assign}
use Rattle.disk_model.specs.Content.{Content}
use Rattle.segment_file.specs.Index.{placed_from}
use Rattle.segment_file.specs.Segment.{EpochsRise}
use Rattle.log_steps.specs.Fronts.{Each}
use Rattle.local_log.specs.Stored.{size_of}
use Rattle.local_log.specs.Log.{Log, LogBecomes}

-- bytes that are batches, one after another from an offset on, whose epochs don't fall and aren't below the line's last
pub record IsRunFor (end : ℕ) (line : List (ℕ × ℕ)) (run : List ℕ) : Type 0 where
  pub batches : List (List ℕ)
  pub bytes : run ≡ joined batches
  pub some : batches ≢ []
  pub are : Each (λ (batch : List ℕ). IsOk (checked batch)) batches
  pub consecutive : IsConsecutive end batches
  pub epochs : EpochsRise (unwrap_or (last_epoch line) 0) batches

-- a batch of this size and last offset makes the log roll, after so many bytes of a segment
abbrev pub rolls_before : ℕ → ℕ → ℕ → ℕ → ℕ → Bool
rolls_before most base size len last = nat_lt 0 size && (nat_lt most (size + len) || nat_le (2 ^ 31) (last - base))

-- the first batches that are in a segment, after so many bytes of it, and end at or below 2^62
abbrev pub taking : ℕ → ℕ → ℕ → List (List ℕ) → List (List ℕ)
taking most base size [] = []
taking most base size (batch ∷ batches) =
    if rolls_before most base size (length batch) (last_of batch) || nat_le (2 ^ 62) (last_of batch) then []
    else batch ∷ taking most base (size + length batch) batches

-- the last entry is of this epoch
abbrev pub is_last : Option ℕ → ℕ → Bool
is_last None epoch = false
is_last (Some last) epoch = last == epoch

-- the line where an epoch starts, unless it has begun
abbrev pub snapshot : List (ℕ × ℕ) → ℕ → ℕ → List (ℕ × ℕ)
snapshot line epoch start = if is_last (last_epoch line) epoch then line else assign line epoch start

-- the line with these batches more
abbrev pub lined : List (ℕ × ℕ) → List (List ℕ) → List (ℕ × ℕ)
lined line [] = line
lined line (batch ∷ batches) = lined (snapshot line (epoch_of batch) (base_of batch)) batches

-- the size of the batch that bytes begin with
abbrev pub first_size : List ℕ → ℕ
first_size run = 12 + field_at w32 8 run

module _ {D : Type 0} where
  -- the log rolls before this run
  abbrev pub is_due : Log D → List ℕ → Bool
  is_due log run =
      rolls_before log.settings.segment_bytes log.active.base (size_of log.active) (first_size run) (last_of run)

  -- a new segment is open, and the one before it closed
  abbrev pub rolled : Log D → Log D
  rolled log = record log {
    closed = log.closed ++ log.active ∷ [];
    active = record { base = log.end; interval = log.settings.index_interval; batches = [] };
  }

  -- batches are in the open segment
  abbrev pub with_batches : Log D → List (List ℕ) → Log D
  with_batches log batches = record log {
    batches = log.batches ++ batches;
    end = end_from log.end batches;
    line = lined log.line batches;
    active = record log.active { batches = log.active.batches ++ placed_from (size_of log.active) batches };
  }

  -- as many batches are there as fit one segment
  abbrev pub with_first : Log D → List (List ℕ) → Log D
  with_first log batches =
      with_batches log (taking log.settings.segment_bytes log.active.base (size_of log.active) batches)

  -- the log that a run is appended to, after a roll where one is due
  abbrev pub open_for : Log D → List ℕ → Log D
  open_for log run = if is_due log run then rolled log else log

  -- a run was appended to a base, the log rolled or not, and these are its first offset and the last one of what was
  -- taken
  pub record IsAppendedTo (content : D → Content) (old base new : Log D) (run : List ℕ) (answer : ℕ × ℕ) : Type 0 where
    pub is : IsRunFor old.end old.line run
    pub becomes : LogBecomes content (with_first base is.batches) new
    pub base_is : answer.0 ≡ old.end
    pub last_is : answer.1 + 1 ≡ new.end

  -- a run was appended, after a roll where one is due
  abbrev pub IsAppended : (D → Content) → Log D → Log D → List ℕ → ℕ × ℕ → Type 0
  IsAppended content old new run answer = IsAppendedTo content old (open_for old run) new run answer
