-- A log with its leader epochs, and the runs that are taken of it.
--
-- A run begins with the batch that holds an offset, and has batches of one leader epoch that end at or below a bound
-- and fit a limit, but at least one.
use Rattle.std.specs.Prelude.{◌≡◌, ◌≢◌, ℕ, ◌+◌, ◌==◌, ◌<◌, ◌≤◌, ◌⊎◌, true, if◌then◌else◌, List}
use Rattle.std.specs.Prelude.{[], ◌∷◌, ◌++◌, length, Option, Some, None, All}
use Rattle.std.specs.Option.{ForSome}
use Rattle.tier_base.specs.declared.plain.Stop.{Stop}
use Rattle.tier_base.specs.declared.plain.Stop.TheVariants.{Mark, Piece, Limit}
use Rattle.log_terms.specs.Batch.{epoch_of}
use Rattle.log_terms.specs.Line.{line_of}
use Rattle.log_terms.specs.Log.{IsConsecutive, end_of, joined, from_offset, up_to}
use Rattle.epoch_line.specs.Line.{IsLine, last_epoch, assign, cut_end}
use Rattle.plain_log.specs.Fetch.{is_within}

-- a log's batches, and its leader epochs
pub record Lined : Type 0 where
  pub batches : List (List ℕ)
  pub line : List (ℕ × ℕ)

-- the leader epochs have the epochs of the batches, and perhaps one more, which starts at the log's end
abbrev pub IsLineFor : List (ℕ × ℕ) → List (List ℕ) → Type 0
IsLineFor line log = (line ≡ line_of log) ⊎ ((e : ℕ) × (line ≡ line_of log ++ (e, end_of log) ∷ []))

-- what a log keeps: its batches are consecutive from 0, its leader epochs are theirs, and it ends within the offsets
pub record IsLog (end : ℕ) (log : Lined) : Type 0 where
  pub consecutive : IsConsecutive 0 log.batches
  pub line_is : IsLineFor log.line log.batches
  pub rises : IsLine log.line
  pub ends : end ≡ end_of log.batches
  pub small : end ≤ 4611686018427387904

-- the leader epochs of a log that gains a batch of an epoch at an offset
abbrev pub entered : List (ℕ × ℕ) → ℕ → ℕ → List (ℕ × ℕ)
entered line e base = line_or_more (last_epoch line)
  where
    line_or_more : Option ℕ → List (ℕ × ℕ)
    line_or_more None = assign line e base
    line_or_more (Some last) = if last == e then line else assign line e base

-- no epoch of the line is above this one
abbrev pub MayTakeEpoch : List (ℕ × ℕ) → ℕ → Type 0
MayTakeEpoch line e = ForSome (last_epoch line) (λ last. last ≤ e)

-- the log with a batch at its end
abbrev pub with_batch : Lined → List ℕ → Lined
with_batch log batch =
    record { batches = log.batches ++ batch ∷ []; line = entered log.line (epoch_of batch) (end_of log.batches) }

-- the log with batches at its end, which are of one epoch
abbrev pub with_batches : Lined → ℕ → List (List ℕ) → Lined
with_batches log e batches = record { batches = log.batches ++ batches; line = entered log.line e (end_of log.batches) }

-- the log up to an offset, and the line without the entries that start where it ends or later
abbrev pub cut_at : Lined → ℕ → Lined
cut_at log n = record { batches = up_to n log.batches; line = cut_end log.line (end_of (up_to n log.batches)) }

-- the first batch, if there is one, has bytes
abbrev pub HasBytes : List (List ℕ) → Type 0
HasBytes [] = Unit {0}
HasBytes (batch ∷ rest) = 0 < length batch

-- the next batch would pass the limit
abbrev pub WouldPass : List (List ℕ) → List (List ℕ) → ℕ → Type 0
WouldPass run [] limit = ⊥
WouldPass run (batch ∷ rest) limit = limit < length (joined run) + length batch

-- the epoch of the first batch
abbrev pub epoch_in : List (List ℕ) → Option ℕ
epoch_in [] = None
epoch_in (batch ∷ log) = Some (epoch_of batch)

-- why a run ends: at the bound; before it, with its piece, of which nothing is seen; before it, since the next batch
-- would pass the limit
abbrev pub StopIs : Stop → List (List ℕ) → List (List ℕ) → ℕ → ℕ → Type 0
StopIs Mark run rest limit bound = end_of run ≡ bound
StopIs Piece run rest limit bound = end_of run ≢ bound
StopIs Limit run rest limit bound = (end_of run ≢ bound) × WouldPass run rest limit

-- the first of the batches are a run
pub record IsRun (batches : List (List ℕ)) (limit bound : ℕ) (stop : Stop) (run : List (List ℕ)) : Type 0 where
  pub rest : List (List ℕ)
  pub parts : batches ≡ run ++ rest
  pub next : HasBytes rest
  pub within : is_within limit run ≡ true
  pub epochs : All (λ batch. Some (epoch_of batch) ≡ epoch_in run) run
  pub below : end_of run ≤ bound
  pub stop_is : StopIs stop run rest limit bound

-- the batches are the run at the offset
abbrev pub IsRunOf : List (List ℕ) → ℕ → ℕ → ℕ → Stop → List (List ℕ) → Type 0
IsRunOf log offset limit bound stop run = IsRun (from_offset offset log) limit bound stop run
