-- A log without its first closed segment.
use Rattle.std.specs.Prelude.{◌≡◌, ◌⊎◌, ℕ, ◌+◌, ◌≤◌, List, [], ◌∷◌}
use Rattle.disk_model.specs.Content.{Files}
use Rattle.log_terms.specs.Log.{from_offset}
use Rattle.segment_file.specs.Growing.{Grown}
use Rattle.log_steps.specs.Opens.{Opens}
use Rattle.local_log.specs.Stored.{end_of}
use Rattle.local_log.specs.Log.{Log, OpensFlushed, flushed_log}

-- the first of some segments, and those after it
abbrev pub first_of : List Grown → List Grown
first_of [] = []
first_of (first ∷ rest) = first ∷ []

abbrev pub rest_of : List Grown → List Grown
rest_of [] = []
rest_of (first ∷ rest) = rest

-- where those after it begin
abbrev pub start_behind : ℕ → List Grown → ℕ
start_behind start [] = start
start_behind start (first ∷ rest) = end_of first

-- there is a first one, and it ends at or below the flushed end
abbrev pub IsFirstFlushed : ℕ → List Grown → Type 0
IsFirstFlushed flushed_end [] = ⊥
IsFirstFlushed flushed_end (first ∷ rest) = end_of first ≤ flushed_end

-- the base and the last offset of the first one
abbrev pub SpansFirst : List Grown → ℕ × ℕ → Type 0
SpansFirst [] answer = ⊥
SpansFirst (first ∷ rest) answer = (answer.0 ≡ first.base) × (answer.1 + 1 ≡ end_of first)

module _ {D : Type 0} where
  -- the local start is then the base of the second segment
  abbrev pub dropped : Log D → Log D
  dropped log = record log {
    local_start = start_behind log.local_start log.closed;
    batches = from_offset (start_behind log.local_start log.closed) log.batches;
    closed = rest_of log.closed;
  }

  -- the flushed log of before, or the one without the first segment
  abbrev pub OpensDropped : Log D → Files → Type 0
  OpensDropped log c = OpensFlushed log c ⊎ Opens c (flushed_log (dropped log))
