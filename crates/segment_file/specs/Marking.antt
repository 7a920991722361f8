-- Both indexes of a closed segment, made in one pass.
use Rattle.std.specs.Prelude.{◌≡◌, ℕ, ◌+◌, ◌-◌, ◌^◌, ◌<◌, ◌≤◌, List, ◌++◌, length}
use Rattle.std.specs.Option.{ForSome}
use Rattle.log_terms.specs.Log.{joined}
use Rattle.sparse_index.specs.Entries.{last_of}
use Rattle.sparse_index.specs.Offsets.{Rises}
use Rattle.segment_file.specs.declared.marking.Marking.{Marking}
use Rattle.segment_file.specs.declared.placed.Placed.{Placed}
use Rattle.segment_file.specs.Segment.{IsSegment}
use Rattle.segment_file.specs.Index.{Marks, placed_from, unmarked, marked_by}

-- the bytes are those of a segment
pub record HasSegment (base : ℕ) (bytes : List ℕ) : Type 0 where
  pub batches : List (List ℕ)
  pub bytes_are : bytes ≡ joined batches
  pub is : IsSegment base batches

-- indexes on their way, of so many bytes
abbrev pub marks_in : ℕ → Marking → Marks
marks_in size marking =
    record { size = size; entries = marking.offsets.entries; moments = marking.times.entries; top = marking.top }

-- both indexes are of the segment at this base offset
pub record IsFrom (base : ℕ) (marking : Marking) : Type 0 where
  pub offsets : marking.offsets.base ≡ base
  pub times : marking.times.base ≡ base

-- the greatest timestamp's batch may have a time entry
pub record TopFits (base : ℕ) (marks : Marks) : Type 0 where
  pub from_base : base ≤ marks.top.1
  pub near : marks.top.1 < base + 2 ^ 31
  pub above : ForSome (last_of marks.moments) (λ moment. base + moment.1 ≤ marks.top.1)

-- a batch may be marked next
pub record MayMark (base : ℕ) (marks : Marks) (batch : Placed) : Type 0 where
  pub from_base : base ≤ batch.last
  pub near : batch.last < base + 2 ^ 31
  pub small : marks.size < 2 ^ 31
  pub offsets : ForSome (last_of marks.entries) (λ entry. Rises entry (batch.last - base, marks.size))
  pub top : TopFits base marks
  pub later : marks.top.1 ≤ batch.last

-- the front of the bytes is marked
pub record IsMarked (base : ℕ) (bytes : List ℕ) (interval at : ℕ) (marking : Marking) : Type 0 where
  pub front : List (List ℕ)
  pub rest : List (List ℕ)
  pub parts : bytes ≡ joined front ++ joined rest
  pub place : at ≡ length (joined front)
  pub is : IsSegment base (front ++ rest)
  pub marks : marks_in at marking ≡ marked_by base interval (unmarked base) (placed_from 0 front)
  pub from : IsFrom base marking
