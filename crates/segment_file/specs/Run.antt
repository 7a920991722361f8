-- The run that is cut out of a log segment's bytes, and where none can be cut out.
--
-- A run begins with the batch that holds an offset. It is one batch, or several that fit a limit. No batch up to its
-- end ends past a bound, the smaller of the high watermark and the end of the piece.
use Rattle.std.specs.Prelude.{◌≡◌, ◌≢◌, ℕ, ◌+◌, ◌<◌, ◌≤◌, min, nat_lt, Bool, true, false, List, []}
use Rattle.std.specs.Prelude.{◌∷◌, ◌++◌, length, Option, Some, None, Result, Ok, Err, IsOk}
use Rattle.std.specs.Option.{ForSome}
use Rattle.tier_base.specs.declared.plain.Stop.{Stop}
use Rattle.tier_base.specs.declared.plain.Stop.TheVariants.{Mark, Piece, Limit}
use Rattle.log_terms.specs.Batch.{base_of, last_of}
use Rattle.log_terms.specs.Log.{joined, from_offset}
use Rattle.record_batch.specs.declared.head.Head.{Head}
use Rattle.record_batch.specs.declared.refusal.HeadRefusal.{HeadRefusal}
use Rattle.record_batch.specs.Check.{checked, headed}
use Rattle.segment_file.specs.declared.taking.Cutout.{Cutout}
use Rattle.segment_file.specs.declared.taking.BadAt.{BadAt}
use Rattle.segment_file.specs.Walk.{size_in}

-- the offset after batches that come after one which ends there
abbrev pub end_after : Option ℕ → List (List ℕ) → Option ℕ
end_after last [] = last
end_after last (batch ∷ batches) = end_after (Some (last_of batch + 1)) batches

-- a batch may begin here: where the one before ends, and the first one not past the offset
abbrev pub MayBeginAt : Option ℕ → ℕ → ℕ → Type 0
MayBeginAt None offset base = base ≤ offset
MayBeginAt (Some end) offset base = base ≡ end

-- a batch that follows on what ends there, and ends within the bound
pub record Follows (last : Option ℕ) (offset bound : ℕ) (batch : List ℕ) : Type 0 where
  pub is : IsOk (checked batch)
  pub begins : MayBeginAt last offset (base_of batch)
  pub below : last_of batch + 1 ≤ bound

-- batches, each of which follows on the one before
abbrev pub AreBatches : Option ℕ → ℕ → ℕ → List (List ℕ) → Type 0
AreBatches last offset bound [] = Unit {0}
AreBatches last offset bound (batch ∷ batches) =
    Follows last offset bound batch × AreBatches (Some (last_of batch + 1)) offset bound batches

-- batches that follow are at the front of bytes, up to a place
pub record HasBatchesUpTo (offset bound : ℕ) (bytes : List ℕ) (batches : List (List ℕ)) (rest : List ℕ)
    (at : ℕ) : Type 0 where
  pub parts : bytes ≡ joined batches ++ rest
  pub follow : AreBatches None offset bound batches
  pub place : at ≡ length (joined batches)

-- no batch that follows begins these bytes
abbrev pub NoBatch : Option ℕ → ℕ → ℕ → List ℕ → Type 0
NoBatch last offset bound bytes =
    (batch more : List ℕ) → bytes ≡ batch ++ more → Follows last offset bound batch → ⊥

-- after so many bytes the batch of the next head would pass the limit
abbrev pub would_pass : ℕ → ℕ → Result Head HeadRefusal → Bool
would_pass limit size (Ok head) = nat_lt limit (size + size_in head)
would_pass limit size (Err why) = false

-- one batch, or several that fit the limit
abbrev pub Fits : ℕ → List (List ℕ) → Type 0
Fits limit [] = Unit {0}
Fits limit (batch ∷ []) = Unit {0}
Fits limit (batch ∷ next ∷ run) = length (joined (batch ∷ next ∷ run)) ≤ limit

-- a run that has begun continues: it ends below the bound, and the next batch wouldn't pass the limit
abbrev pub RunContinues : ℕ → ℕ → Option ℕ → List (List ℕ) → List ℕ → Type 0
RunContinues limit bound last [] rest = Unit {0}
RunContinues limit bound last (first ∷ run) rest =
    ForSome last (λ end. end < bound) × (would_pass limit (length (joined (first ∷ run))) (headed rest) ≡ false)

-- why a run ends: the first that holds of the high watermark, the piece's end and the limit
abbrev pub StopIs : Stop → ℕ → ℕ → ℕ → Bool → Type 0
StopIs Mark end mark piece_end passes = end ≡ mark
StopIs Piece end mark piece_end passes = (end ≢ mark) × (end ≡ piece_end)
StopIs Limit end mark piece_end passes = (end ≢ mark) × (end ≢ piece_end) × (passes ≡ true)

-- the run at an offset
pub record IsRunCutAt (bytes : List ℕ) (offset limit mark piece_end : ℕ) (cut : Cutout) : Type 0 where
  pub batches : List (List ℕ)
  pub rest : List ℕ
  pub stand : HasBatchesUpTo offset (min mark piece_end) bytes batches rest cut.to
  pub first : List ℕ
  pub others : List (List ℕ)
  pub run : from_offset offset batches ≡ first ∷ others
  pub from : cut.from + length (joined (first ∷ others)) ≡ cut.to
  pub fits : Fits limit (first ∷ others)
  pub ends : end_after None batches ≡ Some cut.next
  pub stop_is : StopIs cut.stop cut.next mark piece_end
      (would_pass limit (length (joined (first ∷ others))) (headed rest))

-- the run hasn't ended, and at this place no batch follows
pub record IsBadAt (bytes : List ℕ) (offset limit bound at : ℕ) : Type 0 where
  pub batches : List (List ℕ)
  pub rest : List ℕ
  pub stand : HasBatchesUpTo offset bound bytes batches rest at
  pub fits : Fits limit (from_offset offset batches)
  pub goes_on : RunContinues limit bound (end_after None batches) (from_offset offset batches) rest
  pub nothing : NoBatch (end_after None batches) offset bound rest

-- what is answered at an offset
abbrev pub AnswersRunAt : List ℕ → ℕ → ℕ → ℕ → ℕ → Result Cutout BadAt → Type 0
AnswersRunAt bytes offset limit mark piece_end (Ok cut) = IsRunCutAt bytes offset limit mark piece_end cut
AnswersRunAt bytes offset limit mark piece_end (Err bad) = IsBadAt bytes offset limit (min mark piece_end) bad.at
