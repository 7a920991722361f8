-- A dump compared with `walk`: a valid batch is shown exactly where `walk` finds it.
use Rattle.std.specs.Prelude.{◌≡◌, ◌≢◌, ⊤, ℕ, ◌+◌, List, [], ◌∷◌, length, None}
use Rattle.log_terms.specs.Log.{joined}
use Rattle.record_batch.specs.Head.{head_of}
use Rattle.segment_file.specs.declared.walking.Found.{Found}
use Rattle.segment_file.specs.declared.walking.Found.TheVariants as found
use Rattle.segment_file.specs.Walk.{size_in}
use Rattle.dump_lines.specs.declared.seeing.Shown.{Shown}
use Rattle.dump_lines.specs.declared.seeing.Ending.{Ending}
use Rattle.dump_lines.specs.declared.seeing.Ending.TheVariants as ending
use Rattle.dump_lines.specs.declared.seeing.Seen.{Seen}
use Rattle.dump_lines.specs.declared.seeing.Seen.TheVariants.{Batch, Ends}
use Rattle.dump_lines.specs.Seen.{shown_at}

-- there are bytes, and no valid batch
abbrev pub IsNone : Seen → Type 0
IsNone (Batch one) = one.refused ≢ None
IsNone (Ends (ending.End at)) = ⊥
IsNone (Ends (ending.NoBatch broken)) = ⊤

-- what `walk` and a dump find at the same position
abbrev pub DumpAgrees : ℕ → Found → Seen → Type 0
DumpAgrees at (found.Batch head) seen = seen ≡ shown_at at head None
DumpAgrees at found.End seen = seen ≡ Ends (ending.End at)
DumpAgrees at (found.Cut place) seen = IsNone seen
DumpAgrees at (found.Bad place) seen = IsNone seen

-- valid batches, from a position on
abbrev pub shown_from : ℕ → List (List ℕ) → List Shown
shown_from at [] = []
shown_from at (batch ∷ batches) =
    (record { position = at; head = head_of batch; refused = None }) ∷ shown_from (at + size_in (head_of batch)) batches

-- a dump of these batches shows each of them, and ends after the last
pub record ShowsAll (at : ℕ) (batches : List (List ℕ)) (shown : List Shown) (end : Ending) : Type 0 where
  pub each : shown ≡ shown_from at batches
  pub last : end ≡ ending.End (at + length (joined batches))
