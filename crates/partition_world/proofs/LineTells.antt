-- The line of a broker's log says in which epochs the log's offsets are: lookups in the remote tier go by it.
use Rattle.std.proofs.Common.{inl, inr, sym, subst, ℕ, ◌≤◌, List, [], ◌∷◌, ◌++◌, arith}
use Rattle.std.specs.List.{AllByRecursion}
use Rattle.log_terms.specs.Line.{line_of}
use Rattle.log_terms.specs.Log.{IsConsecutive, end_of}
use Rattle.copy_task.proofs.Mapping.{starts_within}
use Rattle.remote_view.specs.Fold.{EntriesSeen}
use Rattle.segment_meta.specs.declared.note.Note.{Note}
use Rattle.tier_safe.specs.Reads.{TellsEpochs, IsRightView}
use Rattle.tier_safe.specs.Scene.{TierTask}
use Rattle.tier_safe.specs.Views.{NotesStand, IsViewOf}
use Rattle.tier_safe.proofs.Rules.{seen_kept}
use Rattle.laws_partition.specs.Log.{IsLineFor}
use Rattle.laws_partition.specs.Seen.{Node}
use Rattle.laws_partition.specs.Sound.{NodeSound}
use Rattle.laws_partition.proofs.Lines.{line_at}

-- what holds of each start holds with one more
all_push : (n : ℕ) (line : List (ℕ × ℕ)) (one : ℕ × ℕ) → AllByRecursion (λ (start : ℕ × ℕ). start.1 ≤ n) line → one.1 ≤ n → AllByRecursion (λ (start : ℕ × ℕ). start.1 ≤ n) (line ++ one ∷ [])
all_push n [] one h low = (low, tt)
all_push n (start ∷ line) one h low = (h.0, all_push n line one h.1 low)

-- no epoch starts past the log's end
starts_below : (log : List (List ℕ)) (line : List (ℕ × ℕ)) → IsConsecutive 0 log → IsLineFor line log → AllByRecursion (λ (start : ℕ × ℕ). start.1 ≤ end_of log) line
starts_below log line c (inl is) =
    subst (AllByRecursion (λ (start : ℕ × ℕ). start.1 ≤ end_of log)) (sym is) (starts_within 0 (end_of log) log c (omega arith))
starts_below log line c (inr h) =
    subst (AllByRecursion (λ (start : ℕ × ℕ). start.1 ≤ end_of log)) (sym h.1)
    (all_push (end_of log) (line_of log) (h.0, end_of log) (starts_within 0 (end_of log) log c (omega arith)) (omega arith))

-- a node's line reports its log's epochs
pub line_tells : (x : Node) → NodeSound x → TellsEpochs x.log.line x.log.batches
line_tells x s = record {
  rises = s.log.rises;
  says = λ o low. line_at x.log.line x.log.batches o s.log.consecutive s.log.line_is s.log.rises low;
  within = starts_below x.log.batches x.log.line s.log.consecutive s.log.line_is;
}

-- a view of some first metadata events keeps the rules of views
pub right_view : (notes : List Note) (desk : List TierTask) (view : EntriesSeen) → NotesStand notes desk → IsViewOf notes view → IsRightView view
right_view notes desk view n v =
    let kept = seen_kept notes v.before desk n v.begins in
    subst IsRightView (sym v.is) (record { kept = kept.0; distinct = kept.1 })
