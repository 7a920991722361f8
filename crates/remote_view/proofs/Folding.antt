-- A fold that continues.
use Rattle.std.specs.Prelude.{is_some}
use Rattle.std.specs.List.{AllByRecursion}
use Rattle.std.proofs.Common.{◌≡◌, ◌∙◌, ap, refl, subst, Bool, true, false, cond, Option, Some, None, ℕ, ◌+◌, List, [], ◌∷◌, ◌++◌, length, arith}
use Rattle.std.proofs.lemmas.List.{length_push}
use Rattle.tier_base.specs.Counts.{counted}
use Rattle.segment_meta.specs.declared.note.Entry.{Entry}
use Rattle.segment_meta.specs.declared.note.Note.{Note}
use Rattle.segment_meta.specs.declared.note.Note.TheVariants.{Add, Update}
use Rattle.segment_meta.specs.Rules.{IsNote}
use Rattle.segment_meta.specs.Steps.{next_state}
use Rattle.remote_view.specs.Fold.{entry_of, state_of, changed, updated, AreDistinct, recorded, folded_from, fold, EntriesSeen, fed, view_of}
use Rattle.remote_view.proofs.Changes.{change_distinct, distinct_push, adds_it, adds_nothing}

folded-push : (entries : List Entry) (notes : List Note) (note : Note) → recorded (folded_from entries notes) note ≡ folded_from entries (notes ++ note ∷ [])
folded-push entries [] note = refl
folded-push entries (first ∷ notes) note = folded-push (recorded entries first) notes note

counted-push : (n m : ℕ) → m ≡ n + 1 → counted (counted 0 n) 1 ≡ counted 0 m
counted-push n m e = omega (arith, e)

-- one event more
pub fed_again : (notes : List Note) (note : Note) → fed (view_of notes) note ≡ view_of (notes ++ note ∷ [])
fed_again notes note =
    let entries = folded-push [] notes note in
    let count = counted-push (length notes) (length (notes ++ note ∷ [])) (length_push notes note) in
    ap (λ (es : List Entry). (let v : EntriesSeen = record { entries = es; notes = counted (counted 0 (length notes)) 1 } in v)) entries
    ∙ ap (λ (n : ℕ). (let v : EntriesSeen = record { entries = fold (notes ++ note ∷ []); notes = n } in v)) count

-- one event leaves the ids apart
recorded_distinct : (es : List Entry) (note : Note) → IsNote note → AreDistinct es → AreDistinct (recorded es note)
recorded_distinct es (Add e) is h = by (entry_of e.id es) refl
  where
    by : (found : Option Entry) → entry_of e.id es ≡ found → AreDistinct (recorded es (Add e))
    by None none = subst AreDistinct (adds_it es e is.started none) (distinct_push es e h none)
    by (Some x) here = subst AreDistinct (adds_nothing es e x is.started here) h
recorded_distinct es (Update id broker event_ts state custom) is h = by (is_some (next_state (state_of id es) state))
  where
    by : (t : Bool) → AreDistinct (cond t (changed id (updated broker event_ts state custom) es) es)
    by true = change_distinct id broker event_ts state custom es h
    by false = h

folded_distinct : (es : List Entry) (notes : List Note) → AllByRecursion IsNote notes → AreDistinct es → AreDistinct (folded_from es notes)
folded_distinct es [] is h = h
folded_distinct es (note ∷ notes) is h = folded_distinct (recorded es note) notes is.1 (recorded_distinct es note is.0 h)

pub fold_distinct : (notes : List Note) → AllByRecursion IsNote notes → AreDistinct (fold notes)
fold_distinct notes is = folded_distinct [] notes is tt
