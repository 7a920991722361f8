-- A run of offsets that all have a tread, as a stair is laid over.
use Rattle.std.proofs.Common.{refl, ℕ, ◌<◌, ◌≤◌, Bool, true, false, cond, List, [], ◌∷◌, ◌++◌, Option, Some, None, inl, inr}
use Rattle.std.specs.Prelude.{IsSome, ◌⊎◌}
use Rattle.tier_base.specs.declared.names.SegmentId.{SegmentId}
use Rattle.segment_meta.specs.declared.note.Entry.{Entry}
use Rattle.remote_view.specs.declared.spans.Span.{Span}
use Rattle.remote_view.specs.declared.tread.Tread.{Tread}
use Rattle.remote_view.specs.Lookup.{better_of}
use Rattle.remote_view.specs.Stairs.{is_within, id_at, HasAll}
use Rattle.remote_view.specs.Laying.{held, IsSegmentLaid}
use Rattle.remote_view.proofs.Lying.{within_true}
use Rattle.remote_view.proofs.Treads.{or_else, id_at-append}

-- what is laid leaves no offset without a tread, and gives one to each of its range
pub runs_on : (es : List Entry) (entry : Entry) (run span grown : Span) (old new : List Tread) → HasAll run.from run.to old
    → ((o : ℕ) → grown.from ≤ o → o < grown.to → ((run.from ≤ o) × (o < run.to)) ⊎ ((span.from ≤ o) × (o < span.to)))
    → IsSegmentLaid es entry span old new → HasAll grown.from grown.to new
runs_on es entry run span grown old new all parts laid o low high = elim (parts o low high) [
  | inl before ↦ rw (laid.says o) (stays (better_of (held es (id_at old o)) entry).id (is_within span.from span.to o) (id_at old o) (all o before.0 before.1))
  | inr now ↦ rw (laid.says o, within_true span.from span.to o now.0 now.1) refl
]
  where
    stays : (w : SegmentId) (t : Bool) (id : Option SegmentId) → IsSome id → IsSome (cond t (Some w) id)
    stays w true id some = refl
    stays w false id some = some

-- nor does a tread that is put after the others
pub runs_behind : (run grown : Span) (old : List Tread) (tread : Tread) → HasAll run.from run.to old
    → ((o : ℕ) → grown.from ≤ o → o < grown.to → ((run.from ≤ o) × (o < run.to)) ⊎ ((tread.from ≤ o) × (o < tread.to)))
    → HasAll grown.from grown.to (old ++ tread ∷ [])
runs_behind run grown old tread all parts o low high = elim (parts o low high) [
  | inl before ↦ rw (id_at-append old (tread ∷ []) o) (first (id_at old o) (id_at (tread ∷ []) o) (all o before.0 before.1))
  | inr now ↦ rw (id_at-append old (tread ∷ []) o, within_true tread.from tread.to o now.0 now.1) (second (id_at old o))
]
  where
    first : (one two : Option SegmentId) → IsSome one → IsSome (or_else one two)
    first (Some id) two some = some
    first None two some = absurd (cc)

    second : (one : Option SegmentId) → IsSome (or_else one (Some tread.id))
    second (Some id) = refl
    second None = refl
