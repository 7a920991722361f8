-- Stairs that are changed at one end, in place.
use Rattle.std.proofs.Common.{◌≡◌, ◌≢◌, refl, ℕ, ◌+◌, List, [], ◌∷◌, ◌++◌, Some, None, inl, inr}
use Rattle.std.proofs.lemmas.Bool.{cases_eq, eq-eqb, ne_eqb}
use Rattle.segment_meta.specs.declared.note.Entry.{Entry}
use Rattle.remote_view.specs.declared.stairs.Stairs.{Stairs}
use Rattle.remote_view.specs.Fold.{IsEntryValid}
use Rattle.remote_view.specs.Stairs.{span_of, RisesAlong}
use Rattle.remote_view.specs.Laying.{Fits, IsLaidIn}
use Rattle.remote_view.specs.Storing.{stair_on}
use Rattle.remote_view.proofs.Lying.{IsSpanIn}
use Rattle.remote_view.proofs.Keeping.{kept_span, laid_in, laid_nowhere}
use Rattle.remote_view.proofs.Overlay.{fit_laid}

-- where the only epoch of a map lies, and that no other lies there
only_span : (x : Entry) (epoch from : ℕ) → x.map ≡ (epoch, from) ∷ [] → span_of x.map epoch (x.end + 1) ≡ Some (record { from = from; to = x.end + 1 })
only_span x epoch from is = rw (is, eq-eqb epoch epoch refl) refl

other_span : (x : Entry) (epoch from q : ℕ) → x.map ≡ (epoch, from) ∷ [] → q ≢ epoch → span_of x.map q (x.end + 1) ≡ None
other_span x epoch from q is other = rw (is, ne_eqb epoch q (λ same. other (rw same refl))) refl

-- an entry that is put after the stair of its only epoch is laid over all stairs
pub laid_behind : (es : List Entry) (x : Entry) (epoch from : ℕ) (old new : Stairs) → IsEntryValid x → x.map ≡ (epoch, from) ∷ [] → ((q : ℕ) → RisesAlong (stair_on old q)) → Fits from x.id (stair_on old epoch)
    → stair_on new epoch ≡ stair_on old epoch ++ (record { from = from; to = x.end + 1; id = x.id }) ∷ [] → ((q : ℕ) → q ≢ epoch → stair_on new q ≡ stair_on old q)
    → (q : ℕ) → IsLaidIn es x q (stair_on old q) (stair_on new q)
laid_behind es x epoch from old new kept is rises fits there others q = elim (cases_eq q epoch) [
  | inl same ↦
      let bounds : IsSpanIn x.start x.end (record { from = from; to = x.end + 1 }) = rw (only_span x epoch from is) at (kept_span x epoch kept) in
      rw (same, there) (laid_in es x epoch (record { from = from; to = x.end + 1 }) (stair_on old epoch) _ kept (only_span x epoch from is)
      (fit_laid es x (record { from = from; to = x.end + 1 }) (stair_on old epoch) fits bounds.some))
  | inr other ↦ rw (others q other) (laid_nowhere es x q (stair_on old q) kept (other_span x epoch from q is other) (rises q))
]
