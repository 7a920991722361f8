-- A view that is refreshed from no event on.
use Rattle.std.proofs.Common.{◌≡◌, ◌∙◌, refl, ap, List, [], ◌∷◌, drop}
use Rattle.std.specs.Prelude.{IsTrue}
use Rattle.segment_meta.specs.declared.note.Note.{Note}
use Rattle.meta_log.specs.Content.{Content}
use Rattle.remote_view.specs.Fold.{EntriesSeen, fed, fold, folded_from}
use Rattle.view_refresh.specs.Refreshing.{fed_all, Refreshes}

-- the entries of a view that is fed
fed_entries : (view : EntriesSeen) (notes : List Note) → (fed_all view notes).entries ≡ folded_from view.entries notes
fed_entries view [] = refl
fed_entries view (note ∷ notes) = fed_entries (fed view note) notes

-- it has the entries of all events
pub refreshed_entries : (log : Content) (old new : EntriesSeen) → old ≡ record { entries = []; notes = 0 } → IsTrue log.is_observable → Refreshes log old new → new.entries ≡ fold log.notes
refreshed_entries log old new empty told h =
    let all : h.notes ≡ log.notes = h.further told ∙ ap (λ (v : EntriesSeen). drop v.notes log.notes) empty in
    ap (λ (v : EntriesSeen). v.entries) h.view ∙ (fed_entries old h.notes ∙ (ap (λ (v : EntriesSeen). folded_from v.entries h.notes) empty ∙ ap fold all))
