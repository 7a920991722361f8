-- Pieces that are passed by the epoch.
use Rattle.std.proofs.Common.{◌≡◌, ◌∙◌, refl, sym, ap, ℕ, ◌<◌, ◌≤◌, Bool, true, false, cond, List, [], ◌∷◌, Option, Some, None, arith, inl, inr}
use Rattle.std.specs.Prelude.{nat_lt, IsSome}
use Rattle.std.specs.List.{AllByRecursion}
use Rattle.std.proofs.lemmas.Bool.{cases_lt, le-ltb}
use Rattle.log_terms.specs.Line.{epoch_at}
use Rattle.epoch_line.specs.Line.{IsLine, last_entry}
use Rattle.segment_meta.specs.declared.note.Entry.{Entry}
use Rattle.remote_view.specs.declared.spans.Span.{Span}
use Rattle.remote_view.specs.Fold.{AreEntriesValid, AreDistinct}
use Rattle.remote_view.specs.Lookup.{IsReach}
use Rattle.remote_view.specs.Stairs.{span_of}
use Rattle.remote_view.proofs.Lying.{in_span, within_says, lies}
use Rattle.remote_find.specs.declared.piece.Piece.{Piece}
use Rattle.remote_find.specs.Pieces.{Pieces, piece_below, piece_at, covered_to, IsCovered}
use Rattle.remote_find.proofs.Clipping.{gives_it, own_epoch}
use Rattle.remote_find.proofs.Covering.{found_there, found_nowhere, covered}

-- where the last entry starts by an end, each one does
pub all_by_last : (line : List (ℕ × ℕ)) (last : ℕ × ℕ) (end : ℕ) → IsLine line → last_entry line ≡ Some last → last.1 ≤ end → AllByRecursion (λ start. start.1 ≤ end) line
all_by_last [] last end rises is up = tt
all_by_last (entry ∷ []) last end rises is up = let same : entry ≡ last = cc in (rw same up, tt)
all_by_last (entry ∷ next ∷ line) last end rises is up =
    let rest = all_by_last (next ∷ line) last end rises.3 is up in
    (omega (arith, rises.2.1, rest.0), rest)

pub none_all : (line : List (ℕ × ℕ)) (end : ℕ) → last_entry line ≡ None → AllByRecursion (λ (start : ℕ × ℕ). start.1 ≤ end) line
none_all [] end none = tt
none_all (entry ∷ []) end none = absurd (cc)
none_all (entry ∷ next ∷ line) end none = let rest = none_all (next ∷ line) end none in absurd (never next line none)
  where
    never : (next : ℕ × ℕ) (line : List (ℕ × ℕ)) → last_entry (next ∷ line) ≡ None → ⊥
    never next [] none = absurd (cc)
    never next (more ∷ line) none = never more line none

-- past the log's end there is no piece, nor where the leader epochs have no epoch
pub past_end : (entries : List Entry) (line : List (ℕ × ℕ)) (log_end o : ℕ) → log_end ≤ o → piece_at entries line log_end o ≡ None
past_end entries line log_end o past = rw (le-ltb o log_end past) refl

pub no_epoch : (entries : List Entry) (line : List (ℕ × ℕ)) (log_end o : ℕ) → epoch_at line o ≡ None → piece_at entries line log_end o ≡ None
no_epoch entries line log_end o none = by (nat_lt o log_end)
  where
    by : (t : Bool) → cond t (piece_below entries line log_end o) None ≡ None
    by true = rw none refl
    by false = refl

-- an epoch that an offset has lies around it
around : (line : List (ℕ × ℕ)) (log_end epoch at : ℕ) (span : Option Span) → IsLine line → at < log_end → epoch_at line at ≡ Some epoch → span_of line epoch log_end ≡ span → in_span span at ≡ true
around line log_end epoch at span rises below is own = ap (λ (s : Option Span). in_span s at) (sym own) ∙ (sym (lies line epoch log_end at rises below) ∙ gives_it epoch (epoch_at line at) is)

pub lies_somewhere : (line : List (ℕ × ℕ)) (log_end epoch at : ℕ) → IsLine line → at < log_end → epoch_at line at ≡ Some epoch → span_of line epoch log_end ≡ None → ⊥
lies_somewhere line log_end epoch at rises below is none = absurd (let inside = around line log_end epoch at None rises below is none in cc)

pub own_holds : (line : List (ℕ × ℕ)) (log_end epoch at : ℕ) (own : Span) → IsLine line → at < log_end → epoch_at line at ≡ Some epoch → span_of line epoch log_end ≡ Some own → (own.from ≤ at) × (at < own.to)
own_holds line log_end epoch at own rises below is lies_in = within_says own.from own.to at (around line log_end epoch at (Some own) rises below is lies_in)

-- copies in an epoch make pieces
pub pieces_in_epoch : (entries : List Entry) (line : List (ℕ × ℕ)) (log_end epoch at reach o : ℕ) (own : Span) → AreEntriesValid entries → AreDistinct entries → IsLine line → at < log_end → epoch_at line at ≡ Some epoch
    → span_of line epoch log_end ≡ Some own → IsReach epoch entries at reach → at ≤ o → o < reach → o < own.to → o < log_end → IsSome (piece_at entries line log_end o)
pieces_in_epoch entries line log_end epoch at reach o own kept distinct rises below is lies_in h low high inside by_end =
    let from = (own_holds line log_end epoch at own rises below is lies_in).0 in
    found_there entries line log_end epoch o kept distinct rises by_end (own_epoch line epoch log_end o own rises lies_in (omega (arith, from, low)) inside) (h.each o low high)

-- where they go nowhere, there is none
pub stands_in_epoch : (entries : List Entry) (line : List (ℕ × ℕ)) (log_end epoch at reach : ℕ) → epoch_at line at ≡ Some epoch → IsReach epoch entries at reach → reach ≡ at → piece_at entries line log_end at ≡ None
stands_in_epoch entries line log_end epoch at reach is h same = found_nowhere entries line log_end epoch at is (rw same at h.none)

-- what is covered ends in one place
one_end : (pieces : Pieces) (at end other : ℕ) → IsCovered pieces at end → IsCovered pieces at other → end < other → ⊥
one_end pieces at end other h h' up = not_both (pieces end) (h'.each end h.from up) h.none
  where
    not_both : (p : Option Piece) → IsSome p → p ≡ None → ⊥
    not_both None some none = absurd (cc)
    not_both (Some p) some none = absurd (cc)

pub covered_once : (entries : List Entry) (line : List (ℕ × ℕ)) (log_end at end : ℕ) → AreEntriesValid entries → AreDistinct entries → IsLine line → AllByRecursion (λ (start : ℕ × ℕ). start.1 ≤ log_end) line
    → IsCovered (piece_at entries line log_end) at end → end ≡ covered_to entries line log_end at
covered_once entries line log_end at end kept distinct rises all h =
    let h' = covered entries line log_end at kept distinct rises all in
    elim (cases_lt end (covered_to entries line log_end at)) [
      | inl low ↦ absurd (one_end (piece_at entries line log_end) at end _ h h' low)
      | inr high ↦ elim (cases_lt (covered_to entries line log_end at) end) [
        | inl low ↦ absurd (one_end (piece_at entries line log_end) at _ end h' h low)
        | inr same ↦ omega (arith, high, same)
      ]
    ]
