-- No epoch that starts at a batch's end starts within a piece; and the batches of an open log are checked.
use Rattle.std.proofs.Common.{◌≡◌, ◌∙◌, ap, sym, subst, refl, ℕ, ◌<◌, ◌≤◌, Bool, true, false, List, [], ◌∷◌, ◌++◌, inl, inr, arith, lt-ltb, ltb-true}
use Rattle.std.specs.Prelude.{nat_lt, ◌&&◌, IsOk, IsTrue}
use Rattle.std.proofs.lemmas.Bool.{cases_lt}
use Rattle.std.proofs.lemmas.Bool.Decides.{nat_tests}
use Rattle.disk_model.specs.Content.{Content, Files}
use Rattle.log_terms.specs.Log.{end_from, up_to}
use Rattle.record_batch.specs.Check.{checked}
use Rattle.epoch_line.specs.Line.{IsLine}
use Rattle.segment_file.specs.Growing.{Grown}
use Rattle.log_steps.specs.Fronts.{Each}
use Rattle.log_steps.proofs.Lists.{each_map, each_join}
use Rattle.local_log.specs.declared.log.LocalLog.TheInside.{Inside}
use Rattle.local_log.specs.Stored.{batches_of, all_batches, end_of, IsStored}
use Rattle.local_log.specs.Listing.{IsLaidOut}
use Rattle.local_log.specs.Inside.{IsLogSound}
use Rattle.local_log.specs.Reading.{begin_of, is_edge, piece_end}
use Rattle.local_log.proofs.Pieces.{stored_batches}
use Rattle.local_log.proofs.Edges.{piece_ends, holder, holder_each, holder_same}
use Rattle.local_log.proofs.RunsTold.{edge_told}

-- the entries of a line after one start past it
pub rising_below : (entry : ℕ × ℕ) (line : List (ℕ × ℕ)) → IsLine (entry ∷ line) → Each (λ (e : ℕ × ℕ). entry.1 < e.1) line
rising_below entry [] h = tt
rising_below entry (next ∷ line) h =
    let less : entry.1 < next.1 = h.2.1 in
    (less, each_map (λ (e : ℕ × ℕ) (lt : next.1 < e.1). omega (arith, lt, less)) line (rising_below next line h.3))

both_true : (a b : Bool) → a ≡ true → b ≡ true → (a && b) ≡ true
both_true true b h k = k
both_true false b h k = absurd cc

-- a piece ends at or before each start past its offset that is an edge of its segment
piece_first : (line : List (ℕ × ℕ)) (segment : Grown) (offset : ℕ) → IsLine line
    → Each (λ (e : ℕ × ℕ). offset < e.1 → is_edge segment e.1 ≡ true → piece_end line segment offset ≤ e.1) line
piece_first [] segment offset h = tt
piece_first (entry ∷ line) segment offset h = go (nat_lt offset entry.1 && is_edge segment entry.1) refl (piece_first line segment offset h.3)
  where
    go : (t : Bool) → (nat_lt offset entry.1 && is_edge segment entry.1) ≡ t
        → Each (λ (e : ℕ × ℕ). offset < e.1 → is_edge segment e.1 ≡ true → piece_end line segment offset ≤ e.1) line
        → Each (λ (e : ℕ × ℕ). offset < e.1 → is_edge segment e.1 ≡ true → piece_end (entry ∷ line) segment offset ≤ e.1) (entry ∷ line)
    go true e more =
        let is : piece_end (entry ∷ line) segment offset ≡ entry.1 = rw e refl in (
          (λ lt edge. omega (arith, is)),
          each_map {Q = λ (x : ℕ × ℕ). offset < x.1 → is_edge segment x.1 ≡ true → piece_end (entry ∷ line) segment offset ≤ x.1} (λ x less lt edge. omega (arith, less, is)) line (rising_below entry line h),
        )
    go false e more =
        let is : piece_end (entry ∷ line) segment offset ≡ piece_end line segment offset = rw e refl in (
          (λ lt edge. absurd (let no : true ≡ false = sym (both_true (nat_lt offset entry.1) (is_edge segment entry.1) (lt-ltb offset entry.1 lt) edge) ∙ e in cc)),
          each_map {Q = λ (x : ℕ × ℕ). offset < x.1 → is_edge segment x.1 ≡ true → piece_end (entry ∷ line) segment offset ≤ x.1} (λ x below lt edge. subst (λ (n : ℕ). n ≤ x.1) (sym is) (below lt edge)) line more,
        )

-- an offset below the end of the log is below the end of its segment
holder_past : (offset : ℕ) (closed : List Grown) (active : Grown) → offset < end_of active → offset < end_of (holder offset closed active)
holder_past offset [] active lt = lt
holder_past offset (s ∷ closed) active lt = go (nat_lt offset (end_of s)) refl (holder_past offset closed active lt)
  where
    go : (t : Bool) → nat_lt offset (end_of s) ≡ t → offset < end_of (holder offset closed active) → offset < end_of (holder offset (s ∷ closed) active)
    go true e more = rw e (ltb-true offset (end_of s) e)
    go false e more = rw e more

is_edge_at : (segment : Grown) (n : ℕ) → begin_of segment n ≡ n → is_edge segment n ≡ true
is_edge_at segment n is = grind (arith, nat_tests, is)

-- the batches of segments' files are checked
pub stored_checked : (f : Files) (line : List (ℕ × ℕ)) (gs : List Grown) → Each (IsStored f line) gs → Each (λ (batch : List ℕ). IsOk (checked batch)) (all_batches f gs)
stored_checked f line [] each = tt
stored_checked f line (g ∷ gs) each =
    each_join (λ (batch : List ℕ). IsOk (checked batch)) (batches_of f g) (all_batches f gs)
    (subst (Each (λ (batch : List ℕ). IsOk (checked batch))) (sym (stored_batches f line g each.0)) (each_map (λ batch placed. placed.is) each.0.batches each.0.stands.placed))
    (stored_checked f line gs each.1)

module _ {D : Type 0} (content : D → Content) (s : Inside D) (sound : IsLogSound content s) (unbroken : s.broken ≡ false) (t : IsTrue (content s.disk).is_observable) where
  abbrev pub closed : List Grown
  closed = s.closed.items

  -- a start past an offset that is an end of the log's batches isn't within the offset's piece
  pub piece_before : (offset : ℕ) → s.local_start ≤ offset → offset < end_of s.active
      → Each (λ (e : ℕ × ℕ). offset < e.1 → end_from s.local_start (up_to e.1 (all_batches (content s.disk).files (closed ++ s.active ∷ []))) ≡ e.1
      → piece_end s.line (holder offset closed s.active) offset ≤ e.1) s.line
  piece_before offset le lt =
      let g = holder offset closed s.active in
      let are = sound.segments in
      let laid = holder_each IsLaidOut offset closed s.active (each_join IsLaidOut closed (s.active ∷ []) are.laid (are.active_laid, tt)) in
      let end = (piece_ends s.line g offset laid (holder_past offset closed s.active lt)).below in
      each_map {Q = λ (e : ℕ × ℕ). offset < e.1 → end_from s.local_start (up_to e.1 (all_batches (content s.disk).files (closed ++ s.active ∷ []))) ≡ e.1 → piece_end s.line g offset ≤ e.1}
      (λ e first past edge.
      elim (cases_lt e.1 (end_of g)) [
        | inl inside ↦
            let same = holder_same offset e.1 closed s.active (omega (arith, past)) inside in
            let begins : begin_of g e.1 ≡ e.1 = ap (λ (x : Grown). begin_of x e.1) (sym same) ∙ (sym (edge_told content s sound unbroken t e.1 (omega (arith, le, past))) ∙ edge) in
            first past (is_edge_at g e.1 begins)
        | inr out ↦ omega (arith, end, out)
      ]) s.line (piece_first s.line g offset sound.line)
