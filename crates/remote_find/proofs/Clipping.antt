-- A piece is where an epoch lies in a copy and in the line alike.
use Rattle.std.proofs.Common.{◌≡◌, ◌∙◌, refl, sym, ap, ℕ, ◌+◌, ◌<◌, ◌≤◌, Bool, true, false, cond, List, [], ◌∷◌, Option, Some, None, arith}
use Rattle.std.specs.Prelude.{nat_lt, ◌==◌, option_map, min, max}
use Rattle.std.specs.List.{AllByRecursion}
use Rattle.std.proofs.lemmas.Bool.{eq-eqb, eqb-true, ltb-true, both_ways}
use Rattle.log_terms.specs.Line.{epoch_at}
use Rattle.epoch_line.specs.Line.{IsLine, start_or, end_of}
use Rattle.segment_meta.specs.declared.note.Entry.{Entry}
use Rattle.remote_view.specs.declared.spans.Span.{Span}
use Rattle.remote_view.specs.Fold.{entry_of, IsEntryValid, AreEntriesValid, AreDistinct}
use Rattle.remote_view.specs.Lookup.{is_readable, is_epoch, covers, finished}
use Rattle.remote_view.specs.Stairs.{span_of}
use Rattle.remote_view.specs.Laying.{gives}
use Rattle.remote_view.proofs.Lying.{in_span, within_says, within_true, lies, map_lies, IsSpanIn}
use Rattle.remote_view.proofs.Best.{found_among, entry_found, readable_covers}
use Rattle.remote_view.proofs.Keeping.{kept_span, kept_found}
use Rattle.remote_find.specs.declared.piece.Piece.{Piece}
use Rattle.remote_find.specs.Pieces.{◌>>=◌, start_of, clipped, piece_below, piece_at, IsPieceOf}

-- a span is a start and an end
start_is : (line : List (ℕ × ℕ)) (epoch end : ℕ) → start_of line epoch ≡ option_map (λ s. s.from) (span_of line epoch end)
start_is [] epoch end = refl
start_is (entry ∷ line) epoch end = by (entry.0 == epoch) (start_is line epoch end)
  where
    by : (t : Bool) → start_of line epoch ≡ option_map (λ s. s.from) (span_of line epoch end)
        → cond t (Some entry.1) (start_of line epoch) ≡ option_map (λ s. s.from) (cond t (Some (record { from = entry.1; to = start_or end line })) (span_of line epoch end))
    by true more = refl
    by false more = more

end_is : (line : List (ℕ × ℕ)) (epoch end : ℕ) → end_of line epoch end ≡ option_map (λ s. s.to) (span_of line epoch end)
end_is [] epoch end = refl
end_is (entry ∷ line) epoch end = by (entry.0 == epoch) (end_is line epoch end)
  where
    by : (t : Bool) → end_of line epoch end ≡ option_map (λ s. s.to) (span_of line epoch end)
        → cond t (Some (start_or end line)) (end_of line epoch end) ≡ option_map (λ s. s.to) (cond t (Some (record { from = entry.1; to = start_or end line })) (span_of line epoch end))
    by true more = refl
    by false more = more

-- the part that two spans share
abbrev pub shared : Entry → Option Span → Option Span → Option Piece
shared entry None own = None
shared entry (Some span) None = None
shared entry (Some span) (Some own) = Some (record { id = entry.id; from = max span.from own.from; to = min span.to own.to })

-- what a part is made of
abbrev parts : Entry → Option ℕ → Option ℕ → Option ℕ → Option ℕ → Option Piece
parts entry a b c d = do
  first ← a
  own_first ← b
  end ← c
  own_end ← d
  Some (record { id = entry.id; from = max first own_first; to = min end own_end })

parts_are : (entry : Entry) (span own : Option Span)
    → parts entry (option_map (λ s. s.from) span) (option_map (λ s. s.from) own) (option_map (λ s. s.to) span) (option_map (λ s. s.to) own) ≡ shared entry span own
parts_are entry None own = refl
parts_are entry (Some span) None = refl
parts_are entry (Some span) (Some own) = refl

pub clipped_is : (line : List (ℕ × ℕ)) (log_end epoch : ℕ) (entry : Entry) → clipped line log_end epoch entry ≡ shared entry (span_of entry.map epoch (entry.end + 1)) (span_of line epoch log_end)
clipped_is line log_end epoch entry =
    let top = entry.end + 1 in
    ap (λ (a : Option ℕ). parts entry a (start_of line epoch) (end_of entry.map epoch top) (end_of line epoch log_end)) (start_is entry.map epoch top)
    ∙ (ap (λ (b : Option ℕ). parts entry (option_map (λ s. s.from) (span_of entry.map epoch top)) b (end_of entry.map epoch top) (end_of line epoch log_end)) (start_is line epoch log_end)
    ∙ (ap (λ (c : Option ℕ). parts entry (option_map (λ s. s.from) (span_of entry.map epoch top)) (option_map (λ s. s.from) (span_of line epoch log_end)) c (end_of line epoch log_end)) (end_is entry.map epoch top)
    ∙ (ap (λ (d : Option ℕ). parts entry (option_map (λ s. s.from) (span_of entry.map epoch top)) (option_map (λ s. s.from) (span_of line epoch log_end)) (option_map (λ s. s.to) (span_of entry.map epoch top)) d) (end_is line epoch log_end)
    ∙ parts_are entry (span_of entry.map epoch top) (span_of line epoch log_end))))

-- the code finds the two spans
pub clipped_none : (line : List (ℕ × ℕ)) (log_end epoch : ℕ) (entry : Entry) → ◌≡◌ {A = Option Span} None (span_of entry.map epoch (entry.end + 1)) → ◌≡◌ {A = Option Piece} None (clipped line log_end epoch entry)
clipped_none line log_end epoch entry none = sym (clipped_is line log_end epoch entry ∙ ap (λ (s : Option Span). shared entry s (span_of line epoch log_end)) (sym none))

pub clipped_no_own : (line : List (ℕ × ℕ)) (log_end epoch : ℕ) (entry : Entry) (span : Span) → Some span ≡ span_of entry.map epoch (entry.end + 1)
    → ◌≡◌ {A = Option Span} None (span_of line epoch log_end) → ◌≡◌ {A = Option Piece} None (clipped line log_end epoch entry)
clipped_no_own line log_end epoch entry span is none =
    sym (clipped_is line log_end epoch entry ∙ (ap (λ (s : Option Span). shared entry s (span_of line epoch log_end)) (sym is) ∙ ap (λ (s : Option Span). shared entry (Some span) s) (sym none)))

pub clipped_both : (line : List (ℕ × ℕ)) (log_end epoch : ℕ) (entry : Entry) (span own : Span) → Some span ≡ span_of entry.map epoch (entry.end + 1) → Some own ≡ span_of line epoch log_end
    → clipped line log_end epoch entry ≡ Some (record { id = entry.id; from = max span.from own.from; to = min span.to own.to })
clipped_both line log_end epoch entry span own is is' =
    clipped_is line log_end epoch entry ∙ (ap (λ (s : Option Span). shared entry s (span_of line epoch log_end)) (sym is) ∙ ap (λ (s : Option Span). shared entry (Some span) s) (sym is'))

-- an epoch that an offset has is given
pub given : (epoch : ℕ) (found : Option ℕ) → is_epoch epoch found ≡ true → found ≡ Some epoch
given epoch None h = absurd (cc)
given epoch (Some e) h = ap Some (eqb-true e epoch h)

pub gives_it : (epoch : ℕ) (found : Option ℕ) → found ≡ Some epoch → is_epoch epoch found ≡ true
gives_it epoch found is = rw (is, eq-eqb epoch epoch refl) refl

-- a span of a longer line holds at least as much
span_grows : (line : List (ℕ × ℕ)) (epoch end later o : ℕ) → end ≤ later → in_span (span_of line epoch end) o ≡ true → in_span (span_of line epoch later) o ≡ true
span_grows [] epoch end later o up h = h
span_grows (entry ∷ []) epoch end later o up h = by (entry.0 == epoch) h
  where
    by : (t : Bool) → in_span (cond t (Some (record { from = entry.1; to = end })) None) o ≡ true → in_span (cond t (Some (record { from = entry.1; to = later })) None) o ≡ true
    by true h = let within = within_says entry.1 end o h in within_true entry.1 later o within.0 (omega (arith, within.1, up))
    by false h = absurd (cc)
span_grows (entry ∷ next ∷ line) epoch end later o up h = by (entry.0 == epoch) h (λ rest. span_grows (next ∷ line) epoch end later o up rest)
  where
    by : (t : Bool) → in_span (cond t (Some (record { from = entry.1; to = next.1 })) (span_of (next ∷ line) epoch end)) o ≡ true
        → (in_span (span_of (next ∷ line) epoch end) o ≡ true → in_span (span_of (next ∷ line) epoch later) o ≡ true)
        → in_span (cond t (Some (record { from = entry.1; to = next.1 })) (span_of (next ∷ line) epoch later)) o ≡ true
    by true h more = h
    by false h more = more h

-- where an epoch lies, the leader epochs give it
pub own_epoch : (line : List (ℕ × ℕ)) (epoch end o : ℕ) (span : Span) → IsLine line → span_of line epoch end ≡ Some span → span.from ≤ o → o < span.to → epoch_at line o ≡ Some epoch
own_epoch line epoch end o span rises is low high =
    let inside : in_span (span_of line epoch end) o ≡ true = rw is (within_true span.from span.to o low high) in
    given epoch (epoch_at line o) (lies line epoch (max end (o + 1)) o rises (omega arith) ∙ span_grows line epoch end (max end (o + 1)) o (omega arith) inside)

-- a line with no start past its end ends there or before
span_below_end : (line : List (ℕ × ℕ)) (epoch end : ℕ) (span : Span) → AllByRecursion (λ p. p.1 ≤ end) line → span_of line epoch end ≡ Some span → span.to ≤ end
span_below_end [] epoch end span all is = absurd (cc)
span_below_end (entry ∷ []) epoch end span all is = by (entry.0 == epoch) is
  where
    by : (t : Bool) → cond t (Some (record { from = entry.1; to = end })) None ≡ Some span → span.to ≤ end
    by true is = let same : end ≡ span.to = cc in omega (arith, same)
    by false is = absurd (cc)
span_below_end (entry ∷ next ∷ line) epoch end span all is = by (entry.0 == epoch) is (λ rest. span_below_end (next ∷ line) epoch end span all.1 rest)
  where
    by : (t : Bool) → cond t (Some (record { from = entry.1; to = next.1 })) (span_of (next ∷ line) epoch end) ≡ Some span → (span_of (next ∷ line) epoch end ≡ Some span → span.to ≤ end) → span.to ≤ end
    by true is more = let same : next.1 ≡ span.to = cc in omega (arith, same, all.1.0)
    by false is more = more is

module _ (entries : List Entry) (line : List (ℕ × ℕ)) (log_end offset : ℕ) (piece : Piece) (kept : AreEntriesValid entries) (distinct : AreDistinct entries) (rises : IsLine line) (below : offset < log_end) where
  -- the piece of two spans
  of_spans : (epoch : ℕ) (entry : Entry) (span own : Span) → epoch_at line offset ≡ Some epoch → finished epoch offset entries ≡ Some entry → span_of entry.map epoch (entry.end + 1) ≡ Some span
      → span_of line epoch log_end ≡ Some own → Some (record { id = entry.id; from = max span.from own.from; to = min span.to own.to }) ≡ Some piece
      → IsPieceOf entries line log_end offset epoch entry piece
  of_spans epoch entry span own at found is is_own made =
      let there = found_among epoch offset entries entry found in
      let copy : entry_of entry.id entries ≡ Some entry = entry_found entries entry distinct there.1 in
      let is_kept : IsEntryValid entry = kept_found entry.id entries entry kept copy in
      let bounds : IsSpanIn entry.start entry.end span = rw is at (kept_span entry epoch is_kept) in
      let parts' = readable_gives (is_readable entry.state) entry epoch refl there.0 in
      let in_copy : (span.from ≤ offset) × (offset < span.to) = within_says span.from span.to offset (ap (λ (s : Option Span). in_span s offset) (sym is) ∙ (sym (map_lies entry.start entry.end entry.map epoch offset is_kept.map) ∙ parts'.1)) in
      let in_own : (own.from ≤ offset) × (offset < own.to) = within_says own.from own.to offset (ap (λ (s : Option Span). in_span s offset) (sym is_own) ∙ (sym (lies line epoch log_end offset rises below) ∙ gives_it epoch (epoch_at line offset) at)) in
      let same : record { id = entry.id; from = max span.from own.from; to = min span.to own.to } ≡ piece = cc in
      rw (← same) (record {
        copy = copy;
        readable = parts'.0;
        holds = (omega (arith, in_copy.0, in_own.0), omega (arith, in_copy.1, in_own.1));
        within = (omega (arith, bounds.from), omega (arith, bounds.to));
        of_line = λ o low high. own_epoch line epoch log_end o own rises is_own (omega (arith, low)) (omega (arith, high));
        of_copy = λ o low high. own_epoch entry.map epoch (entry.end + 1) o span is_kept.map.line is (omega (arith, low)) (omega (arith, high));
        below = λ all. omega (arith, span_below_end line epoch log_end own all is_own);
      })
    where
      readable_gives : (t : Bool) (entry : Entry) (epoch : ℕ) → is_readable entry.state ≡ t → covers epoch offset entry ≡ true → (is_readable entry.state ≡ true) × (gives epoch offset entry ≡ true)
      readable_gives true entry epoch is h = (is, sym (readable_covers epoch offset entry true is) ∙ h)
      readable_gives false entry epoch is h = absurd (both_ways (covers epoch offset entry) (readable_covers epoch offset entry false is) h)

  with_spans : (epoch : ℕ) (entry : Entry) (a b : Option Span) → span_of entry.map epoch (entry.end + 1) ≡ a → span_of line epoch log_end ≡ b → epoch_at line offset ≡ Some epoch
      → finished epoch offset entries ≡ Some entry → shared entry a b ≡ Some piece → (e : ℕ) × (x : Entry) × IsPieceOf entries line log_end offset e x piece
  with_spans epoch entry None b is is_own at found made = absurd (cc)
  with_spans epoch entry (Some span) None is is_own at found made = absurd (cc)
  with_spans epoch entry (Some span) (Some own) is is_own at found made = (epoch, entry, of_spans epoch entry span own at found is is_own made)

  with_entry : (epoch : ℕ) (f : Option Entry) → finished epoch offset entries ≡ f → epoch_at line offset ≡ Some epoch → (f >>= (λ entry. clipped line log_end epoch entry)) ≡ Some piece
      → (e : ℕ) × (x : Entry) × IsPieceOf entries line log_end offset e x piece
  with_entry epoch None found at made = absurd (cc)
  with_entry epoch (Some entry) found at made =
      with_spans epoch entry (span_of entry.map epoch (entry.end + 1)) (span_of line epoch log_end) refl refl at found (sym (clipped_is line log_end epoch entry) ∙ made)

  pub with_epoch : (e : Option ℕ) → epoch_at line offset ≡ e → (e >>= (λ epoch. finished epoch offset entries >>= (λ entry. clipped line log_end epoch entry))) ≡ Some piece
      → (epoch : ℕ) × (x : Entry) × IsPieceOf entries line log_end offset epoch x piece
  with_epoch None at made = absurd (cc)
  with_epoch (Some epoch) at made = with_entry epoch (finished epoch offset entries) refl at made

-- so it is with the piece that holds an offset
pub piece_lies : (entries : List Entry) (line : List (ℕ × ℕ)) (log_end offset : ℕ) (piece : Piece) → AreEntriesValid entries → AreDistinct entries → IsLine line
    → piece_at entries line log_end offset ≡ Some piece → (epoch : ℕ) × (entry : Entry) × IsPieceOf entries line log_end offset epoch entry piece
piece_lies entries line log_end offset piece kept distinct rises made = by (nat_lt offset log_end) refl made
  where
    by : (t : Bool) → nat_lt offset log_end ≡ t → cond t (piece_below entries line log_end offset) None ≡ Some piece → (epoch : ℕ) × (entry : Entry) × IsPieceOf entries line log_end offset epoch entry piece
    by true low made = with_epoch entries line log_end offset piece kept distinct rises (ltb-true offset log_end low) (epoch_at line offset) refl made
    by false high made = absurd (cc)
