-- A piece that is found ends where a batch does, in its segment and in the log by whose line it was found.
--
-- It ends where its epoch does in the log's leader epochs or in the copy's map, or else with the log or with the copy.
use Rattle.std.proofs.Common.{◌≡◌, ◌≢◌, ◌⊎◌, ◌∙◌, inl, inr, sym, ap, subst, refl, ℕ, ◌+◌, ◌-◌, ◌<◌, ◌≤◌, min, max, Bool, true, false, cond, nat_lt, List, [], ◌∷◌, ◌++◌, Some, None, Option, arith}
use Rattle.std.proofs.lemmas.Bool.{lt-ltb, le-ltb, le-leb, lt-leb, cases_lt}
use mathlib.Core.List.{IsPrefix}
use Rattle.log_terms.specs.Batch.{base_of, epoch_of, last_of}
use Rattle.log_terms.specs.Line.{epoch_at, epoch_holding}
use Rattle.log_terms.specs.Log.{IsConsecutive, end_from, end_of, EndsAt}
use Rattle.log_terms.proofs.Lists.{prefix_trans}
use Rattle.log_terms.proofs.Logs.{end_append, nested, ends_at_end}
use Rattle.epoch_line.specs.Line.{IsLine}
use Rattle.segment_meta.specs.declared.note.Entry.{Entry}
use Rattle.plain_log.specs.declared.state.State.{State as Plain}
use Rattle.plain_log.specs.Safe.{LogSafe, PlainSafe}
use Rattle.object_store.specs.Content.{Objects}
use Rattle.remote_view.specs.declared.spans.Span.{Span}
use Rattle.remote_view.specs.Fold.{entry_of, AreEntriesValid, AreDistinct, IsEntryValid}
use Rattle.remote_view.specs.Lookup.{finished}
use Rattle.remote_view.specs.Stairs.{span_of}
use Rattle.remote_view.proofs.Best.{found_among, entry_found}
use Rattle.remote_view.proofs.Keeping.{kept_found}
use Rattle.remote_view.proofs.Lying.{in_span, within_says, lies}
use Rattle.remote_find.specs.declared.piece.Piece.{Piece}
use Rattle.remote_find.specs.Pieces.{◌>>=◌, clipped, piece_below, piece_at}
use Rattle.remote_find.proofs.Clipping.{shared, clipped_is, gives_it, piece_lies}
use Rattle.tier_safe.specs.Copies.{FinishedStand}
use Rattle.tier_safe.specs.Kept.{Shares, whole_of}
use Rattle.tier_safe.specs.Lineage.{IsStoredWhole}
use Rattle.tier_safe.specs.Reads.{TellsEpochs}
use Rattle.tier_safe.proofs.Agreeing.{has_safe, entry_at, entry_agrees}
use Rattle.tier_safe.proofs.Basics.{one_some}
use Rattle.tier_safe.proofs.Covering.{readable}

-- logs

longer_both : (x : List ℕ) (ws xs : List (List ℕ)) → IsPrefix ws xs → IsPrefix (x ∷ ws) (x ∷ xs)
longer_both x ws xs p = (p.0, ap (λ (l : List (List ℕ)). x ∷ l) p.1)

-- where a log's epoch changes a batch ends
changes_end : (n : ℕ) (log : List (List ℕ)) (o e : ℕ) → IsConsecutive n log → epoch_holding log o ≡ Some e → epoch_holding log (o + 1) ≢ Some e
    → (front : List (List ℕ)) × IsPrefix front log × (end_from n front ≡ o + 1)
changes_end n [] o e c holds other = absurd (cc (holds))
changes_end n (x ∷ xs) o e c holds other = elim (cases_lt o (base_of x)) [
  | inl below ↦ absurd (none (rw (lt-ltb o (base_of x) below) at holds))
  | inr above ↦ elim (cases_lt (last_of x) o) [
    | inl past ↦
        let r = changes_end (last_of x + 1) xs o e c.1 (rw (le-ltb o (base_of x) above, lt-leb o (last_of x) past) at holds)
        (λ k. other (rw (le-ltb (o + 1) (base_of x) (omega (arith, above)), lt-leb (o + 1) (last_of x) (omega (arith, past))) k)) in
        (x ∷ r.0, longer_both x r.0 xs r.1, r.2)
    | inr in_it ↦
        let is : Some (epoch_of x) ≡ Some e = rw (le-ltb o (base_of x) above, le-leb o (last_of x) in_it) at holds in
        elim (cases_lt o (last_of x)) [
          | inl before ↦ absurd (other (rw (le-ltb (o + 1) (base_of x) (omega (arith, above)), le-leb (o + 1) (last_of x) (omega (arith, before))) is))
          | inr end ↦ (x ∷ [], (xs, refl), omega (arith, in_it, end))
        ]
  ]
]
  where
    none : ◌≡◌ {A = Option ℕ} None (Some e) → ⊥
    none is = absurd (cc (is))

-- an end of the one log within what both share is an end of the other
pub shared_end : (xs ys : List (List ℕ)) (n m : ℕ) → IsConsecutive 0 xs → EndsAt n xs → Shares xs ys m → n ≤ m + 1 → EndsAt n ys
shared_end xs ys n m c e s le =
    let past = s.past in
    let ends = e.2 in
    let begins = nested 0 e.0 s.front xs c e.1 s.one (omega (arith, ends, past, le)) in
    (e.0, prefix_trans e.0 s.front ys begins s.two, ends)

pub turned : (xs ys : List (List ℕ)) (m : ℕ) → Shares xs ys m → Shares ys xs m
turned xs ys m s = record { front = s.front; one = s.two; two = s.one; past = s.past }

front_off : (xs ys zs : List (List ℕ)) → xs ++ ys ≡ xs ++ zs → ys ≡ zs
front_off [] ys zs e = e
front_off (x ∷ xs) ys zs e = front_off xs ys zs (cc (e))

-- an end after a front is one of the batches that come after it
pub end_behind : (front batches : List (List ℕ)) (n : ℕ) → IsConsecutive 0 (front ++ batches) → end_of front ≤ n → EndsAt n (front ++ batches)
    → (first : List (List ℕ)) × IsPrefix first batches × (end_from (end_of front) first ≡ n)
end_behind front batches n c low e =
    let ends = e.2 in
    let r = nested 0 front e.0 (front ++ batches) c (batches, refl) e.1 (omega (arith, ends, low)) in
    let whole : front ++ (r.0 ++ e.1.0) ≡ front ++ batches = sym (assoc front r.0 e.1.0) ∙ ap (λ (l : List (List ℕ)). l ++ e.1.0) r.1 ∙ e.1.1 in
    (r.0, (e.1.0, front_off front (r.0 ++ e.1.0) batches whole), sym (end_append 0 front r.0) ∙ ap end_of r.1 ∙ ends)
  where
    assoc : (xs ys zs : List (List ℕ)) → (xs ++ ys) ++ zs ≡ xs ++ (ys ++ zs)
    assoc [] ys zs = refl
    assoc (x ∷ xs) ys zs = ap (λ (l : List (List ℕ)). x ∷ l) (assoc xs ys zs)

-- lines

-- after its span an epoch isn't the line's
behind_span : (line : List (ℕ × ℕ)) (epoch end : ℕ) (span : Span) → IsLine line → span_of line epoch end ≡ Some span → span.to < end → epoch_at line span.to ≢ Some epoch
behind_span line epoch end span rises is below = λ at.
    (let inside : in_span (Some span) span.to ≡ true =
    ap (λ (s : Option Span). in_span s span.to) (sym is) ∙ (sym (lies line epoch end span.to rises below) ∙ gives_it epoch (epoch_at line span.to) at) in
    let within = within_says span.from span.to span.to inside in
    let high = within.1 in
    omega (arith, high))

-- pieces

-- what a piece is made of: the spans of its epoch in the copy's map and in the log's leader epochs
record IsClipped (entries : List Entry) (line : List (ℕ × ℕ)) (log_end offset : ℕ) (piece : Piece) : Type 0 where
  pub epoch : ℕ
  pub at : epoch_at line offset ≡ Some epoch
  pub entry : Entry
  pub found : finished epoch offset entries ≡ Some entry
  pub span : Span
  pub span_is : span_of entry.map epoch (entry.end + 1) ≡ Some span
  pub own : Span
  pub own_is : span_of line epoch log_end ≡ Some own
  pub made : (piece.id ≡ entry.id) × (piece.to ≡ min span.to own.to)

module _ (entries : List Entry) (line : List (ℕ × ℕ)) (log_end offset : ℕ) (piece : Piece) where
  with_spans : (epoch : ℕ) (entry : Entry) (a b : Option Span) → span_of entry.map epoch (entry.end + 1) ≡ a → span_of line epoch log_end ≡ b → epoch_at line offset ≡ Some epoch
      → finished epoch offset entries ≡ Some entry → shared entry a b ≡ Some piece → IsClipped entries line log_end offset piece
  with_spans epoch entry None b is own at found made = absurd (cc (made))
  with_spans epoch entry (Some span) None is own at found made = absurd (cc (made))
  with_spans epoch entry (Some span) (Some own) is own_is at found made =
      let same : record { id = entry.id; from = max span.from own.from; to = min span.to own.to } ≡ piece = cc (made) in
      record {
        epoch = epoch;
        at = at;
        entry = entry;
        found = found;
        span = span;
        span_is = is;
        own = own;
        own_is = own_is;
        made = (ap (λ (p : Piece). p.id) (sym same), ap (λ (p : Piece). p.to) (sym same));
      }

  with_entry : (epoch : ℕ) (f : Option Entry) → finished epoch offset entries ≡ f → epoch_at line offset ≡ Some epoch → (f >>= (λ entry. clipped line log_end epoch entry)) ≡ Some piece
      → IsClipped entries line log_end offset piece
  with_entry epoch None found at made = absurd (cc (made))
  with_entry epoch (Some entry) found at made =
      with_spans epoch entry (span_of entry.map epoch (entry.end + 1)) (span_of line epoch log_end) refl refl at found (sym (clipped_is line log_end epoch entry) ∙ made)

  with_epoch : (e : Option ℕ) → epoch_at line offset ≡ e → (e >>= (λ epoch. finished epoch offset entries >>= (λ entry. clipped line log_end epoch entry))) ≡ Some piece
      → IsClipped entries line log_end offset piece
  with_epoch None at made = absurd (cc (made))
  with_epoch (Some epoch) at made = with_entry epoch (finished epoch offset entries) refl at made

  clips : piece_at entries line log_end offset ≡ Some piece → IsClipped entries line log_end offset piece
  clips made = by (nat_lt offset log_end) made
    where
      by : (t : Bool) → cond t (piece_below entries line log_end offset) None ≡ Some piece → IsClipped entries line log_end offset piece
      by true made = with_epoch (epoch_at line offset) refl made
      by false made = absurd (cc (made))

-- the smaller of two numbers is one of them
pub one_of_both : (a b n : ℕ) → n ≡ min a b → (n ≡ a) ⊎ (n ≡ b)
one_of_both a b n is = elim (cases_lt a b) [ inl less ↦ inl (omega (arith, is, less)) | inr more ↦ inr (omega (arith, is, more)) ]

-- where a piece ends that is found, a batch of the log does
pub piece_ends : (p : Plain) (objects : Objects) (entries : List Entry) (line : List (ℕ × ℕ)) (log : List (List ℕ)) (offset : ℕ) (piece : Piece) → PlainSafe p → FinishedStand objects p.paths entries
    → AreEntriesValid entries → AreDistinct entries → TellsEpochs line log → LogSafe p.paths log → piece_at entries line (end_of log) offset ≡ Some piece → EndsAt piece.to log
piece_ends p objects entries line log offset piece s stand kept distinct is_observable safe made =
    let k = piece_lies entries line (end_of log) offset piece kept distinct is_observable.rises made in
    let epoch = k.0 in
    let entry = k.1 in
    let i = k.2 in
    let q = clips entries line (end_of log) offset piece made in
    let holds = i.holds in
    let low = holds.0 in
    let high = holds.1 in
    let within = i.within in
    let end = i.below is_observable.within in
    let last = piece.to - 1 in
    let next : last + 1 ≡ piece.to = omega (arith, high) in
    -- its entry and its epoch
    let there = found_among q.epoch offset entries q.entry q.found in
    let own : entry_of q.entry.id entries ≡ Some q.entry = entry_found entries q.entry distinct there.1 in
    let entry_is : q.entry ≡ entry =
    one_some (entry_of piece.id entries) q.entry entry (ap (λ (id : _). entry_of id entries) q.made.0 ∙ own) i.copy in
    let epoch_is : q.epoch ≡ epoch = one_some (epoch_at line offset) q.epoch epoch q.at (i.of_line offset low high) in
    let done = readable entry.state i.readable in
    let stored_whole : IsStoredWhole objects p.paths entry = stand piece.id entry i.copy done in
    let whole = whole_of stored_whole in
    let part = stored_whole.describes.part in
    let whole_safe = has_safe p part.epoch whole s part.begins in
    -- copy and log are one up to its last offset
    let of_log : epoch_holding log last ≡ Some epoch =
    sym (is_observable.says last (omega (arith, high, end))) ∙ i.of_line last (omega (arith, low, high)) (omega (arith, high)) in
    let of_map : epoch_at entry.map last ≡ Some epoch = i.of_copy last (omega (arith, low, high)) (omega (arith, high)) in
    let shares : Shares whole log last =
    entry_agrees p entry stored_whole.batches stored_whole.line log last epoch s stored_whole.describes safe (omega (arith, within.0, low, high)) (omega (arith, within.1, high)) of_map of_log in
    let in_copy : EndsAt piece.to whole → EndsAt piece.to log = λ e. shared_end whole log piece.to last whole_safe.consecutive e shares (omega (arith, next)) in
    let is_kept : IsEntryValid entry = kept_found piece.id entries entry kept i.copy in
    elim (one_of_both q.span.to q.own.to piece.to q.made.1) [
      | inr by_line ↦ elim (cases_lt piece.to (end_of log)) [
        | inr all ↦ subst (λ (n : ℕ). EndsAt n log) (omega (arith, all, end)) (ends_at_end log)
        | inl inner ↦
            let other : epoch_at line q.own.to ≢ Some q.epoch = behind_span line q.epoch (end_of log) q.own is_observable.rises q.own_is (omega (arith, inner, by_line)) in
            let changes : epoch_holding log (last + 1) ≢ Some epoch = λ at.
            other (ap (epoch_at line) (sym by_line) ∙ (is_observable.says piece.to inner ∙ (ap (epoch_holding log) (sym next) ∙ at)) ∙ ap (λ (e : ℕ). Some e) (sym epoch_is)) in
            subst (λ (n : ℕ). EndsAt n log) next (changes_end 0 log last epoch safe.consecutive of_log changes)
      ]
      | inl by_map ↦ elim (cases_lt piece.to (entry.end + 1)) [
        | inr all ↦
            let last_is = stored_whole.describes.last_is in
            let ends : end_of whole ≡ entry.end + 1 =
            end_append 0 part.front stored_whole.batches ∙ (ap (λ (n : ℕ). end_from n stored_whole.batches) part.ends ∙ sym last_is) in
            in_copy (subst (λ (n : ℕ). EndsAt n whole) (omega (arith, ends, all, within.1)) (ends_at_end whole))
        | inl inner ↦
            let span_is : span_of entry.map epoch (entry.end + 1) ≡ Some q.span =
            subst (λ (x : Entry). span_of x.map epoch (x.end + 1) ≡ Some q.span) entry_is (subst (λ (e : ℕ). span_of q.entry.map e (q.entry.end + 1) ≡ Some q.span) epoch_is q.span_is) in
            let other : epoch_at entry.map q.span.to ≢ Some epoch = behind_span entry.map epoch (entry.end + 1) q.span is_kept.map.line span_is (omega (arith, inner, by_map)) in
            let of_whole : (o : ℕ) → entry.start ≤ o → o ≤ entry.end → epoch_at entry.map o ≡ epoch_holding whole o = λ o from to. entry_at p entry stored_whole.batches stored_whole.line o s stored_whole.describes from to in
            let here : epoch_holding whole last ≡ Some epoch = sym (of_whole last (omega (arith, within.0, low, high)) (omega (arith, within.1, high))) ∙ of_map in
            let changes : epoch_holding whole (last + 1) ≢ Some epoch = λ at.
            other (ap (epoch_at entry.map) (sym by_map) ∙ (of_whole piece.to (omega (arith, within.0, low, high)) (omega (arith, inner)) ∙ (ap (epoch_holding whole) (sym next) ∙ at))) in
            in_copy (subst (λ (n : ℕ). EndsAt n whole) next (changes_end 0 whole last epoch whole_safe.consecutive here changes))
      ]
    ]
