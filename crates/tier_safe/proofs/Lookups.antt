-- What is covered is found, and what is found is covered.
use Rattle.std.proofs.Common.{◌≡◌, ◌∙◌, sym, ap, subst, refl, ℕ, ◌+◌, ◌-◌, ◌==◌, ◌<◌, ◌≤◌, Bool, true, false, cond, List, [], ◌∷◌, Option, Some, None, arith}
use Rattle.std.specs.Prelude.{IsSome, nat_lt, nat_le, filter, min, max}
use Rattle.std.specs.Str.{bytes_eq}
use Rattle.std.proofs.lemmas.Bool.{eq-eqb, le-leb}
use Rattle.tier_base.specs.declared.names.SegmentId.{SegmentId}
use Rattle.log_terms.specs.Line.{epoch_at}
use Rattle.log_terms.specs.Log.{end_of}
use Rattle.log_terms.proofs.Logs.{lt_true}
use Rattle.epoch_line.specs.Line.{start_or}
use Rattle.epoch_line.specs.Line as line
use Rattle.segment_meta.specs.declared.note.Entry.{Entry}
use Rattle.remote_view.specs.Fold.{EntriesSeen, entry_of}
use Rattle.remote_view.specs.Lookup.{is_readable, covers, better_of, best_from, finished}
use Rattle.remote_view.proofs.Best.{found_among}
use Rattle.remote_find.specs.declared.piece.Piece.{Piece}
use Rattle.remote_find.specs.Pieces.{start_of, piece_at}
use Rattle.remote_find.proofs.Clipping.{piece_lies}
use Rattle.remote_find.proofs.Covering.{covered}
use Rattle.tier_safe.specs.Lineage.{Covers, CoversLog}
use Rattle.tier_safe.specs.Reads.{TellsEpochs, IsRightView, LackingIsFound, AskedIsFound, FoundStands, ReachedIsCovered, WantedIsFound}
use Rattle.tier_safe.proofs.Covering.{covers_is, readable}

-- a test that an id's entry passes leaves entries
filter_some : (test : Entry → Bool) (es : List Entry) (id : SegmentId) (x : Entry) → entry_of id es ≡ Some x → test x ≡ true
    → (y : Entry) × (ys : List Entry) × (filter test es ≡ y ∷ ys)
filter_some test [] id x here pass = absurd (cc (here))
filter_some test (e ∷ es) id x here pass = by (bytes_eq e.id.0 id.0) (test e) refl here (filter_some test es id x)
  where
    by : (t u : Bool) → test e ≡ u → cond t (Some e) (entry_of id es) ≡ Some x → (entry_of id es ≡ Some x → test x ≡ true → (y : Entry) × (ys : List Entry) × (filter test es ≡ y ∷ ys))
        → (y : Entry) × (ys : List Entry) × (cond u (e ∷ filter test es) (filter test es) ≡ y ∷ ys)
    by t true is found more = (e, filter test es, refl)
    by true false is found more = absurd (let same : e ≡ x = cc (found) in let yes : test e ≡ true = ap test same ∙ pass in cc (yes, is))
    by false false is found more = more found pass

best_some : (b : Entry) (es : List Entry) → (best : Entry) × (best_from (Some b) es ≡ Some best)
best_some b [] = (b, refl)
best_some b (e ∷ es) = best_some (better_of (Some b) e) es

covers_found : (entries : List Entry) (epoch offset : ℕ) → Covers entries epoch offset → (best : Entry) × (finished epoch offset entries ≡ Some best) × (covers epoch offset best ≡ true)
covers_found entries epoch offset h =
    let some = filter_some (covers epoch offset) entries h.id h.entry h.there h.gives in
    let best = best_some some.0 some.1 in
    let is : finished epoch offset entries ≡ Some best.0 = ap (best_from None) some.2 ∙ best.1 in
    (best.0, is, (found_among epoch offset entries best.0 is).0)

-- an epoch that a line gives starts and ends in it
gives_start : (l : List (ℕ × ℕ)) (offset e : ℕ) → epoch_at l offset ≡ Some e → (s : ℕ) × (start_of l e ≡ Some s)
gives_start [] offset e h = absurd (cc (h))
gives_start ((epoch, start) ∷ []) offset e h = by (nat_le start offset) h
  where
    by : (t : Bool) → cond t (Some epoch) None ≡ Some e → (s : ℕ) × (cond (epoch == e) (Some start) None ≡ Some s)
    by true k = (start, rw (eq-eqb epoch e (cc (k))) refl)
    by false k = absurd (cc (k))
gives_start ((epoch, start) ∷ (next, after) ∷ l) offset e h = by (nat_lt offset start) (nat_lt offset after) h (gives_start ((next, after) ∷ l) offset e)
  where
    here : (t : Bool) (o : Option ℕ) → ((s : ℕ) × (o ≡ Some s)) → (s : ℕ) × (cond t (Some start) o ≡ Some s)
    here true o h = (start, refl)
    here false o h = h

    by : (t u : Bool) → cond t None (cond u (Some epoch) (epoch_at ((next, after) ∷ l) offset)) ≡ Some e
        → (epoch_at ((next, after) ∷ l) offset ≡ Some e → (s : ℕ) × (start_of ((next, after) ∷ l) e ≡ Some s))
        → (s : ℕ) × (cond (epoch == e) (Some start) (start_of ((next, after) ∷ l) e) ≡ Some s)
    by true u k more = absurd (cc (k))
    by false true k more = (start, rw (eq-eqb epoch e (cc (k))) refl)
    by false false k more = here (epoch == e) (start_of ((next, after) ∷ l) e) (more k)

starts_end : (l : List (ℕ × ℕ)) (e s end : ℕ) → start_of l e ≡ Some s → (t : ℕ) × (line.end_of l e end ≡ Some t)
starts_end [] e s end h = absurd (cc (h))
starts_end (entry ∷ l) e s end h = by (entry.0 == e) h (starts_end l e s end)
  where
    by : (t : Bool) → cond t (Some entry.1) (start_of l e) ≡ Some s → (start_of l e ≡ Some s → (t : ℕ) × (line.end_of l e end ≡ Some t))
        → (u : ℕ) × (cond t (Some (start_or end l)) (line.end_of l e end) ≡ Some u)
    by true k more = (start_or end l, refl)
    by false k more = more k

-- where an offset is covered in the line's epoch, there is a piece
piece_found : (entries : List Entry) (l : List (ℕ × ℕ)) (log_end offset e : ℕ) → offset < log_end → epoch_at l offset ≡ Some e → Covers entries e offset
    → (piece : Piece) × (piece_at entries l log_end offset ≡ Some piece)
piece_found entries l log_end offset e below at h =
    let best = covers_found entries e offset h in
    let is = covers_is e offset best.0 best.2 in
    let first = gives_start best.0.map offset e is.gives in
    let own = gives_start l offset e at in
    let end = starts_end best.0.map e first.0 (best.0.end + 1) first.1 in
    let own_end = starts_end l e own.0 log_end own.1 in (
      record { id = best.0.id; from = max first.0 own.0; to = min end.0 own_end.0 },
      rw (lt_true offset log_end below, at, best.1, first.1, own.1, end.1, own_end.1) refl,
    )

-- what a local log lacks is found
pub lacking_is_found : LackingIsFound
lacking_is_found c p b tier_view x line offset h is bx low below all is_observable =
    let within = (h.tier_views.each b tier_view x is bx).within in
    let high : offset < end_of x.log = omega (arith, below, within) in
    let k = h.covered b tier_view x is bx offset low below in
    let v : Covers tier_view.view.entries k.epoch offset = subst (λ (s : EntriesSeen). Covers s.entries k.epoch offset) (sym all) k.covers in
    piece_found tier_view.view.entries line (end_of x.log) offset k.epoch high (is_observable.says offset high ∙ k.holds) v

-- so is what a fetch asks for
pub asked_is_found : AskedIsFound
asked_is_found c p a sought tier_view x line h actor_state none is bx leads low all is_observable =
    lacking_is_found c p sought.broker tier_view x line sought.offset h is bx low ((h.fetches a sought tier_view x actor_state is bx).below none leads) all is_observable

-- and what a rebuild looks up
pub wanted_is_found : WantedIsFound
wanted_is_found c p a rebuild tier_view line h actor_state is done below says =
    let r = h.rebuilds a rebuild actor_state in
    let k = r.seen tier_view is done below in
    let above = r.above in
    piece_found tier_view.view.entries line rebuild.wanted (rebuild.wanted - 1) k.epoch (omega (arith, above)) (says ∙ k.holds) k.covers

-- and what is found exists
pub found_stands : FoundStands
found_stands notes view line log offset piece v right is_observable made =
    let k = piece_lies view.entries line (end_of log) offset piece right.kept right.distinct is_observable.rises made in
    let i = k.2 in
    record {
      before = v.before;
      begins = v.begins;
      entry = k.1;
      there = subst (λ (s : EntriesSeen). entry_of piece.id s.entries ≡ Some k.1) v.is i.copy;
      finished = readable k.1.state i.readable;
      holds = i.holds;
      within = i.within;
      epoch = k.0;
      of_log = λ o from to. (let end = i.below is_observable.within in sym (is_observable.says o (omega (arith, to, end))) ∙ i.of_line o from to);
      of_copy = i.of_copy;
    }

-- pieces one after another, as a trim follows them

covering : (e o : ℕ) (entry : Entry) → is_readable entry.state ≡ true → entry.start ≤ o → o ≤ entry.end → epoch_at entry.map o ≡ Some e → covers e o entry ≡ true
covering e o entry readable low high gives = rw (readable, le-leb entry.start o low, le-leb o entry.end high, gives, eq-eqb e e refl) refl

-- a piece covers each of its offsets
piece_covers : (view : EntriesSeen) (line : List (ℕ × ℕ)) (log : List (List ℕ)) (at : ℕ) (piece : Piece) → IsRightView view → TellsEpochs line log
    → piece_at view.entries line (end_of log) at ≡ Some piece → (o : ℕ) → at ≤ o → o < piece.to → CoversLog view.entries log o
piece_covers view line log at piece right is_observable made o low high =
    let k = piece_lies view.entries line (end_of log) at piece right.kept right.distinct is_observable.rises made in
    let i = k.2 in
    let from : piece.from ≤ o = (let holds = i.holds.0 in omega (arith, holds, low)) in
    let end = i.below is_observable.within in
    record {
      epoch = k.0;
      holds = sym (is_observable.says o (omega (arith, high, end))) ∙ i.of_line o from high;
      covers = record {
        id = piece.id;
        entry = k.1;
        there = i.copy;
        gives = covering k.0 o k.1 i.readable (let first = i.within.0 in omega (arith, first, from)) (let last = i.within.1 in omega (arith, last, high)) (i.of_copy o from high);
      };
    }

-- so do pieces up to the end that they reach
pub reached_is_covered : ReachedIsCovered
reached_is_covered view line log at right is_observable o low high =
    let reach = covered view.entries line (end_of log) at right.kept right.distinct is_observable.rises is_observable.within in
    by (piece_at view.entries line (end_of log) o) refl (reach.each o low high)
  where
    by : (found : Option Piece) → piece_at view.entries line (end_of log) o ≡ found → IsSome found → CoversLog view.entries log o
    by None is some = absurd (cc (some))
    by (Some piece) is some =
        let lies = (piece_lies view.entries line (end_of log) o piece right.kept right.distinct is_observable.rises is).2.holds in
        piece_covers view line log o piece right is_observable is o (omega arith) lies.1
