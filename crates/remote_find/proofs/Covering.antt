-- What pieces that follow one another cover.
use Rattle.std.proofs.Common.{◌≡◌, ◌∙◌, refl, sym, ℕ, zero, suc, ◌+◌, ◌-◌, ◌<◌, ◌≤◌, Bool, true, false, cond, List, [], ◌∷◌, length, Option, Some, None, arith, inl, inr}
use Rattle.std.specs.Prelude.{nat_le, nat_lt, ◌⊎◌, IsSome}
use Rattle.std.specs.Str.{bytes_eq}
use Rattle.std.specs.List.{AllByRecursion}
use Rattle.std.proofs.lemmas.Bool.{cases_lt, ltb-true, leb-true, lt-ltb, le-leb, both_ways}
use Rattle.log_terms.specs.Line.{epoch_at}
use Rattle.epoch_line.specs.Line.{IsLine}
use Rattle.tier_base.specs.declared.names.SegmentId.{SegmentId}
use Rattle.segment_meta.specs.declared.note.Entry.{Entry}
use Rattle.remote_view.specs.declared.spans.Span.{Span}
use Rattle.remote_view.specs.Fold.{entry_of, IsEntryValid, AreEntriesValid, AreDistinct}
use Rattle.remote_view.specs.Lookup.{is_readable, is_epoch, covers, finished}
use Rattle.remote_view.specs.Laying.{gives}
use Rattle.remote_view.specs.Stairs.{span_of}
use Rattle.remote_view.proofs.Lying.{in_span, lies, map_lies}
use Rattle.remote_view.proofs.Best.{Among, found_among, entry_found, readable_covers, best_passing}
use Rattle.remote_view.proofs.Keeping.{kept_found}
use Rattle.remote_find.specs.declared.piece.Piece.{Piece}
use Rattle.remote_find.specs.Pieces.{◌>>=◌, Pieces, clipped, piece_below, piece_at, IsPieceOf, beyond, reached, covered_to, and_behind, chained, chain, IsCovered, AreTouching, AreBelow, IsLongest}
use Rattle.remote_find.proofs.Clipping.{shared, clipped_is, gives_it, piece_lies}

-- the entry of an id is among the entries
among_held : (id : SegmentId) (es : List Entry) (e : Entry) → entry_of id es ≡ Some e → Among e es
among_held id [] e h = absurd (cc)
among_held id (x ∷ es) e h = by (bytes_eq x.id.0 id.0) h (among_held id es e)
  where
    by : (t : Bool) → cond t (Some x) (entry_of id es) ≡ Some e → (entry_of id es ≡ Some e → Among e es) → (e ≡ x) ⊎ Among e es
    by true h more = inl (cc)
    by false h more = inr (more h)

some_span : (span : Option Span) (o : ℕ) → in_span span o ≡ true → IsSome span
some_span None o h = absurd (cc)
some_span (Some span) o h = refl

some_shared : (entry : Entry) (a b : Option Span) → IsSome a → IsSome b → IsSome (shared entry a b)
some_shared entry None b one other = absurd (cc)
some_shared entry (Some a) None one other = absurd (cc)
some_shared entry (Some a) (Some b) one other = refl

-- a copy that covers an offset has a part there
clipped_there : (line : List (ℕ × ℕ)) (log_end epoch o : ℕ) (entry : Entry) → IsLine line → IsEntryValid entry → o < log_end → epoch_at line o ≡ Some epoch → covers epoch o entry ≡ true
    → IsSome (clipped line log_end epoch entry)
clipped_there line log_end epoch o entry rises kept below at h =
    let there : gives epoch o entry ≡ true = gives_there (is_readable entry.state) refl in
    let in_copy : IsSome (span_of entry.map epoch (entry.end + 1)) = some_span _ o (sym (map_lies entry.start entry.end entry.map epoch o kept.map) ∙ there) in
    let in_own : IsSome (span_of line epoch log_end) = some_span _ o (sym (lies line epoch log_end o rises below) ∙ gives_it epoch (epoch_at line o) at) in
    rw clipped_is (some_shared entry _ _ in_copy in_own)
  where
    gives_there : (t : Bool) → is_readable entry.state ≡ t → gives epoch o entry ≡ true
    gives_there true is = sym (readable_covers epoch o entry true is) ∙ h
    gives_there false is = absurd (both_ways (covers epoch o entry) (readable_covers epoch o entry false is) h)

-- an offset has a piece where a copy is found there
pub found_there : (entries : List Entry) (line : List (ℕ × ℕ)) (log_end epoch o : ℕ) → AreEntriesValid entries → AreDistinct entries → IsLine line → o < log_end
    → epoch_at line o ≡ Some epoch → IsSome (finished epoch o entries) → IsSome (piece_at entries line log_end o)
found_there entries line log_end epoch o kept distinct rises below at some =
    let inside : nat_lt o log_end ≡ true = lt-ltb o log_end below in
    rw (inside, at) (by (finished epoch o entries) refl some)
  where
    by : (f : Option Entry) → finished epoch o entries ≡ f → IsSome f → IsSome (f >>= (λ entry. clipped line log_end epoch entry))
    by None is some = absurd (cc)
    by (Some best) is some =
        let found = found_among epoch o entries best is in
        clipped_there line log_end epoch o best rises (kept_found best.id entries best kept (entry_found entries best distinct found.1)) below at found.0

-- and none where there is none
pub found_nowhere : (entries : List Entry) (line : List (ℕ × ℕ)) (log_end epoch o : ℕ) → epoch_at line o ≡ Some epoch → finished epoch o entries ≡ None → piece_at entries line log_end o ≡ None
found_nowhere entries line log_end epoch o at none = by (nat_lt o log_end)
  where
    by : (t : Bool) → cond t (piece_below entries line log_end o) None ≡ None
    by true = rw (at, none) refl
    by false = refl

-- an offset that a finished copy covers has a piece
piece_there : (entries : List Entry) (line : List (ℕ × ℕ)) (log_end epoch o : ℕ) (entry : Entry) → AreEntriesValid entries → AreDistinct entries → IsLine line → o < log_end
    → epoch_at line o ≡ Some epoch → Among entry entries → covers epoch o entry ≡ true → IsSome (piece_at entries line log_end o)
piece_there entries line log_end epoch o entry kept distinct rises below at among h =
    found_there entries line log_end epoch o kept distinct rises below at (best_passing (covers epoch o) None entries entry among h)

-- so has each offset after one whose piece it is in
pub piece_goes_on : (entries : List Entry) (line : List (ℕ × ℕ)) (log_end o q : ℕ) (piece : Piece) → AreEntriesValid entries → AreDistinct entries → IsLine line
    → AllByRecursion (λ (start : ℕ × ℕ). start.1 ≤ log_end) line → piece_at entries line log_end o ≡ Some piece → o ≤ q → q < piece.to → IsSome (piece_at entries line log_end q)
piece_goes_on entries line log_end o q piece kept distinct rises all is from to =
    let l = piece_lies entries line log_end o piece kept distinct rises is in
    on l.0 l.1 l.2
  where
    on : (epoch : ℕ) (entry : Entry) → IsPieceOf entries line log_end o epoch entry piece → IsSome (piece_at entries line log_end q)
    on epoch entry l =
        let first : piece.from ≤ q = omega (arith, l.holds.0, from) in
        let start : nat_le entry.start q ≡ true = le-leb entry.start q (omega (arith, l.within.0, first)) in
        let end : nat_le q entry.end ≡ true = le-leb q entry.end (omega (arith, l.within.1, to)) in
        let own : is_epoch epoch (epoch_at entry.map q) ≡ true = gives_it epoch (epoch_at entry.map q) (l.of_copy q first to) in
        let readable : is_readable entry.state ≡ true = l.readable in
        piece_there entries line log_end epoch q entry kept distinct rises (omega (arith, l.below all, to)) (l.of_line q first to) (among_held piece.id entries entry l.copy)
        (rw (readable, start, end, own) refl)

piece_below_end : (entries : List Entry) (line : List (ℕ × ℕ)) (log_end o : ℕ) (piece : Piece) → piece_at entries line log_end o ≡ Some piece → o < log_end
piece_below_end entries line log_end o piece is = by (nat_lt o log_end) refl is
  where
    by : (t : Bool) → nat_lt o log_end ≡ t → cond t (piece_below entries line log_end o) None ≡ Some piece → o < log_end
    by true low is = ltb-true o log_end low
    by false low is = absurd (cc)

module _ (pieces : Pieces) (top : ℕ) (low : (o : ℕ) (p : Piece) → pieces o ≡ Some p → o < top) (on : (o : ℕ) (p : Piece) → pieces o ≡ Some p → (p.from ≤ o) × (o < p.to)) where
  none_at : (at : ℕ) (o : Option Piece) → pieces at ≡ o → top ≤ at → o ≡ None
  none_at at None is past = refl
  none_at at (Some p) is past = absurd (let below = low at p is in omega (arith, below, past))

  -- the end that is reached
  reached_covers : ((o q : ℕ) (p : Piece) → pieces o ≡ Some p → o ≤ q → q < p.to → IsSome (pieces q)) → (most at : ℕ) → top ≤ at + most → IsCovered pieces at (reached pieces most at)
  reached_covers dense zero at past = record { from = omega arith; each = λ o up down. absurd (omega (arith, up, down)); none = none_at at (pieces at) refl (omega (arith, past)) }
  reached_covers dense (suc most) at past = by (pieces at) refl (λ p. reached_covers dense most p.to)
    where
      by : (o : Option Piece) → pieces at ≡ o → ((p : Piece) → top ≤ p.to + most → IsCovered pieces p.to (reached pieces most p.to)) → IsCovered pieces at (beyond at (λ n. reached pieces most n) o)
      by None is more = record { from = omega arith; each = λ o up down. absurd (omega (arith, up, down)); none = is }
      by (Some p) is more =
          let up = on at p is in
          let rest = more p (omega (arith, up.1, past)) in
          record {
            from = omega (arith, up.1, rest.from);
            each = λ o from to. elim (cases_lt o p.to) [ inl within ↦ dense at o p is from within | inr behind ↦ rest.each o behind to ];
            none = rest.none;
          }

  module _ (end : ℕ) where
    -- no chain has a piece where there is none, or where it ends past the end
    no_other : (at : ℕ) → ((p : Piece) → pieces at ≡ Some p → end < p.to) → (other : List Piece) → AreTouching pieces at other → AreBelow end other → length other ≤ 0
    no_other at past [] touching below = omega arith
    no_other at past (p ∷ ps) touching below = absurd (let far = past p touching.0 in omega (arith, far, below.0))

    -- the chain that is followed
    chained_longest : (most at : ℕ) → top ≤ at + most → IsLongest pieces at end (chained pieces end most at)
    chained_longest zero at past = record {
      touching = tt;
      below = tt;
      longest = no_other at (λ p is. absurd (let far = low at p is in omega (arith, far, past)));
    }
    chained_longest (suc most) at past = by (pieces at) refl (λ p. chained_longest most p.to)
      where
        with_first : (p : Piece) → pieces at ≡ Some p → (t : Bool) → nat_le p.to end ≡ t → IsLongest pieces p.to end (chained pieces end most p.to)
            → IsLongest pieces at end (cond t (p ∷ chained pieces end most p.to) [])
        with_first p is true within rest = record {
          touching = (is, (on at p is).0, (on at p is).1, rest.touching);
          below = (leb-true p.to end within, rest.below);
          longest = longer;
        }
          where
            longer : (other : List Piece) → AreTouching pieces at other → AreBelow end other → length other ≤ length (p ∷ chained pieces end most p.to)
            longer [] touching below = omega arith
            longer (q ∷ qs) touching below =
                let same : q ≡ p = cc in
                let more = rest.longest qs (rw same at touching.3) below.1 in
                omega (arith, more)
        with_first p is false within rest = record {
          touching = tt;
          below = tt;
          longest = no_other at (λ q there. (let same : q ≡ p = cc in rw same (grind (arith, within))));
        }

        by : (o : Option Piece) → pieces at ≡ o → ((p : Piece) → top ≤ p.to + most → IsLongest pieces p.to end (chained pieces end most p.to))
            → IsLongest pieces at end (and_behind end (λ n. chained pieces end most n) o)
        by None is more = record { touching = tt; below = tt; longest = no_other at (λ p there. absurd (cc)) }
        by (Some p) is more = with_first p is (nat_le p.to end) refl (more p (let up = on at p is in omega (arith, up.1, past)))

pub covered : (entries : List Entry) (line : List (ℕ × ℕ)) (log_end at : ℕ) → AreEntriesValid entries → AreDistinct entries → IsLine line
    → AllByRecursion (λ (start : ℕ × ℕ). start.1 ≤ log_end) line → IsCovered (piece_at entries line log_end) at (covered_to entries line log_end at)
covered entries line log_end at kept distinct rises all =
    reached_covers (piece_at entries line log_end) log_end (piece_below_end entries line log_end)
    (λ o p is. (let l = piece_lies entries line log_end o p kept distinct rises is in l.2.holds))
    (λ o q p is from to. piece_goes_on entries line log_end o q p kept distinct rises all is from to) (log_end - at) at (omega arith)

pub chain_longest : (entries : List Entry) (line : List (ℕ × ℕ)) (log_end at top : ℕ) → AreEntriesValid entries → AreDistinct entries → IsLine line
    → IsLongest (piece_at entries line log_end) at top (chain entries line log_end at top)
chain_longest entries line log_end at top kept distinct rises =
    chained_longest (piece_at entries line log_end) log_end (piece_below_end entries line log_end)
    (λ o p is. (let l = piece_lies entries line log_end o p kept distinct rises is in l.2.holds)) top (log_end - at) at (omega arith)
