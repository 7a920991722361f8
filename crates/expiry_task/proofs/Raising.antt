-- Where retention moves a log start.
use Rattle.std.proofs.Common.{◌≡◌, refl, subst, ℕ, zero, suc, ◌-◌, ◌<◌, ◌≤◌, ℤ, Bool, true, false, cond, List, [], ◌∷◌, ◌++◌, ◌||◌, Option, Some, None, sym, ◌∙◌, arith}
use Rattle.std.specs.Prelude.{nat_lt, nat_le, slice_get, option_map, map, filter}
use Rattle.std.proofs.lemmas.Bool.Decides.{nat_tests}
use Rattle.std.proofs.lemmas.Option.{slice_get-map}
use Rattle.epoch_line.specs.Line.{IsLine}
use Rattle.tier_base.specs.declared.plain.Keep.{Keep}
use Rattle.segment_file.specs.Growing.{Grown}
use Rattle.local_log.specs.Stored.{end_of}
use Rattle.segment_meta.specs.declared.note.Entry.{Entry}
use Rattle.remote_view.specs.Fold.{AreEntriesValid, AreDistinct}
use Rattle.remote_find.specs.declared.piece.Piece.{Piece}
use Rattle.remote_find.specs.Pieces.{Pieces, piece_at, and_behind, chained, chain}
use Rattle.remote_find.proofs.Clipping.{piece_lies}
use Rattle.retention_rule.specs.Due.{start_due}
use Rattle.expiry_task.specs.declared.rule.Uncopied.{Uncopied}
use Rattle.expiry_task.specs.Rule.{end_from, uncopied_of, is_within, uncopied, end_of_first, all_items, all_ends, raised_to}

module _ (pieces : Pieces) (on : (o : ℕ) (p : Piece) → pieces o ≡ Some p → o < p.to) (top : ℕ) where
  -- each of the pieces that follow one another ends past the offset that they start at, and at the top at most
  chained_within : (most at k : ℕ) (q : Piece) → slice_get (chained pieces top most at) k ≡ Some q → (at < q.to) × (q.to ≤ top)
  chained_within zero at k q e = cc
  chained_within (suc most) at k q e = by (pieces at) refl e (λ p. chained_within most p.to)
    where
      take_on : (p : Piece) → pieces at ≡ Some p → (t : Bool) → nat_le p.to top ≡ t → (k : ℕ) → slice_get (cond t (p ∷ chained pieces top most p.to) []) k ≡ Some q
          → ((k : ℕ) (q : Piece) → slice_get (chained pieces top most p.to) k ≡ Some q → (p.to < q.to) × (q.to ≤ top)) → (at < q.to) × (q.to ≤ top)
      take_on p here true low zero e more =
          let same : p ≡ q = cc in
          subst (λ (r : Piece). (at < r.to) × (r.to ≤ top)) same (on at p here, grind (arith, nat_tests, low))
      take_on p here true low (suc k) e more =
          let rest = more k q e in
          let past = on at p here in
          (omega (arith, rest.0, past), rest.1)
      take_on p here false low k e more = cc

      by : (o : Option Piece) → pieces at ≡ o → slice_get (and_behind top (λ n. chained pieces top most n) o) k ≡ Some q
          → ((p : Piece) (k : ℕ) (q : Piece) → slice_get (chained pieces top most p.to) k ≡ Some q → (p.to < q.to) × (q.to ≤ top)) → (at < q.to) × (q.to ≤ top)
      by None here e more = cc
      by (Some p) here e more = take_on p here (nat_le p.to top) refl k e (more p)

  ends_within : (most at k s : ℕ) → slice_get (map (λ (p : Piece). p.to) (chained pieces top most at)) k ≡ Some s → (at < s) × (s ≤ top)
  ends_within most at k s e = by (slice_get (chained pieces top most at) k) refl (sym (slice_get-map (λ (p : Piece). p.to) (chained pieces top most at) k) ∙ e)
    where
      by : (o : Option Piece) → slice_get (chained pieces top most at) k ≡ o → option_map (λ (p : Piece). p.to) o ≡ Some s → (at < s) × (s ≤ top)
      by None found e = cc
      by (Some p) found e = let same : p.to ≡ s = cc in subst (λ (n : ℕ). (at < n) × (n ≤ top)) same (chained_within most at k p found)

-- where all pieces end past a place, the last one ends there or past it
from_up : (start at : ℕ) (pieces : List Piece) → start ≤ at → ((k : ℕ) (q : Piece) → slice_get pieces k ≡ Some q → start < q.to) → start ≤ end_from at pieces
from_up start at [] low each = low
from_up start at (p ∷ pieces) low each = let past = each zero p refl in from_up start p.to pieces (omega (arith, past)) (λ k q e. each (suc k) q e)

-- each closed segment that passes ends past the offset, and at the known high watermark at most
passed_within : (offset known : ℕ) (closed : List Grown) (k s : ℕ) → slice_get (map (λ (one : Uncopied). one.end) (map uncopied_of (filter (is_within offset known) closed))) k ≡ Some s
    → (offset < s) × (s ≤ known)
passed_within offset known [] k s e = cc
passed_within offset known (segment ∷ closed) k s e = by (is_within offset known segment) refl k e (passed_within offset known closed)
  where
    by : (t : Bool) → is_within offset known segment ≡ t → (k : ℕ)
        → slice_get (map (λ (one : Uncopied). one.end) (map uncopied_of (cond t (segment ∷ filter (is_within offset known) closed) (filter (is_within offset known) closed)))) k ≡ Some s
        → ((k s : ℕ) → slice_get (map (λ (one : Uncopied). one.end) (map uncopied_of (filter (is_within offset known) closed))) k ≡ Some s → (offset < s) × (s ≤ known))
        → (offset < s) × (s ≤ known)
    by true is zero e more = let same : end_of segment ≡ s = cc in subst (λ (n : ℕ). (offset < n) × (n ≤ known)) same (grind (arith, nat_tests, is))
    by true is (suc k) e more = more k s e
    by false is k e more = more k s e

own_within : (copying : Bool) (local offset known : ℕ) (closed : List Grown) (k s : ℕ) → slice_get (map (λ (one : Uncopied). one.end) (uncopied copying local offset known closed)) k ≡ Some s
    → (offset < s) × (s ≤ known)
own_within copying local offset known closed k s e = by (copying || nat_lt offset local) e
  where
    by : (t : Bool) → slice_get (map (λ (one : Uncopied). one.end) (cond t [] (map uncopied_of (filter (is_within offset known) closed)))) k ≡ Some s → (offset < s) × (s ≤ known)
    by true e = cc
    by false e = passed_within offset known closed k s e

-- what holds of each in two lists holds of each in both together
pub of_both : (P : ℕ → Type 0) (xs ys : List ℕ) → ((k s : ℕ) → slice_get xs k ≡ Some s → P s) → ((k s : ℕ) → slice_get ys k ≡ Some s → P s) → (k s : ℕ) → slice_get (xs ++ ys) k ≡ Some s → P s
of_both P [] ys left right k s e = right k s e
of_both P (x ∷ xs) ys left right zero s e = left zero s e
of_both P (x ∷ xs) ys left right (suc k) s e = of_both P xs ys (λ k s e. left (suc k) s e) right k s e

pub first_of : (P : ℕ → Type 0) (ends : List ℕ) → ((k s : ℕ) → slice_get ends k ≡ Some s → P s) → (count s : ℕ) → end_of_first count ends ≡ Some s → P s
first_of P ends each zero s e = cc
first_of P ends each (suc count) s e = each count s e

pub raised_within : (entries : List Entry) (line : List (ℕ × ℕ)) (log_end start known : ℕ) (copying : Bool) (local : ℕ) (closed : List Grown) (rest : ℕ) (now : ℤ) (keep : Keep) (s : ℕ)
    → AreEntriesValid entries → AreDistinct entries → IsLine line
    → raised_to entries (chain entries line log_end start known) (uncopied copying local (end_from start (chain entries line log_end start known)) known closed) rest now keep ≡ Some s
    → (start < s) × (s ≤ known)
raised_within entries line log_end start known copying local closed rest now keep s kept apart rises e =
    let on : (o : ℕ) (p : Piece) → piece_at entries line log_end o ≡ Some p → o < p.to = λ o p here. (let l = piece_lies entries line log_end o p kept apart rises here in l.2.holds.1) in
    let pieces = chain entries line log_end start known in
    let own = uncopied copying local (end_from start pieces) known closed in
    let up : start ≤ end_from start pieces = from_up start start pieces (omega arith) (λ k q e. (chained_within (piece_at entries line log_end) on known (log_end - start) start k q e).0) in
    first_of (λ n. (start < n) × (n ≤ known)) (all_ends pieces own)
    (of_both (λ n. (start < n) × (n ≤ known)) (map (λ (p : Piece). p.to) pieces) (map (λ (one : Uncopied). one.end) own) (ends_within (piece_at entries line log_end) on known (log_end - start) start)
    (λ k s e. (let l = own_within copying local (end_from start pieces) known closed k s e in (omega (arith, up, l.0), l.1))))
    (start_due (all_items entries pieces own) rest now keep) s e
