-- While segments are copied, retention moves a log start no further than the pieces reach.
use Rattle.std.proofs.Common.{◌≡◌, refl, subst, ℕ, zero, suc, ◌-◌, ◌<◌, ◌≤◌, ℤ, Bool, true, false, cond, List, [], ◌∷◌, Option, Some, None, sym, ◌∙◌, arith}
use Rattle.std.specs.Prelude.{nat_le, slice_get, option_map, map}
use Rattle.std.specs.Option.{IsSome}
use Rattle.std.specs.List.{AllByRecursion}
use Rattle.std.proofs.lemmas.Option.{slice_get-map}
use Rattle.epoch_line.specs.Line.{IsLine}
use Rattle.tier_base.specs.declared.plain.Keep.{Keep}
use Rattle.segment_file.specs.Growing.{Grown}
use Rattle.segment_meta.specs.declared.note.Entry.{Entry}
use Rattle.remote_view.specs.Fold.{AreEntriesValid, AreDistinct}
use Rattle.remote_find.specs.declared.piece.Piece.{Piece}
use Rattle.remote_find.specs.Pieces.{Pieces, piece_at, beyond, reached, covered_to, and_behind, chained, chain}
use Rattle.remote_find.proofs.Clipping.{piece_lies}
use Rattle.remote_find.proofs.Covering.{covered}
use Rattle.retention_rule.specs.Due.{start_due}
use Rattle.expiry_task.specs.Rule.{end_from, uncopied, all_items, all_ends, raised_to}
use Rattle.expiry_task.proofs.Raising.{of_both, first_of}

module _ (pieces : Pieces) (on : (o : ℕ) (p : Piece) → pieces o ≡ Some p → o < p.to) (top : ℕ) where
  reached_up : (most at : ℕ) → at ≤ reached pieces most at
  reached_up zero at = omega arith
  reached_up (suc most) at = by (pieces at) refl (λ p. reached_up most p.to)
    where
      by : (o : Option Piece) → pieces at ≡ o → ((p : Piece) → p.to ≤ reached pieces most p.to) → at ≤ beyond at (λ n. reached pieces most n) o
      by None here more = omega arith
      by (Some p) here more =
          let past = on at p here in
          let up = more p in
          omega (arith, past, up)

  -- none of the pieces that follow one another ends past what is reached
  chained_reached : (most at k : ℕ) (q : Piece) → slice_get (chained pieces top most at) k ≡ Some q → q.to ≤ reached pieces most at
  chained_reached zero at k q e = cc
  chained_reached (suc most) at k q e = by (pieces at) k e (λ p. chained_reached most p.to) (λ p. reached_up most p.to)
    where
      take_on : (p : Piece) (t : Bool) (k : ℕ) → slice_get (cond t (p ∷ chained pieces top most p.to) []) k ≡ Some q
          → ((k : ℕ) (q : Piece) → slice_get (chained pieces top most p.to) k ≡ Some q → q.to ≤ reached pieces most p.to)
          → p.to ≤ reached pieces most p.to
          → q.to ≤ reached pieces most p.to
      take_on p true zero e more up = let same : p ≡ q = cc in subst (λ (r : Piece). r.to ≤ reached pieces most p.to) same up
      take_on p true (suc k) e more up = more k q e
      take_on p false k e more up = cc

      by : (o : Option Piece) (k : ℕ) → slice_get (and_behind top (λ n. chained pieces top most n) o) k ≡ Some q
          → ((p : Piece) (k : ℕ) (q : Piece) → slice_get (chained pieces top most p.to) k ≡ Some q → q.to ≤ reached pieces most p.to)
          → ((p : Piece) → p.to ≤ reached pieces most p.to)
          → q.to ≤ beyond at (λ n. reached pieces most n) o
      by None k e more up = cc
      by (Some p) k e more up = take_on p (nat_le p.to top) k e (more p) (up p)

  ends_reached : (most at k s : ℕ) → slice_get (map (λ (p : Piece). p.to) (chained pieces top most at)) k ≡ Some s → s ≤ reached pieces most at
  ends_reached most at k s e = by (slice_get (chained pieces top most at) k) refl (sym (slice_get-map (λ (p : Piece). p.to) (chained pieces top most at) k) ∙ e)
    where
      by : (o : Option Piece) → slice_get (chained pieces top most at) k ≡ o → option_map (λ (p : Piece). p.to) o ≡ Some s → s ≤ reached pieces most at
      by None found e = cc
      by (Some p) found e = let same : p.to ≡ s = cc in subst (λ (n : ℕ). n ≤ reached pieces most at) same (chained_reached most at k p found)

pub raised_copied : (entries : List Entry) (line : List (ℕ × ℕ)) (log_end start known local : ℕ) (closed : List Grown) (rest : ℕ) (now : ℤ) (keep : Keep) (s : ℕ)
    → AreEntriesValid entries → AreDistinct entries → IsLine line
    → raised_to entries (chain entries line log_end start known) (uncopied true local (end_from start (chain entries line log_end start known)) known closed) rest now keep ≡ Some s
    → s ≤ covered_to entries line log_end start
raised_copied entries line log_end start known local closed rest now keep s kept apart rises e =
    let on : (o : ℕ) (p : Piece) → piece_at entries line log_end o ≡ Some p → o < p.to = λ o p here. (let l = piece_lies entries line log_end o p kept apart rises here in l.2.holds.1) in
    let pieces = chain entries line log_end start known in
    first_of (λ n. n ≤ covered_to entries line log_end start) (all_ends pieces [])
    (of_both (λ n. n ≤ covered_to entries line log_end start) (map (λ (p : Piece). p.to) pieces) []
    (ends_reached (piece_at entries line log_end) on known (log_end - start) start)
    (λ k s e. cc))
    (start_due (all_items entries pieces []) rest now keep) s e

pub gone_copied : (entries : List Entry) (line : List (ℕ × ℕ)) (log_end start known local : ℕ) (closed : List Grown) (rest : ℕ) (now : ℤ) (keep : Keep) (s offset : ℕ)
    → AreEntriesValid entries → AreDistinct entries → IsLine line → AllByRecursion (λ (begin : ℕ × ℕ). begin.1 ≤ log_end) line
    → raised_to entries (chain entries line log_end start known) (uncopied true local (end_from start (chain entries line log_end start known)) known closed) rest now keep ≡ Some s
    → start ≤ offset → offset < s → IsSome (piece_at entries line log_end offset)
gone_copied entries line log_end start known local closed rest now keep s offset kept apart rises within e from below =
    let reach = raised_copied entries line log_end start known local closed rest now keep s kept apart rises e in
    (covered entries line log_end start kept apart rises within).each offset from (omega (arith, below, reach))
