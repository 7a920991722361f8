-- Lines that say the same of what is flushed.
use Rattle.std.proofs.Common.{◌≡◌, ℕ, ◌+◌, ◌≤◌, ◌<◌, Bool, true, false, cond, List, [], ◌∷◌, ◌++◌, refl, sym, ◌∙◌, ap, subst, inl, inr, arith, lt-ltb, le-ltb, le-leb}
use Rattle.std.specs.Prelude.{nat_lt}
use Rattle.std.proofs.lemmas.Bool.{cases_lt, lt-leb}
use Rattle.log_terms.specs.Batch.{base_of, last_of}
use Rattle.log_terms.specs.Log.{IsConsecutive, end_from}
use Rattle.log_terms.specs.Line.{epoch_at}
use Rattle.log_terms.proofs.Logs.{end_above}
use Rattle.epoch_line.specs.Line.{IsLine, cut_end, assign, last_epoch}
use Rattle.epoch_line.proofs.Parts.{IsLine-filter}
use Rattle.epoch_line.proofs.Holding.{started, epoch_at-started}
use Rattle.log_steps.specs.Fronts.{Each}
use Rattle.log_steps.specs.Opens.{IsPlaced}
use Rattle.log_steps.proofs.Lists.{each_join}
use Rattle.std.proofs.lemmas.List.{append-nil}

kept : (e : ℕ × ℕ) (line : List (ℕ × ℕ)) (n : ℕ) → e.1 < n → cut_end (e ∷ line) n ≡ e ∷ cut_end line n
kept e line n lt = rw (lt-ltb e.1 n lt) refl

dropped : (e : ℕ × ℕ) (line : List (ℕ × ℕ)) (n : ℕ) → n ≤ e.1 → cut_end (e ∷ line) n ≡ cut_end line n
dropped e line n le = rw (le-ltb e.1 n le) refl

-- a cut after a longer one
pub cut_cut : (line : List (ℕ × ℕ)) (m n : ℕ) → n ≤ m → cut_end (cut_end line m) n ≡ cut_end line n
cut_cut [] m n le = refl
cut_cut (e ∷ line) m n le = elim (cases_lt e.1 m) [
  | inl lt ↦ elim (cases_lt e.1 n) [
    | inl lt2 ↦ ap (λ (l : List (ℕ × ℕ)). cut_end l n) (kept e line m lt) ∙ kept e (cut_end line m) n lt2 ∙ ap (λ (l : List (ℕ × ℕ)). e ∷ l) (cut_cut line m n le) ∙ sym (kept e line n lt2)
    | inr ge2 ↦ ap (λ (l : List (ℕ × ℕ)). cut_end l n) (kept e line m lt) ∙ dropped e (cut_end line m) n ge2 ∙ cut_cut line m n le ∙ sym (dropped e line n ge2)
  ]
  | inr ge ↦ ap (λ (l : List (ℕ × ℕ)). cut_end l n) (dropped e line m ge) ∙ cut_cut line m n le ∙ sym (dropped e line n (omega (arith, le, ge)))
]

-- nothing is cut past the last entry
pub cut_within : (line : List (ℕ × ℕ)) (n : ℕ) → Each (λ (e : ℕ × ℕ). e.1 ≤ n) line → cut_end line (n + 1) ≡ line
cut_within [] n h = refl
cut_within (e ∷ line) n h = kept e line (n + 1) (omega (arith, h.0)) ∙ ap (λ (l : List (ℕ × ℕ)). e ∷ l) (cut_within line n h.1)

started_kept : (e : ℕ × ℕ) (line : List (ℕ × ℕ)) (o : ℕ) → e.1 ≤ o → started o (e ∷ line) ≡ e ∷ started o line
started_kept e line o le = rw (le-leb e.1 o le) refl

started_dropped : (e : ℕ × ℕ) (line : List (ℕ × ℕ)) (o : ℕ) → o < e.1 → started o (e ∷ line) ≡ started o line
started_dropped e line o lt = rw (lt-leb e.1 o lt) refl

started_cut : (line : List (ℕ × ℕ)) (o n : ℕ) → o < n → started o (cut_end line n) ≡ started o line
started_cut [] o n lt = refl
started_cut (e ∷ line) o n lt = elim (cases_lt e.1 n) [
  | inl in_n ↦ elim (cases_lt o e.1) [
    | inl past ↦ ap (started o) (kept e line n in_n) ∙ started_dropped e (cut_end line n) o past ∙ started_cut line o n lt ∙ sym (started_dropped e line o past)
    | inr up ↦ ap (started o) (kept e line n in_n) ∙ started_kept e (cut_end line n) o up ∙ ap (λ (l : List (ℕ × ℕ)). e ∷ l) (started_cut line o n lt) ∙ sym (started_kept e line o up)
  ]
  | inr out ↦ ap (started o) (dropped e line n out) ∙ started_cut line o n lt ∙ sym (started_dropped e line o (omega (arith, lt, out)))
]

-- below the cut the epochs are the same
pub epoch_cut : (line : List (ℕ × ℕ)) (o n : ℕ) → IsLine line → o < n → epoch_at (cut_end line n) o ≡ epoch_at line o
epoch_cut line o n is lt =
    epoch_at-started (cut_end line n) o (IsLine-filter (λ e. nat_lt e.1 n) line is)
    ∙ ap last_epoch (started_cut line o n lt)
    ∙ sym (epoch_at-started line o is)

-- two lines that are the same below an offset
pub epoch_same : (line other : List (ℕ × ℕ)) (o n : ℕ) → IsLine line → IsLine other → cut_end other n ≡ cut_end line n → o < n → epoch_at other o ≡ epoch_at line o
epoch_same line other o n is is' same lt =
    sym (epoch_cut other o n is' lt) ∙ ap (λ (l : List (ℕ × ℕ)). epoch_at l o) same ∙ epoch_cut line o n is lt

-- batches below it may be by the other line too
pub placed_same : (line other : List (ℕ × ℕ)) (base n m : ℕ) (batches : List (List ℕ)) → IsLine line → IsLine other → cut_end other n ≡ cut_end line n
    → IsConsecutive m batches → end_from m batches ≤ n → Each (IsPlaced line base) batches → Each (IsPlaced other base) batches
placed_same line other base n m [] is is' same c le h = tt
placed_same line other base n m (b ∷ bs) is is' same c le h =
    let up = end_above (last_of b + 1) bs c.1 in
    let lt : base_of b < n = low b up le in (
      record { is = h.0.is; near = h.0.near; low = h.0.low; epoch = epoch_same line other (base_of b) n is is' same lt ∙ h.0.epoch },
      placed_same line other base n (last_of b + 1) bs is is' same c.1 le h.1,
    )
  where
    low : (b : List ℕ) → last_of b + 1 ≤ end_from (last_of b + 1) bs → end_from (last_of b + 1) bs ≤ n → base_of b < n
    low b up le = omega (arith, up, le)

pub cut_append : (xs ys : List (ℕ × ℕ)) (n : ℕ) → cut_end (xs ++ ys) n ≡ cut_end xs n ++ cut_end ys n
cut_append [] ys n = refl
cut_append (x ∷ xs) ys n = go (nat_lt x.1 n) (cut_append xs ys n)
  where
    go : (t : Bool) → cut_end (xs ++ ys) n ≡ cut_end xs n ++ cut_end ys n → cond t (x ∷ cut_end (xs ++ ys) n) (cut_end (xs ++ ys) n) ≡ cond t (x ∷ cut_end xs n) (cut_end xs n) ++ cut_end ys n
    go true h = ap (λ (l : List (ℕ × ℕ)). x ∷ l) h
    go false h = h

-- an epoch that begins at or past an offset leaves what is below
pub cut_assign : (line : List (ℕ × ℕ)) (epoch start n : ℕ) → n ≤ start → cut_end (assign line epoch start) n ≡ cut_end line n
cut_assign line epoch start n le =
    cut_append (cut_end line start) ((epoch, start) ∷ []) n
    ∙ ap (λ (l : List (ℕ × ℕ)). cut_end (cut_end line start) n ++ l) (dropped (epoch, start) [] n le)
    ∙ append-nil (cut_end (cut_end line start) n)
    ∙ cut_cut line start n le

pub below_cut : (line : List (ℕ × ℕ)) (n : ℕ) → Each (λ (e : ℕ × ℕ). e.1 ≤ n) (cut_end line n)
below_cut [] n = tt
below_cut (e ∷ line) n = elim (cases_lt e.1 n) [
  | inl lt ↦ subst (Each (λ (e : ℕ × ℕ). e.1 ≤ n)) (sym (kept e line n lt)) (omega (arith, lt), below_cut line n)
  | inr ge ↦ subst (Each (λ (e : ℕ × ℕ). e.1 ≤ n)) (sym (dropped e line n ge)) (below_cut line n)
]

-- its entries start at or below it
pub within_assign : (line : List (ℕ × ℕ)) (epoch start : ℕ) → Each (λ (e : ℕ × ℕ). e.1 ≤ start) (assign line epoch start)
within_assign line epoch start = each_join (λ (e : ℕ × ℕ). e.1 ≤ start) (cut_end line start) ((epoch, start) ∷ []) (below_cut line start) (omega arith, tt)
