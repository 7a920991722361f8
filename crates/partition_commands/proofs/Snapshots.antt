-- A line that is cut has no entry past the cut.
use Rattle.std.proofs.Common.{inl, inr, ℕ, ◌+◌, ◌≤◌, List, [], ◌∷◌, arith, lt-ltb, le-ltb}
use Rattle.std.proofs.lemmas.Bool.{cases_lt}
use Rattle.epoch_line.specs.Line.{cut_end}
use Rattle.log_steps.specs.Fronts.{Each}

pub cut_low : (line : List (ℕ × ℕ)) (n : ℕ) → Each (λ (entry : ℕ × ℕ). entry.1 ≤ n) (cut_end line (n + 1))
cut_low [] n = tt
cut_low (x ∷ xs) n = elim (cases_lt x.1 (n + 1)) [
  | inl lt ↦ rw (lt-ltb x.1 (n + 1) lt) (omega (arith, lt), cut_low xs n)
  | inr ge ↦ rw (le-ltb x.1 (n + 1) ge) (cut_low xs n)
]
