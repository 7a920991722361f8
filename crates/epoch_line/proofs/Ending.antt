-- An epoch ends where the entry after its own starts.
use Rattle.std.proofs.Common.{zero, suc, ◌≡◌, ◌≢◌, refl, sym, ℕ, ◌+◌, ◌<◌, List, [], ◌∷◌, Some, None, length, get_or, drop, arith, add-one, inl, inr}
use Rattle.std.specs.List.Sorted.{IsNonDecreasingBy, IsPartitionPoint}
use Rattle.std.specs.Ordering.{nat_cmp, ordering_index}
use Rattle.std.specs.declared.cmp.Ordering.TheVariants.{Less, Equal, Greater}
use Rattle.std.proofs.lemmas.Bool.{eq-eqb, ne_eqb, cases_lt}
use Rattle.std.proofs.lemmas.Bool.Decides.{nat_tests}
use Rattle.std.proofs.lemmas.Cmp.{ranked}
use Rattle.epoch_line.specs.Line.{IsLine, start_or, end_of}
use Rattle.epoch_line.proofs.Rising.{epochs-rise}

-- an epoch after the first entry is above it
above-first : (one : ℕ × ℕ) (line : List (ℕ × ℕ)) (i : ℕ) (d : ℕ × ℕ) → IsLine (one ∷ line) → i < length line → one.0 < (get_or line i d).0
above-first one [] i d h l = absurd (omega (arith, l))
above-first one (two ∷ line) i d h l = let up = epochs-rise (two ∷ line) h.3 0 i d (omega arith) l in omega (arith, up, h.2.0)

-- the end of the epoch that is at a place
pub end_of-at : (line : List (ℕ × ℕ)) (i : ℕ) (d : ℕ × ℕ) (log_end : ℕ) → IsLine line → i < length line → end_of line (get_or line i d).0 log_end ≡ Some (start_or log_end (drop (suc i) line))
end_of-at [] i d log_end h l = absurd (omega (arith, l))
end_of-at (one ∷ line) zero d log_end h l = rw (eq-eqb one.0 one.0 refl) refl
end_of-at (one ∷ line) (suc i) d log_end h l =
    let above = above-first one line i d h (omega (arith, l)) in
    rw (ne_eqb one.0 (get_or line i d).0 (λ e. omega (arith, above, e))) (end_of-at line i d log_end (rest one line h) (omega (arith, l)))
  where
    rest : (one : ℕ × ℕ) (line : List (ℕ × ℕ)) → IsLine (one ∷ line) → IsLine line
    rest one line h = h.3

-- no end of an epoch that is nowhere
pub end_of-none : (line : List (ℕ × ℕ)) (epoch log_end : ℕ) → ((k : ℕ) (d : ℕ × ℕ) → k < length line → (get_or line k d).0 ≢ epoch) → end_of line epoch log_end ≡ None
end_of-none [] epoch log_end none = refl
end_of-none (one ∷ line) epoch log_end none =
    rw (ne_eqb one.0 epoch (none 0 one (omega arith))) (end_of-none line epoch log_end (λ k d l. none (suc k) d (omega (arith, l))))

-- comparisons with an epoch rise along a line
pub comparisons-rise : (line : List (ℕ × ℕ)) (epoch : ℕ) → IsLine line → IsNonDecreasingBy (λ e. ordering_index (nat_cmp e.0 epoch)) line
comparisons-rise line epoch h i j d le l = let up = epochs-rise line h i j d le l in grind (arith, nat_tests)

-- what a search for the epoch found
pub ends-found : (line : List (ℕ × ℕ)) (epoch log_end at : ℕ) → IsLine line → at < length line → ((d : ℕ × ℕ) → nat_cmp (get_or line at d).0 epoch ≡ Equal) → Some (start_or log_end (drop (at + 1) line)) ≡ end_of line epoch log_end
ends-found line epoch log_end at h l found =
    let same : (get_or line at (0, 0)).0 ≡ epoch = ranked _ epoch Equal (sym (found (0, 0))) in
    rw (add-one, ← same) (sym (end_of-at line at (0, 0) log_end h l))

-- the search found no entry
pub ends-nowhere : (line : List (ℕ × ℕ)) (epoch log_end at : ℕ) → IsLine line
    → (IsNonDecreasingBy (λ e. ordering_index (nat_cmp e.0 epoch)) line → IsPartitionPoint (λ e. nat_cmp e.0 epoch ≡ Less) (λ e. nat_cmp e.0 epoch ≡ Greater) line at) → None ≡ end_of line epoch log_end
ends-nowhere line epoch log_end at h parted =
    let point = parted (comparisons-rise line epoch h) in
    sym (end_of-none line epoch log_end (λ k d l same. elim (cases_lt k at) [
      | inl low ↦ (let less : (get_or line k d).0 < epoch = ranked _ epoch Less (sym (point.0 k d (omega arith) low)) in omega (arith, less, same))
      | inr high ↦ (let more : epoch < (get_or line k d).0 = ranked _ epoch Greater (sym (point.1 k d high l)) in omega (arith, more, same))
    ]))
