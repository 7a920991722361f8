-- The local part of a log that is seen from offset 0 on.
use Rattle.std.proofs.Common.{◌≡◌, ◌∙◌, ap, sym, subst, refl, inl, inr, ℕ, ◌≤◌, List, [], ◌∷◌, ◌++◌, None, Some, arith, append-nil}
use Rattle.std.proofs.lemmas.Bool.{cases_lt}
use Rattle.disk_model.specs.Content.{Content}
use Rattle.log_terms.specs.Batch.{last_of}
use Rattle.log_terms.specs.Log.{IsConsecutive, EndsAt, end_from, end_of, up_to, from_offset}
use Rattle.log_terms.proofs.Logs.{lt_true, lt_false, end_append, prefix_end}
use Rattle.segment_file.proofs.Joining.{consecutive_parts}
use Rattle.log_steps.specs.Opens.{Opened}
use Rattle.local_log.specs.Log.{Log}
use Rattle.local_log.proofs.Edges.{from_skip, up_to_past}
use Rattle.local_log.proofs.Pieces.{up_to_all}
use Rattle.broker_log.specs.Seen.{LogSeen, back_of, IsBack, IsSeenSound, ShowsOpen}

from_all : (n : ℕ) (xs : List (List ℕ)) → IsConsecutive n xs → from_offset n xs ≡ xs
from_all n [] c = refl
from_all n (x ∷ xs) c = rw (lt_false (last_of x) n (omega (arith, c.0))) refl

-- what lies between two offsets, from either end
pub from_up : (n m : ℕ) (xs : List (List ℕ)) → n ≤ m → from_offset n (up_to m xs) ≡ up_to m (from_offset n xs)
from_up n m [] le = refl
from_up n m (x ∷ xs) le = elim (cases_lt (last_of x) n) [
  | inl lt ↦ rw (lt_true (last_of x) m (omega (arith, lt, le)), lt_true (last_of x) n lt) (from_up n m xs le)
  | inr ge ↦ elim (cases_lt (last_of x) m) [
    | inl below ↦ rw (lt_true (last_of x) m below, lt_false (last_of x) n ge, lt_true (last_of x) m below) refl
    | inr past ↦ rw (lt_false (last_of x) m past, lt_false (last_of x) n ge, lt_false (last_of x) m past) refl
  ]
]

pub up_up : (m n : ℕ) (xs : List (List ℕ)) → m ≤ n → up_to m (up_to n xs) ≡ up_to m xs
up_up m n [] le = refl
up_up m n (x ∷ xs) le = elim (cases_lt (last_of x) m) [
  | inl lt ↦ rw (lt_true (last_of x) n (omega (arith, lt, le)), lt_true (last_of x) m lt) (ap (λ (l : List (List ℕ)). x ∷ l) (up_up m n xs le))
  | inr ge ↦ elim (cases_lt (last_of x) n) [
    | inl below ↦ rw (lt_true (last_of x) n below, lt_false (last_of x) m ge) refl
    | inr past ↦ rw (lt_false (last_of x) n past, lt_false (last_of x) m ge) refl
  ]
]

-- a log is what it has up to an offset, and from there on
pub parts_at : (n : ℕ) (xs : List (List ℕ)) → xs ≡ up_to n xs ++ from_offset n xs
parts_at n [] = refl
parts_at n (x ∷ xs) = elim (cases_lt (last_of x) n) [
  | inl lt ↦ rw (lt_true (last_of x) n lt) (ap (λ (l : List (List ℕ)). x ∷ l) (parts_at n xs))
  | inr ge ↦ rw (lt_false (last_of x) n ge) refl
]

-- what follows a beginning
pub from_rest : (n : ℕ) (below rest : List (List ℕ)) → IsConsecutive 0 (below ++ rest) → end_of below ≡ n → from_offset n (below ++ rest) ≡ rest
from_rest n below rest c end =
    let k = consecutive_parts 0 below rest c in
    from_skip 0 n below rest k.0 (omega (arith, end)) ∙ from_all n rest (subst (λ (m : ℕ). IsConsecutive m rest) end k.1)

pub part_of : (n m : ℕ) (below rest : List (List ℕ)) → IsConsecutive 0 (below ++ rest) → end_of below ≡ n → n ≤ m → from_offset n (up_to m (below ++ rest)) ≡ up_to m rest
part_of n m below rest c end le = from_up n m (below ++ rest) le ∙ ap (up_to m) (from_rest n below rest c end)

pub up_past : (n m : ℕ) (below rest : List (List ℕ)) → IsConsecutive 0 (below ++ rest) → end_of below ≡ n → n ≤ m → up_to m (below ++ rest) ≡ below ++ up_to m rest
up_past n m below rest c end le = up_to_past 0 m below rest (consecutive_parts 0 below rest c).0 (omega (arith, end, le))

-- nothing follows the end
pub from_end : (n : ℕ) (whole : List (List ℕ)) → IsConsecutive 0 whole → end_of whole ≡ n → from_offset n (up_to n whole) ≡ []
from_end n whole c end =
    let all = append-nil whole in
    ap (from_offset n) (ap (λ (m : ℕ). up_to m whole) (sym end) ∙ up_to_all 0 whole c ∙ sym all)
    ∙ from_rest n whole [] (subst (IsConsecutive 0) (sym all) c) end

pub opened_as : (o : Opened) (i n : ℕ) (batches : List (List ℕ)) (line : List (ℕ × ℕ)) → o.incarnation ≡ i → o.local_start ≡ n → o.batches ≡ batches → o.line ≡ line
    → o ≡ record { incarnation = i; local_start = n; batches = batches; line = line }
opened_as o i n batches line a b c d = let z : o ≡ record { incarnation = i; local_start = n; batches = batches; line = line } = rw (← a, ← b, ← c, ← d) refl in z

module _ {D : Type 0} (content : D → Content) (log : Log D) (s : LogSeen) (h : ShowsOpen content log s) where
  pub all : IsConsecutive 0 (h.below ++ log.batches)
  all = subst (IsConsecutive 0) h.batches_are h.consecutive

  pub begins_at : end_of h.below ≡ s.local
  begins_at = h.begins ∙ sym h.local_is

  pub local_ends : EndsAt s.local s.batches
  local_ends = (h.below, (log.batches, sym h.batches_are), begins_at)

  pub local_low : s.local ≤ end_of s.batches
  local_low = let low = prefix_end h.below s.batches h.consecutive (log.batches, sym h.batches_are) in omega (arith, low, begins_at)

  -- what is up to an offset at or past the local start, of all and of the local log
  pub up_local : (n : ℕ) → s.local ≤ n → from_offset s.local (up_to n s.batches) ≡ up_to n log.batches
  up_local n le = ap (λ (l : List (List ℕ)). from_offset s.local (up_to n l)) h.batches_are ∙ part_of s.local n h.below log.batches all begins_at le

  pub up_whole : (n : ℕ) → s.local ≤ n → up_to n s.batches ≡ h.below ++ up_to n log.batches
  up_whole n le = ap (up_to n) h.batches_are ∙ up_past s.local n h.below log.batches all begins_at le

  pub up_end : (n : ℕ) → s.local ≤ n → end_of (up_to n s.batches) ≡ end_from log.local_start (up_to n log.batches)
  up_end n le = ap end_of (up_whole n le) ∙ end_append 0 h.below (up_to n log.batches) ∙ ap (λ (m : ℕ). end_from m (up_to n log.batches)) h.begins

  pub from_local : (n : ℕ) → s.local ≤ n → from_offset n s.batches ≡ from_offset n log.batches
  from_local n le = ap (from_offset n) h.batches_are ∙ from_skip 0 n h.below log.batches (consecutive_parts 0 h.below log.batches all).0 (omega (arith, begins_at, le))

  pub back_stands : IsBack s (back_of s)
  back_stands = record { begins = local_ends; within = h.within }

  pub kept_stands : IsSeenSound s
  kept_stands = record { consecutive = h.consecutive; back = back_stands; loose = λ back is. absurd (let no : None ≡ Some back = sym h.tight ∙ is in cc) }
