-- Where an offset splits a log, and where a log ends.
use Rattle.std.proofs.Common.{◌≡◌, ap, sym, ◌∙◌, ℕ, zero, suc, ◌+◌, ◌-◌, ◌<◌, ◌≤◌, List, [], ◌∷◌, take, drop, length, get_or, Some, arith, refl}
use Rattle.std.specs.Prelude.{slice_get}
use Rattle.std.proofs.lemmas.Option.{slice_get_within, get_or_from_slice_get}
use Rattle.log_terms.specs.Batch.{last_of}
use Rattle.log_terms.specs.Log.{IsConsecutive, end_from, end_of, up_to, from_offset}
use Rattle.log_terms.proofs.Logs.{lt_true, lt_false}

-- no batch of a list that begins at m ends below it
pub last_above : (m : ℕ) (log : List (List ℕ)) (k : ℕ) → IsConsecutive m log → k < length log → m ≤ last_of (get_or log k [])
last_above m [] k h b = absurd (omega arith)
last_above m (v ∷ log) zero h b = omega (arith, h.0)
last_above m (v ∷ log) (suc k) h b =
    let r = last_above (last_of v + 1) log k h.1 (omega arith) in
    omega (arith, h.0, r)

-- batches end at rising offsets
pub last_rises : (m : ℕ) (log : List (List ℕ)) (j k : ℕ) → IsConsecutive m log → j ≤ k → k < length log
    → last_of (get_or log j []) ≤ last_of (get_or log k [])
last_rises m [] j k h l b = absurd (omega arith)
last_rises m (v ∷ log) zero zero h l b = omega arith
last_rises m (v ∷ log) zero (suc k) h l b =
    let r = last_above (last_of v + 1) log k h.1 (omega arith) in
    omega (arith, r)
last_rises m (v ∷ log) (suc j) zero h l b = absurd (omega arith)
last_rises m (v ∷ log) (suc j) (suc k) h l b = last_rises (last_of v + 1) log j k h.1 (omega arith) (omega arith)

-- all before this place end below n
abbrev pub AreBelow : ℕ → List (List ℕ) → ℕ → Type 0
AreBelow n log count = (k : ℕ) → k < count → last_of (get_or log k []) < n

-- the batch at this place, where there is one, ends at n or above
abbrev pub IsAbove : ℕ → List (List ℕ) → ℕ → Type 0
IsAbove n log count = count < length log → n ≤ last_of (get_or log count [])

-- the batches before the place
pub split_before : (n : ℕ) (log : List (List ℕ)) (count : ℕ) → count ≤ length log → AreBelow n log count → IsAbove n log count
    → up_to n log ≡ take count log
split_before n [] zero l b a = refl
split_before n [] (suc count) l b a = absurd (omega arith)
split_before n (v ∷ log) zero l b a = rw (lt_false (last_of v) n (a (omega arith))) refl
split_before n (v ∷ log) (suc count) l b a =
    let r = split_before n log count (omega arith) (λ k below. b (suc k) (omega arith)) (λ below. a (omega arith)) in
    rw (lt_true (last_of v) n (b 0 (omega arith))) (ap (λ z. v ∷ z) r)

-- those from the place on
pub split_after : (n : ℕ) (log : List (List ℕ)) (count : ℕ) → count ≤ length log → AreBelow n log count → IsAbove n log count
    → from_offset n log ≡ drop count log
split_after n [] zero l b a = refl
split_after n [] (suc count) l b a = absurd (omega arith)
split_after n (v ∷ log) zero l b a = rw (lt_false (last_of v) n (a (omega arith))) refl
split_after n (v ∷ log) (suc count) l b a =
    let r = split_after n log count (omega arith) (λ k below. b (suc k) (omega arith)) (λ below. a (omega arith)) in
    rw (lt_true (last_of v) n (b 0 (omega arith))) r

-- a log ends after its last batch
pub end_last : (n : ℕ) (log : List (List ℕ)) (d : List ℕ) → 0 < length log
    → end_from n log ≡ last_of (get_or log (length log - 1) d) + 1
end_last n [] d b = absurd (omega arith)
end_last n (v ∷ []) d b = refl
end_last n (v ∷ w ∷ log) d b =
    let long : suc (suc (length log)) - 1 ≡ suc (length log) = omega arith in
    let short : suc (length log) - 1 ≡ length log = omega arith in
    rw long (rw short at (end_last (last_of v + 1) (w ∷ log) d (omega arith)))

-- so where the last one was read
pub end_read : (log : List (List ℕ)) (n : ℕ) (v : List ℕ) → slice_get log (n - 1) ≡ Some v → n ≡ length log → 0 < n
    → end_of log ≡ last_of v + 1
end_read log n v at is some =
    let e = end_last 0 log v (omega (arith, is, some)) in
    let g = get_or_from_slice_get log (n - 1) v v at in
    e ∙ ap (λ (k : ℕ). last_of (get_or log (k - 1) v) + 1) (sym is) ∙ ap (λ (w : List ℕ). last_of w + 1) g

-- all from this place on end at n or above
abbrev pub AreAbove : ℕ → List (List ℕ) → ℕ → Type 0
AreAbove n log count = (k : ℕ) → count ≤ k → k < length log → n ≤ last_of (get_or log k [])

-- a batch that ends below n, and all before it
pub below_more : (n : ℕ) (log : List (List ℕ)) (at : ℕ) (v : List ℕ) → IsConsecutive 0 log → slice_get log at ≡ Some v
    → last_of v < n → AreBelow n log (at + 1)
below_more n log at v h get l = λ k below.
    let r = last_rises 0 log k at h (omega (arith, below)) (slice_get_within log at v get) in
    let same = ap last_of (get_or_from_slice_get log at v [] get) in
    omega (arith, r, same, l)

-- one that doesn't, and all after it
pub above_more : (n : ℕ) (log : List (List ℕ)) (at : ℕ) (v : List ℕ) → IsConsecutive 0 log → slice_get log at ≡ Some v
    → n ≤ last_of v → AreAbove n log at
above_more n log at v h get l = λ k from within.
    let r = last_rises 0 log at k h from within in
    let same = ap last_of (get_or_from_slice_get log at v [] get) in
    omega (arith, r, same, l)

-- the place where those below n end is the one that the batches part at
pub parted_before : (n : ℕ) (log : List (List ℕ)) (count : ℕ) → count ≤ length log → AreBelow n log count → AreAbove n log count
    → up_to n log ≡ take count log
parted_before n log count l b a = split_before n log count l b (λ below. a count (omega arith) below)

pub parted_after : (n : ℕ) (log : List (List ℕ)) (count : ℕ) → count ≤ length log → AreBelow n log count → AreAbove n log count
    → from_offset n log ≡ drop count log
parted_after n log count l b a = split_after n log count l b (λ below. a count (omega arith) below)
