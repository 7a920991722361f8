-- The tables hold what the definition gives: each entry is eight steps after its place, or after the entry of the table before.
use Rattle.std.proofs.Common.{◌≡◌, ◌∙◌, refl, sym, ap, ℕ, zero, suc, ◌+◌, ◌==◌, ◌&&◌, ◌<◌, Bool, true, false, List, [], ◌∷◌, length, slice_index, arith, eqb-true, zero-add}
use Rattle.std.proofs.lemmas.Bool.{and_parts}
use Rattle.batch_prims.specs.Crc.{step, steps}
use Rattle.batch_prims.proofs.Linear.{steps-add}
use Rattle.batch_prims.specs.declared.near_tables.TheConstants.{AFTER_1, AFTER_2, AFTER_3, AFTER_4, AFTER_5, AFTER_6, AFTER_7, AFTER_8}
use Rattle.batch_prims.specs.declared.far_tables.TheConstants.{AFTER_9, AFTER_10, AFTER_11, AFTER_12, AFTER_13, AFTER_14, AFTER_15, AFTER_16}

-- n numbers from i on
unfoldable numbers : ℕ → ℕ → List ℕ
numbers zero i = []
numbers (suc n) i = i ∷ numbers n (suc i)

numbers-at : (n i k : ℕ) → k < n → slice_index (numbers n i) k ≡ i + k
unfolding numbers
numbers-at zero i k h = absurd (omega arith)
numbers-at (suc n) i zero h = omega arith
numbers-at (suc n) i (suc k) h = let e : slice_index (numbers n (suc i)) k ≡ suc i + k = numbers-at n (suc i) k (omega arith) in omega arith

-- each of the second list is eight steps after its fellow of the first
unfoldable follow : List ℕ → List ℕ → Bool
follow [] [] = true
follow [] (y ∷ ys) = false
follow (x ∷ xs) [] = true
follow (x ∷ xs) (y ∷ ys) = (y == steps 8 x) && follow xs ys

follow-at : (xs ys : List ℕ) (k : ℕ) → follow xs ys ≡ true → k < length ys → slice_index ys k ≡ steps 8 (slice_index xs k)
unfolding follow
follow-at xs [] k h p = absurd (omega arith)
follow-at [] (y ∷ ys) k h p = cc
follow-at (x ∷ xs) (y ∷ ys) zero h p = eqb-true y (steps 8 x) (and_parts (y == steps 8 x) (follow xs ys) h).0
follow-at (x ∷ xs) (y ∷ ys) (suc k) h p = follow-at xs ys k (and_parts (y == steps 8 x) (follow xs ys) h).1 (omega arith)

-- a table that holds n steps of each place
abbrev Holds : ℕ → List ℕ → Type 0
Holds n table = (i : ℕ) → i < 256 → slice_index table i ≡ steps n i

-- eight steps more
later : (n : ℕ) (xs ys : List ℕ) → follow xs ys ≡ true → length ys ≡ 256 → Holds n xs → Holds (n + 8) ys
later n xs ys h p held i below =
    follow-at xs ys i h (omega arith) ∙ ap (steps 8) (held i below) ∙ sym (steps-add n 8 i)

follow_1 : follow (numbers 256 0) AFTER_1 ≡ true
unfolding step follow numbers
follow_1 = refl

pub entry_1 : Holds 8 AFTER_1
entry_1 = later 0 (numbers 256 0) AFTER_1 follow_1 refl (λ i below. numbers-at 256 0 i below ∙ zero-add i)

follow_2 : follow AFTER_1 AFTER_2 ≡ true
unfolding step follow
follow_2 = refl

pub entry_2 : Holds 16 AFTER_2
entry_2 = later 8 AFTER_1 AFTER_2 follow_2 refl entry_1

follow_3 : follow AFTER_2 AFTER_3 ≡ true
unfolding step follow
follow_3 = refl

pub entry_3 : Holds 24 AFTER_3
entry_3 = later 16 AFTER_2 AFTER_3 follow_3 refl entry_2

follow_4 : follow AFTER_3 AFTER_4 ≡ true
unfolding step follow
follow_4 = refl

pub entry_4 : Holds 32 AFTER_4
entry_4 = later 24 AFTER_3 AFTER_4 follow_4 refl entry_3

follow_5 : follow AFTER_4 AFTER_5 ≡ true
unfolding step follow
follow_5 = refl

pub entry_5 : Holds 40 AFTER_5
entry_5 = later 32 AFTER_4 AFTER_5 follow_5 refl entry_4

follow_6 : follow AFTER_5 AFTER_6 ≡ true
unfolding step follow
follow_6 = refl

pub entry_6 : Holds 48 AFTER_6
entry_6 = later 40 AFTER_5 AFTER_6 follow_6 refl entry_5

follow_7 : follow AFTER_6 AFTER_7 ≡ true
unfolding step follow
follow_7 = refl

pub entry_7 : Holds 56 AFTER_7
entry_7 = later 48 AFTER_6 AFTER_7 follow_7 refl entry_6

follow_8 : follow AFTER_7 AFTER_8 ≡ true
unfolding step follow
follow_8 = refl

pub entry_8 : Holds 64 AFTER_8
entry_8 = later 56 AFTER_7 AFTER_8 follow_8 refl entry_7

follow_9 : follow AFTER_8 AFTER_9 ≡ true
unfolding step follow
follow_9 = refl

pub entry_9 : Holds 72 AFTER_9
entry_9 = later 64 AFTER_8 AFTER_9 follow_9 refl entry_8

follow_10 : follow AFTER_9 AFTER_10 ≡ true
unfolding step follow
follow_10 = refl

pub entry_10 : Holds 80 AFTER_10
entry_10 = later 72 AFTER_9 AFTER_10 follow_10 refl entry_9

follow_11 : follow AFTER_10 AFTER_11 ≡ true
unfolding step follow
follow_11 = refl

pub entry_11 : Holds 88 AFTER_11
entry_11 = later 80 AFTER_10 AFTER_11 follow_11 refl entry_10

follow_12 : follow AFTER_11 AFTER_12 ≡ true
unfolding step follow
follow_12 = refl

pub entry_12 : Holds 96 AFTER_12
entry_12 = later 88 AFTER_11 AFTER_12 follow_12 refl entry_11

follow_13 : follow AFTER_12 AFTER_13 ≡ true
unfolding step follow
follow_13 = refl

pub entry_13 : Holds 104 AFTER_13
entry_13 = later 96 AFTER_12 AFTER_13 follow_13 refl entry_12

follow_14 : follow AFTER_13 AFTER_14 ≡ true
unfolding step follow
follow_14 = refl

pub entry_14 : Holds 112 AFTER_14
entry_14 = later 104 AFTER_13 AFTER_14 follow_14 refl entry_13

follow_15 : follow AFTER_14 AFTER_15 ≡ true
unfolding step follow
follow_15 = refl

pub entry_15 : Holds 120 AFTER_15
entry_15 = later 112 AFTER_14 AFTER_15 follow_15 refl entry_14

follow_16 : follow AFTER_15 AFTER_16 ≡ true
unfolding step follow
follow_16 = refl

pub entry_16 : Holds 128 AFTER_16
entry_16 = later 120 AFTER_15 AFTER_16 follow_16 refl entry_15
