-- Bytes are what their parts are when these are joined, and checked batches that were joined come apart again.
use Rattle.std.proofs.Common.{◌≡◌, ◌∙◌, sym, ap, refl, ℕ, zero, suc, ◌+◌, ◌-◌, ◌≤◌, List, [], ◌∷◌, ◌++◌, length, take, drop, Result, Ok, Err, IsOk, arith, append_assoc, length-append}
use Rattle.std.specs.Int.{w32}
use Rattle.std.specs.List.{All, AllByRecursion}
use Rattle.std.proofs.lemmas.List.{take-append-drop, take-append-le, drop-append-le}
use Rattle.std.proofs.lemmas.List.Elements.{recursion_from_All}
use Rattle.std.proofs.Math.Seq.{take-append_seam, drop-append_seam}
use Rattle.log_terms.specs.Batch.{field_at}
use Rattle.log_terms.specs.Log.{joined}
use Rattle.record_batch.specs.declared.refusal.BatchRefusal.{BatchRefusal}
use Rattle.record_batch.specs.Check.{Batch, checked, IsBatchOf}
use Rattle.record_batch.proofs.Passing.{is_batch_of}
use Rattle.laws_partition.specs.Taken.{size_told, parts_in, parts}

pub joined_append : (xs ys : List (List ℕ)) → joined (xs ++ ys) ≡ joined xs ++ joined ys
joined_append [] ys = refl
joined_append (x ∷ xs) ys = ap (λ (t : List ℕ). x ++ t) (joined_append xs ys) ∙ sym (append_assoc x (joined xs) (joined ys))

length_drop : (n : ℕ) (xs : List ℕ) → length (drop n xs) ≡ length xs - n
length_drop zero xs = omega arith
length_drop (suc n) [] = omega arith
length_drop (suc n) (x ∷ xs) = let rest : length (drop n xs) ≡ length xs - n = length_drop n xs in omega (arith, rest)

-- what is left after a part is shorter
left_over : (most n : ℕ) (bytes : List ℕ) → length bytes ≤ suc most → length (drop (12 + n) bytes) ≤ most
left_over most n bytes le = let is = length_drop (12 + n) bytes in omega (arith, is, le)

pub join_parts_in : (most : ℕ) (bytes : List ℕ) → length bytes ≤ most → joined (parts_in most bytes) ≡ bytes
join_parts_in zero [] le = refl
join_parts_in zero (b ∷ bytes) le = absurd (omega (arith, le))
join_parts_in (suc most) [] le = refl
join_parts_in (suc most) (b ∷ bytes) le =
    let size = size_told (b ∷ bytes) in
    let rest = join_parts_in most (drop size (b ∷ bytes)) (left_over most (field_at w32 8 (b ∷ bytes)) (b ∷ bytes) le) in
    ap (λ (t : List ℕ). take size (b ∷ bytes) ++ t) rest ∙ take-append-drop size (b ∷ bytes)

-- the parts of bytes, joined
pub join_parts : (bytes : List ℕ) → joined (parts bytes) ≡ bytes
join_parts bytes = join_parts_in (length bytes) bytes (omega arith)

-- the front of a batch gives its size, whatever follows it
size_front : (batch more : List ℕ) → 61 ≤ length batch → field_at w32 8 (batch ++ more) ≡ field_at w32 8 batch
unfolding field_at
size_front batch more long =
    let behind : length (drop 8 batch) ≡ length batch - 8 = length_drop 8 batch in
    rw (drop-append-le 8 batch more (omega (arith, long)), take-append-le 4 (drop 8 batch) more (omega (arith, long, behind))) refl

-- what is wanted of a batch
record IsSized (batch : List ℕ) : Type 0 where
  long : 61 ≤ length batch
  size : length batch ≡ size_told batch

sized : (batch : List ℕ) → IsOk (checked batch) → IsSized batch
sized batch ok = go (checked batch) refl ok
  where
    go : (r : Result Batch BatchRefusal) → checked batch ≡ r → IsOk r → IsSized batch
    go (Ok b) e ok = let is : IsBatchOf batch b = is_batch_of batch b e in record { long = is.long; size = is.size }
    go (Err why) e ok = absurd (cc)

told_size : (batch more : List ℕ) → IsSized batch → size_told (batch ++ more) ≡ length batch
told_size batch more s = ap (λ (n : ℕ). 12 + n) (size_front batch more s.long) ∙ sym s.size

-- one batch, and what follows it
part_first : (most : ℕ) (batch more : List ℕ) → IsSized batch → parts_in (suc most) (batch ++ more) ≡ batch ∷ parts_in most more
part_first most [] more s = absurd (let long = s.long in omega (arith, long))
part_first most (b ∷ batch) more s =
    rw (told_size (b ∷ batch) more s, take-append_seam (b ∷ batch) more, drop-append_seam (b ∷ batch) more) refl

parts_in_joined : (most : ℕ) (batches : List (List ℕ)) → AllByRecursion (λ batch. IsOk (checked batch)) batches → length (joined batches) ≤ most
    → parts_in most (joined batches) ≡ batches
parts_in_joined zero [] all le = refl
parts_in_joined (suc most) [] all le = refl
parts_in_joined zero (batch ∷ batches) all le =
    let s = sized batch all.0 in
    let long = s.long in
    absurd (omega (arith, le, long, length-append batch (joined batches)))
parts_in_joined (suc most) (batch ∷ batches) all le =
    let s = sized batch all.0 in
    let long = s.long in
    part_first most batch (joined batches) s
    ∙ ap (λ (t : List (List ℕ)). batch ∷ t) (parts_in_joined most batches all.1 (omega (arith, le, long, length-append batch (joined batches))))

-- checked batches, joined
pub parts_joined : (batches : List (List ℕ)) → All (λ batch. IsOk (checked batch)) batches → parts (joined batches) ≡ batches
parts_joined batches all = parts_in_joined (length (joined batches)) batches (recursion_from_All (λ (batch : List ℕ). IsOk (checked batch)) batches all) (omega arith)
