-- A batch is found where it is, and what is found is there.
use Rattle.std.proofs.Common.{◌≡◌, ◌∙◌, sym, refl, ℕ, zero, suc, ◌-◌, ◌==◌, ◌^◌, ◌<◌, ◌≤◌, nat_lt, Bool, true, false, List, [], ◌∷◌, ◌++◌, length, drop, slice_index, Result, Ok, Err, IsOk, arith, length-append, le-ltb}
use Rattle.std.specs.Int.{w32}
use Rattle.std.proofs.lemmas.Bool.{eqb-true}
use Rattle.std.proofs.lemmas.Int.{of_z-to_z}
use Rattle.std.proofs.lemmas.List.{take_at, take-append-le}
use Rattle.log_terms.specs.Batch.{field_at}
use Rattle.record_batch.specs.declared.refusal.BatchRefusal.{BatchRefusal}
use Rattle.record_batch.specs.Head.{head_of}
use Rattle.record_batch.specs.Check.{Batch, head_refusal, checked, headed}
use Rattle.record_batch.proofs.Passing.{passes, is_batch_of}
use Rattle.segment_file.specs.declared.walking.Found.TheVariants as found
use Rattle.segment_file.specs.Walk.{size_in, found_at}

-- what bytes after a batch leave as it is
pub drop_append : (n : ℕ) (xs ys : List ℕ) → n ≤ length xs → drop n (xs ++ ys) ≡ drop n xs ++ ys
drop_append zero xs ys h = refl
drop_append (suc n) [] ys h = absurd (omega (arith, h))
drop_append (suc n) (x ∷ xs) ys h = drop_append n xs ys (omega (arith, h))

index_append : (n : ℕ) (xs ys : List ℕ) → n < length xs → slice_index (xs ++ ys) n ≡ slice_index xs n
index_append n [] ys h = absurd (omega (arith, h))
index_append zero (x ∷ xs) ys h = refl
index_append (suc n) (x ∷ xs) ys h = index_append n xs ys (omega (arith, h))

pub length_drop : (n : ℕ) (xs : List ℕ) → n ≤ length xs → length (drop n xs) ≡ length xs - n
length_drop zero xs h = omega arith
length_drop (suc n) [] h = absurd (omega (arith, h))
length_drop (suc n) (x ∷ xs) h =
    let more : length (drop n xs) ≡ length xs - n = length_drop n xs (omega (arith, h)) in
    omega (arith, more)

-- batch_length is the batch's own
length_field : (batch rest : List ℕ) → 61 ≤ length batch → field_at w32 8 (batch ++ rest) ≡ field_at w32 8 batch
unfolding field_at
length_field batch rest long =
    let behind : length (drop 8 batch) ≡ length batch - 8 = length_drop 8 batch (omega (arith, long)) in
    rw (drop_append 8 batch rest (omega (arith, long)), take-append-le 4 (drop 8 batch) rest (omega (arith, long, behind))) refl

pub head_kept : (batch rest : List ℕ) → 61 ≤ length batch → head_refusal (batch ++ rest) ≡ head_refusal batch
unfolding head_refusal
head_kept batch rest long =
    let one : nat_lt (length (batch ++ rest)) 61 ≡ false = le-ltb (length (batch ++ rest)) 61 (grind (arith, length-append, long)) in
    let two : nat_lt (length batch) 61 ≡ false = le-ltb (length batch) 61 long in
    rw (one, two, index_append 16 batch rest (omega (arith, long)), length_field batch rest long) refl

-- a head gives the size of its batch
pub size_told : (batch : List ℕ) (b : Batch) → checked batch ≡ Ok b → size_in (head_of batch) ≡ length batch
unfolding head_of
size_told batch b e =
    let is = is_batch_of batch b e in
    let few : field_at w32 8 batch < 2 ^ 32 = omega (arith, is.size, is.short) in
    rw (of_z-to_z w32 (field_at w32 8 batch) few) (sym is.size)

pub size_kept : (batch rest : List ℕ) → 61 ≤ length batch → size_in (head_of (batch ++ rest)) ≡ size_in (head_of batch)
unfolding head_of
size_kept batch rest long = rw (length_field batch rest long) refl

pub headed_front : (batch rest : List ℕ) (b : Batch) → checked batch ≡ Ok b → headed (batch ++ rest) ≡ Ok (head_of (batch ++ rest))
unfolding headed
headed_front batch rest b e =
    let is = is_batch_of batch b e in
    let p = passes batch (rw e refl) in
    rw (head_kept batch rest is.long, p.head) refl

pub not_empty : (n : ℕ) → 0 < n → (n == 0) ≡ false
not_empty n h = go (n == 0) refl
  where
    go : (t : Bool) → (n == 0) ≡ t → (n == 0) ≡ false
    go false e = e
    go true e = let none : n ≡ 0 = eqb-true n 0 e in absurd (omega (arith, h, none))

-- a batch is found where it is
found_front : (at : ℕ) (batch rest : List ℕ) (b : Batch) → checked batch ≡ Ok b → found_at at (batch ++ rest) ≡ found.Batch (head_of batch)
unfolding found_at
found_front at batch rest b e =
    let is = is_batch_of batch b e in
    let size : size_in (head_of (batch ++ rest)) ≡ length batch = size_kept batch rest is.long ∙ size_told batch b e in
    let some : (length (batch ++ rest) == 0) ≡ false = not_empty (length (batch ++ rest)) (grind (arith, length-append, is.long)) in
    let fits : nat_lt (length (batch ++ rest)) (length batch) ≡ false = le-ltb (length (batch ++ rest)) (length batch) (grind (arith, length-append)) in
    rw (some, headed_front batch rest b e, size, fits, take_at batch rest (length batch) refl, e, is.head) refl

pub batch_found : (at : ℕ) (batch rest : List ℕ) → IsOk (checked batch) → found_at at (batch ++ rest) ≡ found.Batch (head_of batch)
batch_found at batch rest ok = go (checked batch) refl ok
  where
    go : (r : Result Batch BatchRefusal) → checked batch ≡ r → IsOk r → found_at at (batch ++ rest) ≡ found.Batch (head_of batch)
    go (Ok b) e ok = found_front at batch rest b e
    go (Err why) e ok = absurd (cc)

-- its head gives its size
pub head_sized : (batch : List ℕ) → IsOk (checked batch) → size_in (head_of batch) ≡ length batch
head_sized batch ok = go (checked batch) refl ok
  where
    go : (r : Result Batch BatchRefusal) → checked batch ≡ r → IsOk r → size_in (head_of batch) ≡ length batch
    go (Ok b) e ok = size_told batch b e
    go (Err why) e ok = absurd (cc)
