-- Segments that grow by a batch, and bytes that are a segment in one way alone.
use Rattle.std.proofs.Common.{◌≡◌, ◌∙◌, ap, sym, refl, subst, ℕ, ◌+◌, ◌^◌, ◌<◌, ◌≤◌, List, [], ◌∷◌, ◌++◌, length, IsOk, arith, append_assoc, append-nil, length-append}
use Rattle.std.specs.List.{AllByRecursion}
use Rattle.log_terms.specs.Batch.{base_of, epoch_of, last_of}
use Rattle.log_terms.specs.Log.{joined, IsConsecutive, end_from}
use Rattle.record_batch.specs.Check.{checked}
use Rattle.record_batch.specs.Head.{head_of}
use Rattle.record_batch.proofs.Passing.{checked_long}
use Rattle.segment_file.specs.declared.walking.Found.TheVariants as found
use Rattle.segment_file.specs.Walk.{size_in, found_at}
use Rattle.segment_file.specs.Segment.{EpochsRise, IsSegment}
use Rattle.segment_file.specs.Gathering.{epoch_after}
use Rattle.segment_file.proofs.Finding.{batch_found, head_sized}
use Rattle.segment_file.proofs.Standing.{same_head}
use Rattle.segment_file.proofs.Runs.{joined_append, joined_push}

all_push : {X : Type 0} (P : X → Type 0) (xs : List X) (x : X) → AllByRecursion P xs → P x → AllByRecursion P (xs ++ x ∷ [])
all_push P [] x all one = (one, tt)
all_push P (y ∷ xs) x all one = (all.0, all_push P xs x all.1 one)

pub all_parts : {X : Type 0} (P : X → Type 0) (xs ys : List X) → AllByRecursion P (xs ++ ys) → AllByRecursion P xs × AllByRecursion P ys
all_parts P [] ys all = (tt, all)
all_parts P (x ∷ xs) ys all = let rest = all_parts P xs ys all.1 in ((all.0, rest.0), rest.1)

pub end_push : (n : ℕ) (xs : List (List ℕ)) (batch : List ℕ) → end_from n (xs ++ batch ∷ []) ≡ last_of batch + 1
end_push n [] batch = refl
end_push n (x ∷ xs) batch = end_push (last_of x + 1) xs batch

pub end_append : (n : ℕ) (xs ys : List (List ℕ)) → end_from n (xs ++ ys) ≡ end_from (end_from n xs) ys
end_append n [] ys = refl
end_append n (x ∷ xs) ys = end_append (last_of x + 1) xs ys

consecutive_push : (n : ℕ) (xs : List (List ℕ)) (batch : List ℕ) → IsConsecutive n xs → base_of batch ≡ end_from n xs → IsConsecutive n (xs ++ batch ∷ [])
consecutive_push n [] batch is next = (next, tt)
consecutive_push n (x ∷ xs) batch is next = (is.0, consecutive_push (last_of x + 1) xs batch is.1 next)

pub consecutive_parts : (n : ℕ) (xs ys : List (List ℕ)) → IsConsecutive n (xs ++ ys) → IsConsecutive n xs × IsConsecutive (end_from n xs) ys
consecutive_parts n [] ys is = (tt, is)
consecutive_parts n (x ∷ xs) ys is = let rest = consecutive_parts (last_of x + 1) xs ys is.1 in ((is.0, rest.0), rest.1)

pub consecutive_up : (n : ℕ) (xs : List (List ℕ)) → IsConsecutive n xs → n ≤ end_from n xs
consecutive_up n [] is = omega arith
consecutive_up n (x ∷ xs) is = let rest = consecutive_up (last_of x + 1) xs is.1 in omega (arith, rest, is.0)

epochs_push : (epoch : ℕ) (xs : List (List ℕ)) (batch : List ℕ) → EpochsRise epoch xs → epoch_after epoch xs ≤ epoch_of batch → epoch_of batch < 2 ^ 31 → EpochsRise epoch (xs ++ batch ∷ [])
epochs_push epoch [] batch rise up fits = (up, fits, tt)
epochs_push epoch (x ∷ xs) batch rise up fits = (rise.0, rise.1, epochs_push (epoch_of x) xs batch rise.2 up fits)

epochs_parts : (epoch : ℕ) (xs ys : List (List ℕ)) → EpochsRise epoch (xs ++ ys) → EpochsRise epoch xs × EpochsRise (epoch_after epoch xs) ys
epochs_parts epoch [] ys rise = (tt, rise)
epochs_parts epoch (x ∷ xs) ys rise = let rest = epochs_parts (epoch_of x) xs ys rise.2 in ((rise.0, rise.1, rest.0), rest.1)

pub epoch_push : (epoch : ℕ) (xs : List (List ℕ)) (batch : List ℕ) → epoch_after epoch (xs ++ batch ∷ []) ≡ epoch_of batch
epoch_push epoch [] batch = refl
epoch_push epoch (x ∷ xs) batch = epoch_push (epoch_of x) xs batch

-- a batch that continues
pub record GoesOn (base : ℕ) (batches : List (List ℕ)) (batch : List ℕ) : Type 0 where
  pub is : IsOk (checked batch)
  pub begins : base_of batch ≡ end_from base batches
  pub near : last_of batch + 1 ≤ base + 2 ^ 31
  pub low : last_of batch + 1 ≤ 2 ^ 62
  pub epoch_rises : epoch_after 0 batches ≤ epoch_of batch
  pub epoch_fits : epoch_of batch < 2 ^ 31
  pub small : length (joined batches) + length batch < 2 ^ 31

pub segment_push : (base : ℕ) (batches : List (List ℕ)) (batch : List ℕ) → IsSegment base batches → GoesOn base batches batch → IsSegment base (batches ++ batch ∷ [])
segment_push base batches batch s g =
    let end = end_push base batches batch in
    let size : length (joined (batches ++ batch ∷ [])) ≡ length (joined batches) + length batch = ap length (joined_push batches batch) ∙ length-append (joined batches) batch in record {
      checked = all_push (λ (b : List ℕ). IsOk (checked b)) batches batch s.checked g.is;
      consecutive = consecutive_push base batches batch s.consecutive g.begins;
      epochs = epochs_push 0 batches batch s.epochs g.epoch_rises g.epoch_fits;
      near = rw end g.near;
      low = rw end g.low;
      small = omega (arith, size, g.small);
    }

pub segment_last : (base : ℕ) (batches : List (List ℕ)) (batch : List ℕ) → IsSegment base (batches ++ batch ∷ []) → GoesOn base batches batch
segment_last base batches batch s =
    let all = all_parts (λ (b : List ℕ). IsOk (checked b)) batches (batch ∷ []) s.checked in
    let row = consecutive_parts base batches (batch ∷ []) s.consecutive in
    let epochs = epochs_parts 0 batches (batch ∷ []) s.epochs in
    let end = end_push base batches batch in
    let size : length (joined (batches ++ batch ∷ [])) ≡ length (joined batches) + length batch = ap length (joined_push batches batch) ∙ length-append (joined batches) batch in record {
      is = all.1.0;
      begins = row.1.0;
      near = rw end at s.near;
      low = rw end at s.low;
      epoch_rises = epochs.1.0;
      epoch_fits = epochs.1.1;
      small = omega (arith, size, s.small);
    }

-- a segment's front is a segment
pub segment_front : (base : ℕ) (front rest : List (List ℕ)) → IsSegment base (front ++ rest) → IsSegment base front
segment_front base front rest s =
    let row = consecutive_parts base front rest s.consecutive in
    let up = consecutive_up (end_from base front) rest row.1 in
    let end = end_append base front rest in
    let size : length (joined (front ++ rest)) ≡ length (joined front) + length (joined rest) = ap length (joined_append front rest) ∙ length-append (joined front) (joined rest) in record {
      checked = (all_parts (λ (b : List ℕ). IsOk (checked b)) front rest s.checked).0;
      consecutive = row.0;
      epochs = (epochs_parts 0 front rest s.epochs).0;
      near = omega (arith, end, up, s.near);
      low = omega (arith, end, up, s.low);
      small = omega (arith, size, s.small);
    }

pub nothing_joined : (base : ℕ) → base ≤ 2 ^ 62 → IsSegment base []
nothing_joined base fits = record { checked = tt; consecutive = tt; epochs = tt; near = omega arith; low = fits; small = omega arith }

-- two lists that continue differently don't begin alike
front_same : (xs ys cs ds : List ℕ) → length xs ≡ length ys → xs ++ cs ≡ ys ++ ds → (xs ≡ ys) × (cs ≡ ds)
front_same [] [] cs ds l e = (refl, e)
front_same [] (y ∷ ys) cs ds l e = absurd (omega (arith, l))
front_same (x ∷ xs) [] cs ds l e = absurd (omega (arith, l))
front_same (x ∷ xs) (y ∷ ys) cs ds l e =
    let first : x ≡ y = cc in
    let others : xs ++ cs ≡ ys ++ ds = cc in
    let rest = front_same xs ys cs ds (omega (arith, l)) others in
    (ap (λ z. z ∷ xs) first ∙ ap (λ zs. y ∷ zs) rest.0, rest.1)

batch_same : (x y cs ds : List ℕ) → IsOk (checked x) → IsOk (checked y) → x ++ cs ≡ y ++ ds → (x ≡ y) × (cs ≡ ds)
batch_same x y cs ds okx oky e =
    let one : found_at 0 (x ++ cs) ≡ found.Batch (head_of x) = batch_found 0 x cs okx in
    let two : found_at 0 (y ++ ds) ≡ found.Batch (head_of y) = batch_found 0 y ds oky in
    let same : head_of x ≡ head_of y = same_head (head_of x) (head_of y) (sym one ∙ (ap (found_at 0) e ∙ two)) in
    front_same x y cs ds (sym (head_sized x okx) ∙ (ap size_in same ∙ head_sized y oky)) e

-- what comes after batches that are at the front of others
pub parts_same : (xs ys : List (List ℕ)) (rest : List ℕ) → AllByRecursion (λ (b : List ℕ). IsOk (checked b)) xs → AllByRecursion (λ (b : List ℕ). IsOk (checked b)) ys
    → joined ys ≡ joined xs ++ rest → (more : List (List ℕ)) × (ys ≡ xs ++ more) × (rest ≡ joined more)
parts_same [] ys rest okx oky e = (ys, refl, sym e)
parts_same (x ∷ xs) [] rest okx oky e =
    let long = checked_long x okx.0 in
    let none = ap length e ∙ (length-append (x ++ joined xs) rest ∙ ap (λ n. n + length rest) (length-append x (joined xs))) in
    absurd (omega (arith, long, none))
parts_same (x ∷ xs) (y ∷ ys) rest okx oky e =
    let both = batch_same y x (joined ys) (joined xs ++ rest) oky.0 okx.0 (e ∙ append_assoc x (joined xs) rest) in
    let others = parts_same xs ys rest okx.1 oky.1 both.1 in
    (others.0, ap (λ z. z ∷ ys) both.0 ∙ ap (λ zs. x ∷ zs) others.1, others.2)

-- bytes are batches in one way alone
pub joined_same : (xs ys : List (List ℕ)) → AllByRecursion (λ (b : List ℕ). IsOk (checked b)) xs → AllByRecursion (λ (b : List ℕ). IsOk (checked b)) ys → joined xs ≡ joined ys → xs ≡ ys
joined_same xs ys okx oky e =
    let more = parts_same xs ys [] okx oky (sym e ∙ sym (append-nil (joined xs))) in
    go more.0 (all_parts (λ (b : List ℕ). IsOk (checked b)) xs more.0 (subst (AllByRecursion (λ (b : List ℕ). IsOk (checked b))) more.1 oky)).1 more.1 more.2
  where
    go : (more : List (List ℕ)) → AllByRecursion (λ (b : List ℕ). IsOk (checked b)) more → ys ≡ xs ++ more → [] ≡ joined more → xs ≡ ys
    go [] ok parts none = sym (parts ∙ append-nil xs)
    go (m ∷ more) ok parts none =
        let long = checked_long m ok.0 in
        let size = ap length none ∙ length-append m (joined more) in
        absurd (omega (arith, long, size))

-- so are they those of a segment
pub segment_same : (base other : ℕ) (xs ys : List (List ℕ)) → IsSegment base xs → IsSegment other ys → joined xs ≡ joined ys → xs ≡ ys
segment_same base other xs ys s s' e = joined_same xs ys s.checked s'.checked e
