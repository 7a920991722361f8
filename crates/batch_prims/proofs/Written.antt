-- Groups of a number are laid out one after another.
use Rattle.std.proofs.Common.{◌≡◌, ◌∙◌, ap, refl, ℕ, zero, suc, ◌+◌, ◌-◌, ◌*◌, ◌/◌, ◌%◌, ◌^◌, ◌<◌, ◌≤◌, nat_lt, true, false, List, ◌++◌, length, take, slice_set, append_assoc, length-set, arith}
use Rattle.std.proofs.lemmas.Bool.{le-ltb, lt-ltb}
use Rattle.std.proofs.lemmas.List.{take_more_set}
use Rattle.std.proofs.Math.Nat.{pow-suc}
use Rattle.batch_prims.specs.Varint.{groups_of, shortest}

-- count groups of the number are there, and the rest has at most 10 - count more
pub record SoFar (groups : List ℕ) (count rest number : ℕ) : Type 0 where
  pub size : length groups ≡ 10
  pub room : count < 10
  pub small : rest < 128 * 128 ^ (9 - count)
  pub same : take count groups ++ groups_of (10 - count) rest ≡ shortest number

pub none_yet : (number : ℕ) (groups : List ℕ) → length groups ≡ 10 → number < 2 ^ 64 → SoFar groups 0 number number
unfolding shortest
none_yet number groups size small = record { size = size; room = omega arith; small = omega arith; same = refl }

-- where a group is not the last, there is another place
another : (k rest : ℕ) → rest < 128 * 128 ^ k → 128 ≤ rest → 0 < k
another zero rest small high = absurd (omega arith)
another (suc k) rest small high = omega arith

-- one group more
pub one_more : (groups : List ℕ) (count rest number : ℕ) → SoFar groups count rest number → 128 ≤ rest
    → SoFar (slice_set groups count (rest % 128 + 128)) (count + 1) (rest / 128) number
one_more groups count rest number so_far high =
    let room : 0 < 9 - count = another (9 - count) rest so_far.small high in
    let places : 9 - count ≡ suc (8 - count) = omega arith in
    let next : 9 - (count + 1) ≡ 8 - count = omega arith in
    let power : 128 ^ (9 - count) ≡ 128 ^ (8 - count) * 128 = ap (λ (k : ℕ). 128 ^ k) places ∙ pow-suc 128 (8 - count) in
    let whole : 10 - count ≡ suc (9 - count) = omega arith in
    let left : 10 - (count + 1) ≡ 9 - count = omega arith in
    let more : nat_lt rest 128 ≡ false = le-ltb rest 128 high in
    record {
      size = length-set groups count (rest % 128 + 128) ∙ so_far.size;
      room = omega arith;
      small = rw next (omega arith);
      same = rw (take_more_set groups count (rest % 128 + 128) (omega arith), left, append_assoc) (rw (whole, more) at so_far.same);
    }

-- the last group
pub all_groups : (groups : List ℕ) (count rest number : ℕ) → SoFar groups count rest number → rest < 128
    → take (count + 1) (slice_set groups count rest) ≡ shortest number
all_groups groups count rest number so_far last =
    let whole : 10 - count ≡ suc (9 - count) = omega arith in
    let end : nat_lt rest 128 ≡ true = lt-ltb rest 128 last in
    take_more_set groups count rest (omega arith) ∙ (rw (whole, end) at so_far.same)
