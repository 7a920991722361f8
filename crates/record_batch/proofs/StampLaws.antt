-- The bytes of a stamped batch, and its fields.
use Rattle.std.proofs.Common.{◌≡◌, ◌∙◌, sym, ap, refl, ℕ, ◌+◌, ◌<◌, ◌≤◌, ◌^◌, List, ◌++◌, length, take, drop, length-append, arith}
use Rattle.std.specs.Int.{Width, w32, w64, byte_len, to_be_bytes, from_be_bytes, cast_signed}
use Rattle.std.proofs.lemmas.List.{drop-drop, take_at, drop_at, length-take, length-drop}
use Rattle.std.proofs.lemmas.Nat.{from_be_bytes-to_be_bytes_4, from_be_bytes-to_be_bytes_8}
use borrow.Rule.Slice.PartMut.{put_mid}
use Rattle.log_terms.specs.Batch.{field_at, base_of, epoch_of, last_offset_delta_of, max_ts_of}
use Rattle.record_batch.specs.Stamp.{stamped, SetsBaseAndEpoch}

-- the two writes of `stamp`
pub stamped-put : (batch : List ℕ) (base epoch : ℕ) → put_mid 12 4 (to_be_bytes w64 base ++ drop 8 batch) (to_be_bytes w32 epoch) ≡ stamped batch base epoch
unfolding stamped
stamped-put batch base epoch =
    ap (λ (t : List ℕ). to_be_bytes w64 base ++ t)
    (ap (λ (t : List ℕ). take 4 (drop 8 batch) ++ (to_be_bytes w32 epoch ++ t)) (drop-drop 4 4 (drop 8 batch) ∙ drop-drop 8 8 batch))

-- the batch_length keeps its four bytes
length-kept : (batch : List ℕ) → 16 ≤ length batch → length (take 4 (drop 8 batch)) ≡ 4
length-kept batch long = omega (arith, length-take 4 (drop 8 batch), length-drop 8 batch)

-- what is from the leader epoch on
drop_12 : (batch : List ℕ) (base epoch : ℕ) → 16 ≤ length batch → drop 12 (stamped batch base epoch) ≡ to_be_bytes w32 epoch ++ drop 16 batch
unfolding stamped
drop_12 batch base epoch long = drop_at (take 4 (drop 8 batch)) (to_be_bytes w32 epoch ++ drop 16 batch) 4 (length-kept batch long)

-- what follows the leader epoch
pub drop_16 : (batch : List ℕ) (base epoch : ℕ) → 16 ≤ length batch → drop 16 (stamped batch base epoch) ≡ drop 16 batch
drop_16 batch base epoch long = sym (drop-drop 4 12 (stamped batch base epoch)) ∙ ap (λ (t : List ℕ). drop 4 t) (drop_12 batch base epoch long)

-- a field after the leader epoch
pub later-field : (w : Width) (n : ℕ) (batch : List ℕ) (base epoch : ℕ) → 16 ≤ length batch → field_at w (16 + n) (stamped batch base epoch) ≡ field_at w (16 + n) batch
unfolding field_at
later-field w n batch base epoch long =
    ap (λ (t : List ℕ). from_be_bytes w (take (byte_len w) t))
    (sym (drop-drop n 16 (stamped batch base epoch)) ∙ (ap (λ (t : List ℕ). drop n t) (drop_16 batch base epoch long) ∙ drop-drop n 16 batch))

-- the leader epoch
epoch-stamped : (batch : List ℕ) (base epoch : ℕ) → 16 ≤ length batch → epoch < 2 ^ 32 → epoch_of (stamped batch base epoch) ≡ epoch
unfolding epoch_of field_at
epoch-stamped batch base epoch long small =
    ap (λ (t : List ℕ). from_be_bytes w32 (take 4 t)) (drop_12 batch base epoch long) ∙ from_be_bytes-to_be_bytes_4 epoch small

-- the base offset
base-stamped : (batch : List ℕ) (base epoch : ℕ) → base < 2 ^ 64 → base_of (stamped batch base epoch) ≡ base
unfolding stamped base_of field_at
base-stamped batch base epoch low = from_be_bytes-to_be_bytes_8 base low

-- a stamp keeps the size
pub length_stamped : (batch : List ℕ) (base epoch : ℕ) → 16 ≤ length batch → length (stamped batch base epoch) ≡ length batch
unfolding stamped
length_stamped batch base epoch long = omega (arith, length-kept batch long, length-drop 16 batch, length-append (take 4 (drop 8 batch)) (to_be_bytes w32 epoch ++ drop 16 batch))

-- the last offset delta
last-stamped : (batch : List ℕ) (base epoch : ℕ) → 16 ≤ length batch → last_offset_delta_of (stamped batch base epoch) ≡ last_offset_delta_of batch
unfolding last_offset_delta_of
last-stamped batch base epoch long = later-field w32 7 batch base epoch long

-- the greatest timestamp
max-stamped : (batch : List ℕ) (base epoch : ℕ) → 16 ≤ length batch → max_ts_of (stamped batch base epoch) ≡ max_ts_of batch
unfolding max_ts_of
max-stamped batch base epoch long = ap (λ (n : ℕ). cast_signed w64 n) (later-field w64 19 batch base epoch long)

-- what a stamp sets and keeps
pub sets_base_and_epoch : (batch : List ℕ) (base epoch : ℕ) → 61 ≤ length batch → base < 2 ^ 64 → epoch < 2 ^ 32 → SetsBaseAndEpoch batch base epoch
sets_base_and_epoch batch base epoch long low small =
    let room : 16 ≤ length batch = omega arith in record {
      base_offset = base-stamped batch base epoch low;
      leader_epoch = epoch-stamped batch base epoch room small;
      last_offset_delta = last-stamped batch base epoch room;
      max_ts = max-stamped batch base epoch room;
      size = length_stamped batch base epoch room;
    }

-- the parts of a stamped batch
parts : (batch : List ℕ) (base epoch : ℕ) → to_be_bytes w64 base ++ (take 4 (drop 8 batch) ++ (to_be_bytes w32 epoch ++ drop 16 batch)) ≡ stamped batch base epoch
unfolding stamped
parts batch base epoch = refl

-- the batch_length, again
pub kept-stamped : (batch : List ℕ) (base epoch : ℕ) → 16 ≤ length batch → take 4 (drop 8 (stamped batch base epoch)) ≡ take 4 (drop 8 batch)
unfolding stamped
kept-stamped batch base epoch long = take_at (take 4 (drop 8 batch)) (to_be_bytes w32 epoch ++ drop 16 batch) 4 (length-kept batch long)

-- the later of two stamps counts
pub stamped_again : (batch : List ℕ) (base epoch base_2 epoch_2 : ℕ) → 16 ≤ length batch → stamped (stamped batch base epoch) base_2 epoch_2 ≡ stamped batch base_2 epoch_2
stamped_again batch base epoch base_2 epoch_2 long =
    sym (parts (stamped batch base epoch) base_2 epoch_2)
    ∙ (ap (λ (t : List ℕ). to_be_bytes w64 base_2 ++ (t ++ (to_be_bytes w32 epoch_2 ++ drop 16 (stamped batch base epoch)))) (kept-stamped batch base epoch long)
    ∙ (ap (λ (t : List ℕ). to_be_bytes w64 base_2 ++ (take 4 (drop 8 batch) ++ (to_be_bytes w32 epoch_2 ++ t))) (drop_16 batch base epoch long)
    ∙ parts batch base_2 epoch_2))
