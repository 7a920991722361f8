-- How many records a checked batch has.
use Rattle.std.proofs.Common.{◌≡◌, ◌∙◌, ap, refl, ℕ, ◌≤◌, ◌<◌, ◌^◌, List, length, Result, Ok, Err, IsOk, arith}
use Rattle.std.specs.Int.{w32, cast_unsigned}
use Rattle.std.proofs.lemmas.Int.{of_z-to_z}
use Rattle.log_terms.specs.Batch.{last_offset_delta_of}
use Rattle.record_batch.specs.declared.head.Head.{Head}
use Rattle.record_batch.specs.declared.refusal.BatchRefusal.{BatchRefusal}
use Rattle.record_batch.specs.Head.{head_of}
use Rattle.record_batch.specs.Check.{Batch, checked, head_in, IsBatchOf}

-- what the head of a checked batch gives
pub record IsCounted (bytes : List ℕ) (head : Head) : Type 0 where
  pub ok : IsOk (checked bytes)
  pub is : cast_unsigned w32 head.last_offset_delta ≡ last_offset_delta_of bytes
  pub few : last_offset_delta_of bytes < 2 ^ 31
  pub long : 61 ≤ length bytes

delta-is : (bytes : List ℕ) → last_offset_delta_of bytes < 2 ^ 31 → cast_unsigned w32 (head_of bytes).last_offset_delta ≡ last_offset_delta_of bytes
unfolding head_of last_offset_delta_of
delta-is bytes few = of_z-to_z w32 (last_offset_delta_of bytes) (omega (arith, few))

pub counted : (bytes : List ℕ) (head : Head) → ◌≡◌ {A = Result Head BatchRefusal} (Ok head) (head_in (checked bytes))
    → ((b : List ℕ) (batch : Batch) → checked b ≡ Ok batch → IsBatchOf b batch) → IsCounted bytes head
counted bytes head e law = go (checked bytes) refl e
  where
    go : (r : Result Batch BatchRefusal) → checked bytes ≡ r → ◌≡◌ {A = Result Head BatchRefusal} (Ok head) (head_in r) → IsCounted bytes head
    go (Ok batch) is same =
        let w = law bytes batch is in
        let one : head ≡ batch.head = cc (same) in
        record {
          ok = rw is refl;
          is = ap (λ (h : Head). cast_unsigned w32 h.last_offset_delta) (one ∙ w.head) ∙ delta-is bytes w.few;
          few = w.few;
          long = w.long;
        }
    go (Err why) is same = absurd cc
