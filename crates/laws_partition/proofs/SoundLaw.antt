-- What is appended: a batch that is placed at a leader's end.
use Rattle.std.proofs.Common.{◌≡◌, ◌∙◌, refl, ℕ, ◌+◌, ◌^◌, ◌<◌, ◌≤◌, List, length, Result, Ok as Done, Err, IsOk, arith}
use Rattle.log_terms.specs.Batch.{base_of, epoch_of, last_of, last_offset_delta_of}
use Rattle.log_terms.specs.Log.{end_of}
use Rattle.record_batch.specs.Check.{Batch, checked}
use Rattle.record_batch.specs.Stamp.{stamped}
use Rattle.record_batch.specs.declared.refusal.BatchRefusal.{BatchRefusal}
use Rattle.record_batch.proofs.Passing.{is_batch_of}
use Rattle.record_batch.proofs.StampLaws.{sets_base_and_epoch}
use Rattle.plain_log.specs.declared.state.Role.TheVariants.{Leads as LeadsIn}
use Rattle.plain_log.specs.RowsOfLog.{offset_limit}
use Rattle.laws_partition.specs.Seen.{Node}
use Rattle.laws_partition.specs.RowsOfLog.{end_with}
use Rattle.laws_partition.specs.Sound.{NodeSound}
use Rattle.laws_partition.proofs.NodeLaw.{last_fits}

-- a batch that is placed at a leader's end
pub record Placed (x : Node) (batch : List ℕ) (base e : ℕ) : Type 0 where
  pub base_is : base_of (stamped batch base e) ≡ end_of x.log.batches
  pub epoch_is : epoch_of (stamped batch base e) ≡ e
  pub small : last_of (stamped batch base e) + 1 ≤ 4611686018427387904

pub placed_of : (x : Node) (batch : List ℕ) (base e : ℕ) → 61 ≤ length batch → NodeSound x → x.role ≡ LeadsIn e → base ≡ end_of x.log.batches → end_with x batch ≤ offset_limit
    → Placed x batch base e
placed_of x batch base e long s leads is fits =
    let low : e < 2 ^ 31 = last_fits x.log.line e s.log.rises (s.leads e leads) in
    let t = sets_base_and_epoch batch base e long (below_64 base (end_of x.log.batches) (last_offset_delta_of batch) offset_limit is fits refl) (omega (arith, low)) in
    record {
      base_is = t.base_offset ∙ is;
      epoch_is = t.leader_epoch;
      small = end_of_placed (base_of (stamped batch base e)) (last_offset_delta_of (stamped batch base e)) base (end_of x.log.batches) (last_offset_delta_of batch) offset_limit t.base_offset t.last_offset_delta is fits refl;
    }
  where
    below_64 : (base end delta limit : ℕ) → base ≡ end → end + delta + 1 ≤ limit → limit ≡ 4611686018427387904 → base < 2 ^ 64
    below_64 base end delta limit is le l = omega (arith, is, le, l)

    end_of_placed : (b d base end delta limit : ℕ) → b ≡ base → d ≡ delta → base ≡ end → end + delta + 1 ≤ limit → limit ≡ 4611686018427387904 → b + d + 1 ≤ 4611686018427387904
    end_of_placed b d base end delta limit p q is le l = omega (arith, p, q, is, le, l)

-- bytes that pass the checks are long
pub checked_long : (bytes : List ℕ) → IsOk (checked bytes) → 61 ≤ length bytes
checked_long bytes ok = go (checked bytes) refl ok
  where
    go : (r : Result Batch BatchRefusal) → checked bytes ≡ r → IsOk r → 61 ≤ length bytes
    go (Done batch) is ok = (is_batch_of bytes batch is).long
    go (Err why) is ok = absurd cc
