-- What a batch's head says of it.
use Rattle.std.proofs.Common.{◌≡◌, refl, ℕ, ◌^◌, ◌<◌, List, take, drop, Result, Ok, Err, IsOk, get_or, arith}
use Rattle.std.specs.Int.{w32, from_be_bytes, cast_unsigned}
use Rattle.std.proofs.lemmas.Int.{of_z-to_z}
use Rattle.log_terms.specs.Batch.{field_at, epoch_of, max_ts_of}
use Rattle.record_batch.specs.declared.head.Head.{Head}
use Rattle.record_batch.specs.declared.refusal.BatchRefusal.{BatchRefusal}
use Rattle.record_batch.specs.Head.{head_of}
use Rattle.record_batch.specs.Check.{Batch, checked}
use Rattle.segment_file.specs.Gathering.{HeadDescribes}
use Rattle.segment_file.specs.Index.{placed, placed_in}
use Rattle.segment_file.proofs.Finding.{size_told}
use Rattle.segment_file.proofs.Standing.{AreBytes, bytes_take, bytes_drop, base_told, delta_told}

below_32 : (bs : List ℕ) → AreBytes bs → from_be_bytes w32 bs < 2 ^ 32
below_32 bs h = omega (arith, h 0, h 1, h 2, h 3)

-- the leader epoch that a head gives
epoch_told : (batch : List ℕ) → AreBytes batch → cast_unsigned w32 (head_of batch).leader_epoch ≡ epoch_of batch
unfolding head_of epoch_of field_at
epoch_told batch h =
    of_z-to_z w32 (from_be_bytes w32 (take 4 (drop 12 batch))) (below_32 (take 4 (drop 12 batch)) (bytes_take 4 (drop 12 batch) (bytes_drop 12 batch h)))

-- the greatest timestamp
ts_told : (batch : List ℕ) → (head_of batch).max_ts ≡ max_ts_of batch
unfolding head_of max_ts_of
ts_told batch = refl

tells_by : (batch : List ℕ) (b : Batch) → AreBytes batch → checked batch ≡ Ok b → HeadDescribes batch (head_of batch)
tells_by batch b clean e = record {
  size = size_told batch b e;
  base = base_told batch clean;
  delta = delta_told batch b e;
  epoch = epoch_told batch clean;
  max_ts = ts_told batch;
}

-- a head gives its batch's numbers
pub is_observable : (batch : List ℕ) → AreBytes batch → IsOk (checked batch) → HeadDescribes batch (head_of batch)
is_observable batch clean ok = go (checked batch) refl ok
  where
    go : (r : Result Batch BatchRefusal) → checked batch ≡ r → IsOk r → HeadDescribes batch (head_of batch)
    go (Ok b) e ok = tells_by batch b clean e
    go (Err why) e ok = absurd (cc)

-- so it reports how the batch is placed
pub placed_same : (at : ℕ) (batch : List ℕ) (head : Head) → HeadDescribes batch head → placed_in at head ≡ placed at batch
placed_same at batch head t = rw (t.base, t.delta, t.max_ts, t.size) refl

pub head_places : (at : ℕ) (batch : List ℕ) → IsOk (checked batch) → ((i : ℕ) → get_or batch i 0 < 2 ^ 8) → placed_in at (head_of batch) ≡ placed at batch
head_places at batch ok clean = placed_same at batch (head_of batch) (is_observable batch clean ok)
