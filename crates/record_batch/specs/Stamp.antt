-- A batch at another base offset, in another leader epoch. The checksum covers neither, so it stays right.
use Rattle.std.specs.Prelude.{◌≡◌, ℕ, List, ◌++◌, length, take, drop}
use Rattle.std.specs.Int.{w32, w64, to_be_bytes}
use Rattle.log_terms.specs.Batch.{base_of, epoch_of, last_offset_delta_of, max_ts_of}

-- bytes 0 to 7 and 12 to 15 are rewritten, the others are the batch's own
unfoldable pub stamped : List ℕ → ℕ → ℕ → List ℕ
stamped batch base epoch = to_be_bytes w64 base ++ (take 4 (drop 8 batch) ++ (to_be_bytes w32 epoch ++ drop 16 batch))

-- what a stamp sets, and what it leaves as it was
pub record SetsBaseAndEpoch (batch : List ℕ) (base epoch : ℕ) : Type 0 where
  pub base_offset : base_of (stamped batch base epoch) ≡ base
  pub leader_epoch : epoch_of (stamped batch base epoch) ≡ epoch
  pub last_offset_delta : last_offset_delta_of (stamped batch base epoch) ≡ last_offset_delta_of batch
  pub max_ts : max_ts_of (stamped batch base epoch) ≡ max_ts_of batch
  pub size : length (stamped batch base epoch) ≡ length batch
