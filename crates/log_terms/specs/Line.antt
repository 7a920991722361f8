-- The leader epochs of a log: where each of them begins.
--
-- A line is the list of its entries, leader epoch and start offset. Both rise strictly.
--
-- Source: KIP-101, the leader epoch checkpoint.
use Rattle.std.specs.Prelude.{ℕ, ◌==◌, nat_le, nat_lt, if◌then◌else◌, List, [], ◌∷◌, Option, Some, None}
use Rattle.log_terms.specs.Batch.{base_of, epoch_of, last_of}

-- the entries of batches that come after one of this epoch
abbrev pub line_after : ℕ → List (List ℕ) → List (ℕ × ℕ)
line_after epoch [] = []
line_after epoch (batch ∷ log) =
    if epoch_of batch == epoch then line_after epoch log
    else (epoch_of batch, base_of batch) ∷ line_after (epoch_of batch) log

-- the epochs of a log, each with the base offset of its first batch
abbrev pub line_of : List (List ℕ) → List (ℕ × ℕ)
line_of [] = []
line_of (batch ∷ log) = (epoch_of batch, base_of batch) ∷ line_after (epoch_of batch) log

-- the epoch of the last entry that starts at or below the offset, where the entries rise
abbrev pub epoch_at : List (ℕ × ℕ) → ℕ → Option ℕ
epoch_at [] offset = None
epoch_at ((epoch, start) ∷ []) offset = if nat_le start offset then Some epoch else None
epoch_at ((epoch, start) ∷ (next, after) ∷ line) offset =
    if nat_lt offset start then None
    else if nat_lt offset after then Some epoch
    else epoch_at ((next, after) ∷ line) offset

-- the epoch of the batch that holds the offset
abbrev pub epoch_holding : List (List ℕ) → ℕ → Option ℕ
epoch_holding [] offset = None
epoch_holding (batch ∷ log) offset =
    if nat_lt offset (base_of batch) then None
    else if nat_le offset (last_of batch) then Some (epoch_of batch)
    else epoch_holding log offset
