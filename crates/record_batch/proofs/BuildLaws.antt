-- The parts of a batch that was built, and what its head gives.
use Rattle.std.proofs.Common.{◌≡◌, ◌∙◌, ap, refl, ℕ, ◌+◌, ◌-◌, ◌<◌, ◌≤◌, ◌^◌, FitsSigned, List, ◌++◌, length, take, drop, replicate, Ok, arith}
use Rattle.std.specs.Int.{w64, cast_signed, cast_unsigned}
use Rattle.std.proofs.lemmas.Int.{to_z-of_z}
use Rattle.std.proofs.lemmas.Nat.{from_be_bytes-to_be_bytes_4, from_be_bytes-to_be_bytes_8}
use Rattle.std.proofs.Math.Facts.{Fits-of_z, Fits-lt-pow}
use Rattle.batch_prims.specs.Crc.{crc32c}
use Rattle.log_terms.specs.Batch.{field_at, base_of, epoch_of, last_offset_delta_of, max_ts_of}
use Rattle.record_batch.specs.declared.rec.Rec.{Rec}
use Rattle.record_batch.specs.Build.{greatest_ts, u32_bytes, ts_bytes, early_head, late_head, covered, sealed, built, IsBuildable, HeadTells}
use Rattle.record_batch.specs.Check.{checked}
use Rattle.record_batch.specs.Head.{head_of}
use Rattle.record_batch.specs.Stamp.{stamped, SetsBaseAndEpoch}
use Rattle.record_batch.proofs.Counts.{length_built, buildable_few}
use Rattle.record_batch.proofs.StampLaws.{sets_base_and_epoch}

-- a batch has 21 bytes before those that its checksum covers
pub length-covered : (recs : List Rec) → length (built recs) ≡ 21 + length (covered recs)
unfolding built sealed early_head u32_bytes
length-covered recs = omega arith

-- the checksum in its place
pub sealed_lem : (size : ℕ) (recs : List Rec) → size ≡ length (built recs)
    → take 17 ((early_head size ++ replicate 4 0) ++ covered recs)
    ++ (u32_bytes (crc32c (drop 21 ((early_head size ++ replicate 4 0) ++ covered recs))) ++ drop 21 ((early_head size ++ replicate 4 0) ++ covered recs))
    ≡ built recs
unfolding built sealed early_head u32_bytes
sealed_lem size recs e = rw (e, length-covered recs) refl

-- what the checksum is made of
pub drop_unsealed : (size : ℕ) (rest : List ℕ) → drop 21 ((early_head size ++ replicate 4 0) ++ rest) ≡ rest
unfolding early_head u32_bytes
drop_unsealed size rest = refl

-- there is room for a checksum
pub unsealed_long : (size : ℕ) (rest : List ℕ) → 21 ≤ length ((early_head size ++ replicate 4 0) ++ rest)
unfolding early_head u32_bytes
unsealed_long size rest = omega arith

-- a batch has a head
pub built_long : (recs : List Rec) → 61 ≤ length (built recs)
built_long recs = omega (arith, length_built recs)

-- the last offset delta of a batch
last-built : (recs : List Rec) → length recs ≤ 1048576 → last_offset_delta_of (built recs) ≡ length recs - 1
unfolding last_offset_delta_of field_at built sealed early_head late_head u32_bytes
last-built recs few = from_be_bytes-to_be_bytes_4 (length recs - 1) (omega arith)

-- the base offset of a batch
base-built : (recs : List Rec) → base_of (built recs) ≡ 0
unfolding base_of field_at built sealed early_head u32_bytes
base-built recs = refl

-- the leader epoch of a batch
epoch-built : (recs : List Rec) → epoch_of (built recs) ≡ 0
unfolding epoch_of field_at built sealed early_head u32_bytes
epoch-built recs = refl

-- the greatest timestamp of a batch
max-built : (recs : List Rec) → FitsSigned w64 (greatest_ts recs) → max_ts_of (built recs) ≡ greatest_ts recs
unfolding max_ts_of field_at built sealed early_head late_head u32_bytes ts_bytes
max-built recs fits =
    ap (λ (n : ℕ). cast_signed w64 n) (from_be_bytes-to_be_bytes_8 (cast_unsigned w64 (greatest_ts recs)) (Fits-lt-pow {w = w64} (Fits-of_z {w = w64} fits))) ∙ to_z-of_z w64 (greatest_ts recs) fits

-- what the head of a batch gives
pub built_tells : (recs : List Rec) → IsBuildable recs → HeadTells (built recs) 0 0 recs
built_tells recs b = record {
  base_offset = base-built recs;
  leader_epoch = epoch-built recs;
  last_offset_delta = last-built recs (buildable_few recs b);
  size = built_long recs;
}

-- what the head says of a batch that was placed
pub stamped_tells : (recs : List Rec) (base epoch : ℕ) → IsBuildable recs → base < 2 ^ 64 → epoch < 2 ^ 32
    → HeadTells (stamped (built recs) base epoch) base epoch recs
stamped_tells recs base epoch b low small =
    let s : SetsBaseAndEpoch (built recs) base epoch = sets_base_and_epoch (built recs) base epoch (built_long recs) low small in record {
      base_offset = s.base_offset;
      leader_epoch = s.leader_epoch;
      last_offset_delta = s.last_offset_delta ∙ last-built recs (buildable_few recs b);
      size = rw (s.size) (built_long recs);
    }

-- the same, of bytes that are such a batch
pub head_tells_at : (batch : List ℕ) (recs : List Rec) (base epoch : ℕ) → batch ≡ stamped (built recs) base epoch
    → IsBuildable recs → base < 2 ^ 64 → epoch < 2 ^ 32 → HeadTells batch base epoch recs
head_tells_at batch recs base epoch e b low small = rw e (stamped_tells recs base epoch b low small)

-- the greatest timestamp of bytes that are such a batch
pub max_ts_at : (batch : List ℕ) (recs : List Rec) (base epoch : ℕ) → batch ≡ stamped (built recs) base epoch
    → IsBuildable recs → base < 2 ^ 64 → epoch < 2 ^ 32 → FitsSigned w64 (greatest_ts recs) → max_ts_of batch ≡ greatest_ts recs
max_ts_at batch recs base epoch e b low small fits =
    let s : SetsBaseAndEpoch (built recs) base epoch = sets_base_and_epoch (built recs) base epoch (built_long recs) low small in
    ap max_ts_of e ∙ (s.max_ts ∙ max-built recs fits)

-- bytes that are such a batch are checked as it is
pub checked_at : (batch : List ℕ) (recs : List Rec) (base epoch : ℕ) → batch ≡ stamped (built recs) base epoch
    → checked (stamped (built recs) base epoch) ≡ Ok (record { head = head_of (stamped (built recs) base epoch); recs = recs })
    → checked batch ≡ Ok (record { head = head_of batch; recs = recs })
checked_at batch recs base epoch e is_checked = rw e is_checked
