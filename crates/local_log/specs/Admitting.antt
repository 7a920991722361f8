-- Whether bytes are batches that a log may take, reported from the front on.
--
-- A spot is a place in the bytes with what is asked of the batch there: where it must begin, a base and so many offsets
-- further on, and the epoch that its own must not be below.
use Rattle.std.specs.Prelude.{◌≡◌, ◌↔◌, ℕ, ◌+◌, ◌^◌, ◌≤◌, ◌<◌, List, length, drop, unwrap_or, IsOk}
use Rattle.std.specs.Int.{w32, w64, cast_unsigned}
use Rattle.log_terms.specs.Log.{joined, IsConsecutive}
use Rattle.record_batch.specs.declared.head.Head.{Head}
use Rattle.record_batch.specs.Check.{checked}
use Rattle.epoch_line.specs.Line.{last_epoch}
use Rattle.segment_file.specs.Walk.{size_in}
use Rattle.segment_file.specs.Segment.{EpochsRise}
use Rattle.log_steps.specs.Fronts.{Each}
use Rattle.local_log.specs.declared.admitting.Spot.{Spot}

-- bytes are batches, one after another from an offset on, whose epochs don't fall and aren't below this one; or none
pub record AreAdmitted (end epoch : ℕ) (bytes : List ℕ) : Type 0 where
  pub batches : List (List ℕ)
  pub bytes_are : bytes ≡ joined batches
  pub are : Each (λ (batch : List ℕ). IsOk (checked batch)) batches
  pub consecutive : IsConsecutive end batches
  pub epochs : EpochsRise epoch batches

-- so are those from a spot on
abbrev pub AreFrom : List ℕ → Spot → Type 0
AreFrom run spot = AreAdmitted (spot.base + spot.more) spot.epoch (drop spot.at run)

-- the spot at the front of bytes that are to go after a log of this end and line
abbrev pub spot_behind : ℕ → List (ℕ × ℕ) → Spot
spot_behind end line = record { at = 0; base = end; more = 0; epoch = unwrap_or (last_epoch line) 0 }

-- a batch of this head meets what a spot asks
pub record Meets (spot : Spot) (head : Head) : Type 0 where
  pub begins : cast_unsigned w64 head.base_offset ≡ spot.base + spot.more
  pub rises : spot.epoch ≤ cast_unsigned w32 head.leader_epoch
  pub fits : cast_unsigned w32 head.leader_epoch < 2 ^ 31

-- the spot after a batch of this head, which is at a place
abbrev pub spot_after : ℕ → Head → Spot
spot_after at head = record {
  at = at + size_in head;
  base = cast_unsigned w64 head.base_offset;
  more = cast_unsigned w32 head.last_offset_delta + 1;
  epoch = cast_unsigned w32 head.leader_epoch;
}

-- a batch is at a spot, the next spot is after it, and nothing else is asked
pub record AdvancesTo (run : List ℕ) (spot next : Spot) : Type 0 where
  pub further : spot.at < next.at
  pub inside : next.at ≤ length run
  pub same : AreFrom run spot ↔ AreFrom run next
