-- What is read of a broker's log.
use Rattle.std.specs.Prelude.{◌≡◌, ◌≢◌, ℕ, ◌+◌, ◌≤◌, List, [], ◌++◌, length, IsOk, ◌∷◌, ◌<◌}
use Rattle.tier_base.specs.declared.plain.Stop.{Stop}
use Rattle.tier_base.specs.declared.plain.Stop.TheVariants.{Mark, Piece, Limit}
use Rattle.segment_file.specs.Run.{Fits, StopIs as StopsIn}
use Rattle.local_log.specs.declared.reading.RunOut.{RunOut}
use Rattle.tier_base.specs.declared.plain.FileName.{FileName}
use Rattle.tier_base.specs.Device.{Control, Went, Ran}
use Rattle.disk_model.specs.declared.call.DiskCall.TheVariants.{Read}
use Rattle.disk_model.specs.Call.{call_code}
use Rattle.local_log.specs.declared.refusal.ReadRefusal.TheVariants as refusal
use Rattle.segment_file.specs.Closed.{ClosedSegment as Closed}
use Rattle.local_log.specs.Reading.{segment_at, piece_of, passes, IsCutOut, RunFails}
use Rattle.disk_model.specs.Content.{Content}
use Rattle.log_terms.specs.Log.{joined, EndsAt, end_of, end_from, up_to, from_offset}
use Rattle.record_batch.specs.Check.{checked}
use Rattle.log_steps.specs.Fronts.{Each}
use Rattle.broker_log.specs.Seen.{LogSeen, LogState, ShowsSeen, LogStays, WhileUp, OnDisk}
use Rattle.broker_log.specs.Effects.{MayCutLog}
use Rattle.broker_log.specs.Write.{cut_end_at}

-- a closed segment's batches, which pass every test, are in the log, from its base to its last offset
pub record IsSegmentOf (s : LogSeen) (whole : Closed) : Type 0 where
  pub before : List (List ℕ)
  pub batches : List (List ℕ)
  pub after : List (List ℕ)
  pub parts : s.batches ≡ before ++ (batches ++ after)
  pub begins : end_of before ≡ whole.base
  pub bytes_are : whole.bytes ≡ joined batches
  pub ends : end_from whole.base batches ≡ whole.last + 1
  pub are : Each (λ (batch : List ℕ). IsOk (checked batch)) batches

-- where the log would end that is cut to an offset
pub record IsEndUpTo {D : Type 0} (content : D → Content) (kept : LogState D) (offset end : ℕ) : Type 0 where
  pub point : WhileUp kept (λ log. end ≡ cut_end_at log offset)
  pub is : (s : LogSeen) → ShowsSeen content kept s → MayCutLog offset s → end ≡ end_of (up_to offset s.batches)

-- why a run ends: at the high watermark, with its piece, or since the next batch would pass the limit
abbrev pub StopIs : Stop → List (List ℕ) → List (List ℕ) → ℕ → ℕ → ℕ → Type 0
StopIs Mark run rest next limit mark = next ≡ mark
StopIs Piece run rest next limit mark = next ≢ mark
StopIs Limit run [] next limit mark = ⊥
StopIs Limit run (batch ∷ rest) next limit mark = (next ≢ mark) × (limit < length (joined run) + length batch)

-- the run of the log at an offset, up to a mark: as many batches as its piece has below the high watermark and as fit
-- the limit. The piece ends with its log segment, or before it where the next leader epoch starts
pub record IsRunInLog {D : Type 0} (kept : LogState D) (s : LogSeen) (offset limit mark : ℕ)
    (out : RunOut) : Type 0 where
  pub run : List (List ℕ)
  pub rest : List (List ℕ)
  pub some : run ≢ []
  pub parts : from_offset offset s.batches ≡ run ++ rest
  pub bytes : out.bytes ≡ joined run
  -- one batch, or several that fit the limit
  pub fits : Fits limit run
  pub are : Each (λ (batch : List ℕ). IsOk (checked batch)) run
  pub next_is : out.next ≡ end_from offset run
  pub below : out.next ≤ mark
  pub before : Each (λ (entry : ℕ × ℕ). offset < entry.1 → EndsAt entry.1 s.batches → out.next ≤ entry.1) s.line
  pub stop_is : StopIs out.stop run rest out.next limit mark
  -- and why it ends there, and not later
  pub piece : WhileUp kept (λ log. (out.next ≤ piece_of log offset)
      × StopsIn out.stop out.next mark (piece_of log offset) (passes limit (length out.bytes) rest))

module _ {D : Type 0} (content : D → Content) (control : D → Control call_code) where
  -- a run was read, out of what the disk passed in this call; where a batch ends at the high watermark, it is the log's
  pub record ReadsRun (old new : LogState D) (offset limit mark : ℕ) (out : RunOut) : Type 0 where
    pub stays : LogStays content old new
    -- its segment's base
    pub base : WhileUp old (λ log. out.base ≡ (segment_at log offset).base)
    pub ran : OnDisk old (λ d. OnDisk new (λ d'. Ran Read Went (control d) (control d')))
    pub part : WhileUp old (λ log. OnDisk new
        (λ d. IsCutOut log.line (control d).last_read offset limit mark (piece_of log offset) out))
    pub run : (s : LogSeen) → ShowsSeen content old s → EndsAt mark s.batches → IsRunInLog old s offset limit mark out

  -- no run was read, since what the disk returned has none, or no batch ends at the high watermark
  pub record Misreads (old new : LogState D) (offset limit mark : ℕ) (name : FileName) (at : ℕ) : Type 0 where
    pub stays : LogStays content old new
    pub cause : WhileUp old (λ log. OnDisk new
        (λ d. RunFails log offset limit mark (control d).last_read (refusal.Damaged name at)))
    pub unmarked : (s : LogSeen) → ShowsSeen content old s → EndsAt mark s.batches → ⊥
