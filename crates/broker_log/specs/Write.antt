-- What each call that writes makes of a broker's log.
use Rattle.std.specs.Prelude.{◌≡◌, ◌≢◌, IsTrue, ℕ, ◌+◌, ◌≤◌, List, [], ◌++◌, Some, None, IsOk, min, nat_lt}
use Rattle.std.specs.Prelude.{if◌then◌else◌}
use Rattle.tier_base.specs.declared.plain.Settings.{Settings}
use Rattle.local_log.specs.Cutting.{cut_point, cut_at as cut_log, restarted as restarted_log}
use Rattle.local_log.specs.Dropping.{SpansFirst, dropped as dropped_log}
use Rattle.disk_model.specs.Content.{Content}
use Rattle.log_terms.specs.Log.{joined, IsConsecutive, EndsAt, end_of, end_from, up_to}
use Rattle.record_batch.specs.Check.{checked}
use Rattle.epoch_line.specs.Line.{cut_end}
use Rattle.log_steps.specs.Fronts.{Each}
use Rattle.local_log.specs.Run.{lined, taking, open_for, rolled, with_batches as gaining}
use Rattle.local_log.specs.Stored.{size_of}
use Rattle.local_log.specs.Log.{Log}
use Rattle.broker_log.specs.Seen.{LogSeen, LogState, Layout, ShowsSeen, ChangesSeen, GoesIf, LeavesBetween, WhileUp}
use Rattle.broker_log.specs.Seen.{end_in, flushed_end_in, line_in, local_in, closed_in, layout_of, layout_in, is_up}
use Rattle.broker_log.specs.Effects.{with_batches, settled, cut_to, MayCutLog, dropped, restarted, LeadsTo}

-- the first of these batches that are in the log's open segment, after what it holds
abbrev pub first_in : {D : Type 0} → Log D → List (List ℕ) → List (List ℕ)
first_in log batches = taking log.settings.segment_bytes log.active.base (size_of log.active) batches

-- the first batches of a run are at the log's end: at least one, and as many as one segment takes, a new one where it
-- is due
pub record Appends {D : Type 0} (content : D → Content) (old new : LogState D) (run : List ℕ)
    (answer : ℕ × ℕ) : Type 0 where
  pub front : List (List ℕ)
  pub rest : List (List ℕ)
  pub some : front ≢ []
  pub most : WhileUp old (λ log. front ≡ first_in (open_for log run) (front ++ rest))
  pub bytes : run ≡ joined (front ++ rest)
  pub are : Each (λ (batch : List ℕ). IsOk (checked batch)) (front ++ rest)
  pub consecutive : IsConsecutive answer.0 (front ++ rest)
  -- whatever batches the run was made of, these are they
  pub those : (batches : List (List ℕ)) → Each (λ (batch : List ℕ). IsOk (checked batch)) batches → run ≡ joined batches
      → batches ≡ front ++ rest
  pub base_is : end_in old ≡ Some answer.0
  pub end_is : end_in new ≡ Some (answer.1 + 1)
  pub last_is : answer.1 + 1 ≡ end_from answer.0 front
  pub flushed_end_is : flushed_end_in new ≡ flushed_end_in old
  pub line_is : WhileUp old (λ log. line_in new ≡ Some (lined log.line front))
  pub layout : WhileUp old (λ log. layout_in new ≡ Some (layout_of (gaining (open_for log run) front)))
  pub seen : ChangesSeen content old new (λ s s'. s' ≡ with_batches s front)
  pub between : LeavesBetween content old new

-- all of the log is flushed, with these leader epochs, and this is its end
pub record Settles {D : Type 0} (content : D → Content) (old new : LogState D) (line : List (ℕ × ℕ) → ℕ → List (ℕ × ℕ))
    (end : ℕ) : Type 0 where
  pub base_is : end_in old ≡ Some end
  pub end_is : end_in new ≡ Some end
  pub flushed_end_is : flushed_end_in new ≡ Some end
  pub line_is : WhileUp old (λ log. line_in new ≡ Some (line log.line log.end))
  pub layout : layout_in new ≡ layout_in old
  pub seen : ChangesSeen content old new (λ s s'. s' ≡ settled s (line s.line (end_of s.batches)))
  pub between : LeavesBetween content old new

-- the open segment is closed, and the next begins at the log's end
pub record Rolls {D : Type 0} (content : D → Content) (old new : LogState D) : Type 0 where
  pub layout : WhileUp old (λ log. layout_in new ≡ Some (layout_of (rolled log)))
  pub up : is_up new ≡ is_up old
  pub end : end_in new ≡ end_in old
  pub flushed_end : flushed_end_in new ≡ flushed_end_in old
  pub line : line_in new ≡ line_in old
  pub seen : ChangesSeen content old new (λ s s'. s' ≡ s)
  pub between : LeavesBetween content old new

-- the empty log of a disk
abbrev pub first_seen : LogSeen
first_seen = record { batches = []; line = []; flushed_end = 0; saved = []; local = 0; loose = None; incarnation = 1 }

-- how it is in segments
abbrev pub first_layout : Settings → Layout
first_layout settings = record {
  settings = settings;
  incarnation = 1;
  local_start = 0;
  closed = [];
  active = record { base = 0; interval = settings.index_interval; batches = [] };
}

-- an empty log at 0 that is open
pub record IsNewBrokerLog {D : Type 0} (content : D → Content) (disk : D) (settings : Settings)
    (new : LogState D) : Type 0 where
  pub layout : layout_in new ≡ Some (first_layout settings)
  pub end_is : end_in new ≡ Some 0
  pub flushed_end_is : flushed_end_in new ≡ Some 0
  pub line_is : line_in new ≡ Some []
  pub seen : IsTrue (content disk).is_observable → ShowsSeen content new first_seen

-- where a log ends that is cut to an offset
abbrev pub cut_end_at : {D : Type 0} → Log D → ℕ → ℕ
cut_end_at log end = if nat_lt end log.local_start then end else cut_point end log.closed log.active

-- the log ends at the last batch's end at or below an offset, all of it flushed; below the local start it is empty
-- there
pub record CutsLog {D : Type 0} (content : D → Content) (old new : LogState D) (end now : ℕ) : Type 0 where
  pub end_is : end_in new ≡ Some now
  pub flushed_end_is : flushed_end_in new ≡ Some now
  pub line_is : WhileUp old (λ log. line_in new ≡ Some (cut_end log.line now))
  pub local_is : WhileUp old (λ log. local_in new ≡ Some (min log.local_start end))
  pub point : WhileUp old (λ log. now ≡ cut_end_at log end)
  pub layout : WhileUp old (λ log. layout_in new ≡ Some (layout_of (cut_log log end)))
  pub seen : GoesIf content old new (MayCutLog end) (λ s s'. (s' ≡ cut_to s end) × (now ≡ end_of (up_to end s.batches)))
  pub between : LeavesBetween content old new

-- the first closed segment is gone, with these offsets
pub record DropsFirst {D : Type 0} (content : D → Content) (old new : LogState D) (answer : ℕ × ℕ) : Type 0 where
  pub spans : SpansFirst (closed_in old) answer
  pub local_is : local_in new ≡ Some (answer.1 + 1)
  pub end_is : end_in new ≡ end_in old
  pub flushed_end_is : flushed_end_in new ≡ flushed_end_in old
  pub line_is : line_in new ≡ line_in old
  pub layout : WhileUp old (λ log. layout_in new ≡ Some (layout_of (dropped_log log)))
  -- from the local start up to an end of the log that is flushed
  pub ends : (s : LogSeen) → ShowsSeen content old s
      → (answer.0 ≡ s.local) × EndsAt (answer.1 + 1) s.batches × (answer.1 + 1 ≤ s.flushed_end)
      × (s.local ≤ answer.1 + 1)
  pub seen : ChangesSeen content old new (λ s s'. s' ≡ dropped s (answer.1 + 1))
  pub between : LeavesBetween content old new

-- the local log is empty at an offset, with these leader epochs; whatever batches lead up to there are seen
pub record Restarts {D : Type 0} (content : D → Content) (old new : LogState D) (n : ℕ)
    (line : List (ℕ × ℕ)) : Type 0 where
  pub end_is : end_in new ≡ Some n
  pub flushed_end_is : flushed_end_in new ≡ Some n
  pub local_is : local_in new ≡ Some n
  pub line_is : line_in new ≡ Some line
  pub layout : WhileUp old (λ log. layout_in new ≡ Some (layout_of (restarted_log log n line)))
  pub seen : (s : LogSeen) → ShowsSeen content old s → (whole : List (List ℕ)) → LeadsTo whole n
      → ShowsSeen content new (restarted s whole line n)
  pub between : LeavesBetween content old new
