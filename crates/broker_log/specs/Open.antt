-- How a broker's log is opened and closed.
use Rattle.std.specs.Prelude.{◌≡◌, IsTrue, ℕ, ◌+◌, List, [], ◌++◌, Some, None, false, ◌∷◌, ◌<◌}
use Rattle.tier_base.specs.declared.plain.FileName.{FileName}
use Rattle.tier_base.specs.Device.{Control}
use Rattle.disk_model.specs.Call.{call_code}
use Rattle.segment_file.specs.Growing.{Grown}
use Rattle.local_log.specs.declared.refusal.OpenRefusal.TheVariants.{Damaged, LastIncarnation}
use Rattle.local_log.specs.Opening.{OpenFails, IsDamage, HoldsLast, Lists}
use Rattle.disk_model.specs.Content.{Content}
use Rattle.log_terms.specs.Log.{end_of}
use Rattle.log_steps.specs.Fronts.{Each}
use Rattle.log_steps.specs.Opens.{Opened, Opens as OpenAs}
use Rattle.broker_log.specs.Seen.{LogSeen, LogState, ShowsSeen, ChangesSeen, LogStays, LeavesBetween, WhileUp, OnDisk}
use Rattle.broker_log.specs.Seen.{end_in, flushed_end_in, settings_in, is_up}
use Rattle.broker_log.specs.Effects.{ComesBackAs, LeadsTo}

module _ {D : Type 0} (content : D → Content) (control : D → Control call_code) where
  -- the log wasn't opened, since what the disk returned is invalid
  pub record Unopened (old new : LogState D) (name : FileName) (at : ℕ) : Type 0 where
    pub stays : LogStays content old new
    pub cause : OnDisk new (λ d. OpenFails (control d).last_read (Damaged name at))
    -- of an observable disk it is the first place of its files that has none
    pub place : OnDisk old (λ d. IsTrue (content d).is_observable → IsDamage (content d).files name at)
    -- nor do the files of an observable disk open
    pub unread : OnDisk old (λ d. IsTrue (content d).is_observable → (o : Opened) → OpenAs (content d).files o → ⊥)
    pub unseen : (s : LogSeen) → ShowsSeen content old s → ⊥

  -- the log wasn't opened, since its manifest has the last incarnation
  pub record IsSpent (old new : LogState D) : Type 0 where
    pub stays : LogStays content old new
    pub cause : OnDisk new (λ d. OpenFails (control d).last_read LastIncarnation)
    pub holds : OnDisk old (λ d. IsTrue (content d).is_observable → HoldsLast (content d).files)

-- the broker is down, and its log as it was
pub record StopsBroker {D : Type 0} (content : D → Content) (old new : LogState D) : Type 0 where
  pub down : is_up new ≡ false
  pub settings : settings_in new ≡ settings_in old
  pub seen : ChangesSeen content old new (λ s s'. s' ≡ s)
  pub between : LeavesBetween content old new

-- the log that was read, after these batches, under the next incarnation
abbrev pub read_behind : Opened → List (List ℕ) → LogSeen
read_behind o below = record {
  batches = below ++ o.batches;
  line = o.line;
  flushed_end = end_of (below ++ o.batches);
  saved = o.line;
  local = o.local_start;
  loose = None;
  incarnation = o.incarnation + 1;
}

-- the broker is up, and its log ends there
pub record ComesUp {D : Type 0} (content : D → Content) (old new : LogState D) (end : ℕ) : Type 0 where
  pub end_is : end_in new ≡ Some end
  pub flushed_end_is : flushed_end_in new ≡ Some end
  pub settings : settings_in new ≡ settings_in old
  -- its segments' indexes have the settings' interval
  pub intervals : WhileUp new
      (λ log. Each (λ (segment : Grown). segment.interval ≡ log.settings.index_interval)
      (log.closed ++ log.active ∷ []))
  -- its segments are those that the manifest of an observable disk lists
  pub layout : OnDisk old (λ d. IsTrue (content d).is_observable
      → WhileUp new (λ log. Lists (content d).files (log.closed ++ log.active ∷ [])))
  -- what the files of an observable disk open as is seen, whatever batches lead up to it
  pub read : OnDisk old (λ d. IsTrue (content d).is_observable → (o : Opened) × OpenAs (content d).files o
      × ((below : List (List ℕ)) → LeadsTo below o.local_start → ShowsSeen content new (read_behind o below)))
  -- one incarnation on, at least
  pub seen : ChangesSeen content old new (λ s s'. ComesBackAs end s s' × (s.incarnation < s'.incarnation))
  pub between : LeavesBetween content old new
