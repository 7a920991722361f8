-- A broker's log as it is seen: its batches and its leader epochs, and what comes back of them after a stop.
--
-- The batches are seen from offset 0 on, also where the local log begins later: those below the local start are on no
-- disk, and whatever batches lead up to it may be seen there. A write that failed may have been done or not, so one of
-- two ends comes back after it, each with its leader epochs and its local start.
--
--   form                      says
--   Shows content kept s      the log, or its disk, is seen so
--   Goes content old new R    a call makes this of what is seen
--   Stays content old new     a call leaves what is seen, and the plain facts
--   LeavesBetween .. old new  whatever a crash in the course of a call leaves opens as before the call or as after it
--
-- Of a disk that isn't observable nothing is seen. A log that is up also has its end, its flushed end and its leader
-- epochs, and its layout: how it is in segments, whose batches it has. Its settings last as long as the broker.
use Rattle.std.specs.Prelude.{◌≡◌, ◌⊎◌, ◌≤◌, [], ◌∷◌, ℕ, Bool, true, false, List}
use Rattle.std.specs.Prelude.{◌++◌, Option, Some, None, IsTrue, IsSomeAnd}
use Rattle.tier_base.specs.declared.plain.Settings.{Settings}
use Rattle.tier_base.specs.Device.{Control, Lasts}
use Rattle.tier_base.specs.Counts.{counted, Rose}
use Rattle.disk_model.specs.Call.{call_code}
use Rattle.disk_model.specs.Content.{Content, Files, Image, LeavesOnly}
use Rattle.log_terms.specs.Log.{IsConsecutive, EndsAt, up_to, from_offset, end_of}
use Rattle.segment_file.specs.Growing.{Grown}
use Rattle.log_steps.specs.Opens.{Opened, Opens}
use Rattle.log_steps.specs.Reopens.{Reopens}
use Rattle.local_log.specs.Log.{Log}
use Rattle.local_log.specs.Coheres.{SegmentsHold}

-- what comes back of a log after a stop: its end, its leader epochs and its local start
abbrev pub Back : Type 0
Back = ℕ × List (ℕ × ℕ) × ℕ

-- a log as it is seen
pub record LogSeen : Type 0 where
  -- from offset 0 on
  pub batches : List (List ℕ)
  pub line : List (ℕ × ℕ)
  pub flushed_end : ℕ
  -- the leader epochs that comes back after a stop
  pub saved : List (ℕ × ℕ)
  -- where the local log begins
  pub local : ℕ
  -- after a write that failed: what may come back instead
  pub loose : Option Back
  -- how often the log was opened, or more often where a crash came as it was opened
  pub incarnation : ℕ

-- a log that is open, or its settings and its disk while the broker is down
pub data LogState (D : Type 0) : Type 0 where
  Up : Log D → LogState D
  Down : Settings → D → LogState D
  -- taken out, in the course of a call alone
  Away : LogState D

-- what comes back where no write fails
abbrev pub back_of : LogSeen → Back
back_of s = (s.flushed_end, s.saved, s.local)

-- what is opened where this comes back of the log, opened so many times
abbrev pub returning : ℕ → LogSeen → Back → Opened
returning i s back = record {
  incarnation = i;
  local_start = back.2;
  batches = from_offset back.2 (up_to back.0 s.batches);
  line = back.1;
}

-- what comes back after a stop, opened so many times
abbrev pub returns : ℕ → LogSeen → Opened
returns i s = returning i s (back_of s)

-- the files open as what comes back after a stop
abbrev pub OpensAfterStop : ℕ → LogSeen → Files → Type 0
OpensAfterStop i s c = Opens c (returns i s) ⊎ IsSomeAnd s.loose (λ back. Opens c (returning i s back))

-- an open log is seen so
pub record ShowsOpen {D : Type 0} (content : D → Content) (log : Log D) (s : LogSeen) : Type 0 where
  pub told : IsTrue (content log.disk).is_observable
  pub unbroken : log.broken ≡ false
  -- the batches below the local start, and those of the local log
  pub below : List (List ℕ)
  pub batches_are : s.batches ≡ below ++ log.batches
  pub begins : end_of below ≡ log.local_start
  pub consecutive : IsConsecutive 0 s.batches
  pub local_is : s.local ≡ log.local_start
  pub within : s.local ≤ s.flushed_end
  pub line_is : s.line ≡ log.line
  pub flushed_end_is : s.flushed_end ≡ log.flushed_end
  pub ends : end_of s.batches ≡ log.end
  pub tight : s.loose ≡ None
  pub images : (c : Files) → Image (content log.disk) c → Opens c (returns log.incarnation s)
  pub incarnation_is : s.incarnation ≡ log.incarnation
  -- its segments hold the batches of the local log
  pub segments : SegmentsHold log.local_start (log.closed ++ log.active ∷ []) log.batches

-- what comes back begins at an end of the log, at or below where it ends
pub record IsBack (s : LogSeen) (back : Back) : Type 0 where
  pub begins : EndsAt back.2 s.batches
  pub within : back.2 ≤ back.0

-- consecutive batches, and so is each that may come back
pub record IsSeenSound (s : LogSeen) : Type 0 where
  pub consecutive : IsConsecutive 0 s.batches
  pub back : IsBack s (back_of s)
  pub loose : (back : Back) → s.loose ≡ Some back → IsBack s back

-- a log that is closed is seen so, by its disk
pub record ShowsClosed {D : Type 0} (content : D → Content) (disk : D) (s : LogSeen) : Type 0 where
  pub told : IsTrue (content disk).is_observable
  pub kept : IsSeenSound s
  pub images : (c : Files) → Image (content disk) c → (i : ℕ) × (s.incarnation ≤ i) × OpensAfterStop i s c
  -- a log can be opened from it, also after a crash in the course of an opening
  pub again : Reopens (content disk)

-- how a log that is up is in segments: the closed ones, and the open one
pub record Layout : Type 0 where
  pub settings : Settings
  -- how often it was opened
  pub incarnation : ℕ
  pub local_start : ℕ
  pub closed : List Grown
  pub active : Grown

module _ {D : Type 0} where
  abbrev pub ShowsSeen : (D → Content) → LogState D → LogSeen → Type 0
  ShowsSeen content (Up log) s = ShowsOpen content log s
  ShowsSeen content (Down settings disk) s = ShowsClosed content disk s
  ShowsSeen content Away s = ⊥

  -- a call makes this of what is seen
  abbrev pub ChangesSeen : (D → Content) → LogState D → LogState D → (LogSeen → LogSeen → Type 0) → Type 0
  ChangesSeen content old new R =
      (s : LogSeen) → ShowsSeen content old s → (s' : LogSeen) × ShowsSeen content new s' × R s s'

  -- a call makes this of what is seen, where that is so
  abbrev pub GoesIf : (D → Content) → LogState D → LogState D → (LogSeen → Type 0) → (LogSeen → LogSeen → Type 0)
      → Type 0
  GoesIf content old new P R =
      (s : LogSeen) → ShowsSeen content old s → P s → (s' : LogSeen) × ShowsSeen content new s' × R s s'

  abbrev pub is_up : LogState D → Bool
  is_up (Up log) = true
  is_up (Down settings disk) = false
  is_up Away = false

  abbrev pub is_down : LogState D → Bool
  is_down (Up log) = false
  is_down (Down settings disk) = true
  is_down Away = false

  -- the log end offset, where the broker is up
  abbrev pub end_in : LogState D → Option ℕ
  end_in (Up log) = Some log.end
  end_in (Down settings disk) = None
  end_in Away = None

  -- the offset up to which it is flushed
  abbrev pub flushed_end_in : LogState D → Option ℕ
  flushed_end_in (Up log) = Some log.flushed_end
  flushed_end_in (Down settings disk) = None
  flushed_end_in Away = None

  -- which leader epoch starts where
  abbrev pub line_in : LogState D → Option (List (ℕ × ℕ))
  line_in (Up log) = Some log.line
  line_in (Down settings disk) = None
  line_in Away = None

  -- where the local log begins, where the broker is up
  abbrev pub local_in : LogState D → Option ℕ
  local_in (Up log) = Some log.local_start
  local_in (Down settings disk) = None
  local_in Away = None

  -- how often the log was opened, where the broker is up
  abbrev pub incarnation_in : LogState D → Option ℕ
  incarnation_in (Up log) = Some log.incarnation
  incarnation_in (Down settings disk) = None
  incarnation_in Away = None

  -- the closed segments, where the broker is up
  abbrev pub closed_in : LogState D → List Grown
  closed_in (Up log) = log.closed
  closed_in (Down settings disk) = []
  closed_in Away = []

  -- a log's layout
  abbrev pub layout_of : Log D → Layout
  layout_of log = record {
    settings = log.settings;
    incarnation = log.incarnation;
    local_start = log.local_start;
    closed = log.closed;
    active = log.active;
  }

  abbrev pub layout_in : LogState D → Option Layout
  layout_in (Up log) = Some (layout_of log)
  layout_in (Down settings disk) = None
  layout_in Away = None

  -- its settings, also while the broker is down
  abbrev pub settings_in : LogState D → Option Settings
  settings_in (Up log) = Some log.settings
  settings_in (Down settings disk) = Some settings
  settings_in Away = None

  -- the broker is up, and it holds of its log
  abbrev pub WhileUp : LogState D → (Log D → Type 0) → Type 0
  WhileUp (Up log) P = P log
  WhileUp (Down settings disk) P = ⊥
  WhileUp Away P = ⊥

  -- it holds of the disk
  abbrev pub OnDisk : LogState D → (D → Type 0) → Type 0
  OnDisk (Up log) P = P log.disk
  OnDisk (Down settings disk) P = P disk
  OnDisk Away P = ⊥

  -- the disk's plan lasts, and it stays infallible if it is
  abbrev pub Lasting : (D → Control call_code) → LogState D → LogState D → Type 0
  Lasting control old new = OnDisk old (λ d. OnDisk new (λ d'. Lasts (control d) (control d')))

  -- the disk's count of faults rose
  abbrev pub Faulted : (D → Control call_code) → LogState D → LogState D → Type 0
  Faulted control old new = OnDisk old (λ d. OnDisk new (λ d'. Rose (control d).faults (control d').faults))

  -- no call of the disk failed
  abbrev pub NoFault : (D → Control call_code) → LogState D → LogState D → Type 0
  NoFault control old new = OnDisk old (λ d. OnDisk new (λ d'. (control d').faults ≡ (control d).faults))

  -- one call of the disk failed
  abbrev pub OneFault : (D → Control call_code) → LogState D → LogState D → Type 0
  OneFault control old new = OnDisk old (λ d. OnDisk new (λ d'. (control d').faults ≡ counted (control d).faults 1))

  -- the disk's plan lasts, and it stays infallible if it is, and no call of it failed
  abbrev pub Quiet : (D → Control call_code) → LogState D → LogState D → Type 0
  Quiet control old new = Lasting control old new × NoFault control old new

-- the files open as an image of the disk does, perhaps under a later incarnation
abbrev pub OpensLater : Content → Files → Type 0
OpensLater d c = (x : Files) × Image d x
    × ((o : Opened) → Opens x o → (i : ℕ) × (o.incarnation ≤ i) × Opens c (record o { incarnation = i }))

-- Of an observable disk, from which a log could be opened after any crash before: a crash at any moment between
-- leaves files that open as an image of before does, or as one of now.
abbrev pub OpensBetween : Content → Content → Type 0
OpensBetween d d' = IsTrue d.is_observable → Reopens d → LeavesOnly d d' (λ c. OpensLater d c ⊎ OpensLater d' c)

-- of the disk of a log
abbrev pub LeavesBetween : {D : Type 0} → (D → Content) → LogState D → LogState D → Type 0
LeavesBetween content old new = OnDisk old (λ d. OnDisk new (λ d'. OpensBetween (content d) (content d')))

-- a call leaves the log as it was
pub record LogStays {D : Type 0} (content : D → Content) (old new : LogState D) : Type 0 where
  pub up : is_up new ≡ is_up old
  pub end : end_in new ≡ end_in old
  pub flushed_end : flushed_end_in new ≡ flushed_end_in old
  pub line : line_in new ≡ line_in old
  pub local : local_in new ≡ local_in old
  pub layout : layout_in new ≡ layout_in old
  pub settings : settings_in new ≡ settings_in old
  pub seen : ChangesSeen content old new (λ s s'. s' ≡ s)
  pub between : LeavesBetween content old new
