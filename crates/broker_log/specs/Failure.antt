-- What a write that failed leaves of a broker's log.
use Rattle.std.specs.Prelude.{◌≡◌, ℕ, ◌≤◌, List, false}
use Rattle.local_log.specs.Dropping.{start_behind}
use Rattle.disk_model.specs.Content.{Content}
use Rattle.log_terms.specs.Log.{EndsAt, up_to}
use Rattle.broker_log.specs.Seen.{LogSeen, LogState, back_of, ShowsSeen, ChangesSeen, GoesIf, LeavesBetween, closed_in}
use Rattle.broker_log.specs.Seen.{settings_in, is_up}
use Rattle.broker_log.specs.Effects.{kept_line, unbuilt, loosened, LeadsTo}

-- a write failed, and the broker is down
pub record Breaks {D : Type 0} (content : D → Content) (old new : LogState D) (after : LogSeen → LogSeen) : Type 0 where
  pub down : is_up new ≡ false
  pub settings : settings_in new ≡ settings_in old
  pub seen : ChangesSeen content old new (λ s s'. s' ≡ after s)
  pub between : LeavesBetween content old new

-- a write failed, and the broker is down; where that is so, this is seen of it
pub record BreaksIf {D : Type 0} (content : D → Content) (old new : LogState D) (P : LogSeen → Type 0)
    (after : LogSeen → LogSeen) : Type 0 where
  pub down : is_up new ≡ false
  pub settings : settings_in new ≡ settings_in old
  pub seen : GoesIf content old new P (λ s s'. s' ≡ after s)
  pub between : LeavesBetween content old new

-- a write of what isn't flushed yet failed
abbrev pub BreaksUnsaved : {D : Type 0} → (D → Content) → LogState D → LogState D → Type 0
BreaksUnsaved content old new = Breaks content old new (λ s. loosened s (back_of s))

-- a write failed that was to drop the first closed segment: the local log begins there, or where that segment ends
pub record DropBreaks {D : Type 0} (content : D → Content) (old new : LogState D) : Type 0 where
  pub down : is_up new ≡ false
  pub settings : settings_in new ≡ settings_in old
  pub seen : (s : LogSeen) → ShowsSeen content old s → (start : ℕ) × EndsAt start s.batches × (start ≤ s.flushed_end)
      × ShowsSeen content new (loosened s (s.flushed_end, kept_line s, start))
      × (start ≡ start_behind s.local (closed_in old))
      × (s.local ≤ start)
  pub between : LeavesBetween content old new

-- a write failed that was to do so: of batches that have what was flushed, that or all comes back
pub record RestartBreaks {D : Type 0} (content : D → Content) (old new : LogState D) (n : ℕ)
    (line : List (ℕ × ℕ)) : Type 0 where
  pub down : is_up new ≡ false
  pub settings : settings_in new ≡ settings_in old
  pub seen : (s : LogSeen) → ShowsSeen content old s → (whole : List (List ℕ)) → LeadsTo whole n
      → up_to s.flushed_end whole ≡ up_to s.flushed_end s.batches
      → ShowsSeen content new (unbuilt s whole line n)
  pub between : LeavesBetween content old new
