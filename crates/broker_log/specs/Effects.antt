-- What a call makes of what is seen of a broker's log.
use Rattle.std.specs.Prelude.{◌≡◌, ◌⊎◌, ℕ, ◌+◌, ◌≤◌, List, ◌++◌, Some, None, IsSomeAnd, min, nat_lt, if◌then◌else◌}
use Rattle.log_terms.specs.Log.{IsConsecutive, EndsAt, end_of, up_to}
use Rattle.epoch_line.specs.Line.{assign, cut_end}
use Rattle.local_log.specs.Run.{lined}
use Rattle.broker_log.specs.Seen.{Back, LogSeen, back_of}

-- the log with batches more
abbrev pub with_batches : LogSeen → List (List ℕ) → LogSeen
with_batches s front = record s { batches = s.batches ++ front; line = lined s.line front }

-- all of the log is flushed, with these leader epochs
abbrev pub settled : LogSeen → List (ℕ × ℕ) → LogSeen
settled s line = record s { line = line; flushed_end = end_of s.batches; saved = line }

-- the log with an epoch that starts at its end
abbrev pub led : LogSeen → ℕ → LogSeen
led s epoch = settled s (assign s.line epoch (end_of s.batches))

-- the log up to an offset, all of it flushed
abbrev pub cut_to : LogSeen → ℕ → LogSeen
cut_to s end = record s {
  batches = up_to end s.batches;
  line = cut_end s.line (end_of (up_to end s.batches));
  flushed_end = end_of (up_to end s.batches);
  saved = cut_end s.line (end_of (up_to end s.batches));
  local = min s.local (end_of (up_to end s.batches));
}

-- the log may be cut there: at its local start or past it, or to an end of what is below
abbrev pub MayCutLog : ℕ → LogSeen → Type 0
MayCutLog end s = (s.local ≤ end) ⊎ EndsAt end s.batches

-- what a cut makes come back
abbrev pub cut_back : LogSeen → ℕ → Back
cut_back s end = back_of (cut_to s end)

-- the line without the entries that start past what is flushed
abbrev pub kept_line : LogSeen → List (ℕ × ℕ)
kept_line s = cut_end s.line (s.flushed_end + 1)

-- the log whose local log begins further on
abbrev pub dropped : LogSeen → ℕ → LogSeen
dropped s start = record s { local = start; saved = kept_line s }

-- these batches, which end at n, with these leader epochs; nothing of them is in the local log
abbrev pub restarted : LogSeen → List (List ℕ) → List (ℕ × ℕ) → ℕ → LogSeen
restarted s whole line n = record s { batches = whole; line = line; flushed_end = n; saved = line; local = n }

-- these batches, where it may have failed that all of them come back
abbrev pub unbuilt : LogSeen → List (List ℕ) → List (ℕ × ℕ) → ℕ → LogSeen
unbuilt s whole line n = record s { batches = whole; line = line; loose = Some (n, line, n) }

-- the log as this comes back of it, opened so many times
abbrev pub opened : LogSeen → Back → ℕ → LogSeen
opened s back incarnation = record {
  batches = up_to back.0 s.batches;
  line = back.1;
  flushed_end = end_of (up_to back.0 s.batches);
  saved = back.1;
  local = back.2;
  loose = None;
  incarnation = incarnation;
}

-- this comes back of the log
abbrev pub OpensWith : ℕ → LogSeen → LogSeen → Back → Type 0
OpensWith now s s' back = (s' ≡ opened s back s'.incarnation) × (now ≡ end_of (up_to back.0 s.batches))

-- the log comes back, and this is its end
abbrev pub ComesBackAs : ℕ → LogSeen → LogSeen → Type 0
ComesBackAs now s s' = OpensWith now s s' (back_of s) ⊎ IsSomeAnd s.loose (λ back. OpensWith now s s' back)

-- a write failed that was to make this come back: it may have been done or not
abbrev pub loosened : LogSeen → Back → LogSeen
loosened s back = record s { loose = Some back }

-- a cut failed that was to make this come back: the smaller end is flushed
abbrev pub torn : LogSeen → Back → LogSeen
torn s back =
    if nat_lt back.0 s.flushed_end then record s {
      flushed_end =
          back.0;
      saved = back.1;
      local = back.2;
      loose = Some (back_of s);
    }
    else loosened s back

-- these batches lead up to an offset
pub record LeadsTo (whole : List (List ℕ)) (n : ℕ) : Type 0 where
  pub consecutive : IsConsecutive 0 whole
  pub ends : end_of whole ≡ n
