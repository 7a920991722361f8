-- What callers see of a log.
use Rattle.std.specs.Prelude.{◌≡◌, ◌⊎◌, ℕ, ◌+◌, ◌≤◌, Bool, false, List, [], IsTrue}
use Rattle.tier_base.specs.declared.plain.Settings.{Settings}
use Rattle.disk_model.specs.Content.{Files, Content}
use Rattle.log_terms.specs.Log.{up_to}
use Rattle.epoch_line.specs.Line.{cut_end}
use Rattle.segment_file.specs.Growing.{Grown}
use Rattle.log_steps.specs.Opens.{Opened, Opens}
use Rattle.log_steps.specs.Publishes.{IsLike}

pub record Log (D : Type 0) : Type 0 where
  pub disk : D
  pub settings : Settings
  -- how often the log was opened
  pub incarnation : ℕ
  pub local_start : ℕ
  -- where the disk is observable, the batches from the local start on
  pub batches : List (List ℕ)
  -- the log end offset, and the offset up to which the log is flushed
  pub end : ℕ
  pub flushed_end : ℕ
  pub line : List (ℕ × ℕ)
  -- the closed segments, and the open one
  pub closed : List Grown
  pub active : Grown
  -- a write has failed
  pub broken : Bool

-- the log that is made over a disk without one
abbrev pub first_log : Opened
first_log = record { incarnation = 1; local_start = 0; batches = []; line = [] }

-- a log's settings
pub record AreSettings (settings : Settings) : Type 0 where
  pub segment_low : 100 ≤ settings.segment_bytes
  pub segment_high : settings.segment_bytes ≤ 16777216
  pub interval_high : settings.index_interval ≤ 16777216

-- what opens so is a log up to an end; an entry of the leader epochs that starts at the end may be another
pub record IsUpTo (incarnation local_start end : ℕ) (all : List (List ℕ)) (line : List (ℕ × ℕ))
    (o : Opened) : Type 0 where
  pub incarnation_is : o.incarnation ≡ incarnation
  pub local_start_is : o.local_start ≡ local_start
  pub batches_are : o.batches ≡ up_to end all
  pub line_is : cut_end o.line end ≡ cut_end line end

module _ {D : Type 0} where
  -- the log up to its flushed end, with the line's entries that start at or below it
  abbrev pub flushed_log : Log D → Opened
  flushed_log log = record {
    incarnation = log.incarnation;
    local_start = log.local_start;
    batches = up_to log.flushed_end log.batches;
    line = cut_end log.line (log.flushed_end + 1);
  }

  -- the flushed log; an entry of the leader epochs that starts at its end may be another
  abbrev pub IsFlushed : Log D → Opened → Type 0
  IsFlushed log o = IsUpTo log.incarnation log.local_start log.flushed_end log.batches log.line o

  -- the image opens as the flushed log
  abbrev pub OpensFlushed : Log D → Files → Type 0
  OpensFlushed log c = (o : Opened) × Opens c o × IsFlushed log o

  -- all of the log is flushed, with these leader epochs
  abbrev pub committed : Log D → List (ℕ × ℕ) → Log D
  committed log line = record log { flushed_end = log.end; line = line }

  -- the flushed log of before, or all of it with these leader epochs
  abbrev pub Committing : Log D → List (ℕ × ℕ) → Files → Type 0
  Committing log line c = OpensFlushed log c ⊎ OpensFlushed (committed log line) c

  -- a log that was just made
  pub record IsNewLog (settings : Settings) (log : Log D) : Type 0 where
    pub settings_are : log.settings ≡ settings
    pub incarnation : log.incarnation ≡ 1
    pub local_start : log.local_start ≡ 0
    pub end : log.end ≡ 0
    pub flushed_end : log.flushed_end ≡ 0
    pub line : log.line ≡ []
    pub closed : log.closed ≡ []
    pub active : log.active ≡ record { base = 0; interval = settings.index_interval; batches = [] }
    pub broken : log.broken ≡ false

-- a call makes this of a log, on the disk as the call left it
pub record LogBecomes {D : Type 0} (content : D → Content) (then new : Log D) : Type 0 where
  pub fields : new ≡ record then { disk = new.disk; batches = new.batches }
  pub is_observable : (content new.disk).is_observable ≡ (content then.disk).is_observable
  pub batches : IsTrue (content then.disk).is_observable → new.batches ≡ then.batches

-- an image of before, or the log that was to be made
abbrev pub Creating : Content → Files → Type 0
Creating old c = IsLike old c ⊎ Opens c first_log
