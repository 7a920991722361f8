-- A log without what ends past an offset, and its files.
--
-- Where a batch holds the offset the log ends at that batch's base. A cut to the base of a segment leaves it as the
-- empty open one, and the segment before it closed. A cut below the local start leaves an empty log at the offset
-- itself.
use Rattle.std.specs.Prelude.{◌≡◌, ◌≢◌, ◌⊎◌, ℕ, ◌+◌, nat_le, nat_lt, if◌then◌else◌, List, [], ◌∷◌}
use Rattle.std.specs.Prelude.{◌++◌, map, None, IsTrue, true, Result, OnErr, IsErrOf}
use Rattle.tier_base.specs.declared.plain.FileName.{FileName}
use Rattle.tier_base.specs.declared.plain.FileName.TheVariants as file
use Rattle.tier_base.specs.declared.fault.Trouble.{Trouble}
use Rattle.tier_base.specs.declared.fault.Trouble.TheVariants as fault
use Rattle.tier_base.specs.Device.{Fate, Went}
use Rattle.tier_base.specs.Told.{In}
use Rattle.disk_model.specs.Content.{Content, Files, Image, LeavesOnly, CutBack, cut_to}
use Rattle.log_terms.specs.Log.{up_to, end_from}
use Rattle.epoch_line.specs.Line.{cut_end}
use Rattle.segment_file.specs.Growing.{Grown}
use Rattle.log_steps.specs.Opens.{Opened, Opens}
use Rattle.local_log.specs.Stored.{end_of}
use Rattle.local_log.specs.Listing.{front_to}
use Rattle.local_log.specs.Log.{Log, LogBecomes, OpensFlushed}

-- the segments that end at or below an offset: they stay closed
abbrev pub closed_by : ℕ → List Grown → List Grown
closed_by end [] = []
closed_by end (segment ∷ segments) = if nat_le (end_of segment) end then segment ∷ closed_by end segments else []

-- the segment after them: it is the open one then
abbrev pub open_by : ℕ → List Grown → Grown → Grown
open_by end [] active = active
open_by end (segment ∷ segments) active = if nat_le (end_of segment) end then open_by end segments active else segment

-- the segments after that one: they are removed
abbrev pub behind : ℕ → List Grown → Grown → List Grown
behind end [] active = []
behind end (segment ∷ segments) active =
    if nat_le (end_of segment) end then behind end segments active else segments ++ active ∷ []

-- where the log ends that is cut to an offset
abbrev pub cut_point : ℕ → List Grown → Grown → ℕ
cut_point end closed active = end_of (front_to end (open_by end closed active))

-- the files of segments
abbrev pub names_of : List Grown → List FileName
names_of segments = map (λ segment. file.Log segment.base) segments

module _ {D : Type 0} where
  -- without what ends past one of its ends
  abbrev pub shortened : Log D → ℕ → Log D
  shortened log end = record log {
    batches = up_to end log.batches;
    end = end;
    line = cut_end log.line end;
    closed = closed_by end log.closed;
    active = front_to end (open_by end log.closed log.active);
  }

  -- flushed up to one of its ends
  abbrev pub settled : Log D → ℕ → Log D
  settled log end = record log { flushed_end = end }

  -- without what ends past one of its ends, and all of it is flushed
  abbrev pub cut : Log D → ℕ → Log D
  cut log end = record (shortened log end) { flushed_end = end }

  -- empty at an offset, and all of it is flushed, with these leader epochs
  abbrev pub restarted : Log D → ℕ → List (ℕ × ℕ) → Log D
  restarted log start line = record log {
    local_start = start;
    batches = [];
    end = start;
    flushed_end = start;
    line = line;
    closed = [];
    active = record { base = start; interval = log.settings.index_interval; batches = [] };
  }

  -- cut to an offset: below the local start nothing is left
  abbrev pub cut_at : Log D → ℕ → Log D
  cut_at log end =
      if nat_lt end log.local_start then restarted log end (cut_end log.line end)
      else cut log (cut_point end log.closed log.active)

  -- what an image opens as that has all of a log
  abbrev pub all_of : Log D → Opened
  all_of log = record {
    incarnation = log.incarnation;
    local_start = log.local_start;
    batches = log.batches;
    line = log.line;
  }

  -- the flushed log of before, or all of the one after
  abbrev pub OpensEither : Log D → Log D → Files → Type 0
  OpensEither old new c = OpensFlushed old c ⊎ Opens c (all_of new)

  -- the batches that end at or below an offset are left, and the log ends with them
  pub record IsLeftUpTo (old : Log D) (end : ℕ) (new : Log D) : Type 0 where
    pub batches_are : new.batches ≡ up_to end old.batches
    pub end_is : new.end ≡ end_from old.local_start (up_to end old.batches)

  -- what an image of a log opens as that is cut to one of its ends
  abbrev pub opened_to : Log D → ℕ → Opened
  opened_to log end = record {
    incarnation = log.incarnation;
    local_start = log.local_start;
    batches = up_to end log.batches;
    line = cut_end log.line end;
  }

  -- all of a log, with the line's entries that start at or below its end
  abbrev pub whole_log : Log D → Opened
  whole_log log = record {
    incarnation = log.incarnation;
    local_start = log.local_start;
    batches = log.batches;
    line = cut_end log.line (log.end + 1);
  }

  -- the flushed log of before, or the log cut to one of its ends
  abbrev pub Cutting : Log D → ℕ → Files → Type 0
  Cutting log end c = OpensFlushed log c ⊎ Opens c (opened_to log end)

  -- a fault of the disk broke the log, and its files may be those of before or not
  pub record LogBreaks (content : D → Content) (before new : Log D) : Type 0 where
    pub fields : new ≡ record before { disk = new.disk; batches = new.batches; broken = true }
    pub is_observable : (content new.disk).is_observable ≡ (content before.disk).is_observable

-- an error leaves the log and its images as they were where memory is out, and a broken log where the disk failed
pub record StaysOrBreaks {D T : Type 0} (content : D → Content) (old new : Log D)
    (result : Result T Trouble) : Type 0 where
  pub others : OnErr result (IsErrOf result fault.NoMemory ⊎ IsErrOf result fault.Failed)
  pub no_memory : IsErrOf result fault.NoMemory → LogBecomes content old new
  pub no_image : IsErrOf result fault.NoMemory → (c : Files) → Image (content new.disk) c → Image (content old.disk) c
  pub broken : IsErrOf result fault.Failed → new.broken ≡ true

-- it opens as an image of before does
abbrev pub OpensAs : Content → Files → Type 0
OpensAs old c = (d : Files) × Image old d × ((o : Opened) → Opens d o → Opens c o)

-- it opens as an image of before does, or as this
abbrev pub OpensAsOr : Content → Opened → Files → Type 0
OpensAsOr old o c = OpensAs old c ⊎ Opens c o

-- it opens as an image of before does, or as one of now
abbrev pub OpensBeforeOrNow : Content → Content → Files → Type 0
OpensBeforeOrNow old new c = OpensAs old c ⊎ OpensAs new c

-- whatever a crash at any moment between leaves opens so
abbrev pub LeavesBeforeOrNow : Content → Content → Type 0
LeavesBeforeOrNow old new = LeavesOnly old new (OpensBeforeOrNow old new)

-- files of these names may be gone
abbrev pub Without : List FileName → Files → Files → Type 0
Without names d c = (n : FileName) → (c n ≡ d n) ⊎ (In n names × (c n ≡ None))

-- files are removed
pub record RemovesAll (names : List FileName) (fate : Fate) (old new : Content) : Type 0 where
  pub is_observable : new.is_observable ≡ old.is_observable
  pub since : LeavesOnly old new (λ c. (d : Files) × Image old d × Without names d c)
  pub files : IsTrue old.is_observable → Without names old.files new.files
  pub gone : fate ≡ Went → IsTrue old.is_observable → (n : FileName) → In n names → new.files n ≡ None

-- files of these names may be gone, and a segment's file is cut or whole
pub record Trimmed (names : List FileName) (base len : ℕ) (d c : Files) : Type 0 where
  pub last : CutBack len (d (file.Log base)) (c (file.Log base))
  pub others : (n : FileName) → n ≢ file.Log base → (c n ≡ d n) ⊎ (In n names × (c n ≡ None))

-- files are removed, and then a segment's file is cut
pub record Trims (names : List FileName) (base len : ℕ) (fate : Fate) (old new : Content) : Type 0 where
  pub is_observable : new.is_observable ≡ old.is_observable
  pub since : LeavesOnly old new (λ c. (d : Files) × Image old d × Trimmed names base len d c)
  pub others : IsTrue old.is_observable → (n : FileName) → n ≢ file.Log base
      → (new.files n ≡ old.files n) ⊎ (In n names × (new.files n ≡ None))
  pub gone : fate ≡ Went → IsTrue old.is_observable → (n : FileName) → In n names → new.files n ≡ None
  pub cut : fate ≡ Went → IsTrue old.is_observable → new.files (file.Log base) ≡ cut_to len (old.files (file.Log base))
