-- A disk in memory as the list of what was done to it, the newest first.
--
--   form            says
--   reads past      what reads after these steps
--   safe past       what is left by a crash that drops what isn't synced
--   LeftAfter past  what a crash may leave after the last step
--   LeftSince past  what a crash at some moment since a time might have left
--   content_of past all of it, as a disk reports it
use Rattle.std.specs.Prelude.{◌≡◌, ◌⊎◌, ℕ, ◌≤◌, ◌==◌, Bool, true, false, if◌then◌else◌, List}
use Rattle.std.specs.Prelude.{[], ◌∷◌, length, Option, Some, None, MatchBool}
use Rattle.std.specs.Bool.{OnTrue}
use Rattle.tier_base.specs.declared.plain.FileName.{FileName}
use Rattle.tier_base.specs.declared.plain.FileName.TheVariants.{Manifest, Log, Notes, Gate, Registry}
use Rattle.tier_base.specs.Told.{OnlyAt, bytes_in}
use Rattle.disk_model.specs.Content.{Content, Files, appended, HasGrown, cut_to, CutBack, Swapped, Gone, BeginsWith}

-- what was done; a `Replace` is sure where it answered `Ok`
pub data Step : Type 0 where
  Append : (name : FileName) → (bytes : List ℕ) → Step
  Sync : (name : FileName) → Step
  Cut : (name : FileName) → (len : ℕ) → Step
  Replace : (name : FileName) → (bytes : List ℕ) → (sure : Bool) → Step
  Remove : (name : FileName) → Step
  Crash : Step

-- the names are one
abbrev pub same_name : FileName → FileName → Bool
same_name Manifest Manifest = true
same_name (Log a) (Log b) = a == b
same_name Notes Notes = true
same_name Gate Gate = true
same_name Registry Registry = true
same_name a b = false

-- the files with one of them changed
abbrev pub changed : FileName → (Option (List ℕ) → Option (List ℕ)) → Files → Files
changed name make files n = if same_name n name then make (files n) else files n

-- a file: what reads, and what the crash of this disk leaves
pub record FileState : Type 0 where
  pub read : Option (List ℕ)
  pub safe : Option (List ℕ)

-- what a step makes of a file, where it is the one that the step names and where it isn't
abbrev pub step_at : Step → FileName → FileState → FileState
step_at (Append name bytes) n h = record {
  read = if same_name n name then appended bytes h.read else h.read;
  safe = if same_name n name then Some (bytes_in h.safe) else h.safe;
}
step_at (Sync name) n h = record {
  read = h.read;
  safe = if same_name n name then h.read else h.safe;
}
step_at (Cut name len) n h = record {
  read = if same_name n name then cut_to len h.read else h.read;
  safe = if same_name n name then cut_to len h.safe else h.safe;
}
step_at (Replace name bytes sure) n h = record {
  read = if same_name n name then Some bytes else h.read;
  safe = if same_name n name then Some bytes else h.safe;
}
step_at (Remove name) n h = record {
  read = if same_name n name then None else h.read;
  safe = if same_name n name then None else h.safe;
}
step_at Crash n h = record { read = h.safe; safe = h.safe }

-- a file after these steps
abbrev pub stand_after : List Step → FileName → FileState
stand_after [] n = record { read = None; safe = None }
stand_after (s ∷ past) n = step_at s n (stand_after past n)

-- what reads
abbrev pub reads : List Step → Files
reads past n = (stand_after past n).read

-- what is left by a crash that drops what isn't synced
abbrev pub safe : List Step → Files
safe past n = (stand_after past n).safe

-- what one file goes through where it is the one that is named
abbrev pub Named : FileName → FileName → (Option (List ℕ) → Type 0) → (Option (List ℕ) → Option (List ℕ) → Type 0)
    → Option (List ℕ) → Type 0
Named n name P R o = MatchBool (same_name n name) ((p : Option (List ℕ)) × (P p × R p o)) (P o)

-- what a crash may leave of one file after a step, where before it that had P and read so
abbrev pub ImageAt : Step → FileName → (Option (List ℕ) → Type 0) → Option (List ℕ) → Option (List ℕ) → Type 0
ImageAt (Append name bytes) n P read o = Named n name P HasGrown o
ImageAt (Sync name) n P read o = P o × OnTrue (same_name n name) (BeginsWith read o)
ImageAt (Cut name len) n P read o = Named n name P (CutBack len) o
ImageAt (Replace name bytes true) n P read o = Named n name P (λ before after. after ≡ Some bytes) o
ImageAt (Replace name bytes false) n P read o = Named n name P (Swapped bytes) o
ImageAt (Remove name) n P read o = Named n name P Gone o
ImageAt Crash n P read o = P o

-- what a crash may leave of one file after the last step
abbrev pub LeftOf : List Step → FileName → Option (List ℕ) → Type 0
LeftOf [] n o = o ≡ None
LeftOf (s ∷ past) n o = ImageAt s n (LeftOf past n) (reads past n) o

-- each file by itself
abbrev pub LeftAfter : List Step → Files → Type 0
LeftAfter past c = (n : FileName) → LeftOf past n (c n)

-- an image of before, with one file changed by R
abbrev pub After : (Files → Type 0) → FileName → (Option (List ℕ) → Option (List ℕ) → Type 0) → Files → Type 0
After P name R c = (d : Files) × P d × OnlyAt name R d c

-- what a crash at some moment from t on might have left
abbrev pub LeftSince : List Step → ℕ → Files → Type 0
LeftSince [] t c = LeftAfter [] c
LeftSince (s ∷ past) t c = LeftAfter (s ∷ past) c ⊎ ((t ≤ length past) × LeftSince past t c)

-- what the disk reports
abbrev pub content_of : List Step → Content
content_of past = record { is_observable = true; files = reads past; moment = length past; left = LeftSince past }
