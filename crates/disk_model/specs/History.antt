-- What the fields of a disk in memory mean.
use Rattle.std.specs.Prelude.{◌≡◌, ◌+◌, ◌≤◌, Bool, List, [], ◌∷◌, vec_len, vec_capacity, if◌then◌else◌}
use Rattle.tier_base.specs.declared.plain.FileName.{FileName}
use Rattle.disk_model.specs.declared.history.Op.{Op}
use Rattle.disk_model.specs.declared.history.Op.TheVariants as op
use Rattle.disk_model.specs.declared.history.Event.{Event}
use Rattle.disk_model.specs.declared.history.History.TheInside.{Inside}
use Rattle.tier_base.specs.Told.{bytes_in}
use Rattle.disk_model.specs.Patch.{patched}
use Rattle.disk_model.specs.Shelf.{files_on, safe_on}
use Rattle.disk_model.specs.Steps.{Step, Append, Sync, Cut, Replace, Remove, Crash, reads, safe}
use Rattle.disk_model.specs.Kept.{KeptSteps}

-- what was done after these steps, as a step
abbrev pub step_of : List Step → Op → Step
step_of past (op.Append name bytes) = Append name bytes
step_of past (op.Sync name) = Sync name
step_of past (op.Cut name len) = Cut name len
step_of past (op.Replace name patch sure) = Replace name (patched patch (bytes_in (reads past name))) sure
step_of past (op.Remove name) = Remove name

-- these steps, and then a crash where there was one
abbrev pub crashed_if : Bool → List Step → List Step
crashed_if crashed past = if crashed then Crash ∷ past else past

-- an event after these steps, and what was earlier
abbrev pub recorded : List Step → Event → List Step
recorded past e = step_of (crashed_if e.crashed past) e.op ∷ crashed_if e.crashed past

-- all events, the newest first, before those that were earlier
abbrev pub newest_first : List Step → List Event → List Step
newest_first past [] = past
newest_first past (e ∷ es) = newest_first (recorded past e) es

-- all that was done
abbrev pub past_of : List Event → Bool → List Step
past_of events crashed = crashed_if crashed (newest_first [] events)

-- what is kept
abbrev pub kept_in : Inside → KeptSteps
kept_in h = record { past = past_of h.events.items h.crashed; spare = h.spare }

-- what holds of the fields
pub record HistoryIsSound (h : Inside) : Type 0 where
  -- the files are what all steps made of them
  pub files : (n : FileName) → files_on h.shelf n ≡ reads (past_of h.events.items h.crashed) n
  -- and so are the bytes that are synced
  pub safe_files : (n : FileName) → safe_on h.shelf n ≡ safe (past_of h.events.items h.crashed) n
  pub room : vec_len h.events + h.spare ≤ vec_capacity h.events
