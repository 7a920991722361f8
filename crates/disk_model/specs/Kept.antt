-- What is kept of a disk in memory: all that was done to it, and room for more.
use Rattle.std.specs.Prelude.{◌≡◌, ◌⊎◌, ℕ, ◌-◌, Bool, List, ◌∷◌, if◌then◌else◌}
use Rattle.tier_base.specs.declared.plain.FileName.{FileName}
use Rattle.disk_model.specs.Steps.{Step, Append, Sync, Cut, Replace, Remove, Crash, reads, safe}

-- the steps, and the room
pub record KeptSteps : Type 0 where
  -- what was done, the newest first
  pub past : List Step
  -- for how many further calls of `sync`, `cut` and `remove` there is room
  pub spare : ℕ

-- the room after a step
abbrev pub spare_of : Step → ℕ → ℕ
spare_of (Append name bytes) n = n
spare_of (Sync name) n = n - 1
spare_of (Cut name len) n = n - 1
spare_of (Replace name bytes sure) n = n
spare_of (Remove name) n = n - 1
spare_of Crash n = n

-- one step more
abbrev pub does : Step → KeptSteps → KeptSteps
does s kept = record { past = s ∷ kept.past; spare = spare_of s kept.spare }

-- one step more, or none, where the call uses its room all the same
abbrev pub attempts : Bool → Step → KeptSteps → KeptSteps
attempts done s kept = record { past = if done then s ∷ kept.past else kept.past; spare = spare_of s kept.spare }

-- a crash; right after another one there is nothing to drop
abbrev pub DropsUnsynced : List Step → List Step → Type 0
DropsUnsynced old new = (new ≡ Crash ∷ old) ⊎ ((new ≡ old) × ((n : FileName) → reads old n ≡ safe old n))
