-- Counts that stay at their type's greatest value, 2^64 - 1.
use Rattle.std.specs.Prelude.{ℕ, ◌+◌, ◌-◌, ◌^◌, ◌≤◌, min, OnErr}
use Rattle.std.specs.declared.result.Result.{Result}

-- a count after n more
abbrev pub counted : ℕ → ℕ → ℕ
counted before n = min (before + n) (2 ^ 64 - 1)

-- the count has risen, or is at its type's greatest value
abbrev pub Rose : ℕ → ℕ → Type 0
Rose before now = counted before 1 ≤ now

-- the count of faults doesn't fall, and an error has raised it
pub record HasCause {T E : Type 0} (before now : ℕ) (result : Result T E) : Type 0 where
  pub later : before ≤ now
  pub failed : OnErr result (Rose before now)
