-- The status with which the checker ends.
--
--   0   each trace is a whole run of the plain log of its script, from where the run before it ended
--   1   one isn't
--   2   nothing could be reported: a script is longer than a script may be
--
-- A file that can't be read, and words of another form, end with 2 too.
use Rattle.std.specs.Prelude.{◌≡◌, ◌⊎◌, ℕ, ◌≤◌, List, length, All}
use Rattle.trace_check.specs.declared.pair.Pair.{Pair}
use Rattle.trace_check.specs.declared.verdict.Verdict.{Verdict}
use Rattle.trace_check.specs.declared.verdict.Verdict.TheVariants.{Whole, Flawed}
use Rattle.trace_check.specs.Chain.{AreWholeTraces}

-- of a verdict
abbrev pub status_of : Verdict → ℕ
status_of Whole = 0
status_of (Flawed run flaw) = 1

-- the scripts are no longer than a script may be
abbrev pub AreShort : List Pair → Type 0
AreShort pairs = All (λ pair. length pair.script ≤ 16777216) pairs

-- of scripts and traces that are read
abbrev pub IsToldBy : List Pair → ℕ → Type 0
IsToldBy pairs status = ((status ≡ 0) × AreWholeTraces pairs) ⊎ ((status ≡ 1) × (AreWholeTraces pairs → ⊥))

-- of scripts and traces
abbrev pub IsStatus : List Pair → ℕ → Type 0
IsStatus pairs status = ((AreShort pairs → ⊥) × (status ≡ 2)) ⊎ (AreShort pairs × IsToldBy pairs status)
