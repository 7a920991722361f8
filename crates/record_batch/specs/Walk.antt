-- What a walk over records reports that keeps none of them.
use Rattle.std.specs.Prelude.{◌≡◌, ℕ, ℤ, List, Option, Some, None, Result, Ok, Err}
use Rattle.record_batch.specs.Record.{DeltaFront, DeltaRec}

-- the bytes after what was read, or nothing where nothing was
abbrev pub Skips : {A : Type 0} → Option (List ℕ) → Option (A × List ℕ) → Type 0
Skips None read = read ≡ None
Skips {A = A} (Some rest) read = (x : A) × (read ≡ Some (x, rest))

-- a record's offset delta, and what follows the record
abbrev pub numbered : DeltaRec × List ℕ → ℤ × List ℕ
numbered x = (x.0.offset_delta, x.1)

-- the fault alone
abbrev pub fault_in : {A E : Type 0} → Result A E → Option E
fault_in (Ok x) = None
fault_in (Err e) = Some e

-- a front of these parts
abbrev pub front_of : ℤ → ℤ → Option (List ℕ) → Option (List ℕ) → DeltaFront
front_of ts_delta offset_delta key value =
    record { ts_delta = ts_delta; offset_delta = offset_delta; key = key; value = value }

-- a front, and what follows it
abbrev pub front_behind : DeltaFront → List ℕ → DeltaFront × List ℕ
front_behind front rest = (front, rest)
