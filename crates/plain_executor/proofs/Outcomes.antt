-- What is known at an error.
use Rattle.std.proofs.Common.{◌≡◌, Ok, Err, Result, true}
use Rattle.std.specs.Prelude.{OnErr, is_err}

-- what holds anyway holds at an error
pub on_err : {T E : Type 0} (P : Type 0) (r : Result T E) → P → OnErr r P
on_err P (Ok x) p = tt
on_err P (Err e) p = p

-- what holds at an error holds where there is one
pub at_err : {T E : Type 0} (P : Type 0) (r : Result T E) → is_err r ≡ true → OnErr r P → P
at_err P (Ok x) e h = absurd cc
at_err P (Err x) e h = h
