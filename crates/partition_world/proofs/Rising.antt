-- Where retention lets a log start rise to.
use Rattle.std.proofs.Common.{◌≡◌, sym, ℕ, Option, Some, None}
use Rattle.std.specs.Prelude.{IfOk, IfSome}
use Rattle.std.specs.declared.alloc.AllocError.{AllocError}
use Rattle.std.specs.declared.result.Result.{Result}
use Rattle.std.specs.declared.result.Result.TheVariants.{Ok, Err}

-- what holds of each number that may be found holds of the one that is
pub found_within : (P : ℕ → Type 0) (r : Result (Option ℕ) AllocError) (o : Option ℕ) → IfOk r (λ found. found ≡ o) → ((n : ℕ) → o ≡ Some n → P n) → IfOk r (λ found. IfSome found P)
found_within P (Ok None) o is all = tt
found_within P (Ok (Some n)) o is all = all n (sym is)
found_within P (Err e) o is all = tt
