-- Writes that change nothing.
use Rattle.std.proofs.Common.{◌≡◌, ℕ, List, slice_get, slice_set, Some}
use Rattle.log_terms.proofs.Lists.{set-same}

-- a write of what is there changes nothing
pub set_same : {A : Type 0} (xs : List A) (i : ℕ) (x : A) → slice_get xs i ≡ Some x → slice_set xs i x ≡ xs
set_same xs i x e = set-same xs i x e
