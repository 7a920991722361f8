-- Writes that change nothing, and returns that say more.
use Rattle.std.proofs.Common.{◌≡◌, ◌∙◌, sym, ◌<◌, ℕ, zero, suc, List, [], ◌∷◌, length, slice_get, slice_set, Some, arith}
use Rattle.std.specs.declared.result.Result.{Result}
use Rattle.std.specs.declared.result.Result.TheVariants.{Ok, Err}
use Rattle.std.specs.Prelude.{IfOk, IsSomeAnd}
use Rattle.log_terms.proofs.Lists.{set-same}
use Rattle.partition_commands.specs.declared.partition_state.PartitionState.{PartitionState}
use Rattle.partition_commands.specs.Partition.{CanStop}

-- a write of what is there changes nothing
pub set_same : {A : Type 0} (xs : List A) (i : ℕ) (x : A) → slice_get xs i ≡ Some x → slice_set xs i x ≡ xs
set_same xs i x e = set-same xs i x e

-- what a fact of an answer implies holds of it
pub ok_more : {T E : Type 0} (P Q : T → Type 0) (r : Result T E) → ((x : T) → P x → Q x) → IfOk r P → IfOk r Q
ok_more P Q (Ok x) f h = f x h
ok_more P Q (Err e) f h = tt

-- what ended so didn't end otherwise
pub never : {A : Type 0} {x y z : A} → x ≡ y → (y ≡ z → ⊥) → x ≡ z → ⊥
never is other was = other (sym is ∙ was)

-- what is at a place is within the list
within : {A : Type 0} (P : A → Type 0) (xs : List A) (i : ℕ) → IsSomeAnd (slice_get xs i) P → i < length xs
within P [] i at = absurd at
within P (x ∷ xs) zero at = omega arith
within P (x ∷ xs) (suc i) at = omega (arith, within P xs i at)

-- a broker that can stop is one of the partition's
pub can_stop : {D : Type 0} (h : PartitionState D) (b : ℕ) → CanStop h b → b < length h.nodes
can_stop h b can = within (λ x. x.stops < 18446744073709551615) h.nodes b can
