-- Partitions that are found, one look after another.
use Rattle.std.specs.Prelude.{◌≡◌, ◌⊎◌, List}
use Rattle.std.proofs.Common.{sym, subst, inl, inr, ⊎_elim}
use Rattle.tier_base.specs.declared.names.PartitionId.{PartitionId}
use Rattle.memory_yard.specs.Found.{Adds}

-- the same ones
pub adds_same : (P Q : PartitionId → Type 0) (a b : List PartitionId) → ((p : PartitionId) → P p → Q p) → ((p : PartitionId) → Q p → P p) → Adds P a b → Adds Q a b
adds_same P Q a b to from h p = (
  λ m. ⊎_elim (λ old. inl old) (λ is. inr (to p is)) ((h p).0 m),
  λ m. (h p).1 (⊎_elim (λ old. inl old) (λ is. inr (from p is)) m),
)

-- some, and then more
pub adds_then : (P Q : PartitionId → Type 0) (a b c : List PartitionId) → Adds P a b → Adds Q b c → Adds (λ p. P p ⊎ Q p) a c
adds_then P Q a b c h k p = (
  λ m. ⊎_elim (λ was. ⊎_elim (λ old. inl old) (λ is. inr (inl is)) ((h p).0 was)) (λ is. inr (inr is)) ((k p).0 m),
  λ m. ⊎_elim
      (λ old. (k p).1 (inl ((h p).1 (inl old))))
      (λ either. ⊎_elim (λ is. (k p).1 (inl ((h p).1 (inr is)))) (λ is. (k p).1 (inr is)) either) m,
)

-- nothing more
pub adds_none : (P : PartitionId → Type 0) (a : List PartitionId) → ((p : PartitionId) → P p → ⊥) → Adds P a a
adds_none P a none p = (λ m. inl m, λ m. ⊎_elim (λ old. old) (λ is. absurd (none p is)) m)

-- the only one that there is
pub adds_one : (P : PartitionId → Type 0) (q : PartitionId) (a b : List PartitionId) → P q → ((p : PartitionId) → P p → p ≡ q) → Adds (λ p. p ≡ q) a b → Adds P a b
adds_one P q a b is only h = adds_same (λ p. p ≡ q) P a b (λ p e. subst P (sym e) is) only h
