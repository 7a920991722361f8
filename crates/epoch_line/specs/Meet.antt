-- Where the logs of two brokers still agree.
--
-- Source: KIP-101. A follower cuts its log to the point where its epochs and the leader's diverge.
use Rattle.std.specs.Prelude.{◌≡◌, ℕ, ◌-◌, ◌≤◌, ◌⊎◌, List, Some}
use Rattle.log_terms.specs.Line.{epoch_at}

-- the offset has one epoch, the same in both lines
abbrev pub SharesEpoch : List (ℕ × ℕ) → List (ℕ × ℕ) → ℕ → Type 0
SharesEpoch own other offset =
    (epoch : ℕ) × (epoch_at own offset ≡ Some epoch) × (epoch_at other offset ≡ Some epoch)

-- nothing precedes n, or the offset before it has one epoch in both
abbrev pub MeetsAt : List (ℕ × ℕ) → List (ℕ × ℕ) → ℕ → Type 0
MeetsAt own other n = (n ≡ 0) ⊎ SharesEpoch own other (n - 1)

-- n is the greatest such, up to a limit
pub record IsMeetBelow (own other : List (ℕ × ℕ)) (limit n : ℕ) : Type 0 where
  pub within : n ≤ limit
  pub meets : MeetsAt own other n
  pub greatest : (m : ℕ) → m ≤ limit → MeetsAt own other m → m ≤ n
