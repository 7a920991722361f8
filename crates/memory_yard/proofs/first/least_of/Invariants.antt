use Rattle.std.specs.Prelude.{◌≡◌, ℕ, ◌<◌, slice_get, Some}
use Rattle.device_yard.specs.YardContent.{IsFirstName}
use Rattle.memory_yard.proofs.first.least_of.Given as goal

abbrev pub invariant-loop-name : goal.invariant-loop-name
invariant-loop-name l = IsFirstName (λ text. (k : ℕ) × (k < l.name-index) × (slice_get l.names k ≡ Some text)) l.first
