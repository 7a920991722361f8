use Rattle.std.specs.Prelude.{◌≡◌, ℕ, ◌<◌, slice_get, Some}
use Rattle.std.proofs.Common.{map}
use Rattle.memory_yard.specs.First.{name_of, IsFirstWith}
use Rattle.memory_yard.proofs.first.offer_partitions.Given as goal

abbrev pub invariant-loop-partition : goal.invariant-loop-partition
invariant-loop-partition l = IsFirstWith (λ text. (k : ℕ) × (k < l.partition-index) × (slice_get (map name_of l.partitions) k ≡ Some text)) l.fn.first l.first
