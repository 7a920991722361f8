use Rattle.std.proofs.Common.{◌≡◌, ◌++◌, ℕ, ◌+◌, ◌-◌, ◌*◌, List, length, replicate}
use Rattle.registry_file.specs.Reading.{ends_at}
use Rattle.registry_file.proofs.Ends.{glue}
use Rattle.registry_file.proofs.reading.ends.Given as goal

-- the ends so far, and those to come
abbrev pub invariant-loop-b : goal.invariant-loop-b
invariant-loop-b l =
    (front : List ℕ)
    × (length front ≡ l.b)
    × (l.acked ≡ front ++ replicate (8 - l.b) 0)
    × (glue front (ends_at (l.count - l.b) (29 + 8 * l.b) l.rest) ≡ ends_at l.count 29 l.bytes)
