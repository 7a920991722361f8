-- Headers that are skipped.
use Rattle.std.proofs.Common.{◌≡◌, sym, refl, ℕ, suc, ◌-◌, ◌<◌, ◌+◌, List, ◌∷◌, Option, Some, None, arith}
use Rattle.record_batch.specs.declared.rec.Header.{Header}
use Rattle.record_batch.specs.Record.{header_at, headers_at, ◌>>=◌}
use Rattle.record_batch.specs.Walk.{Skips}

-- what follows what was read
abbrev pub second : {A : Type 0} → Option (A × List ℕ) → Option (List ℕ)
second None = None
second (Some x) = Some x.1

-- what follows is what was skipped to
pub skips : {A : Type 0} (rest : Option (List ℕ)) (read : Option (A × List ℕ)) → second read ≡ rest → Skips rest read
skips rest None h = rw (← h) refl
skips rest (Some x) h = rw (← h) (x.0, refl)

-- what follows others follows one more
again : (h : Header) (o : Option (List Header × List ℕ)) → second (o >>= λ others. Some (h ∷ others.0, others.1)) ≡ second o
again h None = refl
again h (Some x) = refl

-- one header read
pub header-read : (count i : ℕ) (bytes rest : List ℕ) (h : Header) → i < count → Some (h, rest) ≡ header_at bytes
    → second (headers_at (count - (i + 1)) rest) ≡ second (headers_at (count - i) bytes)
header-read count i bytes rest h below e =
    let left : count - i ≡ suc (count - (i + 1)) = omega arith in
    rw (left, ← e) (sym (again h (headers_at (count - (i + 1)) rest)))
