-- Headers that are copied one by one.
use Rattle.std.proofs.Common.{◌≡◌, ap, refl, ℕ, suc, ◌-◌, ◌<◌, ◌+◌, List, [], ◌∷◌, ◌++◌, Option, Some, None, arith, append_assoc}
use Rattle.record_batch.specs.declared.rec.Header.{Header}
use Rattle.record_batch.specs.Record.{header_at, headers_at, ◌>>=◌}

-- what was read, after what was read before
abbrev pub behind : List Header → Option (List Header × List ℕ) → Option (List Header × List ℕ)
behind front None = None
behind front (Some x) = Some (front ++ x.0, x.1)

-- nothing was read before
pub behind_none : (o : Option (List Header × List ℕ)) → behind [] o ≡ o
behind_none None = refl
behind_none (Some x) = refl

-- one header goes over to those that were read
more : (front : List Header) (h : Header) (o : Option (List Header × List ℕ))
    → behind (front ++ h ∷ []) o ≡ behind front (o >>= λ others. Some (h ∷ others.0, others.1))
more front h None = refl
more front h (Some x) = ap (λ (hs : List Header). Some (hs, x.1)) (append_assoc front (h ∷ []) x.0)

-- one header copied
pub header-copied : (count i : ℕ) (front : List Header) (rest after : List ℕ) (h : Header) → i < count → header_at rest ≡ Some (h, after)
    → behind (front ++ h ∷ []) (headers_at (count - (i + 1)) after) ≡ behind front (headers_at (count - i) rest)
header-copied count i front rest after h below e =
    let left : count - i ≡ suc (count - (i + 1)) = omega arith in
    rw (left, e) (more front h (headers_at (count - (i + 1)) after))

-- a header that is not there
pub header-missing : (count i : ℕ) (front : List Header) (rest : List ℕ) → i < count → header_at rest ≡ None
    → behind front (headers_at (count - i) rest) ≡ None
header-missing count i front rest below e =
    let left : count - i ≡ suc (count - (i + 1)) = omega arith in
    rw (left, e) refl
