-- Acknowledged ends that are read one by one.
use Rattle.std.proofs.Common.{◌≡◌, ◌∙◌, ap, refl, ℕ, suc, ◌+◌, ◌-◌, ◌*◌, ◌<◌, List, [], ◌∷◌, ◌++◌, length, replicate, Ok, Err, arith, append_assoc, append-nil}
use Rattle.registry_file.specs.declared.refusal.RegFileRefusal.{RegFileRefusal}
use Rattle.registry_file.specs.Reading.{Read, ◌>>=◌, end_at, ends_at, eight_at}

-- ends after those that were read before
abbrev pub glue : List ℕ → Read (List ℕ) → Read (List ℕ)
glue front (Ok x) = Ok (front ++ x.0, x.1)
glue front (Err why) = Err why

-- an end that was read, and the others
others : (front : List ℕ) (p : ℕ) (r : Read (List ℕ)) → glue (front ++ p ∷ []) r ≡ glue front (r >>= λ x. Ok (p ∷ x.0, x.1))
others front p (Ok x) = ap (λ (t : List ℕ). Ok (t, x.1)) (append_assoc front (p ∷ []) x.0)
others front p (Err why) = refl

-- one end is read
pub end_taken : (count b : ℕ) (front : List ℕ) (p : ℕ) (rest behind : List ℕ) (all : Read (List ℕ))
    → b < count → end_at (29 + 8 * b) rest ≡ Ok (p, behind)
    → glue front (ends_at (count - b) (29 + 8 * b) rest) ≡ all
    → glue (front ++ p ∷ []) (ends_at (count - (b + 1)) (29 + 8 * (b + 1)) behind) ≡ all
end_taken count b front p rest behind all below e is =
    let left : count - b ≡ suc (count - b - 1) = omega (arith, below) in
    let same : count - (b + 1) ≡ count - b - 1 = omega arith in
    let place : 29 + 8 * (b + 1) ≡ 29 + 8 * b + 8 = omega arith in
    let now : glue front (ends_at (suc (count - b - 1)) (29 + 8 * b) rest) ≡ all = rw left at is in
    rw (place, same)
    (others front p (ends_at (count - b - 1) (29 + 8 * b + 8) behind) ∙ (rw e at now))

-- an end that can't be read is the first fault
pub end_refused : (count b : ℕ) (front rest bytes : List ℕ) (why : RegFileRefusal)
    → b < count → end_at (29 + 8 * b) rest ≡ Err why
    → glue front (ends_at (count - b) (29 + 8 * b) rest) ≡ ends_at count 29 bytes
    → Err why ≡ eight_at count bytes
end_refused count b front rest bytes why below e is =
    let left : count - b ≡ suc (count - b - 1) = omega (arith, below) in
    let now : glue front (ends_at (suc (count - b - 1)) (29 + 8 * b) rest) ≡ ends_at count 29 bytes = rw left at is in
    let all : Err why ≡ ends_at count 29 bytes = rw e at now in
    rw (← all) refl

-- all were read
pub ends_taken : (count : ℕ) (front acked rest bytes : List ℕ)
    → length front ≡ count → acked ≡ front ++ replicate (8 - count) 0
    → glue front (ends_at (count - count) (29 + 8 * count) rest) ≡ ends_at count 29 bytes
    → Ok (acked, rest) ≡ eight_at count bytes
ends_taken count front acked rest bytes long padded is =
    let none : count - count ≡ 0 = omega arith in
    let now : Ok (front ++ [], rest) ≡ ends_at count 29 bytes = rw none at is in
    rw (← now, append-nil front, long, padded) refl
