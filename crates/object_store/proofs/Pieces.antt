-- What one read of an object gives of a part.
use Rattle.std.proofs.Common.{◌≡◌, refl, sym, ap, ◌∙◌, ℕ, zero, suc, ◌+◌, ◌-◌, ◌<◌, ◌≤◌, ◌⊎◌, min, List, [], take, drop, Option, Some, None, option_map, unwrap_or, Result, Ok, Err, IfOk, inl, inr, arith}
use Rattle.std.proofs.lemmas.Bool.{cases_lt}
use Rattle.std.proofs.lemmas.List.{take-take, take_all, drop-drop, drop-take, drop_all, length-take}
use Rattle.tier_base.specs.declared.fault.Trouble.{Trouble}
use Rattle.object_store.specs.declared.placing.Spot.{Spot}
use Rattle.object_store.specs.Place.{some_of}

-- of a front a front is taken
take_take : (n m : ℕ) (bytes : List ℕ) → take n (take m bytes) ≡ take (min n m) bytes
take_take n m bytes = by (cases_lt n m)
  where
    by : (n < m) ⊎ (m ≤ n) → take n (take m bytes) ≡ take (min n m) bytes
    by (inl less) =
        let first : n ≡ min n m = omega (arith, less) in
        take-take n m bytes (omega (arith, less)) ∙ ap (λ k. take k bytes) first
    by (inr more) =
        let long = length-take m bytes in
        let second : m ≡ min n m = omega (arith, more) in
        take_all n (take m bytes) (omega (arith, long, more)) ∙ ap (λ k. take k bytes) second

-- nothing is taken of nothing
take_none : (n : ℕ) → ◌≡◌ {A = List ℕ} (take n []) []
take_none zero = refl
take_none (suc n) = refl

-- of a front, at most so many from a place on
of_front : (len from most : ℕ) (bytes : List ℕ) → take most (drop from (take len bytes)) ≡ take (min most (len - from)) (drop from bytes)
of_front len from most bytes = by (cases_lt from len)
  where
    by : (from < len) ⊎ (len ≤ from) → take most (drop from (take len bytes)) ≡ take (min most (len - from)) (drop from bytes)
    by (inl within) =
        let long : len ≡ from + (len - from) = omega (arith, within) in
        ap (λ n. take most (drop from (take n bytes))) long ∙ (ap (take most) (drop-take from (len - from) bytes) ∙ take_take most (len - from) (drop from bytes))
    by (inr past) =
        let short = length-take len bytes in
        let none : drop from (take len bytes) ≡ [] = drop_all from (take len bytes) (omega (arith, short, past)) in
        let nothing : min most (len - from) ≡ 0 = omega (arith, past) in
        ap (take most) none ∙ (take_none most ∙ sym (ap (λ n. take n (drop from bytes)) nothing))

-- so many bytes are read of a piece of a part, where its length is reported
abbrev read_of : Spot → ℕ → ℕ → ℕ
read_of spot from most = unwrap_or (option_map (λ len. min most (len - from)) spot.len) most

-- and they are the piece
piece_read : (spot : Spot) (from most : ℕ) (object : List ℕ) → take (read_of spot from most) (drop (spot.at + from) object) ≡ some_of spot from most object
piece_read spot from most object = by spot.len
  where
    by : (len : Option ℕ) → take (read_of (record spot { len = len }) from most) (drop (spot.at + from) object) ≡ some_of (record spot { len = len }) from most object
    by None = ap (take most) (sym (drop-drop from spot.at object))
    by (Some len) = sym (of_front len from most (drop spot.at object) ∙ ap (take (min most (len - from))) (drop-drop from spot.at object))

-- an answer that has them has the piece
pub piece_given : (spot : Spot) (from most n : ℕ) (answer : Result (Option (List ℕ)) Trouble) (held : Option (List ℕ)) → n ≡ read_of spot from most
    → IfOk answer (λ given. given ≡ option_map (λ object. take n (drop (spot.at + from) object)) held) → IfOk answer (λ given. given ≡ option_map (some_of spot from most) held)
piece_given spot from most n (Err e) held is h = tt
piece_given spot from most n (Ok given) None is h = h
piece_given spot from most n (Ok given) (Some object) is h =
    h ∙ ap Some (ap (λ m. take m (drop (spot.at + from) object)) is ∙ piece_read spot from most object)
