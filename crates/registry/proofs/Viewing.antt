-- Replicas that are seen as bits and ends, and made out of them.
use Rattle.std.proofs.Common.{◌≡◌, ◌∙◌, ap, refl, ℕ, zero, suc, ◌+◌, ◌-◌, ◌*◌, ◌/◌, ◌%◌, ◌^◌, ◌==◌, ◌<◌, ◌≤◌, Bool, true, false, cond, List, [], ◌∷◌, ◌++◌, length, take, drop, replicate, Some, slice_get, slice_index_or, arith, append_assoc, length-drop}
use Rattle.std.proofs.Math.Nat.{pow-suc, pow-le-pow_right}
use Rattle.std.proofs.lemmas.Nat.{shr-shr}
use Rattle.registry.specs.declared.registry.Replica.{Replica}
use Rattle.registry.specs.View.{has_bit, eight, IsView, sync_bits, acked_ends, view_of, replicas_of, registry_of}
use Rattle.registry.specs.declared.registry.Registry.{Registry}
use Rattle.registry.specs.declared.view.RegView.{RegView}
use Rattle.registry.proofs.Eight.{eight_taken}
use Rattle.std.proofs.lemmas.Bool.{eqb-true, eqb-false}

-- a bit is 0 or 1
bit-below : (t : Bool) → cond t 1 0 < 2
bit-below true = omega arith
bit-below false = omega arith

-- so many replicas have so many bits
pub bits_below : (replicas : List Replica) → sync_bits replicas < 2 ^ length replicas
bits_below [] = omega arith
bits_below (s ∷ ss) =
    let bit : cond s.in_sync 1 0 < 2 = bit-below s.in_sync in
    let more : sync_bits ss < 2 ^ length ss = bits_below ss in
    let twice : 2 ^ suc (length ss) ≡ 2 ^ length ss * 2 = pow-suc 2 (length ss) in
    rw twice (omega (arith, bit, more))

-- after the first of eight replicas there are seven bits at most
pub bits_fit : (replicas : List Replica) (at : ℕ) → length replicas ≤ 8 → 0 < at → sync_bits (drop at replicas) < 128
bits_fit replicas at few some =
    let below : sync_bits (drop at replicas) < 2 ^ length (drop at replicas) = bits_below (drop at replicas) in
    let short : length (drop at replicas) ≤ 7 = grind (arith, length-drop) in
    let power : 2 ^ length (drop at replicas) ≤ 2 ^ 7 = pow-le-pow_right (omega arith) short in
    omega (arith, below, power)

-- each replica has an end
pub length-ends : (replicas : List Replica) → length (acked_ends replicas) ≡ length replicas
length-ends [] = refl
length-ends (s ∷ ss) = ap suc (length-ends ss)

-- one end more is taken
ends-suc : (replicas : List Replica) (b : ℕ) (d : Replica) → b < length replicas
    → acked_ends (take (suc b) replicas) ≡ acked_ends (take b replicas) ++ (slice_index_or replicas b d).acked ∷ []
ends-suc [] b d within = absurd (omega (arith, within))
ends-suc (s ∷ ss) zero d within = refl
ends-suc (s ∷ ss) (suc b) d within = ap (λ (t : List ℕ). s.acked ∷ t) (ends-suc ss b d (omega (arith, within)))

pub ends_more : (replicas : List Replica) (b : ℕ) (d : Replica) → b < length replicas
    → acked_ends (take (b + 1) replicas) ≡ acked_ends (take b replicas) ++ (slice_index_or replicas b d).acked ∷ []
ends_more replicas b d within =
    let next : b + 1 ≡ suc b = omega arith in
    rw next (ends-suc replicas b d within)

-- what is at a place, and what after it
drop-suc : (ends : List ℕ) (b e : ℕ) → slice_get ends b ≡ Some e → drop b ends ≡ e ∷ drop (suc b) ends
drop-suc [] b e is = absurd (cc)
drop-suc (x ∷ ends) zero e is = let same : x ≡ e = cc in rw same refl
drop-suc (x ∷ ends) (suc b) e is = drop-suc ends b e is

-- one replica more is made
pub replica_made : (count b bits : ℕ) (acked : List ℕ) (front all : List Replica) (r : Replica) → b < count
    → r.in_sync ≡ has_bit bits b → slice_get acked b ≡ Some r.acked
    → front ++ replicas_of (count - b) (bits / 2 ^ b) (drop b acked) ≡ all
    → (front ++ r ∷ []) ++ replicas_of (count - (b + 1)) (bits / 2 ^ (b + 1)) (drop (b + 1) acked) ≡ all
replica_made count b bits acked front all r below in_sync end is =
    let left : count - b ≡ suc (count - (b + 1)) = omega (arith, below) in
    let next : b + 1 ≡ suc b = omega arith in
    let half : bits / 2 ^ b / 2 ≡ bits / 2 ^ (b + 1) = shr-shr bits b 1 in
    let behind : drop b acked ≡ r.acked ∷ drop (b + 1) acked = rw next (drop-suc acked b r.acked end) in
    let now = rw (left, behind, half, ← in_sync) at is in
    append_assoc front (r ∷ []) (replicas_of (count - (b + 1)) (bits / 2 ^ (b + 1)) (drop (b + 1) acked)) ∙ now

-- a replica goes into a bit, and out of it
pub bit_back : (t : Bool) (bits : ℕ) → (((cond t 1 0 + 2 * bits) % 2 == 1) ≡ t) × ((cond t 1 0 + 2 * bits) / 2 ≡ bits)
bit_back true bits =
    let odd : (1 + 2 * bits) % 2 ≡ 1 = omega arith in
    let half : (1 + 2 * bits) / 2 ≡ bits = omega arith in
    ((rw odd refl), half)
bit_back false bits =
    let even : (0 + 2 * bits) % 2 ≡ 0 = omega arith in
    let half : (0 + 2 * bits) / 2 ≡ bits = omega arith in
    ((rw even refl), half)

replicas-back : (replicas : List Replica) (rest : List ℕ)
    → replicas_of (length replicas) (sync_bits replicas) (acked_ends replicas ++ rest) ≡ replicas
replicas-back [] rest = refl
replicas-back (s ∷ ss) rest =
    let is = bit_back s.in_sync (sync_bits ss) in
    rw (is.0, is.1, replicas-back ss rest) refl

-- a registry is made again out of its view
pub registry_back : (r : Registry) → registry_of (view_of r) ≡ r
registry_back r = rw (replicas-back r.replicas (replicate (8 - length (acked_ends r.replicas)) 0)) refl

-- so many are made
pub length-replicas : (count bits : ℕ) (ends : List ℕ) → count ≤ length ends → length (replicas_of count bits ends) ≡ count
length-replicas zero bits [] few = refl
length-replicas zero bits (end ∷ ends) few = refl
length-replicas (suc count) bits [] few = absurd (omega (arith, few))
length-replicas (suc count) bits (end ∷ ends) few = ap suc (length-replicas count (bits / 2) ends (omega (arith, few)))

-- what replicas say that were made
record Made (count bits : ℕ) (ends : List ℕ) (replicas : List Replica) : Type 0 where
  acked : acked_ends replicas ≡ take count ends
  in_sync : sync_bits replicas ≡ bits

-- a number is its last bit and its half
whole-again : (bits : ℕ) (t : Bool) → (bits % 2 == 1) ≡ t → cond t 1 0 + 2 * (bits / 2) ≡ bits
whole-again bits true e =
    let odd : bits % 2 ≡ 1 = eqb-true (bits % 2) 1 e in
    omega (arith, odd)
whole-again bits false e =
    let even : bits % 2 ≡ 1 → ⊥ = eqb-false (bits % 2) 1 e in
    omega (arith, even)

made : (count bits : ℕ) (ends : List ℕ) → count ≤ length ends → bits < 2 ^ count → Made count bits ends (replicas_of count bits ends)
made zero bits [] few below = record { acked = refl; in_sync = omega (arith, below) }
made zero bits (end ∷ ends) few below = record { acked = refl; in_sync = omega (arith, below) }
made (suc count) bits [] few below = absurd (omega (arith, few))
made (suc count) bits (end ∷ ends) few below =
    let twice : 2 ^ suc count ≡ 2 ^ count * 2 = pow-suc 2 count in
    let half : bits / 2 < 2 ^ count = omega (arith, below, twice) in
    let more = made count (bits / 2) ends (omega (arith, few)) half in record {
      acked = ap (λ (t : List ℕ). end ∷ t) more.acked;
      in_sync = rw (more.in_sync) (whole-again bits (bits % 2 == 1) refl);
    }

-- a view that keeps the rules is that of its registry
pub view_back : (view : RegView) → IsView view → view_of (registry_of view) ≡ view
view_back view rules =
    let is = made view.brokers view.in_sync view.acked (omega (arith, rules.few, rules.places)) rules.within in
    let back : eight (take view.brokers view.acked) ≡ view.acked = eight_taken view.brokers view.acked rules.few rules.places rules.past in
    rw (length-replicas view.brokers view.in_sync view.acked (omega (arith, rules.few, rules.places)), is.acked, is.in_sync, back) refl
