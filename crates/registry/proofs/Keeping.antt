-- The rules of a registry and of its view are the same.
use Rattle.std.proofs.Common.{◌≡◌, ◌∙◌, ap, sym, refl, ℕ, zero, suc, ◌+◌, ◌-◌, ◌*◌, ◌/◌, ◌^◌, ◌<◌, ◌≤◌, ◌↔◌, true, cond, List, [], ◌∷◌, ◌++◌, length, replicate, slice_get, arith, length-append}
use Rattle.std.specs.List.{All}
use Rattle.std.specs.Option.{IsSomeAnd}
use Rattle.std.proofs.lemmas.Nat.{shr-shr}
use Rattle.std.proofs.lemmas.List.{drop_at, length-replicate}
use Rattle.std.proofs.lemmas.List.Elements.{All-append, All-replicate}
use Rattle.registry.specs.declared.registry.Replica.{Replica}
use Rattle.registry.specs.declared.registry.Registry.{Registry}
use Rattle.registry.specs.View.{has_bit, IsView, IsRegistry, sync_bits, acked_ends, view_of}
use Rattle.registry.proofs.Viewing.{bits_below, bit_back, length-ends}

-- the replica is in sync
abbrev InSync : List Replica → ℕ → Type 0
InSync replicas b = IsSomeAnd (slice_get replicas b) (λ s. s.in_sync ≡ true)

-- the first bit is the first replica's, and the others those of the others
first-bit : (s : Replica) (ss : List Replica) → has_bit (sync_bits (s ∷ ss)) 0 ≡ s.in_sync
first-bit s ss =
    let one : (cond s.in_sync 1 0 + 2 * sync_bits ss) / 1 ≡ cond s.in_sync 1 0 + 2 * sync_bits ss = omega arith in
    rw one (bit_back s.in_sync (sync_bits ss)).0

next-bit : (s : Replica) (ss : List Replica) (b : ℕ) → has_bit (sync_bits (s ∷ ss)) (suc b) ≡ has_bit (sync_bits ss) b
next-bit s ss b =
    let next : 1 + b ≡ suc b = omega arith in
    let twice : sync_bits (s ∷ ss) / 2 / 2 ^ b ≡ sync_bits (s ∷ ss) / 2 ^ (1 + b) = shr-shr (sync_bits (s ∷ ss)) 1 b in
    let half : sync_bits (s ∷ ss) / 2 ≡ sync_bits ss = (bit_back s.in_sync (sync_bits ss)).1 in
    rw (← next, ← twice, half) refl

-- a replica in sync is there, and has its bit
record Leads (replicas : List Replica) (b : ℕ) : Type 0 where
  there : b < length replicas
  bit : has_bit (sync_bits replicas) b ≡ true

leads : (replicas : List Replica) (b : ℕ) → InSync replicas b → Leads replicas b
leads [] b h = absurd h
leads (s ∷ ss) zero h = record { there = omega arith; bit = first-bit s ss ∙ h }
leads (s ∷ ss) (suc b) h =
    let is = leads ss b h in record { there = omega (arith, is.there); bit = next-bit s ss b ∙ is.bit }

in-sync : (replicas : List Replica) (b : ℕ) → b < length replicas → has_bit (sync_bits replicas) b ≡ true → InSync replicas b
in-sync [] b there bit = absurd (omega (arith, there))
in-sync (s ∷ ss) zero there bit = sym (first-bit s ss) ∙ bit
in-sync (s ∷ ss) (suc b) there bit = in-sync ss b (omega (arith, there)) (sym (next-bit s ss b) ∙ bit)

-- each end of each replica
ends-high : (replicas : List Replica) → All (λ s. s.acked ≤ 2 ^ 62) replicas → All (λ end. end ≤ 2 ^ 62) (acked_ends replicas)
ends-high [] high k d l = absurd (omega (arith, l))
ends-high (s ∷ ss) high zero d l = high 0 s (omega arith)
ends-high (s ∷ ss) high (suc k) d l = ends-high ss (λ k d l. high (suc k) d (omega (arith, l))) k d (omega (arith, l))

replicas-high : (replicas : List Replica) (rest : List ℕ) → All (λ end. end ≤ 2 ^ 62) (acked_ends replicas ++ rest) → All (λ s. s.acked ≤ 2 ^ 62) replicas
replicas-high [] rest high k d l = absurd (omega (arith, l))
replicas-high (s ∷ ss) rest high zero d l = high 0 0 (omega arith)
replicas-high (s ∷ ss) rest high (suc k) d l = replicas-high ss rest (λ k d l. high (suc k) d (omega (arith, l))) k d (omega (arith, l))

-- the rules of the view are those of the registry
registry-of-view : (r : Registry) → IsView (view_of r) → IsRegistry r
registry-of-view r rules = record {
  some = rules.some;
  few = rules.few;
  epoch = rules.epoch;
  leader = in-sync r.replicas r.leader.0 rules.leader rules.leads;
  mark = rules.mark;
  start = rules.start;
  ends = replicas-high r.replicas (replicate (8 - length (acked_ends r.replicas)) 0) rules.ends;
}

view-of-registry : (r : Registry) → IsRegistry r → IsView (view_of r)
view-of-registry r rules =
    let ends : List ℕ = acked_ends r.replicas in
    let zeros : List ℕ = replicate (8 - length ends) 0 in
    let long : length (acked_ends r.replicas) ≡ length r.replicas = length-ends r.replicas in
    let none : All (λ end. end ≤ 2 ^ 62) zeros = All-replicate (λ end. end ≤ 2 ^ 62) (8 - length ends) 0 (omega arith) in
    let lead = leads r.replicas r.leader.0 rules.leader in
    let few : length ends ≤ 8 = rw long rules.few in record {
      some = rules.some;
      few = rules.few;
      epoch = rules.epoch;
      leader = lead.there;
      leads = lead.bit;
      within = bits_below r.replicas;
      mark = rules.mark;
      start = rules.start;
      ends = All-append (λ end. end ≤ 2 ^ 62) ends zeros (ends-high r.replicas rules.ends) none;
      places = grind (arith, length-append, length-replicate, few);
      past = drop_at ends zeros (length r.replicas) long ∙ ap (λ (k : ℕ). replicate (8 - k) 0) long;
    }

pub rules_same : (r : Registry) → IsView (view_of r) ↔ IsRegistry r
rules_same r = (registry-of-view r, view-of-registry r)
