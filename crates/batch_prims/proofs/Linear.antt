-- Steps of the register are linear over xor, and what is above the lowest n bits is what is left after n steps.
use Rattle.std.proofs.Common.{◌≡◌, ◌∙◌, sym, ap, refl, ℕ, zero, suc, ◌+◌, ◌*◌, ◌/◌, ◌%◌, ◌^◌, ◌==◌, ◌<◌, cond, bit_xor, arith, zero-add, suc-add}
use Rattle.std.specs.Int.Bits.{xor_assoc, xor_self, xor_zero_r, xor_shifted, shifted_even, shifted_half}
use Rattle.std.proofs.lemmas.Nat.{xor_comm, xor_shr, xor_mod, mod_below, shr_split, pow_pos}
use Rattle.batch_prims.specs.Crc.{step, steps}

-- the two in the middle change places
pub exchange : (a b c d : ℕ) → bit_xor (bit_xor a b) (bit_xor c d) ≡ bit_xor (bit_xor a c) (bit_xor b d)
exchange a b c d =
    xor_assoc a b (bit_xor c d)
    ∙ ap (bit_xor a) (sym (xor_assoc b c d) ∙ ap (λ (x : ℕ). bit_xor x d) (xor_comm b c) ∙ xor_assoc c b d)
    ∙ sym (xor_assoc a c (bit_xor b d))

-- what is left of a register, where the bit that came out is out
abbrev left : ℕ → ℕ → ℕ
left rest out = cond (out == 1) (bit_xor rest 0x82F63B78) rest

left-xor : (h k r s : ℕ) → r < 2 → s < 2 → left (bit_xor h k) (bit_xor r s) ≡ bit_xor (left h r) (left k s)
left-xor h k zero zero p q = refl
left-xor h k (suc zero) zero p q =
    xor_assoc h k 0x82F63B78 ∙ ap (bit_xor h) (xor_comm k 0x82F63B78) ∙ sym (xor_assoc h 0x82F63B78 k)
left-xor h k zero (suc zero) p q = xor_assoc h k 0x82F63B78
left-xor h k (suc zero) (suc zero) p q =
    sym
    (exchange h 0x82F63B78 k 0x82F63B78 ∙ ap (bit_xor (bit_xor h k)) (xor_self 0x82F63B78) ∙ xor_zero_r (bit_xor h k))
left-xor h k (suc (suc r)) s p q = absurd (omega arith)
left-xor h k r (suc (suc s)) p q = absurd (omega arith)

step-xor : (a b : ℕ) → step (bit_xor a b) ≡ bit_xor (step a) (step b)
unfolding step
step-xor a b =
    ap (λ (h : ℕ). left h (bit_xor a b % 2)) (xor_shr a b 1)
    ∙ ap (λ (r : ℕ). left (bit_xor (a / 2) (b / 2)) r) (xor_mod a b 1)
    ∙ left-xor (a / 2) (b / 2) (a % 2) (b % 2) (omega arith) (omega arith)

pub steps-xor : (n a b : ℕ) → steps n (bit_xor a b) ≡ bit_xor (steps n a) (steps n b)
steps-xor zero a b = refl
steps-xor (suc n) a b = ap (steps n) (step-xor a b) ∙ steps-xor n (step a) (step b)

pub steps-add : (m n c : ℕ) → steps (m + n) c ≡ steps n (steps m c)
steps-add zero n c = ap (λ (k : ℕ). steps k c) (zero-add n)
steps-add (suc m) n c = ap (λ (k : ℕ). steps k c) (suc-add m n) ∙ steps-add m n (step c)

step-double : (a k : ℕ) → step (a * 2 ^ suc k) ≡ a * 2 ^ k
unfolding step
step-double a k = ap (λ (r : ℕ). left (a * 2 ^ suc k / 2) r) (shifted_even a k) ∙ shifted_half a k

-- n bits that are all zero come out, and leave the rest
pub steps-shifted : (n a : ℕ) → steps n (a * 2 ^ n) ≡ a
steps-shifted zero a = omega arith
steps-shifted (suc n) a = ap (steps n) (step-double a n) ∙ steps-shifted n a

-- the lowest m bits and those above them, each by itself
pub steps-split : (m n c : ℕ) → steps (m + n) c ≡ bit_xor (steps (m + n) (c % 2 ^ m)) (steps n (c / 2 ^ m))
steps-split m n c =
    let parts : c ≡ bit_xor (c % 2 ^ m) (c / 2 ^ m * 2 ^ m)
    = sym
    (xor_comm (c % 2 ^ m) (c / 2 ^ m * 2 ^ m)
    ∙ xor_shifted (c / 2 ^ m) m (c % 2 ^ m) (mod_below c (2 ^ m) (pow_pos m))
    ∙ shr_split c m) in
    ap (steps (m + n)) parts
    ∙ steps-xor (m + n) (c % 2 ^ m) (c / 2 ^ m * 2 ^ m)
    ∙ ap (bit_xor (steps (m + n) (c % 2 ^ m))) (steps-add m n (c / 2 ^ m * 2 ^ m) ∙ ap (steps n) (steps-shifted m (c / 2 ^ m)))
