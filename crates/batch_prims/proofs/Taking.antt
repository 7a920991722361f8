-- Bytes are taken into the register: one, eight and sixteen at a time.
use Rattle.std.proofs.Common.{◌≡◌, ◌∙◌, sym, ap, refl, ℕ, zero, suc, ◌+◌, ◌*◌, ◌/◌, ◌%◌, ◌^◌, ◌<◌, ◌≤◌, bit_xor, List, [], ◌∷◌, length, take, drop, get_or, suc-add, arith}
use Rattle.std.specs.Int.{w64, from_le_bytes}
use Rattle.std.specs.Int.Bits.{xor_assoc, xor_zero_r, xor_shifted}
use Rattle.std.proofs.lemmas.Nat.{xor_comm, xor_shr, shr-shr}
use Rattle.std.proofs.Math.Seq.{take-nil}
use Rattle.batch_prims.specs.Crc.{steps, register}
use Rattle.batch_prims.proofs.Linear.{steps-xor, steps-add, steps-shifted, steps-split}

-- one byte: the table's entry, and the rest of the register
pub one-byte : (c b t : ℕ) → b < 256 → t ≡ steps 8 (bit_xor c b % 256) → bit_xor t (c / 256) ≡ steps 8 (bit_xor c b)
one-byte c b t h e =
    let gone : b / 256 ≡ 0 = omega arith in
    sym
    (steps-split 8 0 (bit_xor c b)
    ∙ ap (bit_xor (steps 8 (bit_xor c b % 256))) (xor_shr c b 8 ∙ ap (bit_xor (c / 256)) gone ∙ xor_zero_r (c / 256))
    ∙ ap (λ (x : ℕ). bit_xor x (c / 256)) (sym e))

-- the bits of k bytes and n more
abbrev pub bits_before : ℕ → ℕ → ℕ
bits_before zero n = n
bits_before (suc k) n = 8 + bits_before k n

-- one byte of a word more
pub share : (n k w acc : ℕ)
    → bit_xor acc (steps (8 + n) (w / 2 ^ k)) ≡ bit_xor (bit_xor acc (steps (8 + n) (w / 2 ^ k % 256))) (steps n (w / 2 ^ (k + 8)))
share n k w acc =
    ap (bit_xor acc)
    (steps-split 8 n (w / 2 ^ k) ∙ ap (λ (x : ℕ). bit_xor (steps (8 + n) (w / 2 ^ k % 256)) (steps n x)) (shr-shr w k 8))
    ∙ sym (xor_assoc acc (steps (8 + n) (w / 2 ^ k % 256)) (steps n (w / 2 ^ (k + 8))))

-- a word by the shares of its bytes, n bits being taken in from its last byte on
pub word-by-shares : (n w a b c d e f g h : ℕ)
    → a ≡ steps (bits_before 7 n) (w % 256)
    → b ≡ steps (bits_before 6 n) (w / 2 ^ 8 % 256)
    → c ≡ steps (bits_before 5 n) (w / 2 ^ 16 % 256)
    → d ≡ steps (bits_before 4 n) (w / 2 ^ 24 % 256)
    → e ≡ steps (bits_before 3 n) (w / 2 ^ 32 % 256)
    → f ≡ steps (bits_before 2 n) (w / 2 ^ 40 % 256)
    → g ≡ steps (bits_before 1 n) (w / 2 ^ 48 % 256)
    → h ≡ steps n (w / 2 ^ 56)
    → bit_xor (bit_xor (bit_xor (bit_xor (bit_xor (bit_xor (bit_xor a b) c) d) e) f) g) h ≡ steps (bits_before 7 n) w
word-by-shares n w a b c d e f g h pa pb pc pd pe pf pg ph =
    rw (pa, pb, pc, pd, pe, pf, pg, ph)
    (sym
    (steps-split 8 (bits_before 6 n) w
    ∙ share (bits_before 5 n) 8 w _
    ∙ share (bits_before 4 n) 16 w _
    ∙ share (bits_before 3 n) 24 w _
    ∙ share (bits_before 2 n) 32 w _
    ∙ share (bits_before 1 n) 40 w _
    ∙ share n 48 w _))

-- a byte that was taken in, and r after it
pub taken : (n c b r : ℕ) → b < 256 → steps n (bit_xor (steps 8 (bit_xor c b)) r) ≡ steps (8 + n) (bit_xor c (r * 256 + b))
taken n c b r h =
    ap (λ (x : ℕ). steps n (bit_xor (steps 8 (bit_xor c b)) x)) (sym (steps-shifted 8 r))
    ∙ ap (steps n) (sym (steps-xor 8 (bit_xor c b) (r * 2 ^ 8)))
    ∙ sym (steps-add 8 n (bit_xor (bit_xor c b) (r * 2 ^ 8)))
    ∙ ap (steps (8 + n)) (xor_assoc c b (r * 2 ^ 8) ∙ ap (bit_xor c) (xor_comm b (r * 2 ^ 8) ∙ xor_shifted r 8 b h))

eight : (s t u v w x y z m c : ℕ) → s < 256 → t < 256 → u < 256 → v < 256 → w < 256 → x < 256 → y < 256
    → m ≡ from_le_bytes w64 (s ∷ t ∷ u ∷ v ∷ w ∷ x ∷ y ∷ z ∷ [])
    → register c (s ∷ t ∷ u ∷ v ∷ w ∷ x ∷ y ∷ z ∷ []) ≡ steps 64 (bit_xor c m)
eight s t u v w x y z m c ps pt pu pv pw px py e =
    taken 8 _ y z py
    ∙ taken 16 _ x _ px
    ∙ taken 24 _ w _ pw
    ∙ taken 32 _ v _ pv
    ∙ taken 40 _ u _ pu
    ∙ taken 48 _ t _ pt
    ∙ taken 56 c s _ ps
    ∙ ap (λ (k : ℕ). steps 64 (bit_xor c k)) (omega arith)

-- the first eight bytes, and the word m that they are
pub first-eight : (bytes : List ℕ) (m c : ℕ)
    → 8 ≤ length bytes
    → ((i : ℕ) → get_or bytes i 0 < 256)
    → m ≡ from_le_bytes w64 (get_or bytes 0 0 ∷ get_or bytes 1 0 ∷ get_or bytes 2 0 ∷ get_or bytes 3 0 ∷ get_or bytes 4 0 ∷ get_or bytes 5 0 ∷ get_or bytes 6 0 ∷ get_or bytes 7 0 ∷ [])
    → register c (take 8 bytes) ≡ steps 64 (bit_xor c m)
first-eight (s ∷ t ∷ u ∷ v ∷ w ∷ x ∷ y ∷ z ∷ bytes) m c h p e =
    eight s t u v w x y z m c (p 0) (p 1) (p 2) (p 3) (p 4) (p 5) (p 6) e
first-eight [] m c h p e = absurd (omega arith)
first-eight (s ∷ []) m c h p e = absurd (omega arith)
first-eight (s ∷ t ∷ []) m c h p e = absurd (omega arith)
first-eight (s ∷ t ∷ u ∷ []) m c h p e = absurd (omega arith)
first-eight (s ∷ t ∷ u ∷ v ∷ []) m c h p e = absurd (omega arith)
first-eight (s ∷ t ∷ u ∷ v ∷ w ∷ []) m c h p e = absurd (omega arith)
first-eight (s ∷ t ∷ u ∷ v ∷ w ∷ x ∷ []) m c h p e = absurd (omega arith)
first-eight (s ∷ t ∷ u ∷ v ∷ w ∷ x ∷ y ∷ []) m c h p e = absurd (omega arith)

-- k bytes, and n after them
pub register-take : (k n c : ℕ) (bytes : List ℕ)
    → register c (take (k + n) bytes) ≡ register (register c (take k bytes)) (take n (drop k bytes))
register-take zero n c bytes = ap (λ (m : ℕ). register c (take m bytes)) (omega arith)
register-take (suc k) n c [] = rw (suc-add, take-nil) refl
register-take (suc k) n c (b ∷ bytes) = rw suc-add (register-take k n (steps 8 (bit_xor c b)) bytes)

-- two words, m of the first eight bytes and n of the next
pub both-words : (c m n : ℕ) (bytes next : List ℕ)
    → next ≡ drop 8 bytes
    → ((crc : ℕ) → register crc (take 8 bytes) ≡ steps 64 (bit_xor crc m))
    → ((crc : ℕ) → register crc (take 8 next) ≡ steps 64 (bit_xor crc n))
    → bit_xor (steps 128 (bit_xor c m)) (steps 64 n) ≡ register c (take 16 bytes)
both-words c m n bytes next behind first second =
    ap (λ (x : ℕ). bit_xor x (steps 64 n)) (steps-add 64 64 (bit_xor c m))
    ∙ sym (steps-xor 64 (steps 64 (bit_xor c m)) n)
    ∙ sym (second (steps 64 (bit_xor c m)))
    ∙ ap (λ (x : ℕ). register x (take 8 next)) (sym (first c))
    ∙ ap (λ (xs : List ℕ). register (register c (take 8 bytes)) (take 8 xs)) behind
    ∙ sym (register-take 8 8 c bytes)
