-- Four registers side by side, each moved on by a whole block, represent the one that takes all bytes in turn.
use Rattle.std.proofs.Common.{◌≡◌, ◌∙◌, sym, ap, refl, ℕ, zero, suc, ◌+◌, ◌*◌, ◌/◌, ◌%◌, ◌^◌, ◌<◌, ◌≤◌, bit_xor, List, [], ◌∷◌, length, take, drop, get_or, arith}
use Rattle.std.specs.Int.{w32, from_le_bytes}
use Rattle.std.specs.Int.Bits.{xor_assoc, xor_zero_r}
use Rattle.batch_prims.specs.Crc.{step, steps, register}
use Rattle.batch_prims.specs.Braid.{joined, StandFor}
use Rattle.batch_prims.proofs.Linear.{exchange, steps-xor, steps-add, steps-split}
use Rattle.batch_prims.proofs.Taking.{bits_before, share, taken, register-take}

-- a word of four bytes by the shares of its bytes, n bits being taken in from its last byte on
pub half-by-shares : (n w a b c d : ℕ)
    → a ≡ steps (bits_before 3 n) (w % 256)
    → b ≡ steps (bits_before 2 n) (w / 2 ^ 8 % 256)
    → c ≡ steps (bits_before 1 n) (w / 2 ^ 16 % 256)
    → d ≡ steps n (w / 2 ^ 24)
    → bit_xor (bit_xor (bit_xor a b) c) d ≡ steps (bits_before 3 n) w
half-by-shares n w a b c d pa pb pc pd =
    rw (pa, pb, pc, pd)
    (sym (steps-split 8 (bits_before 2 n) w ∙ share (bits_before 1 n) 8 w _ ∙ share n 16 w _))

four : (s t u v m c : ℕ) → s < 256 → t < 256 → u < 256
    → m ≡ from_le_bytes w32 (s ∷ t ∷ u ∷ v ∷ [])
    → register c (s ∷ t ∷ u ∷ v ∷ []) ≡ steps 32 (bit_xor c m)
four s t u v m c ps pt pu e =
    taken 8 _ u v pu
    ∙ taken 16 _ t _ pt
    ∙ taken 24 c s _ ps
    ∙ ap (λ (k : ℕ). steps 32 (bit_xor c k)) (omega arith)

-- the word m takes the first four bytes in at once
abbrev pub TakesIn : ℕ → List ℕ → Type 0
TakesIn m bytes = (crc : ℕ) → register crc (take 4 bytes) ≡ steps 32 (bit_xor crc m)

-- the first four bytes, and the word m that they are
pub first-four : (bytes : List ℕ) (m : ℕ)
    → 4 ≤ length bytes
    → ((i : ℕ) → get_or bytes i 0 < 256)
    → m ≡ from_le_bytes w32 (get_or bytes 0 0 ∷ get_or bytes 1 0 ∷ get_or bytes 2 0 ∷ get_or bytes 3 0 ∷ [])
    → TakesIn m bytes
first-four (s ∷ t ∷ u ∷ v ∷ bytes) m h p e crc = four s t u v m crc (p 0) (p 1) (p 2) e
first-four [] m h p e crc = absurd (omega arith)
first-four (s ∷ []) m h p e crc = absurd (omega arith)
first-four (s ∷ t ∷ []) m h p e crc = absurd (omega arith)
first-four (s ∷ t ∷ u ∷ []) m h p e crc = absurd (omega arith)

-- a word, and n bytes after it
word-first : (n c m : ℕ) (bytes next : List ℕ) → TakesIn m bytes → next ≡ drop 4 bytes
    → register c (take (4 + n) bytes) ≡ register (steps 32 (bit_xor c m)) (take n next)
word-first n c m bytes next first behind =
    register-take 4 n c bytes
    ∙ ap (λ (x : ℕ). register x (take n (drop 4 bytes))) (first c)
    ∙ ap (λ (xs : List ℕ). register (steps 32 (bit_xor c m)) (take n xs)) (sym behind)

-- a register that is a word after another
apart : (k x y : ℕ) → steps k (bit_xor (steps 32 x) y) ≡ bit_xor (steps (32 + k) x) (steps k y)
apart k x y =
    steps-xor k (steps 32 x) y ∙ ap (λ (z : ℕ). bit_xor z (steps k y)) (sym (steps-add 32 k x))

four-words : (a b c d : ℕ)
    → steps 32 (bit_xor (steps 32 (bit_xor (steps 32 (bit_xor (steps 32 a) b)) c)) d) ≡ joined a b c d
four-words a b c d =
    apart 32 (bit_xor (steps 32 (bit_xor (steps 32 a) b)) c) d
    ∙ ap (λ (x : ℕ). bit_xor x (steps 32 d))
    (apart 64 (bit_xor (steps 32 a) b) c ∙ ap (λ (x : ℕ). bit_xor x (steps 64 c)) (apart 96 a b))

-- the four words of a block, taken in in turn
block-in-turn : (crc k l m n : ℕ) (first second third fourth : List ℕ)
    → TakesIn k first
    → TakesIn l second
    → TakesIn m third
    → TakesIn n fourth
    → second ≡ drop 4 first
    → third ≡ drop 4 second
    → fourth ≡ drop 4 third
    → register crc (take 16 first) ≡ joined (bit_xor crc k) l m n
block-in-turn crc k l m n first second third fourth pk pl pm pn e f g =
    word-first 12 crc k first second pk e
    ∙ word-first 8 _ l second third pl f
    ∙ word-first 4 _ m third fourth pm g
    ∙ pn _
    ∙ four-words (bit_xor crc k) l m n

joined-xor : (a b c d k l m n : ℕ)
    → joined (bit_xor a k) (bit_xor b l) (bit_xor c m) (bit_xor d n) ≡ bit_xor (joined a b c d) (joined k l m n)
joined-xor a b c d k l m n =
    rw (steps-xor 128 a k, steps-xor 96 b l, steps-xor 64 c m, steps-xor 32 d n)
    (ap (λ (x : ℕ). bit_xor x (bit_xor (steps 32 d) (steps 32 n)))
    (ap (λ (x : ℕ). bit_xor x (bit_xor (steps 64 c) (steps 64 m)))
    (exchange (steps 128 a) (steps 128 k) (steps 96 b) (steps 96 l))
    ∙ exchange _ _ (steps 64 c) (steps 64 m))
    ∙ exchange _ _ (steps 32 d) (steps 32 n))

-- a register that goes in with the first word
into-first : (crc k l m n : ℕ) → bit_xor (steps 128 crc) (joined k l m n) ≡ joined (bit_xor crc k) l m n
into-first crc k l m n =
    sym (xor_assoc (steps 128 crc) _ (steps 32 n))
    ∙ ap (λ (x : ℕ). bit_xor x (steps 32 n))
    (sym (xor_assoc (steps 128 crc) _ (steps 64 m))
    ∙ ap (λ (x : ℕ). bit_xor x (steps 64 m))
    (sym (xor_assoc (steps 128 crc) (steps 128 k) (steps 96 l))
    ∙ ap (λ (x : ℕ). bit_xor x (steps 96 l)) (sym (steps-xor 128 crc k))))

-- the words of a block in registers that represent one
pub block-joined : (a b c d crc k l m n : ℕ) (first second third fourth : List ℕ)
    → StandFor a b c d crc
    → TakesIn k first
    → TakesIn l second
    → TakesIn m third
    → TakesIn n fourth
    → second ≡ drop 4 first
    → third ≡ drop 4 second
    → fourth ≡ drop 4 third
    → joined (bit_xor a k) (bit_xor b l) (bit_xor c m) (bit_xor d n) ≡ register crc (take 16 first)
unfolding StandFor
block-joined a b c d crc k l m n first second third fourth stand pk pl pm pn e f g =
    joined-xor a b c d k l m n
    ∙ ap (λ (x : ℕ). bit_xor x (joined k l m n)) stand
    ∙ into-first crc k l m n
    ∙ sym (block-in-turn crc k l m n first second third fourth pk pl pm pn e f g)

commute : (k x : ℕ) → steps k (steps 128 x) ≡ steps 128 (steps k x)
commute k x =
    let e : 128 + k ≡ k + 128 = omega arith in
    sym (steps-add 128 k x) ∙ ap (λ (j : ℕ). steps j x) e ∙ steps-add k 128 x

-- words that are moved on by a block each
pub moved-on : (a b c d r : ℕ) → joined a b c d ≡ r → StandFor (steps 128 a) (steps 128 b) (steps 128 c) (steps 128 d) r
unfolding StandFor
moved-on a b c d r e =
    rw (commute 96 b, commute 64 c, commute 32 d)
    (ap (λ (x : ℕ). bit_xor x (steps 128 (steps 32 d)))
    (ap (λ (x : ℕ). bit_xor x (steps 128 (steps 64 c))) (sym (steps-xor 128 (steps 128 a) (steps 96 b)))
    ∙ sym (steps-xor 128 _ (steps 64 c)))
    ∙ sym (steps-xor 128 _ (steps 32 d))
    ∙ ap (steps 128) e)

steps-nothing : (n : ℕ) → steps n 0 ≡ 0
unfolding step
steps-nothing zero = refl
steps-nothing (suc n) = steps-nothing n

-- one register and three that took in nothing
pub alone : (crc : ℕ) → StandFor crc 0 0 0 crc
unfolding StandFor
alone crc =
    rw (steps-nothing 96, steps-nothing 64, steps-nothing 32)
    (xor_zero_r _ ∙ xor_zero_r _ ∙ xor_zero_r (steps 128 crc))
