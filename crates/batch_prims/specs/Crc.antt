-- CRC-32C (Castagnoli), reflected: a register of 32 bits that takes bytes from the low end, and gives up a bit a step.
--
-- The register begins as 32 ones, and the checksum is its complement after the last byte.
-- A step is a function on all numbers and not on 32 bits alone, so a longer word may be taken in at once.
--
-- Source: RFC 3720, appendix B.4. The polynomial is 0x1EDC6F41, here with its bits in reverse.
use Rattle.std.specs.Prelude.{ℕ, zero, suc, ◌/◌, ◌%◌, ◌==◌, if◌then◌else◌, bit_xor, List, [], ◌∷◌}

-- one bit out: where it is 1, the polynomial goes in
unfoldable pub step : ℕ → ℕ
step c = if c % 2 == 1 then bit_xor (c / 2) 0x82F63B78 else c / 2

-- n bits out
abbrev pub steps : ℕ → ℕ → ℕ
steps zero c = c
steps (suc n) c = steps n (step c)

-- the register after these bytes
abbrev pub register : ℕ → List ℕ → ℕ
register c [] = c
register c (b ∷ bytes) = register (steps 8 (bit_xor c b)) bytes

-- the checksum of these bytes
unfoldable pub crc32c : List ℕ → ℕ
crc32c bytes = bit_xor (register 0xFFFFFFFF bytes) 0xFFFFFFFF
