-- Four registers side by side, one for each word of a block of sixteen bytes.
--
-- Each moves on by whole blocks, and none waits for another. Steps are linear over xor, so the register that takes all
-- bytes in turn is known from the four: after one more block it is their sum by xor, each moved on by as many bits as
-- follow its word's front.
--
-- Source: M. Adler, zlib's `crc32_braid`, for another polynomial.
use Rattle.std.specs.Prelude.{ℕ, bit_xor, ◌≡◌}
use Rattle.batch_prims.specs.Crc.{steps}

-- four words of a block, each moved to the block's end
abbrev pub joined : ℕ → ℕ → ℕ → ℕ → ℕ
joined a b c d = bit_xor (bit_xor (bit_xor (steps 128 a) (steps 96 b)) (steps 64 c)) (steps 32 d)

-- four registers that represent one
unfoldable pub StandFor : ℕ → ℕ → ℕ → ℕ → ℕ → Type 0
StandFor a b c d crc = joined a b c d ≡ steps 128 crc
