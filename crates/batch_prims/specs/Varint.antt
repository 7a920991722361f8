-- Numbers of variable length: a varint is a signed number of 32 bits, a varlong one of 64.
--
--   bits  field
--    0-6  group: seven bits of the number, the lowest group in the first byte
--      7  more: 1 where another group follows
--
-- The number is zigzag: 0, -1, 1, -2 and so on are as 0, 1, 2, 3. A varint has at most 5 bytes and a varlong 10. A
-- spelling that is longer than it need be is read. Bits past the 32nd or the 64th are dropped. Bytes that end before a
-- last group are too short; 5 or 10 bytes with no last group are too long.
--
-- Source: Kafka's ByteUtils, after the varints of Protocol Buffers.
use Rattle.std.specs.Prelude.{ℕ, zero, suc, ◌+◌, ◌*◌, ◌/◌, ◌%◌, ◌^◌, ◌==◌, ◌<◌, ◌≤◌, nat_lt, if◌then◌else◌, ℤ}
use Rattle.std.specs.Prelude.{pos, negsuc, List, [], ◌∷◌, length, take, All, Result, Ok, Err}
use Rattle.batch_prims.specs.declared.refusal.VarRefusal.{VarRefusal}
use Rattle.batch_prims.specs.declared.refusal.VarRefusal.TheVariants.{Short, TooLong}

-- an answer, its value seen by f
abbrev pub seen : {A B E : Type 0} → (A → B) → Result A E → Result B E
seen f (Ok x) = Ok (f x)
seen f (Err e) = Err e

-- the group of a byte below what was read after it
abbrev pub above_group : ℕ → ℕ × List ℕ → ℕ × List ℕ
above_group b x = (b % 128 + 128 * x.0, x.1)

-- the number in the groups at the front, so many at most, and the bytes after them
abbrev pub groups_at : ℕ → List ℕ → Result (ℕ × List ℕ) VarRefusal
groups_at zero bytes = Err TooLong
groups_at (suc most) [] = Err Short
groups_at (suc most) (b ∷ bytes) =
    if nat_lt b 128 then Ok (b, bytes) else seen (above_group b) (groups_at most bytes)

-- the number at a place of 0, -1, 1, -2 and so on
unfoldable pub from_zigzag : ℕ → ℤ
from_zigzag n = if n % 2 == 0 then pos (n / 2) else negsuc (n / 2)

-- its place there
abbrev pub to_zigzag : ℤ → ℕ
to_zigzag (pos n) = 2 * n
to_zigzag (negsuc n) = 2 * n + 1

-- so many bits of a number that was read
abbrev pub low_bits : ℕ → ℕ × List ℕ → ℕ × List ℕ
low_bits bits x = (x.0 % 2 ^ bits, x.1)

-- the signed number that represents one that was read
abbrev pub signed : ℕ × List ℕ → ℤ × List ℕ
signed x = (from_zigzag x.0, x.1)

-- the varint at the front, and the bytes after it
unfoldable pub varint_at : List ℕ → Result (ℤ × List ℕ) VarRefusal
varint_at bytes = seen (λ x. signed (low_bits 32 x)) (groups_at 5 bytes)

-- the varlong at the front, and the bytes after it
unfoldable pub varlong_at : List ℕ → Result (ℤ × List ℕ) VarRefusal
varlong_at bytes = seen (λ x. signed (low_bits 64 x)) (groups_at 10 bytes)

-- another byte follows this one
abbrev pub IsFollowed : ℕ → Type 0
IsFollowed b = 128 ≤ b

-- the bytes end inside a number, which may have so many
pub record EndsInside (most : ℕ) (bytes : List ℕ) : Type 0 where
  pub fewer : length bytes < most
  pub followed : All IsFollowed bytes

-- as many bytes as a number may have are there, and none is its last
pub record HasNoLast (most : ℕ) (bytes : List ℕ) : Type 0 where
  pub enough : most ≤ length bytes
  pub followed : All IsFollowed (take most bytes)

-- a number in as few groups as it needs, so many at most
abbrev pub groups_of : ℕ → ℕ → List ℕ
groups_of zero n = []
groups_of (suc most) n = if nat_lt n 128 then n ∷ [] else (n % 128 + 128) ∷ groups_of most (n / 128)

-- a number of at most 64 bits in as few groups as it needs
unfoldable pub shortest : ℕ → List ℕ
shortest n = groups_of 10 n

-- the shortest spelling of a varint
unfoldable pub varint_bytes : ℤ → List ℕ
varint_bytes value = shortest (to_zigzag value)

-- the shortest spelling of a varlong
unfoldable pub varlong_bytes : ℤ → List ℕ
varlong_bytes value = shortest (to_zigzag value)
