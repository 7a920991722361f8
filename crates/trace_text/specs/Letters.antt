-- The characters of hexadecimal digits.
use Rattle.std.specs.Prelude.{ℕ, ◌+◌, ◌%◌, nat_lt, if◌then◌else◌}

-- of a number below 16: 0 to 9, or else a to f; a byte wraps
abbrev pub letter : ℕ → ℕ
letter n = (n + (if nat_lt 9 n then 87 else 48)) % 256
