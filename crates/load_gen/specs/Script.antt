-- The script of a number: the lines of a load on four partitions, the same for the same number.
--
-- It begins with five options, a line each, in this order:
--
--   brokers 3   partitions 4   segment_bytes 4096   retention_bytes 65536   local_retention_bytes 8192
--
-- Then it takes 20,000 turns, i counting them from 0. A turn draws its partition p below 4, then a number below 20 that
-- picks its row, then what the row draws. Each line is an actor, a partition, a broker and a command.
--
--   picked  line                     the row draws
--    0-5    4p   p 0 append i,-,xV   how often V is the two hexadecimal digits of i mod 256: 1 to 200 times
--      6    4p+1 p b follow 8192     b, 1 or 2
--      7    4p+1 p b join            b, 1 or 2
--    8-9    4p+1 p b flush           b, 0 to 2; with the same numbers a second line: ack
--  10-11    4p+2 p 0 copy
--  12-13    4p+2 p b trim            b, 0 to 2
--     14    4p+3 p 0 expire
--  15-18    4p   p 0 fetch o 4096    o, below 1,500
--     19    4p   p - clock i
--
-- Words are separated by one space, a line ends with LF, and a number is decimal digits.
--
-- Source of the draws: the linear congruential generator of Numerical Recipes, 1664525 x + 1013904223 modulo 2^32.
use Rattle.std.specs.Prelude.{ℕ, zero, suc, ◌+◌, ◌*◌, ◌/◌, ◌%◌, ◌^◌, nat_lt, if◌then◌else◌, List, [], ◌∷◌, ◌++◌, codes}
use Rattle.std.specs.Fmt.{decimal}
use Rattle.load_gen.specs.declared.row.Row.{Row}
use Rattle.load_gen.specs.declared.row.Row.TheVariants.{Append, Follow, Join, Flush, Copy, Trim, Expire, Fetch, Clock}

-- the state after a draw; the first state is the script's number
unfoldable pub next : ℕ → ℕ
next x = (1664525 * x + 1013904223) % 2 ^ 32

-- the draw below k that leaves this state
unfoldable pub drawn : ℕ → ℕ → ℕ
drawn k x = x / 65536 % k

-- the row that a number below 20 picks
unfoldable pub row_of : ℕ → Row
row_of c =
    if nat_lt c 6 then Append else if nat_lt c 7 then Follow else if nat_lt c 8 then Join else if nat_lt c 10 then Flush
    else if nat_lt c 12 then Copy else if nat_lt c 14 then Trim else if nat_lt c 15 then Expire else if nat_lt c 19 then
    Fetch else Clock

-- front = actor SP partition SP broker SP
unfoldable pub front : ℕ → ℕ → ℕ → List ℕ
front actor partition broker = decimal actor ++ 32 ∷ decimal partition ++ 32 ∷ decimal broker ++ 32 ∷ []

-- line = front command LF
unfoldable pub line : ℕ → ℕ → ℕ → List ℕ → List ℕ
line actor partition broker command = front actor partition broker ++ command ++ 10 ∷ []

-- a hexadecimal digit
unfoldable pub hex_digit : ℕ → ℕ
hex_digit n = if nat_lt n 10 then 48 + n else 87 + n

-- a byte as two hexadecimal digits, so many times
abbrev pub hex_run : ℕ → ℕ → List ℕ
hex_run zero b = []
hex_run (suc n) b = hex_digit (b / 16) ∷ hex_digit (b % 16) ∷ hex_run n b

-- the lines of a row in the turn i, at the partition p, x being the state after what the row draws
unfoldable pub lines_of : Row → ℕ → ℕ → ℕ → List ℕ
lines_of Append i p x =
    line (4 * p) p 0 (codes "append " ++ decimal i ++ codes ",-,x" ++ hex_run (drawn 200 x + 1) (i % 256))
lines_of Follow i p x = line (4 * p + 1) p (drawn 2 x + 1) (codes "follow 8192")
lines_of Join i p x = line (4 * p + 1) p (drawn 2 x + 1) (codes "join")
lines_of Flush i p x = line (4 * p + 1) p (drawn 3 x) (codes "flush") ++ line (4 * p + 1) p (drawn 3 x) (codes "ack")
lines_of Copy i p x = line (4 * p + 2) p 0 (codes "copy")
lines_of Trim i p x = line (4 * p + 2) p (drawn 3 x) (codes "trim")
lines_of Expire i p x = line (4 * p + 3) p 0 (codes "expire")
lines_of Fetch i p x = line (4 * p) p 0 (codes "fetch " ++ decimal (drawn 1500 x) ++ codes " 4096")
lines_of Clock i p x = decimal (4 * p) ++ 32 ∷ decimal p ++ codes " - clock " ++ decimal i ++ 10 ∷ []

-- the state after what a row draws, at most one number
abbrev pub after_row : Row → ℕ → ℕ
after_row Copy x = x
after_row Expire x = x
after_row Clock x = x
after_row _ x = next x

-- the state after a turn's first two draws, p and the number that picks its row
abbrev pub picked : ℕ → ℕ
picked x = next (next x)

-- the row of a turn that begins with this state
abbrev pub row_from : ℕ → Row
row_from x = row_of (drawn 20 (picked x))

-- the lines of the turn i, where it begins with this state
unfoldable pub turn : ℕ → ℕ → List ℕ
turn i x = lines_of (row_from x) i (drawn 4 (next x)) (next (picked x))

-- the state after that turn
unfoldable pub after_turn : ℕ → ℕ
after_turn x = after_row (row_from x) (picked x)

-- the lines of n turns, of which the first is i and begins with this state
unfoldable pub turns : ℕ → ℕ → ℕ → List ℕ
turns zero i x = []
turns (suc n) i x = turn i x ++ turns n (suc i) (after_turn x)

-- the lines before the first turn
unfoldable pub options : List ℕ
options =
    codes "brokers 3" ++ 10 ∷ codes "partitions 4" ++ 10 ∷ codes "segment_bytes 4096"
    ++ 10 ∷ codes "retention_bytes 65536" ++ 10 ∷
    codes "local_retention_bytes 8192" ++ 10 ∷ []

-- the script of a number
unfoldable pub script_of : ℕ → List ℕ
script_of number = options ++ turns 20000 0 number
