-- How long a script is.
use Rattle.std.proofs.Common.{◌≡◌, refl, ℕ, zero, suc, ◌+◌, ◌*◌, ◌%◌, ◌^◌, ◌<◌, ◌≤◌, List, [], ◌∷◌, ◌++◌, length, length-append, codes, arith}
use Rattle.std.specs.Fmt.{decimal}
use Rattle.std.proofs.lemmas.Fmt.{length-decimal-le}
use Rattle.load_gen.specs.declared.row.Row.{Row}
use Rattle.load_gen.specs.declared.row.Row.TheVariants.{Append, Follow, Join, Flush, Copy, Trim, Expire, Fetch, Clock}
use Rattle.load_gen.specs.Script.{next, drawn, hex_run, front, line, lines_of, row_from, picked, turn, after_turn, turns, options, script_of}

-- the decimal digits of a word of 32 bits
digits_short : (n : ℕ) → n < 2 ^ 32 → length (decimal n) ≤ 10
digits_short n h = length-decimal-le 10 n (omega arith) (omega arith) (omega arith)

-- the digits of a value
hex_long : (n b : ℕ) → length (hex_run n b) ≡ 2 * n
hex_long zero b = refl
hex_long (suc n) b = let rest = hex_long n b in omega arith

-- a draw is below its bound
drawn_below : (k x : ℕ) → 0 < k → drawn k x < k
unfolding drawn
drawn_below k x some = omega arith

-- the three words before a command
front_short : (actor partition broker : ℕ) → actor < 2 ^ 32 → partition < 2 ^ 32 → broker < 2 ^ 32 → length (front actor partition broker) ≤ 33
unfolding front
front_short actor partition broker a p b =
    let d = digits_short actor a in
    let e = digits_short partition p in
    let f = digits_short broker b in
    simp length-append (omega arith)

-- a line whose command is short
line_short : (actor partition broker : ℕ) (command : List ℕ) → actor < 2 ^ 32 → partition < 2 ^ 32 → broker < 2 ^ 32 → length command ≤ 466
    → length (line actor partition broker command) ≤ 500
unfolding line
line_short actor partition broker command a p b c =
    let f = front_short actor partition broker a p b in
    simp length-append (omega arith)

-- the command of an append
append_short : (i k b : ℕ) → i < 2 ^ 32 → k ≤ 200 → length (codes "append " ++ decimal i ++ codes ",-,x" ++ hex_run k b) ≤ 466
append_short i k b few most =
    let d = digits_short i few in
    let h = hex_long k b in
    simp length-append (omega arith)

-- and of a fetch
fetch_short : (offset : ℕ) → offset < 2 ^ 32 → length (codes "fetch " ++ decimal offset ++ codes " 4096") ≤ 466
fetch_short offset few =
    let d = digits_short offset few in
    simp length-append (omega arith)

-- the lines of a flush and an ack
both_short : (actor partition broker : ℕ) → actor < 2 ^ 32 → partition < 2 ^ 32 → broker < 2 ^ 32
    → length (line actor partition broker (codes "flush") ++ line actor partition broker (codes "ack")) ≤ 500
unfolding line
both_short actor partition broker a p b =
    let f = front_short actor partition broker a p b in
    simp length-append (omega arith)

-- and that of a clock
clock_short : (actor partition ms : ℕ) → actor < 2 ^ 32 → partition < 2 ^ 32 → ms < 2 ^ 32
    → length (decimal actor ++ 32 ∷ decimal partition ++ codes " - clock " ++ decimal ms ++ 10 ∷ []) ≤ 500
clock_short actor partition ms a p m =
    let d = digits_short actor a in
    let e = digits_short partition p in
    let f = digits_short ms m in
    simp length-append (omega arith)

-- the lines of a row
lines_short : (row : Row) (i p x : ℕ) → i < 2 ^ 32 → p < 4 → length (lines_of row i p x) ≤ 500
unfolding lines_of
lines_short Append i p x few q =
    let n = drawn_below 200 x (omega arith) in
    line_short (4 * p) p 0 _ (omega arith) (omega arith) (omega arith) (append_short i (drawn 200 x + 1) (i % 256) few (omega arith))
lines_short Follow i p x few q =
    let n = drawn_below 2 x (omega arith) in
    line_short (4 * p + 1) p (drawn 2 x + 1) (codes "follow 8192") (omega arith) (omega arith) (omega arith) (omega arith)
lines_short Join i p x few q =
    let n = drawn_below 2 x (omega arith) in
    line_short (4 * p + 1) p (drawn 2 x + 1) (codes "join") (omega arith) (omega arith) (omega arith) (omega arith)
lines_short Flush i p x few q =
    let n = drawn_below 3 x (omega arith) in
    both_short (4 * p + 1) p (drawn 3 x) (omega arith) (omega arith) (omega arith)
lines_short Copy i p x few q = line_short (4 * p + 2) p 0 (codes "copy") (omega arith) (omega arith) (omega arith) (omega arith)
lines_short Trim i p x few q =
    let n = drawn_below 3 x (omega arith) in
    line_short (4 * p + 2) p (drawn 3 x) (codes "trim") (omega arith) (omega arith) (omega arith) (omega arith)
lines_short Expire i p x few q = line_short (4 * p + 3) p 0 (codes "expire") (omega arith) (omega arith) (omega arith) (omega arith)
lines_short Fetch i p x few q =
    let n = drawn_below 1500 x (omega arith) in
    line_short (4 * p) p 0 _ (omega arith) (omega arith) (omega arith) (fetch_short (drawn 1500 x) (omega arith))
lines_short Clock i p x few q = clock_short (4 * p) p i (omega arith) (omega arith) few

-- the lines of turns
turns_short : (n i x : ℕ) → i + n ≤ 2 ^ 32 → length (turns n i x) ≤ 500 * n
unfolding turns turn
turns_short zero i x few = omega arith
turns_short (suc n) i x few =
    let one : length (turn i x) ≤ 500 = lines_short (row_from x) i (drawn 4 (next x)) (next (picked x)) (omega arith) (drawn_below 4 (next x) (omega arith)) in
    let rest = turns_short n (suc i) (after_turn x) (omega arith) in
    simp length-append (omega arith)

-- a script is one that a program takes
pub script_short : (number : ℕ) → length (script_of number) ≤ 16777216
unfolding script_of options
script_short number =
    let t = turns_short 20000 0 number (omega arith) in
    simp length-append (omega arith)
