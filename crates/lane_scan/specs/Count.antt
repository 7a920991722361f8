-- How many items of a row pass a test against a top. No order of the row is asked.
use Rattle.std.specs.Prelude.{ℕ, ℤ, nat_le, int_lt, List, count_by}

-- the items at or below the top
abbrev pub count_le : List ℕ → ℕ → ℕ
count_le row top = count_by (λ item. nat_le item top) row

-- the items below the top, which may be negative
abbrev pub count_lt : List ℤ → ℤ → ℕ
count_lt row top = count_by (λ item. int_lt item top) row
