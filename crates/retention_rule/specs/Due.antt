-- Which closed segments retention takes, oldest first.
--
-- A segment is due by age if its greatest timestamp is more than the limit in milliseconds ago. It is due by size if
-- what remains without it still reaches the limit in bytes. A negative limit is none. The first segment that is not
-- due ends the list.
--
-- Source: retention.ms and retention.bytes as Kafka's UnifiedLog applies them; both comparisons are Kafka's. The rule
-- is the same for remote segments. There Kafka's remote log manager also takes a segment whose age equals the limit.
use Rattle.std.specs.Prelude.{ℕ, ◌+◌, ℤ, pos, ◌-ℤ◌, ◌&&◌, ◌||◌, Bool, false, nat_lt, int_le}
use Rattle.std.specs.Prelude.{int_lt, if◌then◌else◌, List, [], ◌∷◌, sum_by}
use Rattle.tier_base.specs.declared.plain.Item.{Item}
use Rattle.tier_base.specs.declared.plain.Keep.{Keep}

-- the sizes of segments together
abbrev pub size_of : List Item → ℕ
size_of items = sum_by (λ item. item.size) items

-- the segment's greatest timestamp is longer ago than the limit
abbrev pub is_old : Item → ℤ → Keep → Bool
is_old item now keep = int_le (pos 0) keep.ms && int_lt keep.ms (now -ℤ item.max_ts)

-- so many bytes reach the limit
abbrev pub is_enough : ℕ → Keep → Bool
is_enough left keep = int_le (pos 0) keep.bytes && int_le keep.bytes (pos left)

-- the first segment goes: the others, and the rest that isn't asked about, are left
abbrev pub is_due : Item → List Item → ℕ → ℤ → Keep → Bool
is_due item items rest now keep = is_old item now keep || is_enough (rest + size_of items) keep

-- how many go
abbrev pub start_due : List Item → ℕ → ℤ → Keep → ℕ
start_due [] rest now keep = 0
start_due (item ∷ items) rest now keep =
    if is_due item items rest now keep then start_due items rest now keep + 1 else 0

-- whether the first goes from the local log; one below the log start offset goes in any case
abbrev pub local_due : List Item → ℕ → ℤ → Keep → ℕ → Bool
local_due [] open_size now keep start = false
local_due (item ∷ items) open_size now keep start =
    nat_lt item.last start || is_due item items open_size now keep
