-- What a line is, and what its calls make of it.
--
-- A line is the list of its entries, leader epoch and start offset.
--
-- Source: KIP-101, the leader epoch checkpoint. Kafka keeps an epoch in an i32 and an offset in an i64.
use Rattle.std.specs.Prelude.{◌≡◌, ℕ, ◌^◌, ◌<◌, ◌≤◌, ◌==◌, ◌&&◌, nat_le, nat_lt, if◌then◌else◌}
use Rattle.std.specs.Prelude.{List, [], ◌∷◌, ◌++◌, filter, Some, None, option_map}
use Rattle.std.specs.declared.option.Option.{Option}
use Rattle.log_terms.specs.Line.{epoch_at}

-- the entry lies below the first of these in both columns
abbrev pub IsBelow : ℕ × ℕ → List (ℕ × ℕ) → Type 0
IsBelow entry [] = Unit {0}
IsBelow entry (next ∷ line) = (entry.0 < next.0) × (entry.1 < next.1)

-- epochs and starts rise strictly, epochs are below 2^31 and starts at most 2^62
abbrev pub IsLine : List (ℕ × ℕ) → Type 0
IsLine [] = Unit {0}
IsLine (entry ∷ line) = (entry.0 < 2 ^ 31) × (entry.1 ≤ 2 ^ 62) × IsBelow entry line × IsLine line

-- the last entry
abbrev pub last_entry : List (ℕ × ℕ) → Option (ℕ × ℕ)
last_entry [] = None
last_entry (entry ∷ []) = Some entry
last_entry (entry ∷ next ∷ line) = last_entry (next ∷ line)

-- the epoch of the last entry
abbrev pub last_epoch : List (ℕ × ℕ) → Option ℕ
last_epoch line = option_map (λ entry. entry.0) (last_entry line)

-- the entries that start below an offset
abbrev pub cut_end : List (ℕ × ℕ) → ℕ → List (ℕ × ℕ)
cut_end line end = filter (λ entry. nat_lt entry.1 end) line

-- a new epoch starts here, in place of the entries that start at or past it
abbrev pub assign : List (ℕ × ℕ) → ℕ → ℕ → List (ℕ × ℕ)
assign line epoch start = cut_end line start ++ (epoch, start) ∷ []

-- where the first entry starts, or the log's end where there is none
abbrev pub start_or : ℕ → List (ℕ × ℕ) → ℕ
start_or log_end [] = log_end
start_or log_end (entry ∷ line) = entry.1

-- an epoch ends where the next entry starts, the last one at the log's end
abbrev pub end_of : List (ℕ × ℕ) → ℕ → ℕ → Option ℕ
end_of [] epoch log_end = None
end_of (entry ∷ line) epoch log_end =
    if entry.0 == epoch then Some (start_or log_end line) else end_of line epoch log_end

-- the epoch that a segment begins in, if its base has one
abbrev pub at_base : Option ℕ → ℕ → List (ℕ × ℕ)
at_base None base = []
at_base (Some epoch) base = (epoch, base) ∷ []

-- the part of a line within a segment: the base's epoch from the base on, and each start up to the last offset
abbrev pub within : List (ℕ × ℕ) → ℕ → ℕ → List (ℕ × ℕ)
within line base last =
    at_base (epoch_at line base) base ++ filter (λ entry. nat_lt base entry.1 && nat_le entry.1 last) line

-- each offset from the base to the last has one epoch in both
abbrev pub SaysSame : List (ℕ × ℕ) → List (ℕ × ℕ) → ℕ → ℕ → Type 0
SaysSame line part base last =
    (offset : ℕ) → base ≤ offset → offset ≤ last → epoch_at part offset ≡ epoch_at line offset
