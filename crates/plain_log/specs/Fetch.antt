-- Which batches a run has.
--
-- A run begins with the batch that holds the offset, ends at or below the high watermark that the broker knows, has at
-- least one batch, and otherwise only as many as fit the limit.
use Rattle.std.specs.Prelude.{ℕ, ◌+◌, ◌-◌, ◌==◌, ◌&&◌, not, nat_lt, nat_le, Bool, true, false}
use Rattle.std.specs.Prelude.{List, [], ◌∷◌, length, take, if◌then◌else◌, bytes_eq}
use Rattle.tier_base.specs.declared.plain.Stop.{Stop}
use Rattle.tier_base.specs.declared.plain.Stop.TheVariants.{Mark, Piece, Limit}
use Rattle.log_terms.specs.Log.{end_of, joined, from_offset}
use Rattle.plain_log.specs.declared.state.Broker.{Broker}

-- the first batches that fit the room
abbrev pub fitting : ℕ → List (List ℕ) → List (List ℕ)
fitting room [] = []
fitting room (batch ∷ log) = if nat_le (length batch) room then batch ∷ fitting (room - length batch) log else []

-- the batches of a run of this size
abbrev pub run_of : Broker → ℕ → ℕ → List (List ℕ)
run_of x offset size = fitting size (from_offset offset x.log)

-- one batch, or several that fit the limit
abbrev pub is_within : ℕ → List (List ℕ) → Bool
is_within limit [] = false
is_within limit (batch ∷ []) = true
is_within limit (batch ∷ next ∷ log) = nat_le (length (joined (batch ∷ next ∷ log))) limit

-- the stop says why the run ends: at the known high watermark, with its piece, or since the next batch would pass the
-- limit
abbrev pub stops_rightly : Broker → ℕ → ℕ → ℕ → Stop → Bool
stops_rightly x offset limit size Mark = end_of (run_of x offset size) == x.known_high_watermark
stops_rightly x offset limit size Piece = not (end_of (run_of x offset size) == x.known_high_watermark)
stops_rightly x offset limit size Limit =
    not (end_of (run_of x offset size) == x.known_high_watermark)
    && nat_lt limit (length (joined (take (length (run_of x offset size) + 1) (from_offset offset x.log))))

-- these bytes are a run, of this size and with this stop
abbrev pub is_run : Broker → ℕ → ℕ → ℕ → Stop → List ℕ → Bool
is_run x offset limit size stop bytes =
    (size == length bytes) && bytes_eq (joined (run_of x offset size)) bytes && is_within limit (run_of x offset size)
    && nat_le (end_of (run_of x offset size)) x.known_high_watermark && stops_rightly x offset limit size stop
