-- What a leader is asked for, batches and offsets: what is answered where no test refuses it (Refusals). Nothing
-- changes.
--
--   fetch    Run; first DiskFault, then MetaFault, StoreFault; Damaged
--   offset   earliest, latest, earliest local: Offset
--            latest tiered, of a timestamp: first MetaFault; then Offset, NoOffset; of a timestamp also MetaFault,
--            StoreFault, DiskFault, Damaged
use Rattle.std.specs.Prelude.{ℕ, ◌==◌, ◌&&◌, not, max, int_lt, ℤ, Bool, true, false, List}
use Rattle.std.specs.Prelude.{[], ◌∷◌, Option, Some, None, if◌then◌else◌}
use Rattle.log_terms.specs.Batch.{base_of, max_ts_of}
use Rattle.log_terms.specs.Log.{up_to, from_offset}
use Rattle.registry.specs.Calls.{when}
use Rattle.plain_log.specs.declared.answer.Answer.{Answer}
use Rattle.plain_log.specs.declared.answer.Answer.TheVariants.{DiskFault, MetaFault, StoreFault}
use Rattle.plain_log.specs.declared.answer.Answer.TheVariants.{Damaged, Run, Offset, NoOffset}
use Rattle.plain_log.specs.declared.command.Which.{Which}
use Rattle.plain_log.specs.declared.command.Which.TheVariants.{Earliest, Latest, LatestTiered, At}
use Rattle.plain_log.specs.declared.state.State.{State}
use Rattle.plain_log.specs.declared.state.Broker.{Broker}
use Rattle.plain_log.specs.declared.state.PlainSnapshot.{PlainSnapshot}
use Rattle.plain_log.specs.Fetch.{is_run}

-- a fetch, at its first turn or, with what was recorded then, at a later one
abbrev pub fetch_row : State → Broker → ℕ → ℕ → Option PlainSnapshot → Answer → Option State
fetch_row p x offset limit recorded (Run tier size stop bytes) = when (is_run x offset limit size stop bytes) p
fetch_row p x offset limit None DiskFault = Some p
fetch_row p x offset limit (Some recorded) MetaFault = Some p
fetch_row p x offset limit (Some recorded) StoreFault = Some p
fetch_row p x offset limit recorded (Damaged place at) = Some p
fetch_row p x offset limit recorded other = None

-- the question takes the remote tier, and so several turns
abbrev pub is_long : Which → Bool
is_long LatestTiered = true
is_long (At ts) = true
is_long other = false

-- the base of the first batch whose greatest timestamp isn't earlier, or the log start offset where that is greater
abbrev pub first_at : ℤ → ℕ → List (List ℕ) → Option ℕ
first_at ts start [] = None
first_at ts start (batch ∷ log) =
    if int_lt (max_ts_of batch) ts then first_at ts start log else Some (max (base_of batch) start)

-- the offset of a timestamp: among the batches from the log start offset to the high watermark that the leader knows
abbrev pub offset_at : State → Broker → ℤ → Option ℕ
offset_at p x ts = first_at ts p.registry.start (from_offset p.registry.start (up_to x.known_high_watermark x.log))

-- this is the offset that there is, or there is none
abbrev pub same_offset : Option ℕ → Option ℕ → Bool
same_offset None None = true
same_offset (Some n) (Some m) = n == m
same_offset o other = false

-- the answer to the question; the plain log doesn't know how far the local log and the copies reach
abbrev pub is_offset_of : State → Broker → Which → Option ℕ → Bool
is_offset_of p x Earliest answer = same_offset (Some p.registry.start) answer
is_offset_of p x Latest answer = same_offset (Some x.known_high_watermark) answer
is_offset_of p x (At ts) answer = same_offset (offset_at p x ts) answer
is_offset_of p x other answer = true

-- a question for an offset
abbrev pub offset_row : State → Broker → Which → Option PlainSnapshot → Answer → Option State
offset_row p x which None MetaFault = when (is_long which) p
offset_row p x which None (Offset n) = when (not (is_long which) && is_offset_of p x which (Some n)) p
offset_row p x which (Some recorded) (Offset n) = when (is_long which && is_offset_of p x which (Some n)) p
offset_row p x which (Some recorded) NoOffset = when (is_long which && is_offset_of p x which None) p
offset_row p x (At ts) (Some recorded) MetaFault = Some p
offset_row p x (At ts) (Some recorded) StoreFault = Some p
offset_row p x (At ts) (Some recorded) DiskFault = Some p
offset_row p x (At ts) (Some recorded) (Damaged place at) = Some p
offset_row p x which recorded other = None
