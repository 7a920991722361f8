-- The totals of the commands and turns of the lines so far, and their limits.
--
--   commands                                                     at most 65,536      TooMany
--   the bytes of a batch                                         at most 2^20        BatchTooLarge
--   the sum over fetches of the limit and the largest batch      at most 2^28        FetchSum
--   copies, times the greater of segment_bytes and that batch    at most 2^31        CopySum
--   turns of turn lines                                          at most 2^20        TurnSum
--
-- The largest batch is the largest of all lines so far: a later batch counts for the fetches and copies before it too.
-- The bytes of raw count as a batch, whether they are one or not. A command that asks for an offset counts as one
-- alone.
use Rattle.std.specs.Prelude.{ℕ, ◌≤◌, ◌+◌, ◌*◌, ◌^◌, nat_lt, max, if◌then◌else◌, length, Result, Ok, Err}
use Rattle.record_batch.specs.Build.{built}
use Rattle.plain_log.specs.declared.command.Command.{Command}
use Rattle.plain_log.specs.declared.command.Command.TheVariants.{Append, Raw, Copy, Fetch}
use Rattle.script_lang.specs.declared.counting.Counts.{Counts}
use Rattle.script_lang.specs.declared.refusal.Why.{Why}
use Rattle.script_lang.specs.declared.refusal.Why.TheVariants.{TooMany, BatchTooLarge, FetchSum, CopySum, TurnSum}

-- no line so far
abbrev pub none_so_far : Counts
none_so_far = record { commands = 0; largest = 0; fetches = 0; limits = 0; copies = 0; turns = 0 }

-- the bytes of the batch that a command appends
abbrev pub size_of : Command → ℕ
size_of (Append recs) = length (built recs)
size_of (Raw bytes) = length bytes
size_of other = 0

-- 1 for a fetch
abbrev pub fetches_of : Command → ℕ
fetches_of (Fetch offset limit) = 1
fetches_of other = 0

-- the limit of a fetch
abbrev pub limit_of : Command → ℕ
limit_of (Fetch offset limit) = limit
limit_of other = 0

-- 1 for a copy
abbrev pub copies_of : Command → ℕ
copies_of Copy = 1
copies_of other = 0

-- one command more
abbrev pub with_command : Counts → Command → Counts
with_command s command = record {
  commands = s.commands + 1;
  largest = max s.largest (size_of command);
  fetches = s.fetches + fetches_of command;
  limits = s.limits + limit_of command;
  copies = s.copies + copies_of command;
  turns = s.turns;
}

-- more turns
abbrev pub with_turns : Counts → ℕ → Counts
with_turns s turns = record s { turns = s.turns + turns }

-- the counts with a command of this batch size, where they are within the limits
unfoldable pub within : ℕ → Counts → ℕ → Result Counts Why
within segment_bytes s size =
    if nat_lt 65536 s.commands then Err TooMany
    else if nat_lt 1048576 size then Err BatchTooLarge
    else if nat_lt (2 ^ 28) (s.limits + s.fetches * s.largest) then Err FetchSum
    else if nat_lt (2 ^ 31) (s.copies * max segment_bytes s.largest) then Err CopySum
    else Ok s

-- the counts with turns, where these are within the limit
abbrev pub turns_within : Counts → Result Counts Why
turns_within s = if nat_lt 1048576 s.turns then Err TurnSum else Ok s

-- counts that are within the limits, whatever the segment size is
pub record AreSmall (s : Counts) : Type 0 where
  pub commands : s.commands ≤ 65536
  pub largest : s.largest ≤ 1048576
  pub fetches : s.fetches ≤ s.commands
  pub sum : s.limits + s.fetches * s.largest ≤ 2 ^ 28
  pub copies : s.copies ≤ s.commands
  pub turns : s.turns ≤ 1048576
