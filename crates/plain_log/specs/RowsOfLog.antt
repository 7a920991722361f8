-- Commands to a broker's own log, and its stops: what is done where no test refuses them (Refusals).
--
--   append   TooManySegments, DiskFault, OkSpan; raw the same
--   flush    DiskFault, OkAt
--   roll     EmptySegment, TooManySegments, DiskFault, OkAt
--   stop     Ok
--   up       DiskFault, Damaged, LastIncarnation, Up
--
-- The plain log has no segments: it takes TooManySegments and EmptySegment as they come. A disk fault breaks the
-- broker, but for one of `up`.
use Rattle.std.specs.Prelude.{ℕ, ◌+◌, ◌==◌, ◌&&◌, nat_le, Bool, List, [], ◌∷◌, ◌++◌, Option}
use Rattle.std.specs.Prelude.{Some, None, if◌then◌else◌, slice_set, true, false}
use Rattle.log_terms.specs.Batch.{last_offset_delta_of}
use Rattle.log_terms.specs.Log.{end_of, up_to}
use Rattle.record_batch.specs.Stamp.{stamped}
use Rattle.registry.specs.Calls.{when}
use Rattle.plain_log.specs.declared.answer.Answer.{Answer}
use Rattle.plain_log.specs.declared.answer.Answer.TheVariants.{Ok as OkAnswer, OkAt, OkSpan, TooManySegments, DiskFault}
use Rattle.plain_log.specs.declared.answer.Answer.TheVariants.{EmptySegment, Damaged, LastIncarnation, Up}
use Rattle.plain_log.specs.declared.state.State.{State}
use Rattle.plain_log.specs.declared.state.Broker.{Broker}
use Rattle.plain_log.specs.Ends.{is_end}
use Rattle.plain_log.specs.State.{leads_in, put_broker, longer, stopped, breaks}

-- the greatest log end offset
abbrev pub offset_limit : ℕ
offset_limit = 4611686018427387904

-- the broker's log and the path of its epoch gain a batch
abbrev pub gained : State → ℕ → Broker → ℕ → List ℕ → State
gained p b x e batch = record p {
  paths = longer p.paths e batch;
  brokers = slice_set p.brokers b (record x { log = x.log ++ batch ∷ [] });
}

-- a batch is appended: placed at the log's end, in the leader's epoch
abbrev pub append_row : State → ℕ → Broker → List ℕ → Answer → Option State
append_row p b x batch TooManySegments = Some p
append_row p b x batch DiskFault = Some (breaks p b x)
append_row p b x batch (OkSpan base last e) =
    when (leads_in e x.role && (base == end_of x.log) && (last == base + last_offset_delta_of batch))
    (gained p b x e (stamped batch base e))
append_row p b x batch other = None

-- all of the log becomes flushed
abbrev pub flush_row : State → ℕ → Broker → Answer → Option State
flush_row p b x DiskFault = Some (breaks p b x)
flush_row p b x (OkAt n) = when (n == end_of x.log) (put_broker p b (record x { flushed_end = n }))
flush_row p b x other = None

-- the open segment is closed, and the next begins at the log's end
abbrev pub roll_row : State → ℕ → Broker → Answer → Option State
roll_row p b x EmptySegment = Some p
roll_row p b x TooManySegments = Some p
roll_row p b x DiskFault = Some (breaks p b x)
roll_row p b x (OkAt n) = when (n == end_of x.log) p
roll_row p b x other = None

-- the broker stops
abbrev pub stop_row : State → ℕ → Broker → Answer → Option State
stop_row p b x OkAnswer = Some (put_broker p b (stopped x))
stop_row p b x other = None

-- the log may end here when the broker starts: at its flushed end, or after a broken write at an end past it too
abbrev pub may_open_at : Broker → ℕ → Bool
may_open_at x n =
    if x.loose then is_end n x.log && nat_le x.flushed_end n && nat_le n (end_of x.log) else n == x.flushed_end

-- the broker is up, and its log ends here
abbrev pub opened : Broker → ℕ → Broker
opened x n = record x { up = true; log = up_to n x.log; flushed_end = n; loose = false }

-- the broker starts
abbrev pub up_row : State → ℕ → Broker → Answer → Option State
up_row p b x DiskFault = Some p
up_row p b x (Damaged place at) = Some p
up_row p b x LastIncarnation = Some p
up_row p b x (Up n) = when (may_open_at x n) (put_broker p b (opened x n))
up_row p b x other = None
