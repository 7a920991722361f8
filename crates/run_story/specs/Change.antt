-- What an entry does to its broker's log, beside its end: whether the broker is up, the flushed end, the local log
-- start offset, the leader epoch that the broker has learned of last, and the epoch whose leader's log this log
-- begins.
--
-- The log end is the plain log's, and isn't changed here.
use Rattle.std.specs.Prelude.{ℕ, ◌+◌, min, Bool, true, false, Some, None, if◌then◌else◌}
use Rattle.plain_log.specs.declared.answer.Answer.{Answer}
use Rattle.plain_log.specs.declared.answer.Answer.TheVariants.{Ok, OkAt, OkSpan, DiskFault, DiskFaultAt, Follows, Leads}
use Rattle.plain_log.specs.declared.answer.Answer.TheVariants.{Cut, Rebuilt, Copied, Dropped, Up as IsUp}
use Rattle.plain_log.specs.declared.command.Command.{Command}
use Rattle.plain_log.specs.declared.command.Command.TheVariants.{Append, Raw, Flush, Roll, Learn, Trim, Follow, Stop}
use Rattle.plain_log.specs.declared.journal.Event.{Event}
use Rattle.plain_log.specs.declared.journal.Event.TheVariants.{Begins, Answers}
use Rattle.run_story.specs.declared.log_state.LogState.{LogState}

-- the log is cut to where it meets the leader's
abbrev pub cut_at : LogState → ℕ → LogState
cut_at log n = record log { local_start = min log.local_start n; flushed_end = n; epoch = log.learned }

-- the broker takes the lead of this epoch, and its whole log is flushed
abbrev pub led : LogState → ℕ → LogState
led log e = record log { flushed_end = log.end; learned = e; epoch = e }

-- the broker stops
abbrev pub down : LogState → LogState
down log = record log { up = false }

-- a disk fault stops the broker: one in a write does
abbrev pub fails : Command → Bool → Bool
fails (Append recs) begun = true
fails (Raw bytes) begun = true
fails Flush begun = true
fails Roll begun = true
fails Learn begun = true
fails Trim begun = true
fails (Follow limit) begun = begun
fails command begun = false

-- a join fails where it writes: at the cut, which may have been made or not, or later, where the log restarts
abbrev pub join_failed : LogState → ℕ → Bool → LogState
join_failed log n true = down (record log { epoch = log.learned })
join_failed log n false = down (record log { flushed_end = min log.flushed_end n })

-- a command is answered by a number
abbrev pub ok_at : LogState → Command → ℕ → LogState
ok_at log Flush n = record log { flushed_end = n }
ok_at log command n = log

-- a command is done
abbrev pub ok : LogState → Command → LogState
ok log Stop = down log
ok log command = log

-- a command is answered
abbrev pub answered : LogState → Command → Bool → Answer → LogState
answered log command begun Ok = ok log command
answered log command begun (OkAt n) = ok_at log command n
answered log command begun (OkSpan base last e) = record log { epoch = e }
answered log command begun (IsUp n) = record log { up = true; flushed_end = n }
answered log command begun (Leads e) = led log e
answered log command begun (Follows e) = record log { learned = e }
answered log command begun (Cut n) = cut_at log n
answered log command begun (Copied n) = record log { epoch = log.learned }
answered log command begun (Rebuilt n) = record log { local_start = n; flushed_end = n; epoch = log.learned }
answered log command begun (Dropped base last) = record log { local_start = min (last + 1) 18446744073709551615 }
answered log command begun (DiskFaultAt n) = join_failed log n begun
answered log command begun DiskFault = if fails command begun then down log else log
answered log command begun answer = log

-- the log after an entry of a command that had begun before it, or hadn't
abbrev pub after : LogState → Command → Bool → Event → LogState
after log command begun (Begins (Some n)) = cut_at log n
after log command begun (Begins None) = log
after log command begun (Answers answer) = answered log command begun answer
